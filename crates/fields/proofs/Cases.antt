-- Records that are in form and records that are not, a record's fields and where they lie, and numbers, by computation from the definitions.
-- Assumes nothing.
use Prim.Native.Nat.{◌^◌}
use mathlib.Core.Path.{◌≡◌, refl}
use mathlib.Core.Bool.{true, false}
use mathlib.Core.List.{[]}
use Rattle.rules.specs.Text.{ascii}
use Rattle.fields.specs.Form.{closed, body_length, body_of, no_stray, commas, in_form}
use Rattle.fields.specs.Fields.{up_to_comma, past_comma, part_of, field_of}
use Rattle.fields.specs.Spans.{start_of, to_comma, span_of}
use Rattle.fields.specs.Number.{Spells, Blank, LeadingZero, NotADigit, TooGreat, all_digits, zero_leads, value_from, number_case}
use Rattle.fields.specs.Decimal.{decimal_in, decimal}

-- seven fields, with and without the closing pair
closed_in_form : in_form (ascii "2,one,1,48,1,,\r\n") ≡ true
unfolding in_form body_of body_length closed no_stray commas
closed_in_form = refl

open_in_form : in_form (ascii "2,one,1,48,1,,") ≡ true
unfolding in_form body_of body_length closed no_stray commas
open_in_form = refl

-- an empty record, six fields, and an LF that has no CR before it
empty_refused : in_form (ascii "\r\n") ≡ false
unfolding in_form body_of body_length closed no_stray commas
empty_refused = refl

six_refused : in_form (ascii "0,LL,0,,,\r\n") ≡ false
unfolding in_form body_of body_length closed no_stray commas
six_refused = refl

line_feed_refused : in_form (ascii "0,,,,,,\n") ≡ false
unfolding in_form body_of body_length closed no_stray commas
line_feed_refused = refl

-- fields are counted from 0, and the closing pair is in none
fields_told : (field_of (ascii "0,SC,1,7,,,\r\n") 1 ≡ ascii "SC")
    × (field_of (ascii "0,SC,1,7,,,\r\n") 3 ≡ ascii "7")
    × (field_of (ascii "0,SC,1,7,,,\r\n") 6 ≡ [])
unfolding field_of part_of up_to_comma past_comma body_of body_length closed
fields_told = (refl, refl, refl)

-- a field lies between its commas, a blank one too; past the last there is none, at the body's end
spans_told : (span_of (ascii "0,SC,1,7,,,\r\n") 0 ≡ record { start = 0; end = 1 })
    × (span_of (ascii "0,SC,1,7,,,\r\n") 1 ≡ record { start = 2; end = 4 })
    × (span_of (ascii "0,SC,1,7,,,\r\n") 5 ≡ record { start = 10; end = 10 })
    × (span_of (ascii "0,SC,1,7,,,\r\n") 6 ≡ record { start = 11; end = 11 })
    × (span_of (ascii "0,SC,1,7,,,\r\n") 7 ≡ record { start = 11; end = 11 })
unfolding span_of start_of to_comma body_of body_length closed
spans_told = (refl, refl, refl, refl, refl)

-- 0 is a number; nothing at all, 00 and 1a are none, and 2^64 is too great
numbers_told : (number_case (ascii "0") ≡ Spells 0)
    × (number_case (ascii "65535") ≡ Spells 65535)
    × (number_case [] ≡ Blank)
    × (number_case (ascii "00") ≡ LeadingZero)
    × (number_case (ascii "1a") ≡ NotADigit)
    × (number_case (ascii "18446744073709551616") ≡ TooGreat)
unfolding number_case zero_leads all_digits value_from
numbers_told = (refl, refl, refl, refl, refl, refl)

-- a number is written as it is read, 2^64 too
zero_written : decimal 0 ≡ ascii "0"
unfolding decimal_in
zero_written = refl

power_written : decimal (2 ^ 64) ≡ ascii "18446744073709551616"
unfolding decimal_in
power_written = refl
