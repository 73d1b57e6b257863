-- Records of document 01's printed listing and some near them, by computation from the definitions. Assumes nothing.
use mathlib.Core.Path.{◌≡◌, refl}
use mathlib.Core.List.{[], ◌∷◌}
use Rattle.std.specs.Prelude.{Ok, Err}
use Rattle.fields.specs.Form.{closed, body_length, body_of, no_stray, commas, in_form}
use Rattle.fields.specs.Fields.{up_to_comma, past_comma, part_of, field_of}
use Rattle.fields.specs.Blanks.{blanks, blank_from}
use Rattle.fields.specs.Number.{all_digits, zero_leads, value_from, number_case, number_of}
use Rattle.record.specs.Words.{act_of, kind_of}
use Rattle.record.specs.Setup.{settings_from, settings_of}
use Rattle.record.specs.Entries.{values_read, call_of, step_of, entry_in, schedule_of}
use Rattle.record.specs.declared.entries.Entry.TheVariants.{Begin, Step}
use Rattle.rules.specs.Text.{ascii}
use Rattle.rules.specs.declared.Call.TheVariants.{Load, Store}
use Rattle.rules.specs.declared.Kind.TheVariants.{One}
use Rattle.word.specs.declared.Refusal.TheVariants.{RecordNotInForm, FieldNotInForm}

first_read : settings_of (ascii "2,one,1,48,1,,\r\n") ≡ Ok (record { kind = One; n = 2; t = 1; w = 1; layout = record { bits = 48 } })
unfolding settings_of settings_from in_form body_of body_length closed no_stray commas field_of part_of up_to_comma past_comma number_of number_case all_digits zero_leads value_from kind_of blank_from blanks
first_read = refl

-- 10 for an empty record, although its fields are not in form either
empty_refused : settings_of (ascii "\r\n") ≡ Err RecordNotInForm
unfolding settings_of in_form body_of body_length closed no_stray commas
empty_refused = refl

-- the last is refused where two values are needed, since the second is blank
later_read : (schedule_of (ascii "0,LL,0,,,,\r\n") 1 ≡ Ok (Begin 0 (Load 0) (0 ∷ 0 ∷ 0 ∷ 0 ∷ [])))
    × (schedule_of (ascii "0,step,,,,,\r\n") 1 ≡ Ok (Step 0))
    × (schedule_of (ascii "0,SC,0,7,,,") 1 ≡ Ok (Begin 0 (Store 0) (7 ∷ 0 ∷ 0 ∷ 0 ∷ [])))
    × (schedule_of (ascii "0,SC,0,7,,,") 2 ≡ Err FieldNotInForm)
unfolding schedule_of entry_in in_form body_of body_length closed no_stray commas field_of part_of up_to_comma past_comma number_of number_case all_digits zero_leads value_from act_of step_of call_of values_read blank_from blanks
later_read = (refl, refl, refl, refl)
