-- Document 01: the first record is N, kind, T, b, W, two blanks. Refusal 10 comes before 11.
use Rattle.std.specs.Prelude.{ℕ, List, Option, Some, None, Result, Err, if◌then◌else◌}
use Rattle.std.specs.Option.{ok_or}
use Rattle.fields.specs.Form.{in_form}
use Rattle.fields.specs.Fields.{field_of}
use Rattle.fields.specs.Number.{number_of}
use Rattle.fields.specs.Blanks.{blank_from}
use Rattle.record.specs.Words.{kind_of, with_field}
use Rattle.rules.specs.declared.Settings.{Settings}
use Rattle.word.specs.declared.Refusal.{Refusal}
use Rattle.word.specs.declared.Refusal.TheVariants.{RecordNotInForm, FieldNotInForm}

-- the settings as given, if each field is in form and the last two are blank
unfoldable pub settings_from : List ℕ → Option Settings
settings_from s =
    with_field (number_of (field_of s 0)) (λ n.
    with_field (kind_of (field_of s 1)) (λ kind.
    with_field (number_of (field_of s 2)) (λ t.
    with_field (number_of (field_of s 3)) (λ b.
    with_field (number_of (field_of s 4)) (λ w.
    if blank_from s 5 then Some (record { kind = kind; n = n; t = t; w = w; layout = record { bits = b } }) else None)))))

unfoldable pub settings_of : List ℕ → Result Settings Refusal
settings_of s = if in_form s then ok_or (settings_from s) FieldNotInForm else Err RecordNotInForm
