-- Document 01: later records are process, act, variable, four values. A step has only the first two; LL and VL the first three;
-- SC the first W values too. Refusal 10 comes before 11.
use Rattle.std.specs.Prelude.{ℕ, zero, suc, ◌+◌, min, List, set, Option, Some, None, Result, Err, if◌then◌else◌}
use Rattle.std.specs.Option.{ok_or}
use Rattle.fields.specs.Form.{in_form}
use Rattle.fields.specs.Fields.{field_of}
use Rattle.fields.specs.Number.{number_of}
use Rattle.fields.specs.Blanks.{blank_from}
use Rattle.record.specs.Words.{act_of, with_field}
use Rattle.record.specs.declared.Act.{Act}
use Rattle.record.specs.declared.Act.TheVariants.{Load, Validate, Store, Step}
use Rattle.record.specs.declared.entries.Entry.{Entry}
use Rattle.record.specs.declared.entries.Entry.TheVariants.{Begin, Step as TakeStep}
use Rattle.rules.specs.Processes.{no_values}
use Rattle.rules.specs.declared.Call.{Call}
use Rattle.rules.specs.declared.Call.TheVariants.{Load as LoadOf, Validate as ValidateOf, Store as StoreTo}
use Rattle.word.specs.declared.Refusal.{Refusal}
use Rattle.word.specs.declared.Refusal.TheVariants.{RecordNotInForm, FieldNotInForm}

-- the first `count` values, each in its place, if each is in form; those that are not given are 0
unfoldable pub values_read : List ℕ → ℕ → Option (List ℕ)
values_read s zero = Some no_values
values_read s (suc i) = with_field (values_read s i) (λ values. with_field (number_of (field_of s (3 + i))) (λ v. Some (set values i v)))

-- a step: all fields but the first two are blank
unfoldable pub step_of : List ℕ → ℕ → Option Entry
step_of s process = if blank_from s 2 then Some (TakeStep process) else None

-- a call: `count` values after its variable, then blanks
unfoldable pub call_of : List ℕ → ℕ → Call → ℕ → Option Entry
call_of s process call count =
    with_field (values_read s count) (λ values. if blank_from s (3 + count) then Some (Begin process call values) else None)

-- W is at most 4 on every board; a greater number is taken for 4
abbrev pub rest_of : List ℕ → Act → ℕ → ℕ → Option Entry
rest_of s Load process w = with_field (number_of (field_of s 2)) (λ x. call_of s process (LoadOf x) 0)
rest_of s Validate process w = with_field (number_of (field_of s 2)) (λ x. call_of s process (ValidateOf x) 0)
rest_of s Store process w = with_field (number_of (field_of s 2)) (λ x. call_of s process (StoreTo x) (min w 4))
rest_of s Step process w = step_of s process

-- what the fields say, if each is in form
unfoldable pub entry_in : List ℕ → ℕ → Option Entry
entry_in s w =
    with_field (number_of (field_of s 0)) (λ process.
    with_field (act_of (field_of s 1)) (λ act.
    rest_of s act process w))

unfoldable pub schedule_of : List ℕ → ℕ → Result Entry Refusal
schedule_of s w = if in_form s then ok_or (entry_in s w) FieldNotInForm else Err RecordNotInForm
