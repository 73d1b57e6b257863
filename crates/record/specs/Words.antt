-- Document 01: the acts `LL`, `VL`, `SC`, `step` and the kinds `one` and `many`; a word counts only if it is exactly one of them.
use Rattle.std.specs.Prelude.{ℕ, List, Option, Some, None, option_and_then, if◌then◌else◌}
use Rattle.std.specs.Str.{bytes_eq}
use Rattle.record.specs.declared.Act.{Act}
use Rattle.record.specs.declared.Act.TheVariants.{Load, Validate, Store, Step}
use Rattle.rules.specs.Text.{ascii, load_text, validate_text, store_text, step_text}
use Rattle.rules.specs.declared.Kind.{Kind}
use Rattle.rules.specs.declared.Kind.TheVariants.{One, Many}

abbrev pub act_word : Act → List ℕ
act_word Load = load_text
act_word Validate = validate_text
act_word Store = store_text
act_word Step = step_text

abbrev pub kind_word : Kind → List ℕ
kind_word One = ascii "one"
kind_word Many = ascii "many"

unfoldable pub act_of : List ℕ → Option Act
act_of s =
    if bytes_eq s (act_word Load) then Some Load
    else if bytes_eq s (act_word Validate) then Some Validate
    else if bytes_eq s (act_word Store) then Some Store
    else if bytes_eq s (act_word Step) then Some Step
    else None

unfoldable pub kind_of : List ℕ → Option Kind
kind_of s =
    if bytes_eq s (kind_word One) then Some One
    else if bytes_eq s (kind_word Many) then Some Many
    else None

-- with what a field says; nothing where it says nothing
abbrev pub with_field : {A B : Type 0} → Option A → (A → Option B) → Option B
with_field field rest = option_and_then rest field
