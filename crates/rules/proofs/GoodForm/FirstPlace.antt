-- An accepted begin leaves its process in form: the first place of the call fits, and so do the values. Assumes nothing.
use mathlib.Core.Path.{◌≡◌, refl, ap, ◌∙◌}
use mathlib.Core.Bool.{true, false, ◌&&◌, ◌||◌}
use mathlib.Core.List.{List}
use Prim.Native.Nat.{ℕ, ◌<◌}
use native.Mathlib.Omega.{arith}
use borrow.Author.Tests.{lt-ltb, eqb-true, not-false}
use lib.Dec.{ltb, eqb}
use lib.ListN.{get_or}
use Rattle.rules.specs.GoodForm.{value_fits, one_place, many_place, one_place_open, many_place_open, place_fits, values_fit}
use Rattle.rules.specs.Refusals.{variable_of, lacks_sequence, all_blank, storable, values_right}
use Rattle.rules.specs.Sizes.{is_one, is_many}
use Rattle.rules.specs.Steps.{first_place, beginning}
use Rattle.rules.proofs.Refusals.Checked.{Beginning}
use Rattle.rules.specs.InForm.{held_header, Sound}
use Rattle.rules.specs.Types.{Call, Load, Validate, Store, Kind, One, Many, Process, Settings}
use Rattle.rules.proofs.GoodForm.Sounds.{zero_fits}
use Rattle.rules.proofs.Tests.{and_left, and_both, all_at, all_of}

module _ (s : Settings) where
  blank_fits : (values : List ℕ) → all_blank values ≡ true → values_fit s values ≡ true
  unfolding all_blank values_fit
  blank_fits values e =
      all_of _ 4 (λ i h. ap (value_fits s) (eqb-true _ 0 (all_at (λ j. eqb (get_or values j 0) 0) i 4 e h)) ∙ zero_fits s)

  storable_fits : (values : List ℕ) → storable s values ≡ true → values_fit s values ≡ true
  unfolding storable values_fit
  storable_fits values e =
      all_of _ 4 (λ i h. and_left (value_fits s (get_or values i 0)) _
      (all_at (λ j. value_fits s (get_or values j 0) && (ltb j s.w || eqb (get_or values j 0) 0)) i 4 e h))

  right_fits : (call : Call) (values : List ℕ) → values_right s call values ≡ true → values_fit s values ≡ true
  right_fits (Load x) values e = blank_fits values e
  right_fits (Validate x) values e = blank_fits values e
  right_fits (Store x) values e = storable_fits values e

  module _ (opened : ℕ) where
    first_fits : (k : Kind) (call : Call) → s.kind ≡ k → variable_of call < s.t → lacks_sequence call opened ≡ false
        → place_fits s opened (first_place k call) ≡ true
    unfolding one_place many_place one_place_open many_place_open
    first_fits One (Load x) e h l = and_both _ _ (ap is_one e) (lt-ltb _ _ h)
    first_fits One (Validate x) e h l = and_both _ _ (and_both _ _ (ap is_one e) (lt-ltb _ _ h)) (not-false _ l)
    first_fits One (Store x) e h l = and_both _ _ (and_both _ _ (ap is_one e) (lt-ltb _ _ h)) (not-false _ l)
    first_fits Many (Load x) e h l = and_both _ _ (ap is_many e) (lt-ltb _ _ h)
    first_fits Many (Validate x) e h l = and_both _ _ (and_both _ _ (ap is_many e) (lt-ltb _ _ h)) (not-false _ l)
    first_fits Many (Store x) e h l = and_both _ _ (and_both _ _ (ap is_many e) (lt-ltb _ _ h)) (not-false _ l)

-- the first place of a call holds no header
first_header : (k : Kind) (call : Call) → held_header (first_place k call) ≡ 0
first_header One (Load x) = refl
first_header One (Validate x) = refl
first_header One (Store x) = refl
first_header Many (Load x) = refl
first_header Many (Validate x) = refl
first_header Many (Store x) = refl

pub begins : (s : Settings) (p : Process) (call : Call) (values : List ℕ) → Sound s p → Beginning s p call values
    → Sound s (beginning s call values p)
begins s p call values sound ok =
    record {
      form = record {
        place = first_fits s p.opened s.kind call refl ok.variable ok.sequence;
        sequences = sound.form.sequences;
        kept = sound.form.kept;
        values = right_fits s call values ok.given;
        gathered = sound.form.gathered;
      };
      shape = record {
        keep = sound.shape.keep;
        gathered = sound.shape.gathered;
        header = omega (arith, first_header s.kind call);
      };
    }
