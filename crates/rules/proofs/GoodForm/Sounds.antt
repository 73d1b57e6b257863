-- What a step does to its process keeps it in form and shape: it moves on, gathers, opens and keeps, or closes.
-- Assumes nothing.
use mathlib.Core.Path.{◌≡◌, refl, ◌∙◌}
use mathlib.Core.Bool.{true}
use mathlib.Core.List.{List}
use Prim.Native.Nat.{ℕ, ◌-◌, ◌^◌, ◌<◌}
use native.Mathlib.Omega.{arith}
use borrow.Author.Tests.{ltb-true, lt-ltb}
use lib.Dec.{ltb}
use lib.ListN.{length, get_or, set, length-set}
use lib.Pow.{pow_pos}
use Rattle.word.specs.Word.{tag_limit, value_limit}
use Rattle.rules.specs.Figure6.{saving}
use Rattle.rules.specs.GoodForm.{all, value_fits, place_fits, values_fit, kept_fit, kept_fit_by, open_fits}
use Rattle.rules.specs.Processes.{at, opening, closing, keeping, gathering, gathering_anew, no_values, with_open}
use Rattle.rules.specs.Sizes.{bits}
use Rattle.rules.proofs.Branches.{after_set, both_arms}
use Rattle.rules.proofs.Sequences.Closing.{close_in}
use Rattle.rules.proofs.Sequences.Masks.{open_in}
use Rattle.rules.specs.InForm.{held_header, Sound}
use Rattle.rules.specs.Types.{Copy, Kind, One, Many, Place, Idle, Process, Settings}
use Rattle.rules.proofs.Tests.{all_at, all_of}

-- a list of values stays in form where one that fits is put in
values_kept : (s : Settings) (l : List ℕ) (i v : ℕ) → values_fit s l ≡ true → value_fits s v ≡ true → values_fit s (set l i v) ≡ true
unfolding values_fit
values_kept s l i v good fits =
    all_of _ 4 (λ j h. after_set (λ (k : ℕ). value_fits s k ≡ true) l i v 0 j (λ q. fits)
    (all_at (λ k. value_fits s (get_or l k 0)) j 4 good h))

pub zero_fits : (s : Settings) → value_fits s 0 ≡ true
unfolding value_fits
zero_fits s = lt-ltb 0 (value_limit (bits s)) (pow_pos (64 - bits s))

pub no_values_fit : (s : Settings) → values_fit s no_values ≡ true
unfolding values_fit all
no_values_fit s = rw (zero_fits s)

-- kept tags stay in form where a tag below 2^b is kept; a keep-word of kind `one` may be any word
kept_kept : (s : Settings) (l : List ℕ) (x v : ℕ) → kept_fit s l ≡ true → (s.kind ≡ Many → v < tag_limit (bits s))
    → kept_fit s (set l x v) ≡ true
unfolding kept_fit
kept_kept s l x v good fits = by s.kind refl good
  where
    by : (k : Kind) → s.kind ≡ k → kept_fit_by k s l ≡ true → kept_fit_by k s (set l x v) ≡ true
    by One e g = refl
    by Many e g =
        all_of _ s.t (λ y h. after_set (λ (k : ℕ). ltb k (tag_limit (bits s)) ≡ true) l x v 0 y
        (λ q. lt-ltb _ _ (fits e)) (all_at (λ k. ltb (get_or l k 0) (tag_limit (bits s))) y s.t g h))

module _ (s : Settings) (p : Process) (sound : Sound s p) where
  mask : p.opened < 2 ^ s.t
  unfolding open_fits
  mask = ltb-true _ _ sound.form.sequences

  -- the call goes on at a place that fits
  pub moves : (l : Place) → place_fits s p.opened l ≡ true → held_header l < 2 ^ 64 → Sound s (at l p)
  moves l fits small =
      record {
        form = record {
          place = fits;
          sequences = sound.form.sequences;
          kept = sound.form.kept;
          values = sound.form.values;
          gathered = sound.form.gathered;
        };
        shape = record { keep = sound.shape.keep; gathered = sound.shape.gathered; header = small };
      }

  pub idles : Sound s (at Idle p)
  idles = moves Idle refl (omega arith)

  -- the call ends and closes its sequence
  pub shuts : (x : ℕ) → Sound s (at Idle (closing x p))
  unfolding open_fits
  shuts x =
      record {
        form = record {
          place = refl;
          sequences = lt-ltb _ _ (close_in p.opened x s.t mask);
          kept = sound.form.kept;
          values = sound.form.values;
          gathered = sound.form.gathered;
        };
        shape = record { keep = sound.shape.keep; gathered = sound.shape.gathered; header = omega arith };
      }

  -- a load's first step opens its sequence and keeps a word for it
  pub opens : (x kept : ℕ) → x < s.t → (s.kind ≡ Many → kept < tag_limit (bits s))
      → (l : Place) → place_fits s (with_open p.opened x) l ≡ true → held_header l < 2 ^ 64
      → Sound s (at l (opening x (keeping x kept p)))
  unfolding open_fits
  opens x kept hx fits l ok small =
      record {
        form = record {
          place = ok;
          sequences = lt-ltb _ _ (open_in p.opened x s.t hx mask);
          kept = kept_kept s p.keep x kept sound.form.kept fits;
          values = sound.form.values;
          gathered = sound.form.gathered;
        };
        shape = record { keep = length-set p.keep x kept ∙ sound.shape.keep; gathered = sound.shape.gathered; header = small };
      }

  -- other values are gathered, four that fit
  gathers_these : (l : List ℕ) → values_fit s l ≡ true → length l ≡ 4
      → Sound s (record { place = p.place; opened = p.opened; keep = p.keep; values = p.values; gathered = l })
  gathers_these l fit four =
      record {
        form = record {
          place = sound.form.place;
          sequences = sound.form.sequences;
          kept = sound.form.kept;
          values = sound.form.values;
          gathered = fit;
        };
        shape = record { keep = sound.shape.keep; gathered = four; header = sound.shape.header };
      }

  pub gathers_anew : Sound s (gathering_anew p)
  gathers_anew = gathers_these no_values (no_values_fit s) refl

  gathers : (i value : ℕ) → value_fits s value ≡ true → Sound s (gathering i value p)
  gathers i value fits =
      gathers_these (set p.gathered i value) (values_kept s p.gathered i value sound.form.gathered fits)
      (length-set p.gathered i value ∙ sound.shape.gathered)

  pub saves : (c : Copy) (value : ℕ) → value_fits s value ≡ true → Sound s (saving c value p)
  saves c value fits = both_arms (Sound s) c.gathers _ _ (gathers c.segment value fits) sound
