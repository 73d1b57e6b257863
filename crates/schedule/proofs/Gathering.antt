-- Laws of gathering: one byte more, the closing byte, the end of the bytes. Assumes nothing.
use Prim.Native.Nat.{ℕ, ◌+◌, ◌-◌, ◌<◌, ◌≤◌}
use native.Mathlib.Omega.{arith}
use mathlib.Core.Path.{◌≡◌, refl}
use mathlib.Core.Bool.{Bool, true, false, ◌&&◌}
use mathlib.Core.List.{List, ◌∷◌}
use lib.Dec.{eqb}
use lib.ListN.{length, take, drop, get_or, drop_of_length-le}
use Rattle.std.proofs.lemmas.List.{take_rest, length-drop, get_or-drop}
use Rattle.std.proofs.Math.Seq.{drop-length}
use Rattle.std.proofs.Common.{add_assoc}
use Rattle.fields.proofs.Splits.{drop_step}
use Rattle.schedule.specs.Gathering.{Held, Gathered, put, closes, gather_of}

pub within : (s : List ℕ) (at i : ℕ) → i < length (take (length s - at) (drop at s)) → at + i + 1 ≤ length s
within s at i l = omega (arith, simp (take_rest, length-drop) at l)

-- of the bytes from `at` on byte `i`, put into the record, and the test whether it closes that
module _ (h : Held) (s : List ℕ) (at i : ℕ) (l : i < length (take (length s - at) (drop at s))) where
  abbrev byte : ℕ
  byte = get_or (take (length s - at) (drop at s)) i 0

  step : drop (at + i) s ≡ byte ∷ drop (at + i + 1) s
  step = let w : at + i < length s = omega (arith, within s at i l) in rw (take_rest, get_or-drop) (drop_step s (at + i) w)

  module _ (test : Bool) (says : test ≡ (eqb byte 10 && h.cr)) (after : Held) (same : after ≡ put h byte) where
    pub gather_closed : test ≡ true
        → ◌≡◌ {A = Gathered} (record { held = after; left = drop (at + i + 1) s; closed = true }) (gather_of h (drop (at + i) s))
    unfolding gather_of closes
    gather_closed e = rw (step, same, ← says, e) refl

    pub gather_more : test ≡ false → gather_of after (drop (at + (i + 1)) s) ≡ gather_of h (drop (at + i) s)
    unfolding gather_of closes
    gather_more e = rw (← add_assoc, step, same, ← says, e) refl

pub gather_end : (h : Held) (s : List ℕ) (at i : ℕ) → length (take (length s - at) (drop at s)) ≤ i
    → ◌≡◌ {A = Gathered} (record { held = h; left = drop (length s) s; closed = false }) (gather_of h (drop (at + i) s))
unfolding gather_of
gather_end h s at i l =
    let e : length s ≤ at + i = omega (arith, simp (take_rest, length-drop) at l) in
    rw (drop-length, drop_of_length-le s e) refl
