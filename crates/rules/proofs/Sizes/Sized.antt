-- Settings that pass the check are within document 01's sizes. Assumes nothing.
use mathlib.Core.Path.{◌≡◌}
use mathlib.Core.Bool.{Bool, true, ◌&&◌}
use Prim.Native.Nat.{ℕ, ◌≤◌}
use lib.Dec.{leb}
use native.Mathlib.Omega.{arith}
use borrow.Author.Tests.{leb-true, eqb-true}
use Rattle.word.specs.Word.{bits_fit}
use Rattle.rules.specs.Bounds.{Sized}
use Rattle.rules.specs.Sizes.{bits, between, segments_fit, settings_fit}
use Rattle.rules.specs.Types.{Kind, One, Many, Settings}
use Rattle.rules.proofs.Tests.{and_left, and_right}

least : (a b k : ℕ) → between a b k ≡ true → a ≤ k
least a b k e = leb-true a k (and_left (leb a k) (leb k b) e)

most : (a b k : ℕ) → between a b k ≡ true → k ≤ b
most a b k e = leb-true k b (and_right (leb a k) (leb k b) e)

segments : (k : Kind) (w : ℕ) → segments_fit k w ≡ true → (1 ≤ w) × (w ≤ 4)
segments One w e = let h : w ≡ 1 = eqb-true w 1 e in omega arith
segments Many w e = (least 1 4 w e, most 1 4 w e)

pub sized : (s : Settings) → settings_fit s ≡ true → Sized s
unfolding settings_fit
sized s e =
    let ns : Bool = between 1 16 s.n in
    let ts : Bool = between 1 16 s.t in
    let bs : Bool = bits_fit (bits s) in
    let first_three = and_left (ns && ts && bs) (segments_fit s.kind s.w) e in
    let first_two = and_left (ns && ts) bs first_three in
    let n = and_left ns ts first_two in
    let t = and_right ns ts first_two in
    let b = and_right (ns && ts) bs first_three in
    let w = segments s.kind s.w (and_right (ns && ts && bs) (segments_fit s.kind s.w) e) in
    record {
      n_least = least 1 16 s.n n;
      n_most = most 1 16 s.n n;
      t_most = most 1 16 s.t t;
      b_least = least 4 48 (bits s) b;
      b_most = most 4 48 (bits s) b;
      w_least = w.0;
      w_most = w.1;
    }
