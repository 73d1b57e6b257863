-- The open count is the number of variables on which a sequence is open: a mask in which one more variable's is open
-- counts one more, and so opening and closing count up and down by one. It is the count of ones of the mask. Assumes nothing.
use mathlib.Core.Path.{◌≡◌, refl, sym, ap, ◌∙◌}
use mathlib.Core.Bool.{true, false, cond}
use mathlib.Core.Logic.{⊎_elim}
use Prim.Native.Nat.{ℕ, zero, suc, ◌+◌, ◌/◌, ◌%◌, ◌^◌, ◌<◌}
use native.Mathlib.Nat.{not-suc-le-zero, le_of_suc-le-suc, eq-or-lt_of_le, zero-div, add_comm, mod-eq_of_lt, mod-lt, mod-one}
use native.Mathlib.Numerals.{one-add}
use native.Mathlib.Omega.{arith}
use lib.Count.{ones, ones_in, ones_cat}
use lib.Dec.{eqb}
use lib.Pow.{pow_pos, mod-pow-add}
use Rattle.rules.specs.Processes.{is_open, open_count, opening, closing}
use Rattle.rules.specs.Types.{Process}
use Rattle.rules.proofs.Sequences.Closing.{opening_opens, opening_no_other, closing_closes, closing_no_other, open_open, close_shut}

-- masks in which the same sequences are open count the same
count_same : (m n t : ℕ) → ((y : ℕ) → y < t → is_open m y ≡ is_open n y) → open_count m t ≡ open_count n t
unfolding open_count
count_same m n zero same = refl
count_same m n (suc t) same =
    rw (count_same m n t (λ y h. same y (omega arith)), same t (omega arith))

-- n has the sequence on x open, m has not, and they agree on every other: n counts one more
count_more : (m n x t : ℕ) → x < t → is_open m x ≡ false → is_open n x ≡ true
    → ((y : ℕ) → (y ≡ x → ⊥) → is_open n y ≡ is_open m y) → open_count n t ≡ open_count m t + 1
unfolding open_count
count_more m n x zero h shut wide other = absurd (not-suc-le-zero h)
count_more m n x (suc t) h shut wide other =
    let below : x < t → open_count n t ≡ open_count m t + 1 = λ l. count_more m n x t l shut wide other in
    ⊎_elim at_top (λ (l : x < t). under l (below l)) (eq-or-lt_of_le (le_of_suc-le-suc h))
  where
    at_top : x ≡ t → open_count n t + cond (is_open n t) 1 0 ≡ open_count m t + cond (is_open m t) 1 0 + 1
    at_top q =
        let rest : open_count n t ≡ open_count m t = count_same n m t (λ y l. other y (omega arith)) in
        let new : is_open n t ≡ true = ap (is_open n) (sym q) ∙ wide in
        let old : is_open m t ≡ false = ap (is_open m) (sym q) ∙ shut in
        rw (new, old) (omega arith)

    under : x < t → open_count n t ≡ open_count m t + 1
        → open_count n t + cond (is_open n t) 1 0 ≡ open_count m t + cond (is_open m t) 1 0 + 1
    under l e = rw (other t (omega arith), e) (omega arith)

-- a fresh process has none open, and counts 0
pub none_open : (x : ℕ) → is_open 0 x ≡ false
none_open x = ap (λ (k : ℕ). eqb (k % 2) 1) (zero-div (2 ^ x))

pub count_none : (t : ℕ) → open_count 0 t ≡ 0
unfolding open_count
count_none zero = refl
count_none (suc t) = rw (count_none t, none_open t)

module _ (x t : ℕ) (h : x < t) (p : Process) where
  pub opening_counts : is_open p.opened x ≡ false → open_count (opening x p).opened t ≡ open_count p.opened t + 1
  opening_counts shut = count_more p.opened _ x t h shut (opening_opens x p) (opening_no_other x p)

  pub closing_counts : is_open p.opened x ≡ true → open_count p.opened t ≡ open_count (closing x p).opened t + 1
  closing_counts wide =
      count_more (closing x p).opened p.opened x t h (closing_closes x p) wide (λ y ne. sym (closing_no_other x p y ne))

-- reopening, or closing what is shut, leaves the count
pub reopening_counts : (x t : ℕ) (p : Process) → is_open p.opened x ≡ true
    → open_count (opening x p).opened t ≡ open_count p.opened t
reopening_counts x t p wide = ap (λ (m : ℕ). open_count m t) (open_open p.opened x wide)

pub shut_counts : (x t : ℕ) (p : Process) → is_open p.opened x ≡ false
    → open_count (closing x p).opened t ≡ open_count p.opened t
shut_counts x t p shut = ap (λ (m : ℕ). open_count m t) (close_shut p.opened x shut)

-- a bit counts one where it is set
digit : (d : ℕ) → d < 2 → ones d ≡ cond (eqb d 1) 1 0
unfolding ones ones_in
digit zero h = refl
digit (suc zero) h = refl
digit (suc (suc d)) h = omega arith

low : (m k : ℕ) → ones (m % 2 ^ k) ≡ open_count m k
unfolding open_count ones ones_in
low m zero = ap ones (mod-one m)
low m (suc k) =
    ap (λ (j : ℕ). ones (m % 2 ^ j)) (sym (one-add k))
    ∙ ap ones (mod-pow-add m 1 k)
    ∙ ones_cat k (m / 2 ^ k % 2) (m % 2 ^ k) (mod-lt m (pow_pos k))
    ∙ add_comm (ones (m / 2 ^ k % 2)) (ones (m % 2 ^ k))
    ∙ rw (low m k, digit (m / 2 ^ k % 2) (mod-lt (m / 2 ^ k) (omega arith)))

-- the ones of the mask are the open count
pub counted : (m k : ℕ) → m < 2 ^ k → ones m ≡ open_count m k
counted m k h = ap ones (sym (mod-eq_of_lt h)) ∙ low m k
