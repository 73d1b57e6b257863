-- Where the words lie: each address is among the words used, and different places have different addresses.
-- Assumes nothing.
use mathlib.Core.Path.{◌≡◌, sym, ap, ◌∙◌, subst}
use Prim.Native.Nat.{ℕ, ◌+◌, ◌-◌, ◌*◌, ◌/◌, ◌%◌, ◌≤◌, ◌<◌}
use native.Mathlib.Nat.{add-zero, add_assoc, mul-le-mul, mul-le-mul_right, suc-mul}
use native.Mathlib.Omega.{arith}
use lib.Arith.{digits_div, digits_mod}
use lib.Pow.{pow_mono}
use Rattle.word.specs.Word.{value_limit}
use Rattle.rules.specs.Bounds.{Sized}
use Rattle.rules.specs.Sizes.{bits, header_at, segment_at, announce_at, used_by, words_used}
use Rattle.rules.specs.Types.{Kind, One, Many, Settings}

-- row x of d words lies whole within t rows
row_within : {x t : ℕ} (d : ℕ) → x < t → x * d + d ≤ t * d
row_within {x} {t} d h = subst (λ (n : ℕ). n ≤ t * d) (suc-mul x d) (mul-le-mul_right d h)

-- the words that each kind uses
module _ (s : Settings) where
  pub used_one : s.kind ≡ One → {a : ℕ} → a < s.t → a < words_used s
  used_one e {a} h = subst (λ (k : Kind). a < used_by k s) (sym e) h

  pub used_many : s.kind ≡ Many → {a : ℕ} → a < used_by Many s → a < words_used s
  used_many e {a} h = subst (λ (k : Kind). a < used_by k s) (sym e) h

module _ (s : Settings) (z : Sized s) where
  pub used_most : used_by Many s ≤ 144
  used_most =
      let h : 1 + s.w ≤ 5 = omega arith in
      omega (arith, mul-le-mul z.t_most h, mul-le-mul z.n_most z.w_most)

  pub header_in : {x : ℕ} → x < s.t → header_at s x < used_by Many s
  header_in {x} h = omega (arith, row_within (1 + s.w) h)

  pub segment_in : {x i : ℕ} → x < s.t → i < s.w → segment_at s x i < used_by Many s
  segment_in {x} {i} h hi = omega (arith, row_within (1 + s.w) h)

  pub announce_in : {p i : ℕ} → p < s.n → i < s.w → announce_at s p i < used_by Many s
  announce_in {p} {i} h hi = omega (arith, row_within s.w h)

  -- a process's number fits a word's value
  pub number_fits : {p : ℕ} → p < s.n → p < value_limit (bits s)
  number_fits {p} h =
      let k : 4 ≤ 64 - bits s = omega arith in
      omega (arith, pow_mono k)

module _ (s : Settings) where
  abbrev width : ℕ
  width = 1 + s.w

  header_digits : (x : ℕ) → header_at s x ≡ x * width + 0
  header_digits x = sym (add-zero (x * width))

  segment_digits : (x i : ℕ) → segment_at s x i ≡ x * width + (1 + i)
  segment_digits x i = add_assoc (x * width) 1 i

  -- two words of the variables' part at one address are of one variable and one place in it
  same_variable : (x y i j : ℕ) → i < width → j < width → x * width + i ≡ y * width + j → (x ≡ y) × (i ≡ j)
  same_variable x y i j hi hj e = (
    sym (digits_div x hi) ∙ ap (λ (n : ℕ). n / width) e ∙ digits_div y hj,
    sym (digits_mod x hi) ∙ ap (λ (n : ℕ). n % width) e ∙ digits_mod y hj,
  )

  pub header_header : (x y : ℕ) → header_at s x ≡ header_at s y → x ≡ y
  header_header x y e =
      (same_variable x y 0 0 (omega arith) (omega arith) (sym (header_digits x) ∙ e ∙ header_digits y)).0

  pub segment_segment : (x y i j : ℕ) → i < s.w → j < s.w → segment_at s x i ≡ segment_at s y j → (x ≡ y) × (i ≡ j)
  segment_segment x y i j hi hj e =
      let both = same_variable x y (1 + i) (1 + j) (omega arith) (omega arith) (sym (segment_digits x i) ∙ e ∙ segment_digits y j) in
      (both.0, omega (arith, both.1))

  pub header_segment : (x y i : ℕ) → i < s.w → header_at s x ≡ segment_at s y i → ⊥
  header_segment x y i hi e =
      let both = same_variable x y 0 (1 + i) (omega arith) (omega arith) (sym (header_digits x) ∙ e ∙ segment_digits y i) in
      omega (arith, both.1)

  pub header_announce : (x p i : ℕ) → x < s.t → header_at s x ≡ announce_at s p i → ⊥
  header_announce x p i h e = omega (arith, row_within width h, e)

  pub segment_announce : (x p i j : ℕ) → x < s.t → i < s.w → segment_at s x i ≡ announce_at s p j → ⊥
  segment_announce x p i j h hi e = omega (arith, row_within width h, e)

  pub announce_announce : (p q i j : ℕ) → i < s.w → j < s.w → announce_at s p i ≡ announce_at s q j → (p ≡ q) × (i ≡ j)
  announce_announce p q i j hi hj e =
      let d : p * s.w + i ≡ q * s.w + j = omega (arith, e) in (
        sym (digits_div p hi) ∙ ap (λ (n : ℕ). n / s.w) d ∙ digits_div q hj,
        sym (digits_mod p hi) ∙ ap (λ (n : ℕ). n % s.w) d ∙ digits_mod q hj,
      )
