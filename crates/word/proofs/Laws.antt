-- Facts about words, each proved once over b. Assumes nothing.
use Rattle.std.proofs.Common.{◌≡◌, ℕ, ◌+◌, ◌-◌, ◌*◌, ◌%◌, ◌^◌, ◌<◌, ◌≤◌, Bool, true, false, ◌&&◌, leb, sym, refl, ap, ◌∙◌, subst, mod-lt, mod-eq_of_lt, zero-add, sub-add_cancel, arith, pow_pos, pow-add, shr_lt, leb-true}
use native.Mathlib.Nat.{mod-add-mod, add-mod_right, mod_self}
use lib.Arith.{digits_lt}
use lib.Pow.{high, low, split, mod-mod-pow}
use Rattle.word.specs.Word.{bits_fit, word, tag_of, value_of, next_tag, previous_tag, tag_limit, value_limit}

-- tag bits that stand are from 4 to 48
pub in_range : (b : ℕ) → bits_fit b ≡ true → (4 ≤ b) × (b ≤ 48)
in_range b = go (leb 4 b) (leb b 48) refl refl
  where
    go : (least most : Bool) → leb 4 b ≡ least → leb b 48 ≡ most → (least && most) ≡ true → (4 ≤ b) × (b ≤ 48)
    go true true e f stands = (leb-true 4 b e, leb-true b 48 f)
    go true false e f stands = let z : ◌≡◌ {A = ℕ} 0 1 = cc in absurd (omega arith)
    go false most e f stands = let z : ◌≡◌ {A = ℕ} 0 1 = cc in absurd (omega arith)

-- packing, then unpacking, gives tag and value back
pub tag_word : (b t : ℕ) {v : ℕ} → v < value_limit b → tag_of b (word b t v) ≡ t
unfolding word tag_of
tag_word b t hv = high t (64 - b) hv

pub value_word : (b t : ℕ) {v : ℕ} → v < value_limit b → value_of b (word b t v) ≡ v
unfolding word value_of
value_word b t hv = low t (64 - b) hv

-- unpacking, then packing, gives the word back
pub word_parts : (b w : ℕ) → word b (tag_of b w) (value_of b w) ≡ w
unfolding word tag_of value_of
word_parts b w = split w (64 - b)

-- a word equals another exactly if tag and value do
pub same_parts : (b : ℕ) {w v : ℕ} → tag_of b w ≡ tag_of b v → value_of b w ≡ value_of b v → w ≡ v
same_parts b {w} {v} tags values =
    sym (word_parts b w) ∙ ap (λ (k : ℕ). word b k (value_of b w)) tags ∙ ap (word b (tag_of b v)) values ∙ word_parts b v

pub value_lt : (b w : ℕ) → value_of b w < value_limit b
unfolding value_of
value_lt b w = mod-lt w (pow_pos (64 - b))

module _ (b : ℕ) (most : b ≤ 48) where
  whole : b + (64 - b) ≡ 64
  whole = omega arith

  pub word_lt : {t v : ℕ} → t < tag_limit b → v < value_limit b → word b t v < 2 ^ 64
  unfolding word
  word_lt {t} {v} ht hv =
      subst (λ (n : ℕ). t * value_limit b + v < n) (sym (pow-add 2 b (64 - b)) ∙ ap (λ (k : ℕ). 2 ^ k) whole) (digits_lt ht hv)

  pub tag_lt : {w : ℕ} → w < 2 ^ 64 → tag_of b w < tag_limit b
  unfolding tag_of
  tag_lt {w} hw = shr_lt b (64 - b) (subst (λ (k : ℕ). w < 2 ^ k) (sym whole) hw)

  -- what the code computes, a wrapping sum and a remainder, is the next tag
  pub next_of : (t : ℕ) → (t + 1) % 2 ^ 64 % tag_limit b ≡ next_tag b t
  unfolding next_tag
  next_of t = ap (λ (k : ℕ). (t + 1) % 2 ^ k % 2 ^ b) (sym (sub-add_cancel {n = 64} (omega arith))) ∙ mod-mod-pow (t + 1) (64 - b) b

  -- and r, the wrapping difference that gives t when one is added, leaves the previous tag
  pub previous_of : (r t : ℕ) → (r + 1) % 2 ^ 64 ≡ t → r % tag_limit b ≡ previous_tag b t
  unfolding previous_tag
  previous_of r t e =
      sym (add-mod_right r (2 ^ b))
      ∙ ap (λ (k : ℕ). k % 2 ^ b) (omega (arith, pow_pos b))
      ∙ sym (mod-add-mod (r + 1) (2 ^ b) (2 ^ b - 1))
      ∙ ap (λ (k : ℕ). (k + (2 ^ b - 1)) % 2 ^ b) same
      ∙ mod-add-mod t (2 ^ b) (2 ^ b - 1)
    where
      same : (r + 1) % 2 ^ b ≡ t % 2 ^ b
      same =
          sym (mod-mod-pow (r + 1) (64 - b) b)
          ∙ ap (λ (k : ℕ). (r + 1) % 2 ^ k % 2 ^ b) (sub-add_cancel {n = 64} (omega arith))
          ∙ ap (λ (k : ℕ). k % 2 ^ b) e

pub next_lt : (b t : ℕ) → next_tag b t < tag_limit b
unfolding next_tag
next_lt b t = mod-lt (t + 1) (pow_pos b)

-- next and previous undo each other
pub previous_next : (b : ℕ) {t : ℕ} → t < tag_limit b → previous_tag b (next_tag b t) ≡ t
unfolding next_tag previous_tag
previous_next b {t} h =
    mod-add-mod (t + 1) (2 ^ b) (2 ^ b - 1)
    ∙ ap (λ (k : ℕ). k % 2 ^ b) (omega (arith, pow_pos b))
    ∙ add-mod_right t (2 ^ b)
    ∙ mod-eq_of_lt h

pub next_previous : (b : ℕ) {t : ℕ} → t < tag_limit b → next_tag b (previous_tag b t) ≡ t
unfolding next_tag previous_tag
next_previous b {t} h =
    mod-add-mod (t + (2 ^ b - 1)) (2 ^ b) 1
    ∙ ap (λ (k : ℕ). k % 2 ^ b) (omega (arith, pow_pos b))
    ∙ add-mod_right t (2 ^ b)
    ∙ mod-eq_of_lt h

-- the tag after the greatest is 0, and the tag before 0 is the greatest
pub after_greatest : (b : ℕ) → next_tag b (tag_limit b - 1) ≡ 0
unfolding next_tag
after_greatest b = ap (λ (k : ℕ). k % 2 ^ b) (sub-add_cancel {n = 2 ^ b} (pow_pos b)) ∙ mod_self (2 ^ b)

pub before_zero : (b : ℕ) → previous_tag b 0 ≡ tag_limit b - 1
unfolding previous_tag
before_zero b = ap (λ (k : ℕ). k % 2 ^ b) (zero-add (2 ^ b - 1)) ∙ mod-eq_of_lt (omega (arith, pow_pos b))
