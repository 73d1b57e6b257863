-- Tags are versions modulo 2^b: in a window of 2^b versions the tests agree. Assumes nothing.
use mathlib.Core.Path.{◌≡◌, refl, ap, sym, ◌∙◌}
use mathlib.Core.Bool.{Bool, true, false}
use Prim.Native.Nat.{ℕ, suc, ◌+◌, ◌-◌, ◌%◌, ◌≤◌, ◌<◌}
use native.Mathlib.Nat.{mod-lt, mod-eq_of_lt, mod-eq-sub-mod, mod-add-mod, add-mod_right}
use native.Mathlib.Numerals.{add-one}
use native.Mathlib.Omega.{arith}
use borrow.Author.Tests.{eqb-true, eqb-false, eq-eqb, ne_eqb, leb-true, leb-false}
use lib.Dec.{eqb, leb}
use lib.Pow.{pow_pos}
use Rattle.word.specs.Word.{word, tag_of, value_of, next_tag, previous_tag, tag_limit, value_limit}
use Rattle.word.proofs.Laws.{tag_word, value_word, same_parts}
use Rattle.rules.proofs.Demand3.Machine.{Versioned, stamp, same}
use Rattle.rules.proofs.Demand3.Same.{same_true, same_false}

eqb_iff : (a b c d : ℕ) → (a ≡ b → c ≡ d) → (c ≡ d → a ≡ b) → eqb a b ≡ eqb c d
eqb_iff a b c d f g = by (eqb c d) refl
  where
    by : (t : Bool) → eqb c d ≡ t → eqb a b ≡ t
    by true e = eq-eqb a b (g (eqb-true c d e))
    by false e = ne_eqb a b (λ q. eqb-false c d e (f q))

-- no two numbers of a window of m are alike modulo m
mod_apart : (m a d : ℕ) → d < m → (a + d) % m ≡ a % m → d ≡ 0
mod_apart m a d l e = by (leb m (a % m + d)) refl
  where
    r : a % m < m
    r = mod-lt a (omega arith)

    k : (a % m + d) % m ≡ a % m
    k = mod-add-mod a m d ∙ e

    by : (t : Bool) → leb m (a % m + d) ≡ t → d ≡ 0
    by false q = omega (arith, r, k, leb-false m (a % m + d) q, mod-eq_of_lt {n = a % m + d} {m = m} (omega (arith, leb-false m (a % m + d) q)))
    by true q =
        let b : m ≤ a % m + d = leb-true m (a % m + d) q in
        omega (arith, r, k, mod-eq-sub-mod b, mod-eq_of_lt {n = (a % m + d) - m} {m = m} (omega (arith, r)))

same_mod : (m a c : ℕ) → a ≤ c → c < a + m → c % m ≡ a % m → c ≡ a
same_mod m a c l w e =
    let back : a + (c - a) ≡ c = omega arith in
    omega (arith, mod_apart m a (c - a) (omega arith) (rw back e))

pub tag_test : (m a c : ℕ) → a ≤ c → c < a + m → eqb (c % m) (a % m) ≡ eqb c a
tag_test m a c l w = eqb_iff (c % m) (a % m) c a (same_mod m a c l w) (λ e. ap (λ (n : ℕ). n % m) e)

pub next_tag_lem : (b a : ℕ) → next_tag b (a % tag_limit b) ≡ suc a % tag_limit b
unfolding next_tag
next_tag_lem b a = mod-add-mod a (tag_limit b) 1 ∙ ap (λ (n : ℕ). n % tag_limit b) (add-one a)

-- t is the version before a; t lies in [a - 1, a + 2^b - 2]
pub previous_test : (b a t : ℕ) → a ≤ suc t → suc t < a + tag_limit b →
    eqb (t % tag_limit b) (previous_tag b (a % tag_limit b)) ≡ eqb (suc t) a
unfolding previous_tag
previous_test b a t l w =
    let m : ℕ = tag_limit b in
    let pos : 0 < m = pow_pos b in
    rw (mod-add-mod a (tag_limit b) (tag_limit b - 1), ← (add-mod_right t (tag_limit b)))
    (tag_test m (a + (m - 1)) (t + m) (omega arith) (omega arith) ∙ eqb_iff (t + m) (a + (m - 1)) (suc t) a (λ e. omega arith) (λ e. omega arith))

-- a word of the board stands for a version and a value
pub record Means (b w : ℕ) (a : Versioned) : Type 0 where
  pub tag : tag_of b w ≡ a.version % tag_limit b
  pub value : value_of b w ≡ a.value

pub means_word : (b t v version : ℕ) → v < value_limit b → t ≡ version % tag_limit b → Means b (word b t v) (stamp version v)
means_word b t v version h e = record { tag = tag_word b t h ∙ e; value = value_word b t h }

-- words are alike exactly if what they stand for is
pub word_test : (b : ℕ) {w u : ℕ} {a c : Versioned} → Means b w a → Means b u c → c.version ≤ a.version → a.version < c.version + tag_limit b →
    eqb w u ≡ same a c
word_test b {w} {u} {a} {c} M K l r = by (same a c) refl
  where
    by : (t : Bool) → same a c ≡ t → eqb w u ≡ t
    by true e =
        let k = same_true a c e in
        eq-eqb w u (same_parts b (M.tag ∙ ap (λ (n : ℕ). n % tag_limit b) k.0 ∙ sym K.tag) (M.value ∙ k.1 ∙ sym K.value))
    by false e = ne_eqb w u (λ q. same_false a c e
        (same_mod (tag_limit b) c.version a.version l r (sym M.tag ∙ ap (tag_of b) q ∙ K.tag))
        (sym M.value ∙ ap (value_of b) q ∙ K.value))
