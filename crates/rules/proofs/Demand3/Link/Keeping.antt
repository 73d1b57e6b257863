-- A process's keep-words and open sequences stand for what the machine over versions holds. Assumes nothing.
use mathlib.Core.Path.{◌≡◌, refl, ap, sym, ◌∙◌}
use mathlib.Core.Bool.{Bool, true, false, cond}
use mathlib.Core.List.{List}
use Prim.Native.Nat.{ℕ, ◌%◌, ◌<◌}
use native.Mathlib.Omega.{arith}
use lib.ListN.{length, get_or, set, length-set}
use lib.Seq.{get_or-set_same, get_or-set_other}
use borrow.Author.Tests.{eq-eqb, ne_eqb}
use Rattle.word.specs.Word.{tag_limit}
use Rattle.rules.specs.Figure2.{change}
use Rattle.rules.specs.Processes.{is_open, with_open, with_closed}
use Rattle.rules.specs.Sizes.{bits}
use Rattle.rules.specs.Types.{Kind, One, Many, Settings}
use Rattle.rules.proofs.Sequences.Closing.{closes}
use Rattle.rules.proofs.Sequences.Masks.{opens}
use Rattle.rules.proofs.Demand3.Change.{change_id, change_all}
use Rattle.rules.proofs.Demand3.Link.Tags.{Means}
use Rattle.rules.proofs.Demand3.Machine.{kept_word, Sequence, shut}

-- a keep-word: the whole word of kind `one`, the tag of kind `many`
abbrev pub Keeps : Kind → Settings → ℕ → Sequence → Type 0
Keeps One s w q = Means (bits s) w (kept_word q)
Keeps Many s w q = w ≡ q.kept % tag_limit (bits s)

pub record Held (k : Kind) (s : Settings) (sequences : ℕ → Sequence) (keep : List ℕ) (opened : ℕ) : Type 0 where
  pub sixteen : length keep ≡ 16
  pub kept : (y : ℕ) → y < s.t → Keeps k s (get_or keep y 0) (sequences y)
  pub open' : (y : ℕ) → is_open opened y ≡ (sequences y).opened

module _ (k : Kind) (s : Settings) (sequences : ℕ → Sequence) (keep : List ℕ) (opened : ℕ) (H : Held k s sequences keep opened) (x : ℕ) where
  pub held_same : Held k s (change sequences x (sequences x)) keep opened
  held_same = rw (change_id sequences x) H

  pub held_shut : Held k s (change sequences x (shut (sequences x))) keep (with_closed opened x)
  held_shut = record {
    sixteen = H.sixteen;
    kept = change_all (λ y q. y < s.t → Keeps k s (get_or keep y 0) q) sequences x (shut (sequences x)) (same k (H.kept x)) (λ y n. H.kept y);
    open' = change_all (λ y q. is_open (with_closed opened x) y ≡ q.opened) sequences x (shut (sequences x))
        (closes opened x x ∙ ap (λ (t : Bool). cond t false (is_open opened x)) (eq-eqb x x refl))
        (λ y n. closes opened x y ∙ ap (λ (t : Bool). cond t false (is_open opened y)) (ne_eqb y x n) ∙ H.open' y);
  }
    where
      same : (k : Kind) → (x < s.t → Keeps k s (get_or keep x 0) (sequences x)) → x < s.t → Keeps k s (get_or keep x 0) (shut (sequences x))
      same One h l = h l
      same Many h l = h l

  pub held_opened : x < 16 → (w : ℕ) (q : Sequence) → Keeps k s w q → q.opened ≡ true →
      Held k s (change sequences x q) (set keep x w) (with_open opened x)
  held_opened l w q h o = record {
    sixteen = length-set keep x w ∙ H.sixteen;
    kept = change_all (λ y u. y < s.t → Keeps k s (get_or (set keep x w) y 0) u) sequences x q
        (λ _. rw (get_or-set_same keep x w 0 (omega (arith, H.sixteen))) h)
        (λ y n i. rw (get_or-set_other keep x y w 0 n) (H.kept y i));
    open' = change_all (λ y u. is_open (with_open opened x) y ≡ u.opened) sequences x q
        (opens opened x x ∙ ap (λ (t : Bool). cond t true (is_open opened x)) (eq-eqb x x refl) ∙ sym o)
        (λ y n. opens opened x y ∙ ap (λ (t : Bool). cond t true (is_open opened y)) (ne_eqb y x n) ∙ H.open' y);
  }
