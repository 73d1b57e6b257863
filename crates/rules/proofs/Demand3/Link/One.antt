-- Kind `one`: at each place a step of the board is the machine's, as long as the sequence is short. Assumes nothing.
use mathlib.Core.Path.{◌≡◌, refl, ap, sym, ◌∙◌}
use mathlib.Core.Bool.{true, false}
use mathlib.Core.List.{List, [], ◌∷◌}
use Prim.Native.Nat.{ℕ, suc, ◌+◌, ◌%◌, ◌≤◌, ◌<◌}
use native.Mathlib.Omega.{arith}
use lib.Dec.{eqb}
use lib.ListN.{length, get_or}
use Rattle.word.specs.Word.{tag_of, value_of, next_tag, tag_limit, value_limit}
use Rattle.rules.specs.Bounds.{Sized}
use Rattle.rules.specs.Figure4.{Step, new_word}
use Rattle.rules.specs.Processes.{is_idle, kept_of}
use Rattle.rules.specs.Sizes.{bits, word_of}
use Rattle.rules.specs.Steps.{step_from}
use Rattle.rules.specs.Types.{One, Place, StoreSwapsWord, Process, Settings}
use Rattle.rules.proofs.Tests.{never}
use Rattle.rules.proofs.Branches.{branch}
use Rattle.rules.proofs.Demand3.Change.{each}
use Rattle.rules.proofs.Demand3.Invariant.Begin.{past}
use Rattle.rules.proofs.Demand3.Invariant.One.{Opened₁, Pair₁}
use Rattle.rules.proofs.Demand3.Link.Keeping.{Held, held_same, held_shut, held_opened}
use Rattle.rules.proofs.Demand3.Link.Stands.{at_place, StandsOne, one_idle, one_load, one_validate, one_store, says_values, says_yes, says_no, says_sure, Linked}
use Rattle.rules.proofs.Demand3.Link.Tags.{next_tag_lem, Means, means_word, word_test}
use Rattle.rules.proofs.Demand3.Machine.{kept_word, stamp, same, Place as Stand, Sequence, Var, on_word_swap, rule_one}
use Rattle.rules.proofs.Demand3.Same.{same_true}

module _ (s : Settings) (z : Sized s) (p x : ℕ) (v : Var) (rows : ℕ → ℕ → ℕ) (sequences : ℕ → Sequence) (q : Process) (words : List ℕ)
    (xt : x < s.t) (H : Held One s sequences q.keep q.opened) (M : Means (bits s) (word_of x words) v.header)
    (small : get_or q.values 0 0 < value_limit (bits s)) where
  -- the board's test is the machine's
  test : Opened₁ p v (sequences x) → length (v.seen.since p) + 2 ≤ tag_limit (bits s) →
      eqb (word_of x words) (kept_of x q) ≡ same v.header (kept_word (sequences x))
  test O B = word_test (bits s) M (H.kept x xt) O.old (omega (arith, O.count))

  -- the new word has the next tag
  new_word_lem : same v.header (kept_word (sequences x)) ≡ true →
      Means (bits s) (new_word s q x) (stamp (suc v.header.version) (get_or q.values 0 0))
  new_word_lem e =
      let b : ℕ = bits s in
      let k = same_true v.header (kept_word (sequences x)) e in
      means_word b (next_tag b (tag_of b (kept_of x q))) (get_or q.values 0 0) (suc v.header.version) small
      (ap (next_tag b) (H.kept x xt).tag ∙ next_tag_lem b (sequences x).kept ∙ ap (λ (n : ℕ). suc n % tag_limit b) (sym k.0))

  pub link_one : (place : Place) (stand : Stand) → StandsOne x q.values place stand → is_idle place ≡ false →
      Pair₁ p v (rows p) (sequences x) stand → (past stand ≡ true → length (v.seen.since p) + 2 ≤ tag_limit (bits s)) →
      Linked One s p x place q words sequences (step_from place s q p words) (rule_one 1 p v rows (sequences x) stand)
  unfolding rule_one
  link_one place stand one_idle i P B = never i
  link_one place stand one_load i P B = record {
    stands = one_idle;
    held = held_opened One s sequences q.keep q.opened H x (omega (arith, z.t_most)) (word_of x words)
        (record { kept = v.header.version; kept_value = v.header.value; opened = true }) M refl;
    wrote = refl;
    says = says_values (each (λ i. i < 1 → get_or (value_of (bits s) (word_of x words) ∷ 0 ∷ 0 ∷ 0 ∷ []) i 0 ≡ v.header.value) 0
        (λ l. M.value) (λ j n l. absurd (omega (arith, n))));
    note = refl;
  }
  link_one place stand one_validate i P B = record {
    stands = one_idle;
    held = held_same One s sequences q.keep q.opened H x;
    wrote = refl;
    says = rw (← (test (P.seq P.doing) (B refl))) (says_sure 1 (eqb (word_of x words) (kept_of x q)));
    note = refl;
  }
  link_one place stand one_store i P B =
      let T : eqb (word_of x words) (kept_of x q) ≡ same v.header (kept_word (sequences x)) = test (P.seq P.doing) (B refl) in
      branch (λ (r : Step). Linked One s p x (StoreSwapsWord x) q words sequences r
      (on_word_swap 1 p v rows (sequences x) (same v.header (kept_word (sequences x))) (at_place q.values)))
      (eqb (word_of x words) (kept_of x q)) _ _
      (λ e. rw (sym T ∙ e) (record {
        stands = one_idle;
        held = held_shut One s sequences q.keep q.opened H x;
        wrote = (new_word s q x, new_word_lem (sym T ∙ e), refl);
        says = says_yes;
        note = refl;
      }))
      (λ e. rw (sym T ∙ e) (record {
        stands = one_idle;
        held = held_shut One s sequences q.keep q.opened H x;
        wrote = refl;
        says = says_no;
        note = refl;
      }))
