-- Demand 3 holds, under the window premise, and so under the total. Assumes nothing.
use mathlib.Core.Path.{◌≡◌, refl, sym, subst}
use mathlib.Core.Logic.{◌≢◌}
use mathlib.Core.Bool.{true, ◌&&◌}
use mathlib.Core.List.{List, [], ◌∷◌}
use Prim.Native.Nat.{ℕ}
use native.Mathlib.Omega.{arith}
use lib.ListN.{length}
use borrow.Author.Tests.{eqb-true}
use Rattle.word.specs.Word.{bits_fit}
use Rattle.rules.specs.Demand3.{Turn, answer, own, seen as seen_of, since, Few, InWindow, AnswersRight, Demand3, Demand3InWindow}
use Rattle.rules.specs.Onlooker.{Note, note_of}
use Rattle.rules.specs.OwnSteps.{taken}
use Rattle.rules.specs.Refusals.{sizes_check}
use Rattle.rules.specs.Runs.{step}
use Rattle.rules.specs.Sizes.{bits, between, segments_fit, settings_fit}
use Rattle.rules.specs.Types.{Reply, Value, Ok, Witness, Yes, No, Kind, One, Many, Settings}
use Rattle.rules.proofs.Sizes.Sized.{sized}
use Rattle.rules.proofs.Tests.{and_right}
use Rattle.rules.proofs.Refusals.Checked.{stands}
use Rattle.rules.proofs.Demand3.Follow.{RightAnswer}
use Rattle.rules.proofs.Demand3.Invariant.Kinds.{Counts, width}
use Rattle.rules.proofs.Demand3.Runs.{ready_fine}
use Rattle.rules.proofs.Demand3.Steps.{bounded}
use Rattle.rules.proofs.Demand3.Along.{right_along, counts_along}
use Rattle.rules.proofs.Demand3.Window.{window_of_few}

-- W is 1 for kind `one`
width_is : (s : Settings) → settings_fit s ≡ true → width s.kind s.w ≡ s.w
unfolding settings_fit
width_is s e = by s.kind s.w (and_right (between 1 16 s.n && between 1 16 s.t && bits_fit (bits s)) (segments_fit s.kind s.w) e)
  where
    by : (k : Kind) (w : ℕ) → segments_fit k w ≡ true → width k w ≡ w
    by One w h = sym (eqb-true w 1 h)
    by Many w h = refl

-- the answer of a turn is right
right_in_window : (t : Turn) → InWindow t → RightAnswer t.settings.w t.me (seen_of t) (answer t)
right_in_window t A =
    let s : Settings = t.settings in
    let f : sizes_check s (length t.lent) ≡ Ok tt = ready_fine s t.lent t.ready in
    rw (width_is s (stands s t.lent f).settings) at (right_along s (sized s (stands s t.lent f).settings) t.lent f
    t.events t.me A)

counts_in_window : (t : Turn) → InWindow t → taken (answer t) ≡ true
    → Counts t.me (seen_of t) (note_of t.settings (step t.me) (own t) (answer t))
counts_in_window t A =
    let s : Settings = t.settings in
    let f : sizes_check s (length t.lent) ≡ Ok tt = ready_fine s t.lent t.ready in
    counts_along s (sized s (stands s t.lent f).settings) t.lent f t.events t.me A

module _ (t : Turn) (A : InWindow t) where
  right_when : (a : Reply) → answer t ≡ a → RightAnswer t.settings.w t.me (seen_of t) a
  right_when a e = subst (λ (u : Reply). RightAnswer t.settings.w t.me (seen_of t) u) e (right_in_window t A)

some_not_none : (q : ℕ) (m l : List ℕ) → l ≡ q ∷ m → l ≢ []
some_not_none q m l e n = let z : ◌≡◌ {A = ℕ} 0 1 = cc in omega arith

-- under the weaker premise
pub in_window : Demand3InWindow
in_window = record {
  store_counts = λ t A g new swapped e.
      subst (λ (n : Note). Counts t.me (seen_of t) n) e (counts_in_window t A g);
  values_are_atomic = λ t A values e. (right_when t A (Ok (Value values)) e).1;
  yes_is_atomic = λ t A e. right_when t A (Ok Yes) e;
  no_is_atomic = λ t A e. (right_when t A (Ok No) e).0;
  no_has_another = λ t A e. (right_when t A (Ok No) e).1;
  witness_is_last = λ t A q e. right_when t A (Ok (Witness q)) e;
  values_if_none = λ t A values e. (right_when t A (Ok (Value values)) e).0;
  witness_if_some = λ t A q e. some_not_none q (right_when t A (Ok (Witness q)) e).0 (since t) (right_when t A (Ok (Witness q)) e).1;
}

-- what holds under a premise holds under a stronger one
weaken : (P Q : Turn → Type 0) → ((t : Turn) → P t → Q t) → AnswersRight Q → AnswersRight P
weaken P Q h r = record {
  store_counts = λ t p. r.store_counts t (h t p);
  values_are_atomic = λ t p. r.values_are_atomic t (h t p);
  yes_is_atomic = λ t p. r.yes_is_atomic t (h t p);
  no_is_atomic = λ t p. r.no_is_atomic t (h t p);
  no_has_another = λ t p. r.no_has_another t (h t p);
  witness_is_last = λ t p. r.witness_is_last t (h t p);
  values_if_none = λ t p. r.values_if_none t (h t p);
  witness_if_some = λ t p. r.witness_if_some t (h t p);
}

-- DEMAND 3
pub holds : Demand3
holds = record { answers = weaken Few InWindow window_of_few in_window; steps = bounded }
