-- A fresh set-up is in good form and shaped as the types say, whatever memory was lent. Assumes nothing.
use mathlib.Core.Path.{◌≡◌, refl, sym, ap, ◌∙◌, subst}
use mathlib.Core.Bool.{true}
use mathlib.Core.List.{List, ◌++◌}
use Prim.Native.Nat.{ℕ, ◌+◌, ◌-◌, ◌^◌, ◌≤◌, ◌<◌}
use native.Mathlib.Nat.{zero-mod}
use native.Mathlib.Omega.{arith}
use borrow.Author.Tests.{lt-ltb}
use lib.Dec.{ltb}
use lib.ListN.{length, get_or, drop, replicate, length-append, length-drop, length-replicate, get_or-replicate, get_or-append}
use lib.Pow.{pow_pos}
use lib.Seq.{get_or-append-add, get_or-drop}
use Rattle.word.specs.Word.{tag_limit, value_limit, value_of}
use Rattle.std.specs.Prelude.{IsOkAnd}
use Rattle.rules.specs.Bounds.{Sized}
use Rattle.rules.specs.Entry.{fresh_process, fresh_board, fresh_words, set_up_rule, set_up_by}
use Rattle.rules.specs.GoodForm.{names, value_fits, kept_fit, kept_fit_by, open_fits, process_fits, processes_fit, words_fit, words_fit_by, headers_fit, row_fits, rows_fit, in_good_form}
use Rattle.rules.specs.Processes.{nobody, process_at}
use Rattle.rules.specs.Refusals.{sizes_check}
use Rattle.rules.specs.Sizes.{bits, words_used, used_by, header_at, announce_at}
use Rattle.rules.proofs.Refusals.Checked.{stands}
use Rattle.rules.proofs.Sizes.Addresses.{header_in, announce_in}
use Rattle.rules.proofs.GoodForm.Held.{in_form_lem}
use Rattle.rules.specs.InForm.{Formed, Sound, Clean, InForm}
use Rattle.rules.specs.Types.{Ok, Kind, One, Many, Settings}
use Rattle.rules.specs.Refusals.{Check}
use Rattle.rules.proofs.Sizes.Sized.{sized}
use Rattle.rules.proofs.GoodForm.Sounds.{zero_fits, no_values_fit}
use Rattle.rules.proofs.Tests.{and_both, all_of}

module _ (s : Settings) (z : Sized s) where
  kept_fits : kept_fit s (replicate 16 0) ≡ true
  unfolding kept_fit
  kept_fits = by s.kind
    where
      by : (k : Kind) → kept_fit_by k s (replicate 16 0) ≡ true
      by One = refl
      by Many =
          all_of _ s.t (λ x h. ap (λ (v : ℕ). ltb v (tag_limit (bits s))) (get_or-replicate 16 x 0 0 (omega (arith, z.t_most)))
          ∙ lt-ltb _ _ (pow_pos (bits s)))

  pub fresh_process_lem : Sound s fresh_process
  unfolding open_fits
  fresh_process_lem =
      record {
        form = record {
          place = refl;
          sequences = lt-ltb _ _ (pow_pos s.t);
          kept = kept_fits;
          values = no_values_fit s;
          gathered = no_values_fit s;
        };
        shape = record { keep = refl; gathered = refl; header = omega arith };
      }

  -- the header 0 names process 0
  zero_names : names s 0 ≡ true
  unfolding names value_of
  zero_names = lt-ltb _ _ (subst (λ (v : ℕ). v < s.n) (sym (zero-mod (value_limit (bits s)))) z.n_least)

-- a list that begins with n 0s
pub zero_at : (n a : ℕ) (rest : List ℕ) → a < n → ◌≡◌ {A = ℕ} (get_or (replicate n 0 ++ rest) a 0) 0
zero_at n a rest h =
    let long : a < length (replicate {A = ℕ} n 0) = omega (arith, length-replicate {A = ℕ} n 0) in
    get_or-append (replicate n 0) rest 0 a long ∙ get_or-replicate n a 0 0 h

abbrev zeros : Settings → List ℕ
zeros s = replicate (words_used s) 0

zeros_length : (s : Settings) → length (zeros s) ≡ words_used s
zeros_length s = length-replicate {A = ℕ} (words_used s) 0

-- every word used is 0, and each past them is as lent
module _ (s : Settings) (words : List ℕ) where
  pub fresh_zero : (a : ℕ) → a < words_used s → get_or (fresh_words s words) a 0 ≡ 0
  fresh_zero a h = zero_at (words_used s) a (drop (words_used s) words) h

  pub fresh_past : (a : ℕ) → words_used s ≤ a → get_or (fresh_words s words) a 0 ≡ get_or words a 0
  fresh_past a h =
      let from : words_used s + (a - words_used s) ≡ a = omega arith in
      let past : length (zeros s) + (a - words_used s) ≡ a = omega (arith, zeros_length s) in
      ap (λ (k : ℕ). get_or (fresh_words s words) k 0) (sym past)
      ∙ get_or-append-add (zeros s) (drop (words_used s) words) (a - words_used s) 0
      ∙ get_or-drop (words_used s) words (a - words_used s) 0
      ∙ ap (λ (k : ℕ). get_or words k 0) from

  pub fresh_length : words_used s ≤ length words → length (fresh_words s words) ≡ length words
  fresh_length h =
      length-append (zeros s) (drop (words_used s) words) ∙ omega (arith, zeros_length s, length-drop (words_used s) words)

  pub fresh_words_lem : Sized s → Clean s (fresh_words s words)
  unfolding words_fit headers_fit rows_fit row_fits
  fresh_words_lem z =
      record { fits = by s.kind refl; bounded = λ a h. subst (λ (v : ℕ). v < 2 ^ 64) (sym (fresh_zero a h)) (omega arith) }
    where
      used : s.kind ≡ Many → (a : ℕ) → a < used_by Many s → get_or (fresh_words s words) a 0 ≡ 0
      used e a h = fresh_zero a (subst (λ (k : Kind). a < used_by k s) (sym e) h)

      by : (k : Kind) → s.kind ≡ k → words_fit_by k s (fresh_words s words) ≡ true
      by One e = refl
      by Many e =
          and_both _ _
          (all_of _ s.t (λ x h. ap (names s) (used e (header_at s x) (header_in s z h)) ∙ zero_names s z))
          (all_of _ s.n (λ p h. all_of _ s.w (λ i hi. ap (value_fits s) (used e (announce_at s p i) (announce_in s z h hi)) ∙ zero_fits s)))

pub fresh_in_form : (s : Settings) (words : List ℕ) → Sized s → InForm (fresh_board s) (fresh_words s words)
unfolding in_good_form processes_fit
fresh_in_form s words z =
    record {
      good = and_both _ _
          (all_of _ s.n (λ i h. ap (process_fits s) (at i (omega (arith, z.n_most))) ∙ in_form_lem s fresh_process (fresh_process_lem s z).form))
          (fresh_words_lem s words z).fits;
      shaped = record {
        processes = refl;
        each = λ i h. subst Formed (sym (at i h)) (fresh_process_lem s z).shape;
        bounded = (fresh_words_lem s words z).bounded;
      };
    }
  where
    at : (i : ℕ) → i < 16 → process_at (fresh_board s) i ≡ fresh_process
    at i h = get_or-replicate 16 i fresh_process nobody h

-- at the entry point: an accepted set-up gives the fresh board, in good form
pub set_up_accepted : (s : Settings) (words : List ℕ) → sizes_check s (length words) ≡ Ok tt
    → set_up_rule s words ≡ set_up_by (Ok tt) s words
unfolding set_up_rule
set_up_accepted s words e = ap (λ (c : Check). set_up_by c s words) e

pub set_up_in_form : (s : Settings) (words : List ℕ) → sizes_check s (length words) ≡ Ok tt
    → IsOkAnd (set_up_rule s words).0 (λ board. InForm board (set_up_rule s words).1)
unfolding set_up_rule
set_up_in_form s words e =
    subst (λ (c : Check). IsOkAnd (set_up_by c s words).0 (λ board. InForm board (set_up_by c s words).1)) (sym e)
    (fresh_in_form s words (sized s (stands s words e).settings))
