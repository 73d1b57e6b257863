-- A fresh board stands for the fresh machine. Assumes nothing.
use mathlib.Core.Path.{refl, sym, ◌∙◌}
use mathlib.Core.Bool.{false}
use mathlib.Core.List.{List, ◌++◌}
use Prim.Native.Nat.{ℕ, ◌≤◌, ◌<◌}
use native.Mathlib.Nat.{zero-mod, zero-div}
use native.Mathlib.Omega.{arith}
use lib.ListN.{length, get_or, drop, replicate, length-append, length-replicate, get_or-replicate}
use Rattle.word.specs.Word.{tag_of, value_of, tag_limit, value_limit}
use Rattle.rules.specs.Bounds.{Sized}
use Rattle.rules.specs.Entry.{fresh_process, fresh_words}
use Rattle.rules.specs.Onlooker.{unseen}
use Rattle.rules.specs.Processes.{nobody, no_values}
use Rattle.rules.specs.Sizes.{bits, words_used, used_by}
use Rattle.rules.specs.Types.{Kind, One, Many, Idle, Settings}
use Rattle.rules.proofs.Sizes.Addresses.{header_in, segment_in, announce_in}
use Rattle.rules.proofs.Demand3.Means.{BoardMeans}
use Rattle.rules.proofs.Demand3.Invariant.Whole.{fresh_state}
use Rattle.rules.proofs.Demand3.Link.Keeping.{Keeps}
use Rattle.rules.proofs.Demand3.Link.Memory.{MemK}
use Rattle.rules.proofs.Demand3.Link.Stands.{StandsK, one_idle, at_idle}
use Rattle.rules.proofs.Demand3.Link.Tags.{Means}
use Rattle.rules.proofs.Demand3.Machine.{stamp, idle}
use Rattle.rules.proofs.GoodForm.Fresh.{zero_at}
use Rattle.rules.proofs.Sequences.Counts.{none_open}

zero_means : (b : ℕ) → Means b 0 (stamp 0 0)
unfolding tag_of value_of
zero_means b = record { tag = zero-div (value_limit b) ∙ sym (zero-mod (tag_limit b)); value = zero-mod (value_limit b) }

fresh_long : (n : ℕ) (l : List ℕ) → n ≤ length (replicate n 0 ++ l)
fresh_long n l = omega (arith, length-append (replicate n 0) l, length-replicate {A = ℕ} n 0)

fresh_memory : (k : Kind) (s : Settings) → Sized s → (l : List ℕ) → MemK k s fresh_state.vars fresh_state.rows (replicate (used_by k s) 0 ++ l)
fresh_memory One s z l = record {
  enough = fresh_long s.t l;
  word = λ y h. rw (zero_at s.t y l h) (zero_means (bits s));
}
fresh_memory Many s z l = record {
  enough = fresh_long (used_by Many s) l;
  header = λ y h. rw (zero_at (used_by Many s) _ l (header_in s z h)) (zero_means (bits s));
  segment = λ y h j i. rw (zero_at (used_by Many s) _ l (segment_in s z h i)) (zero_means (bits s));
  row = λ q h j i. zero_at (used_by Many s) _ l (announce_in s z h i);
}

fresh_kept : (k : Kind) (s : Settings) (y : ℕ) → y < 16 → Keeps k s (get_or (replicate 16 0) y 0) (record { kept = 0; kept_value = 0; opened = false })
fresh_kept One s y h = rw (get_or-replicate {A = ℕ} 16 y 0 0 h) (zero_means (bits s))
fresh_kept Many s y h = get_or-replicate {A = ℕ} 16 y 0 0 h ∙ sym (zero-mod (tag_limit (bits s)))

fresh_stands : (k : Kind) (b : ℕ) → StandsK k b 0 no_values no_values Idle idle
fresh_stands One b = one_idle
fresh_stands Many b = at_idle

pub fresh_means : (s : Settings) → Sized s → (l : List ℕ) → BoardMeans s fresh_state (replicate 16 fresh_process) (fresh_words s l) (λ x. unseen)
fresh_means s z l = record {
  sixteen = length-replicate 16 fresh_process;
  memory = fresh_memory s.kind s z (drop (words_used s) l);
  process = λ p h. rw (get_or-replicate 16 p fresh_process nobody (omega (arith, z.n_most))) (record {
    stands = fresh_stands s.kind (bits s);
    held = record {
      sixteen = length-replicate {A = ℕ} 16 0;
      kept = λ y i. fresh_kept s.kind s y (omega (arith, z.t_most));
      open' = none_open;
    };
  });
  as_seen = λ x. refl;
}
