-- Two outcomes that a contract allows are equal: what is to be shown of a function's contract, and that an equation with a
-- definition gives it. Assumes nothing.
use Rattle.std.proofs.Common.{◌≡◌, ℕ, List, sym, ◌∙◌}
use contract.Lifetimes.{Lfts}
use denote.Triple.Clauses.{AtExit}
use borrow.Fn.Kinds.{ParamKind, ResultKind, Out, Dens, res_t, ended_of}

pub one_outcome : {A : Type 0} {settled a b : A} → a ≡ settled → b ≡ settled → a ≡ b
one_outcome first second = first ∙ sym second

-- `contract` is what a caller learns of the arguments, the result and the parameters at exit; `seen` is what a caller sees of an
-- outcome: the result, and what each reference that may be written through leads to
abbrev pub Settles : {n : ℕ} (ps : List (ParamKind n)) (r : ResultKind n) (Seen : Type 0)
    → ((κs : Lfts n) → (res_t r κs).Denot → AtExit (ended_of n ps r) κs → Seen) → Out n ps r → Type 0
Settles {n} ps r Seen seen contract =
    (κs : Lfts n) (args : Dens κs ps) (result other : (res_t r κs).Denot) (exit other_exit : AtExit (ended_of n ps r) κs)
    → contract κs args result exit → contract κs args other other_exit → seen κs result exit ≡ seen κs other other_exit
