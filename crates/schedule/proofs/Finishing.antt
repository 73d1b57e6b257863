-- The end of the input, with or without a last record. Assumes nothing.
use Prim.Native.Nat.{ℕ}
use mathlib.Core.Path.{◌≡◌, sym, ap, ◌∙◌}
use mathlib.Core.Bool.{Bool}
use mathlib.Core.List.{List}
use borrow.Author.Tests.{eq-eqb, ne_eqb}
use lib.ListN.{take}
use Rattle.writing.specs.declared.writer.Writer.{Writer}
use Rattle.schedule.specs.Telling.{Tells}
use Rattle.schedule.specs.Feeding.{Feeding, run_of, feeding_to, finish_in, finish_of}
use Rattle.answers.specs.Run.{record_told}
use Rattle.schedule.specs.declared.Session.{Session}
use Rattle.schedule.proofs.Tellings.{tells_feeding}

pub none_held : (f : Feeding) → f.held.held ≡ 0 → f ≡ finish_of f
unfolding finish_of
none_held f e = sym (ap (λ (t : Bool). finish_in t f) (eq-eqb f.held.held 0 e))

pub some_held : (session after : Session) (line words words_after : List ℕ) (out out_after : Writer) → (session.held.len ≡ 0 → ⊥)
    → Tells (record_told (run_of session words) (take session.held.len line)) out after words_after out_after
    → feeding_to after line words_after out_after ≡ finish_of (feeding_to session line words out)
unfolding finish_of
some_held session after line words words_after out out_after some k =
    tells_feeding (record_told (run_of session words) (take session.held.len line)) session after line words words_after out out_after k
    ∙ sym (ap (λ (t : Bool). finish_in t (feeding_to session line words out)) (ne_eqb session.held.len 0 some))
