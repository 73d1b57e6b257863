-- However the input is cut and the output written out, what is written is the printout of what was read. Assumes nothing.
use Prim.Native.Nat.{ℕ, suc, ◌+◌, ◌-◌, ◌≤◌}
use mathlib.Core.Path.{◌≡◌, refl, sym, ap, ◌∙◌, subst}
use mathlib.Core.Bool.{Bool, true, false, cond}
use mathlib.Core.List.{List, [], ◌∷◌, ◌++◌, append_assoc, append-nil}
use native.Mathlib.Omega.{arith}
use borrow.Author.Tests.{eq-eqb, ne_eqb}
use lib.ListN.{length, take}
use Rattle.printout.specs.Row.{heading}
use Rattle.printout.specs.Writing.{longest_row}
use Rattle.schedule.specs.Feeding.{Feeding, finish_in, finish_of, take_byte, is_full, same_stage, feed_of}
use Rattle.schedule.specs.Gathering.{line_length, bytes_of}
use Rattle.answers.specs.Records.{records_from}
use Rattle.answers.specs.Run.{Told, beginning_run, record_told, rows_of, printout_of}
use Rattle.schedule.specs.WholeInput.{Action, offer, flush, Caller, output, started, act, acts, Whole}
use Rattle.schedule.proofs.Kept.{Keeps, keeps_nothing, told_kept}
use Rattle.schedule.proofs.Owed.{told_short, put_after, output_more, Owes, over_rows, byte_owes}

-- the bytes that were taken, by how many are left
pub left_most : (f : Feeding) (bytes : List ℕ) → length (feed_of f bytes).1 ≤ length bytes
unfolding feed_of
left_most f [] = omega arith
left_most f (byte ∷ bytes) = go (is_full f) (same_stage f.run (take_byte f byte).run) (left_most (take_byte f byte) bytes)
  where
    go : (full same : Bool) → length (feed_of (take_byte f byte) bytes).1 ≤ length bytes
        → length (cond full (f, byte ∷ bytes) (cond same (feed_of (take_byte f byte) bytes) (take_byte f byte, bytes))).1 ≤ length (byte ∷ bytes)
    go true same ih = omega arith
    go false true ih = omega arith
    go false false ih = omega arith

took : List ℕ → List ℕ → List ℕ
took bytes left = take (length bytes - length left) bytes

took_none : (bytes : List ℕ) → took bytes bytes ≡ []
unfolding took
took_none bytes = let none : length bytes - length bytes ≡ 0 = omega arith in rw none

took_more : (byte : ℕ) (bytes left : List ℕ) → length left ≤ length bytes → took (byte ∷ bytes) left ≡ byte ∷ took bytes left
unfolding took
took_more byte bytes left h =
    let more : length (byte ∷ bytes) - length left ≡ suc (length bytes - length left) = omega arith in rw more

module _ (written : List ℕ) where
  same_total : {f : Feeding} {a b : List ℕ → List ℕ} → ((rest : List ℕ) → a rest ≡ b rest) → Owes written f a → Owes written f b
  same_total e o = record { part = o.part; kept = o.kept; owed = λ rest. o.owed rest ∙ e rest }

  feed_owes : (f : Feeding) (bytes : List ℕ) (total : List ℕ → List ℕ) → Owes written f total
      → Owes written (feed_of f bytes).0 (λ rest. total (took bytes (feed_of f bytes).1 ++ rest))
  unfolding feed_of
  feed_owes f [] total o = same_total (λ rest. ap (λ (l : List ℕ). total (l ++ rest)) (sym (took_none []))) o
  feed_owes f (byte ∷ bytes) total o =
      go (is_full f) refl (same_stage f.run (take_byte f byte).run)
      (λ room. feed_owes (take_byte f byte) bytes (λ rest. total (byte ∷ rest)) (byte_owes written total f byte room o))
    where
      rest_of : Feeding × List ℕ
      rest_of = feed_of (take_byte f byte) bytes

      Ends : Feeding × List ℕ → Type 0
      Ends r = Owes written r.0 (λ rest. total (took (byte ∷ bytes) r.1 ++ rest))

      go : (full : Bool) → is_full f ≡ full → (same : Bool)
          → (is_full f ≡ false → Owes written rest_of.0 (λ rest. total (byte ∷ (took bytes rest_of.1 ++ rest))))
          → Ends (cond full (f, byte ∷ bytes) (cond same rest_of (take_byte f byte, bytes)))
      go true e same ih = same_total (λ rest. ap (λ (l : List ℕ). total (l ++ rest)) (sym (took_none (byte ∷ bytes)))) o
      go false e true ih =
          same_total (λ rest. ap (λ (l : List ℕ). total (l ++ rest)) (sym (took_more byte bytes rest_of.1 (left_most (take_byte f byte) bytes)))) (ih e)
      go false e false ih =
          same_total (λ rest. ap (λ (l : List ℕ). total (l ++ rest)) (sym (took_more byte bytes bytes (omega arith) ∙ ap (λ (l : List ℕ). byte ∷ l) (took_none bytes))))
          (byte_owes written total f byte e o)

-- where a caller stands
abbrev Stands : Caller → Type 0
Stands c = Owes c.written c.feeding (λ rest. printout_of (c.read ++ rest))

act_stands : (c : Caller) (action : Action) → Stands c → Stands (act c action)
unfolding took
act_stands c (offer bytes) o =
    same_total c.written (λ rest. ap printout_of (sym (append_assoc c.read (took bytes (feed_of c.feeding bytes).1) rest)))
    (feed_owes c.written c.feeding bytes (λ rest. printout_of (c.read ++ rest)) o)
act_stands c flush o =
    record {
      part = o.part;
      kept = o.kept;
      owed = λ rest. append_assoc c.written (output c.feeding) _ ∙ o.owed rest;
    }

acts_stand : (c : Caller) (actions : List Action) → Stands c → Stands (acts c actions)
unfolding acts
acts_stand c [] o = o
acts_stand c (action ∷ actions) o = acts_stand (act c action) actions (act_stands c action o)

start_stands : (line out : List ℕ) → length line ≡ line_length → longest_row ≤ length out → Stands (started line out)
unfolding printout_of
start_stands line out long room =
    let fits : 0 + length heading ≤ length out = omega arith in
    record {
      part = [];
      kept = keeps_nothing line long;
      owed = λ rest. ap (λ (o : List ℕ). o ++ rows_of beginning_run (records_from [] rest))
          (put_after out heading 0 fits);
    }

-- the end of the input
last_record : (x : ℕ) (part : List ℕ) → records_from (x ∷ part) [] ≡ (x ∷ part) ∷ []
unfolding records_from
last_record x part =
    let some : length (x ∷ part) ≡ 0 → ⊥ = omega arith in rw (ne_eqb (length (x ∷ part)) 0 some)

module _ (written : List ℕ) (total : List ℕ → List ℕ) (f : Feeding) (room : is_full f ≡ false) where
  finish_owes : (part : List ℕ) → Keeps f.held part → written ++ (output f ++ rows_of f.run (records_from part [])) ≡ total []
      → written ++ output (finish_of f) ≡ total []
  unfolding records_from rows_of finish_of
  finish_owes [] kept owed =
      ap (λ (t : Bool). written ++ output (finish_in t f)) (eq-eqb f.held.held 0 kept.count)
      ∙ ap (λ (l : List ℕ). written ++ l) (sym (append-nil (output f))) ∙ owed
  finish_owes (x ∷ part) kept owed =
      let some : f.held.held ≡ 0 → ⊥ = omega (arith, kept.count) in
      ap (λ (t : Bool). written ++ output (finish_in t f)) (ne_eqb f.held.held 0 some)
      ∙ ap (λ (l : List ℕ). written ++ l) (output_more f (record_told f.run (bytes_of f.held)) room (told_short f.run (bytes_of f.held)))
      ∙ ap (λ (t : Told). written ++ (output f ++ t.printed)) (told_kept f.held (x ∷ part) kept f.run)
      ∙ ap (λ (l : List ℕ). written ++ (output f ++ l)) (sym (append-nil (record_told f.run (x ∷ part)).printed))
      ∙ ap (λ (records : List (List ℕ)). written ++ (output f ++ rows_of f.run records)) (sym (last_record x part))
      ∙ owed

input_ends : (line out : List ℕ) → length line ≡ line_length → longest_row ≤ length out → (actions : List Action)
    → is_full (acts (started line out) actions).feeding ≡ false
    → (acts (started line out) actions).written ++ output (finish_of (acts (started line out) actions).feeding)
    ≡ printout_of (acts (started line out) actions).read
input_ends line out long room actions free =
    let o = acts_stand (started line out) actions (start_stands line out long room) in
    let c = acts (started line out) actions in
    finish_owes c.written (λ rest. printout_of (c.read ++ rest)) c.feeding free o.part o.kept (o.owed [])
    ∙ ap printout_of (append-nil c.read)

pub whole_input : Whole
whole_input =
    record {
      ends = input_ends;
      over = λ line out long room actions over rest.
          let o = acts_stand (started line out) actions (start_stands line out long room) in
          let c = acts (started line out) actions in
          let f = c.feeding in
          ap (λ (l : List ℕ). c.written ++ l) (sym (append-nil (output f))
          ∙ ap (λ (l : List ℕ). output f ++ l) (sym (over_rows f.run over (records_from o.part rest))))
          ∙ o.owed rest;
      taken = λ line out long room out_after len e.
          let t = e.takes in
          let free = subst (λ (c : Caller). is_full c.feeding ≡ false) (sym t.leads) e.room in
          ap (λ (l : List ℕ). e.written ++ l) (sym e.held)
          ∙ sym (ap (λ (c : Caller). c.written ++ output (finish_of c.feeding)) t.leads)
          ∙ input_ends line out long room t.actions free
          ∙ ap (λ (c : Caller). printout_of c.read) t.leads;
    }
