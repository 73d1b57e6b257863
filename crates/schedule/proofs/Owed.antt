-- What a run still owes: with what is written out and what the output holds, the rows of the records still to come are all
-- of the printout. Each byte taken keeps this. Assumes nothing.
use Prim.Native.Nat.{ℕ, ◌+◌, ◌-◌, ◌≤◌}
use mathlib.Core.Path.{◌≡◌, refl, sym, ap, ◌∙◌}
use mathlib.Core.Bool.{Bool, true, false, cond}
use mathlib.Core.List.{List, [], ◌∷◌, ◌++◌, append_assoc}
use native.Mathlib.Omega.{arith}
use borrow.Author.Tests.{ltb-false}
use lib.Dec.{ltb}
use lib.ListN.{length, take, length-append}
use lib.Seq.{sets, sets-eq, take_at, length-take-le}
use Rattle.word.specs.declared.Refusal.TheVariants.{TooManyRecords}
use Rattle.rules.specs.Entry.{set_up_rule}
use Rattle.rules.specs.declared.Board.{Board}
use Rattle.std.specs.Prelude.{Result, Ok, Err}
use Rattle.word.specs.declared.Refusal.{Refusal}
use Rattle.rules.specs.declared.Settings.{Settings}
use Rattle.fields.specs.Form.{closed}
use Rattle.record.specs.Entries.{schedule_of}
use Rattle.record.specs.Setup.{settings_of}
use Rattle.record.specs.declared.entries.Entry.{Entry}
use Rattle.record.specs.declared.entries.Entry.TheVariants.{Begin, Step}
use Rattle.printout.proofs.Longest.{row_at_most}
use Rattle.printout.specs.Writing.{longest_row}
use Rattle.schedule.specs.Feeding.{Feeding, holding, telling, record_answered, byte_gathered, take_in, take_byte, is_full}
use Rattle.schedule.specs.Gathering.{bytes_of, put, closes}
use Rattle.answers.specs.Records.{records_from}
use Rattle.answers.specs.Run.{Run, Told, by_set_up, by_settings, set_up_told, event_told, by_entry, nobodys_row, most_records, too_many_told, schedule_told, told_in, record_told, rows_of}
use Rattle.schedule.specs.WholeInput.{output}
use Rattle.answers.specs.declared.Stage.{Stage}
use Rattle.answers.specs.declared.Stage.TheVariants.{Waiting, Running, Over}
use Rattle.schedule.proofs.Kept.{Keeps, keeps_nothing, closes_kept, put_kept, told_kept}

-- no record prints more than the longest row
abbrev Short : Told → Type 0
Short told = length told.printed ≤ longest_row

short_start : (run : Run) (start : Result Board Refusal) (words : List ℕ) → Short (by_set_up run start words)
short_start run (Ok board) words = omega arith
short_start run (Err why) words = row_at_most _

short_settings : (run : Run) (read : Result Settings Refusal) → Short (by_settings run read)
short_settings run (Ok s) = short_start run (set_up_rule s run.words).0 _
short_settings run (Err why) = row_at_most _

short_entry : (board : Board) (run : Run) (entry : Result Entry Refusal) → Short (by_entry board run entry)
unfolding event_told
short_entry board run (Ok (Begin process call values)) = row_at_most _
short_entry board run (Ok (Step process)) = row_at_most _
short_entry board run (Err why) = row_at_most _

short_schedule : (board : Board) (run : Run) (bytes : List ℕ) → Short (schedule_told board run bytes)
unfolding schedule_told
short_schedule board run bytes = go (ltb run.count most_records)
  where
    said : Told
    said = by_entry board run (schedule_of bytes board.settings.w)

    go : (t : Bool) → Short (cond t said (too_many_told run))
    go true = short_entry board run (schedule_of bytes board.settings.w)
    go false = row_at_most (nobodys_row (most_records + 1) TooManyRecords)

short_told : (s : Stage) (run : Run) (bytes : List ℕ) → Short (told_in s run bytes)
unfolding set_up_told
short_told Waiting run bytes = short_settings run (settings_of bytes)
short_told (Running board) run bytes = short_schedule board run bytes
short_told Over run bytes = omega arith

pub told_short : (run : Run) (bytes : List ℕ) → length (record_told run bytes).printed ≤ longest_row
unfolding record_told
told_short run bytes = short_told run.stage run bytes

-- bytes put after the first `len`
pub put_after : (out bytes : List ℕ) (len : ℕ) → len + length bytes ≤ length out
    → take (len + length bytes) (sets out len bytes) ≡ take len out ++ bytes
put_after out bytes len inside =
    let seam : length (take len out ++ bytes) ≡ len + length bytes =
    length-append (take len out) bytes ∙ ap (λ (n : ℕ). n + length bytes) (length-take-le len out (omega arith)) in
    ap (take (len + length bytes)) (sets-eq bytes out len inside) ∙ take_at (take len out ++ bytes) _ _ seam

pub output_more : (f : Feeding) (told : Told) → is_full f ≡ false → length told.printed ≤ longest_row
    → output (telling f told) ≡ output f ++ told.printed
unfolding is_full telling
output_more f told room short =
    let l : longest_row ≤ length f.out - f.len = ltb-false _ _ room in
    put_after f.out told.printed f.len (omega arith)

-- with `written` written out, all is `total` of the bytes still to come
pub record Owes (written : List ℕ) (f : Feeding) (total : List ℕ → List ℕ) : Type 0 where
  pub part : List ℕ
  pub kept : Keeps f.held part
  pub owed : (rest : List ℕ) → written ++ (output f ++ rows_of f.run (records_from part rest)) ≡ total rest

pub over_rows : (run : Run) → run.stage ≡ Over → (records : List (List ℕ)) → rows_of run records ≡ []
unfolding rows_of record_told
over_rows run over [] = refl
over_rows run over (bytes ∷ records) =
    let told : record_told run bytes ≡ record { printed = []; run = run } = ap (λ (s : Stage). told_in s run bytes) over in
    ap (λ (t : Told). t.printed ++ rows_of t.run records) told ∙ over_rows run over records

module _ (written : List ℕ) (total : List ℕ → List ℕ) where
  -- a record that is answered
  answered_owes : (f : Feeding) (part : List ℕ) → is_full f ≡ false → Keeps f.held part
      → ((rest : List ℕ) → written ++ (output f ++ rows_of f.run (part ∷ records_from [] rest)) ≡ total rest)
      → Owes written (record_answered f) total
  unfolding rows_of telling
  answered_owes f part room kept owed =
      record {
        part = [];
        kept = keeps_nothing f.held.line kept.long;
        owed = λ rest.
            ap (λ (o : List ℕ). written ++ (o ++ rows_of (record_told f.run (bytes_of f.held)).run (records_from [] rest)))
            (output_more f (record_told f.run (bytes_of f.held)) room (told_short f.run (bytes_of f.held)))
            ∙ ap (λ (t : Told). written ++ ((output f ++ t.printed) ++ rows_of t.run (records_from [] rest))) (told_kept f.held part kept f.run)
            ∙ ap (λ (l : List ℕ). written ++ l) (append_assoc (output f) (record_told f.run part).printed _)
            ∙ owed rest;
      }

module _ (written : List ℕ) (total : List ℕ → List ℕ) (f : Feeding) (byte : ℕ) (room : is_full f ≡ false) (o : Owes written f total) where
  next : Feeding
  next = holding f (put f.held byte)

  gathered_owes : Owes written (byte_gathered f byte) (λ rest. total (byte ∷ rest))
  unfolding records_from is_full next
  gathered_owes = go (closes f.held byte) (closes_kept f.held o.part byte o.kept)
    where
      more : List ℕ
      more = o.part ++ byte ∷ []

      rows : List ℕ → Bool → List ℕ
      rows rest t = written ++ (output f ++ rows_of f.run (cond t (more ∷ records_from [] rest) (records_from more rest)))

      kept : Keeps (put f.held byte) more
      kept = put_kept f.held o.part byte o.kept

      go : (t : Bool) → closed more ≡ t → Owes written (cond t (record_answered next) next) (λ rest. total (byte ∷ rest))
      go true e =
          answered_owes written (λ rest. total (byte ∷ rest)) next more room kept (λ rest. ap (rows rest) (sym e) ∙ o.owed (byte ∷ rest))
      go false e = record { part = more; kept = kept; owed = λ rest. ap (rows rest) (sym e) ∙ o.owed (byte ∷ rest) }

  passing_owes : f.run.stage ≡ Over → Owes written f (λ rest. total (byte ∷ rest))
  passing_owes over =
      record {
        part = o.part;
        kept = o.kept;
        owed = λ rest.
            ap (λ (rows : List ℕ). written ++ (output f ++ rows))
            (over_rows f.run over (records_from o.part rest) ∙ sym (over_rows f.run over (records_from o.part (byte ∷ rest))))
            ∙ o.owed (byte ∷ rest);
      }

  taken_owes : (s : Stage) → f.run.stage ≡ s → Owes written (take_in s f byte) (λ rest. total (byte ∷ rest))
  taken_owes Waiting e = gathered_owes
  taken_owes (Running board) e = gathered_owes
  taken_owes Over e = passing_owes e

  pub byte_owes : Owes written (take_byte f byte) (λ rest. total (byte ∷ rest))
  unfolding take_byte
  byte_owes = taken_owes f.run.stage refl
