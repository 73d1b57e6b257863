-- Laws of feeding: where there is room for a row, bytes are gathered up to a record's end, and the record is answered.
-- Assumes nothing.
use Prim.Native.Nat.{ℕ}
use mathlib.Core.Path.{◌≡◌, refl, ap}
use mathlib.Core.Bool.{Bool, true, false, cond}
use mathlib.Core.List.{List, [], ◌∷◌}
use borrow.Author.Tests.{eq-eqb}
use Rattle.schedule.specs.Feeding.{Feeding, holding, record_answered, byte_gathered, take_in, take_byte, is_full, stage_number, same_stage, feed_of}
use Rattle.schedule.specs.Gathering.{Gathered, put, closes, gather_of}
use Rattle.rules.specs.declared.Board.{Board}
use Rattle.answers.specs.Run.{Run}
use Rattle.answers.specs.declared.Stage.{Stage}
use Rattle.answers.specs.declared.Stage.TheVariants.{Waiting, Running, Over}

-- feeding goes on with the bytes that are left, unless the stage has changed
abbrev pub goes_on : Run → Feeding → List ℕ → Feeding × List ℕ
goes_on run f left = cond (same_stage run f.run) (feed_of f left) (f, left)

abbrev pub after_gathering : Feeding → Gathered → Feeding × List ℕ
after_gathering f g = cond g.closed (goes_on f.run (record_answered (holding f g.held)) g.left) (holding f g.held, g.left)

pub same_stage_lem : (run : Run) → same_stage run run ≡ true
unfolding same_stage
same_stage_lem run = eq-eqb (stage_number run.stage) (stage_number run.stage) refl

-- the run is not over: each byte is gathered
abbrev pub Reads : Stage → Type 0
Reads s = (f : Feeding) (byte : ℕ) → take_in s f byte ≡ byte_gathered f byte

pub waiting_reads : Reads Waiting
waiting_reads f byte = refl

pub running_reads : (board : Board) → Reads (Running board)
running_reads board f byte = refl

pub feed_gather : (f : Feeding) (bytes : List ℕ) → is_full f ≡ false → Reads f.run.stage
    → feed_of f bytes ≡ after_gathering f (gather_of f.held bytes)
unfolding feed_of gather_of take_byte is_full
feed_gather f [] room reads = refl
feed_gather f (byte ∷ bytes) room reads =
    rw (room, reads f byte) (go (closes f.held byte) (feed_gather (holding f (put f.held byte)) bytes room reads))
  where
    gathered : Feeding
    gathered = holding f (put f.held byte)

    go : (t : Bool) → feed_of gathered bytes ≡ after_gathering gathered (gather_of (put f.held byte) bytes)
        → goes_on f.run (cond t (record_answered gathered) gathered) bytes
        ≡ after_gathering f (cond t (record { held = put f.held byte; left = bytes; closed = true }) (gather_of (put f.held byte) bytes))
    go true ih = refl
    go false ih = rw (same_stage_lem f.run) ih

pub feed_full : (f : Feeding) (bytes : List ℕ) → is_full f ≡ true → feed_of f bytes ≡ (f, bytes)
unfolding feed_of
feed_full f [] full = refl
feed_full f (byte ∷ bytes) full = rw full

passes : (f : Feeding) (byte : ℕ) → f.run.stage ≡ Over → take_byte f byte ≡ f
unfolding take_byte
passes f byte over = ap (λ (s : Stage). take_in s f byte) over

pub feed_over : (f : Feeding) (bytes : List ℕ) → is_full f ≡ false → f.run.stage ≡ Over → feed_of f bytes ≡ (f, [])
unfolding feed_of
feed_over f [] room over = refl
feed_over f (byte ∷ bytes) room over = rw (room, passes f byte over, same_stage_lem f.run) (feed_over f bytes room over)
