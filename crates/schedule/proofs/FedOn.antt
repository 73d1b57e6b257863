-- One record of a chunk: gathered to its end and answered, feeding goes on after it, or stops where the stage changed.
-- Assumes nothing.
use Prim.Native.Nat.{ℕ, ◌-◌, ◌≤◌}
use mathlib.Core.Path.{◌≡◌, refl, sym, ap, ◌∙◌, subst}
use mathlib.Core.Bool.{Bool, true, false, cond}
use mathlib.Core.List.{List}
use borrow.Author.Tests.{le-ltb}
use lib.Dec.{eqb}
use lib.ListN.{length, take}
use Rattle.rules.specs.Entry.{set_up_rule}
use Rattle.rules.specs.declared.Board.{Board}
use Rattle.std.specs.Prelude.{Result, Ok, Err}
use Rattle.word.specs.declared.Refusal.{Refusal}
use Rattle.rules.specs.declared.Settings.{Settings}
use Rattle.record.specs.Setup.{settings_of}
use Rattle.writing.specs.declared.writer.Writer.{Writer}
use Rattle.printout.specs.Writing.{longest_row}
use Rattle.schedule.specs.Telling.{Tells}
use Rattle.schedule.specs.Feeding.{Feeding, run_of, feeding_to, telling, is_full, stage_number, same_stage, feed_of}
use Rattle.schedule.specs.Gathering.{held_in, gather_of}
use Rattle.answers.specs.Run.{Run, by_set_up, by_settings, set_up_told, record_told}
use Rattle.schedule.specs.declared.Session.{Session}
use Rattle.schedule.specs.declared.gather.Kept.{Kept}
use Rattle.answers.specs.declared.Stage.{Stage}
use Rattle.answers.specs.declared.Stage.TheVariants.{Waiting, Running, Over}
use Rattle.schedule.proofs.Feeding.{goes_on, after_gathering, Reads, waiting_reads, feed_gather}
use Rattle.schedule.proofs.Tellings.{tells_feeding}

pub reads_waiting : (s : Stage) → s ≡ Waiting → Reads s
reads_waiting s e = subst Reads (sym e) waiting_reads

pub has_room : (f : Feeding) → longest_row ≤ length f.out - f.len → is_full f ≡ false
unfolding is_full
has_room f room = le-ltb (length f.out - f.len) longest_row room

module _ (session : Session) (line words : List ℕ) (out : Writer) (bytes line_gathered : List ℕ) (held : Kept) (left : List ℕ) (closed : Bool)
    (room : longest_row ≤ length out.bytes.now - out.len) (reads : Reads session.stage)
    (g : record { held = held_in line_gathered held; left = left; closed = closed } ≡ gather_of (held_in line session.held) bytes) where
  gathered : feed_of (feeding_to session line words out) bytes
      ≡ after_gathering (feeding_to session line words out) (record { held = held_in line_gathered held; left = left; closed = closed })
  gathered =
      feed_gather (feeding_to session line words out) bytes (has_room (feeding_to session line words out) room) reads
      ∙ ap (after_gathering (feeding_to session line words out)) (sym g)

  -- the bytes ended first
  pub fed_open : closed ≡ false
      → (feeding_to (record { stage = session.stage; count = session.count; held = held }) line_gathered words out, left)
      ≡ feed_of (feeding_to session line words out) bytes
  fed_open e = sym (gathered ∙ ap (λ (t : Bool). after_gathering (feeding_to session line words out) (record { held = held_in line_gathered held; left = left; closed = t })) e)

  module _ (after : Session) (words_after : List ℕ) (out_after : Writer) (e : closed ≡ true)
      (k : Tells (record_told (run_of session words) (take held.len line_gathered)) out after words_after out_after) where
    answered_on : feed_of (feeding_to session line words out) bytes
        ≡ goes_on (run_of session words) (feeding_to after line_gathered words_after out_after) left
    unfolding telling
    answered_on =
        gathered
        ∙ ap (λ (t : Bool). after_gathering (feeding_to session line words out) (record { held = held_in line_gathered held; left = left; closed = t })) e
        ∙ ap (λ (f : Feeding). goes_on (run_of session words) f left)
        (sym (tells_feeding (record_told (run_of session words) (take held.len line_gathered)) session after line_gathered words words_after out out_after k))

    abbrev either : Bool → Feeding × List ℕ
    either same =
        cond same (feed_of (feeding_to after line_gathered words_after out_after) left)
        (feeding_to after line_gathered words_after out_after, left)

    -- the stage has changed, or not
    pub fed_left : same_stage (run_of session words) (run_of after words_after) ≡ false
        → (feeding_to after line_gathered words_after out_after, left) ≡ feed_of (feeding_to session line words out) bytes
    fed_left other = sym (answered_on ∙ ap either other)

    pub fed_on : same_stage (run_of session words) (run_of after words_after) ≡ true
        → feed_of (feeding_to after line_gathered words_after out_after) left ≡ feed_of (feeding_to session line words out) bytes
    fed_on same = sym (answered_on ∙ ap either same)

-- stages that differ, and stages that do not
pub stage_is : (a b : Run) (s t : Stage) → a.stage ≡ s → b.stage ≡ t → same_stage a b ≡ eqb (stage_number s) (stage_number t)
unfolding same_stage
stage_is a b s t p q =
    ap (λ (x : Stage). eqb (stage_number x) (stage_number b.stage)) p ∙ ap (λ (x : Stage). eqb (stage_number s) (stage_number x)) q

left_waiting : (run : Run) (start : Result Board Refusal) (words : List ℕ) (a : Run) → a.stage ≡ Waiting
    → same_stage a (by_set_up run start words).run ≡ false
left_waiting run (Ok board) words a e = stage_is a (by_set_up run (Ok board) words).run Waiting (Running board) e refl
left_waiting run (Err why) words a e = stage_is a (by_set_up run (Err why) words).run Waiting Over e refl

settings_leave : (run : Run) (read : Result Settings Refusal) (a : Run) → a.stage ≡ Waiting → same_stage a (by_settings run read).run ≡ false
settings_leave run (Ok s) a e = left_waiting run (set_up_rule s run.words).0 _ a e
settings_leave run (Err why) a e = stage_is a (by_settings run (Err why)).run Waiting Over e refl

-- a set-up record ends the waiting
pub set_up_leaves : (session after : Session) (words words_after bytes : List ℕ) (out out_after : Writer) → session.stage ≡ Waiting
    → Tells (set_up_told (run_of session words) bytes) out after words_after out_after
    → same_stage (run_of session words) (run_of after words_after) ≡ false
unfolding set_up_told same_stage
set_up_leaves session after words words_after bytes out out_after e k =
    ap (λ (s : Session). same_stage (run_of session words) (run_of s words_after)) k.session
    ∙ settings_leave (run_of session words) (settings_of bytes) (run_of session words) e
