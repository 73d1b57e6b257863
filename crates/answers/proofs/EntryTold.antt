-- In good form, a schedule record prints the row of the one process that it moves, and the board has that process put back.
-- Assumes nothing.
use Prim.Native.Nat.{ℕ, ◌+◌, ◌≤◌, ◌<◌}
use mathlib.Core.Path.{◌≡◌, refl, sym, ap, ◌∙◌, subst}
use mathlib.Core.Bool.{Bool, true, false, cond}
use mathlib.Core.List.{List}
use native.Mathlib.Omega.{arith}
use borrow.Author.Tests.{ltb-true}
use lib.Dec.{ltb}
use lib.ListN.{length}
use lib.Seq.{get_or-set_same}
use Rattle.rules.specs.Entry.{open_count_rule, stepped}
use Rattle.rules.specs.Processes.{open_count, process_at, put_process, nobody}
use Rattle.rules.specs.Runs.{State, Event, begin, step, entry, after, process_of}
use Rattle.rules.specs.Sizes.{settings_fit, words_used}
use Rattle.rules.specs.declared.Answered.{Answered}
use Rattle.rules.specs.declared.Board.{Board}
use Rattle.std.specs.Prelude.{Option, Some, None, Result, Ok, Err}
use Rattle.std.specs.Result.{result_ok}
use Rattle.word.specs.declared.Refusal.{Refusal}
use Rattle.rules.specs.Figure4.{Step as OneStep}
use Rattle.rules.specs.declared.Process.{Process}
use Rattle.rules.specs.declared.Settings.{Settings}
use Rattle.rules.proofs.GoodForm.Runs.{begin_in_form, step_in_form}
use Rattle.rules.proofs.Changes.Leaves.{begin_settings, step_settings, step_length}
use Rattle.rules.proofs.Refusals.OneProcess.{same_board}
use Rattle.record.specs.declared.Act.{Act}
use Rattle.record.specs.declared.entries.Entry.{Entry}
use Rattle.record.specs.declared.entries.Entry.TheVariants.{Begin, Step}
use Rattle.printout.specs.Row.{row_of}
use Rattle.printout.specs.declared.Who.TheVariants.{Process as ProcessAt}
use Rattle.answers.specs.Moves.{slot_in, slot_of, move_of, process_row, row_by, begins, steps}
use Rattle.answers.specs.Order.{InOrder, OrderIn}
use Rattle.answers.specs.Run.{Run, Told, event_act, state_of, numbered_row, event_told, nobodys_row, by_entry}
use Rattle.answers.specs.declared.Stage.TheVariants.{Running}
use Rattle.answers.proofs.OneProcess.{all_sized, one_of, none_of, begun, not_begun, took, not_took}

-- an event leaves a run in order
pub order_after : (event : Event) (state : State) → InOrder state.board state.words
    → InOrder (after event state).board (after event state).words
order_after (begin me call values) state o =
    let same = begin_settings state.board me state.words call values in
    record {
      settings = subst (λ (s : Settings). settings_fit s ≡ true) (sym same) o.settings;
      room = subst (λ (s : Settings). words_used s ≤ length state.words) (sym same) o.room;
      form = begin_in_form me call values state o.form;
    }
order_after (step me) state o =
    let same = step_settings state.board me state.words in
    let long = step_length state.board me state.words in
    record {
      settings = subst (λ (s : Settings). settings_fit s ≡ true) (sym same) o.settings;
      room = subst (λ (n : ℕ). words_used (after (step me) state).board.settings ≤ n) (sym long)
          (subst (λ (s : Settings). words_used s ≤ length state.words) (sym same) o.room);
      form = step_in_form me state o.form;
    }

-- the open count after it
count_mine : (board : Board) (me : ℕ) (q : Process) (words : List ℕ) → InOrder (put_process board me q) words
    → ltb me board.settings.n ≡ true → me < length board.processes
    → result_ok (open_count_rule (put_process board me q) me words) ≡ Some (open_count q.opened board.settings.t)
unfolding open_count_rule
count_mine board me q words o mine inside =
    rw (one_of (put_process board me q) words o me mine, get_or-set_same board.processes me q nobody inside)

count_past : (board : Board) (me : ℕ) (words : List ℕ) → InOrder board words → ltb me board.settings.n ≡ false
    → result_ok (open_count_rule board me words) ≡ None
unfolding open_count_rule
count_past board me words o past = rw (none_of board words o me past)

-- what an event tells, by what it gives
abbrev told_by : ℕ → ℕ → Act → ℕ → Answered Board × List ℕ → Told
told_by number me act w r =
    record {
      printed = row_of (record {
        number = number;
        who = ProcessAt me act;
        answer = r.0.answer;
        «open» = result_ok (open_count_rule r.0.after me r.1);
        w = w;
      });
      run = record { stage = Running r.0.after; words = r.1; count = number };
    }

-- the same, by the process that it moves
abbrev told_at : ℕ → Settings → ℕ → Act → Board → ℕ → OneStep → Told
told_at number s me act board i m =
    record {
      printed = row_of (process_row number s me act m.0);
      run = record { stage = Running (put_process board i m.0.after); words = m.1; count = number };
    }

module _ (board : Board) (run : Run) (o : InOrder board run.words) where
  sizes : Settings
  sizes = board.settings

  in_range : (me : ℕ) → ltb me board.settings.n ≡ true → me < length board.processes
  in_range me mine =
      let most = (all_sized board run.words o).n_most in
      omega (arith, o.form.shaped.processes, ltb-true me board.settings.n mine)

  -- an event of a process of the board
  mine_told : (event : Event) (m : OneStep) → ltb (process_of event) board.settings.n ≡ true
      → entry event (state_of board run) ≡ stepped board (process_of event) m
      → event_told board run event ≡ told_at (run.count + 1) board.settings (process_of event) (event_act event) board (process_of event) m
  unfolding event_told numbered_row
  mine_told event m mine e =
      let me = process_of event in
      let after_order = order_after event (state_of board run) o in
      let order : InOrder (put_process board me m.0.after) m.1 =
      subst (λ (r : Answered Board × List ℕ). InOrder r.0.after r.1) e after_order in
      let count = count_mine board me m.0.after m.1 order mine (in_range me mine) in
      ap (told_by (run.count + 1) me (event_act event) board.settings.w) e
      ∙ ap (λ (x : Option ℕ). record {
        printed = row_of (record { number = run.count + 1; who = ProcessAt me (event_act event); answer = m.0.answer; «open» = x; w = board.settings.w });
        run = record { stage = Running (put_process board me m.0.after); words = m.1; count = run.count + 1 };
      }) (count ∙ ap (λ (t : Bool). cond t (Some (open_count m.0.after.opened board.settings.t)) None) (sym mine))

  -- an event of a process that the board has not
  past_told : (event : Event) (m : OneStep) → ltb (process_of event) board.settings.n ≡ false
      → entry event (state_of board run) ≡ stepped board 0 m
      → event_told board run event ≡ told_at (run.count + 1) board.settings (process_of event) (event_act event) board 0 m
  unfolding event_told numbered_row
  past_told event m past e =
      let me = process_of event in
      let order : InOrder (put_process board 0 m.0.after) m.1 =
      subst (λ (r : Answered Board × List ℕ). InOrder r.0.after r.1) e (order_after event (state_of board run) o) in
      let count = count_past (put_process board 0 m.0.after) me m.1 order past in
      ap (told_by (run.count + 1) me (event_act event) board.settings.w) e
      ∙ ap (λ (x : Option ℕ). record {
        printed = row_of (record { number = run.count + 1; who = ProcessAt me (event_act event); answer = m.0.answer; «open» = x; w = board.settings.w });
        run = record { stage = Running (put_process board 0 m.0.after); words = m.1; count = run.count + 1 };
      }) (count ∙ ap (λ (t : Bool). cond t (Some (open_count m.0.after.opened board.settings.t)) None) (sym past))

  -- either way, at the slot
  slot_told : (event : Event) (m : Process → OneStep)
      → (ltb (process_of event) board.settings.n ≡ true
      → entry event (state_of board run) ≡ stepped board (process_of event) (m (process_at board (process_of event))))
      → (ltb (process_of event) board.settings.n ≡ false
      → entry event (state_of board run) ≡ stepped board 0 (m (process_at board 0)))
      → event_told board run event
      ≡ told_at (run.count + 1) board.settings (process_of event) (event_act event) board (slot_in (process_of event) board.settings.n)
      (m (process_at board (slot_in (process_of event) board.settings.n)))
  slot_told event m mine past = go (ltb (process_of event) board.settings.n) refl
    where
      at : ℕ → Told
      at i = told_at (run.count + 1) board.settings (process_of event) (event_act event) board i (m (process_at board i))

      go : (t : Bool) → ltb (process_of event) board.settings.n ≡ t → event_told board run event ≡ at (cond t (process_of event) 0)
      go true e = mine_told event (m (process_at board (process_of event))) e (mine e)
      go false e = past_told event (m (process_at board 0)) e (past e)

  abbrev pub slot : Result Entry Refusal → ℕ
  slot asked = slot_of asked board.settings.n

  abbrev pub move : Result Entry Refusal → OneStep
  move asked = move_of board.settings asked (process_at board (slot asked)) run.words

  abbrev pub tells : Result Entry Refusal → Told
  tells asked =
      record {
        printed = row_of (row_by (run.count + 1) board.settings asked (move asked).0);
        run = record {
          stage = Running (put_process board (slot asked) (move asked).0.after);
          words = (move asked).1;
          count = run.count + 1;
        };
      }

  pub entry_told : (asked : Result Entry Refusal) → by_entry board run asked ≡ tells asked
  entry_told (Ok (Begin me call values)) =
      slot_told (begin me call values) (λ p. (begins board.settings me call values p, run.words))
      (λ mine. begun board run.words o call values me mine) (λ past. not_begun board run.words o call values me past)
  entry_told (Ok (Step me)) =
      slot_told (step me) (λ p. steps board.settings me p run.words)
      (λ mine. took board run.words o me mine) (λ past. not_took board run.words o me past)
  entry_told (Err why) =
      ap (λ (b : Board). record {
        printed = row_of (nobodys_row (run.count + 1) why);
        run = record { stage = Running b; words = run.words; count = run.count + 1 };
      }) (sym (same_board board 0))

  -- and the run is in order after it
  by_order : (asked : Result Entry Refusal) → OrderIn (by_entry board run asked).run.stage (by_entry board run asked).run.words
  unfolding event_told
  by_order (Ok (Begin me call values)) = order_after (begin me call values) (state_of board run) o
  by_order (Ok (Step me)) = order_after (step me) (state_of board run) o
  by_order (Err why) = o

  pub entry_order : (asked : Result Entry Refusal) → OrderIn (tells asked).run.stage (tells asked).run.words
  entry_order asked = subst (λ (t : Told). OrderIn t.run.stage t.run.words) (entry_told asked) (by_order asked)
