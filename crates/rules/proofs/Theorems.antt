-- An index of what is proved about the rules: each name here is a theorem, and the line above it says it in words.

-- P1 to P10 of document 01 hold
pub use Rattle.rules.proofs.Cases.Schedules.{hold}
-- the slips that look right and that P1 to P10 do not show are ruled out
pub use Rattle.rules.proofs.Cases.Slips.{Slips, ruled_out}
-- where two refusals apply, the one that document 01 checks first is given; values that are too great or too many get 8
pub use Rattle.rules.proofs.Cases.RefusalOrder.{Order, in_order, Values, values_refused}
-- each clause of good form passes at its limit, and is refused 3 past it
pub use Rattle.rules.proofs.Cases.FormCases.{ClauseLimits, every_clause}
-- each address is among the words used, and different places have different addresses
pub use Rattle.rules.proofs.Sizes.Addresses.{used_most, header_in, segment_in, announce_in, header_header, segment_segment, header_segment, header_announce, segment_announce, announce_announce}
-- packing and unpacking tell document 01's numbers and values, and undo each other
pub use Rattle.word.proofs.Packing.{told, number_told, undone, packed_unpacks, unpacked_packs}
-- a set-up and an open count tell the number that stands alone
pub use Rattle.rules.proofs.Stated.{numbers_told}
-- packing takes b, tag and value up to their limits, and refuses what is past them
pub use Rattle.word.proofs.Cases.{Limits, limits}
-- the tag after the greatest is 0, and the tag before 0 is the greatest; next and previous tag undo each other
pub use Rattle.word.proofs.Laws.{after_greatest, before_zero, previous_next, next_previous}
-- what opening and closing do, at every variable; they stay within the variables
pub use Rattle.rules.proofs.Sequences.Masks.{opens, open_in}
pub use Rattle.rules.proofs.Sequences.Closing.{closes, close_in}
-- opening or closing one variable's sequence changes no other's
pub use Rattle.rules.proofs.Sequences.Closing.{opening_opens, opening_no_other, closing_closes, closing_no_other}
-- the count of ones is the count over the variables; opening adds one, closing takes one off
pub use Rattle.rules.proofs.Stated.{ones_counted}
pub use Rattle.rules.proofs.Sequences.Counts.{count_none, opening_counts, closing_counts, reopening_counts, shut_counts}
-- a check is passed exactly if sizes, room, good form, process number and what the call needs are right
pub use Rattle.rules.proofs.Refusals.Checked.{Stands, stands, stands_fine, Accepted, accepted, accepted_fine, step_accepted, step_fine, Beginning, begin_accepted, begin_fine}
-- a refusal leaves board and words as found, and is answered exactly when its check finds it; every entry point refuses the
-- blank board 1
pub use Rattle.rules.proofs.Stated.{refusals_leave_all, refused_exactly, blank_refused}
-- what 1 to 4 find is answered before all else; past them, a step is that of its one process
pub use Rattle.rules.proofs.Refusals.Refusing.{begin_refused_first, step_refused_first}
pub use Rattle.rules.proofs.Refusals.OneProcess.{idle_step, step_served}
-- a fresh set-up is in good form, its words used are 0, and those past them are as lent
pub use Rattle.rules.proofs.GoodForm.Fresh.{set_up_accepted, set_up_in_form, fresh_zero, fresh_past, fresh_length}
-- every accepted begin and step keeps good form, and it holds after any events from an accepted set-up
pub use Rattle.rules.proofs.Stated.{good_form_kept}
-- at each place: a load's first step opens its sequence, a store's answer closes it; a step writes at most the word that
-- the place names, leaves the other variables' sequences and keep-words and the new values, and answers no refusal
pub use Rattle.rules.proofs.Changes.Frame.{Framed, framed}
-- one step is one access: it sees no word but the one at its place's address, changes no other, and that one is among the words used
pub use Rattle.rules.proofs.Changes.Access.{one_access}
-- the word that a step may write is its variable's or in the own announce row
pub use Rattle.rules.proofs.Changes.Reach.{Where, place_writes, writes_used}
-- neither a begin nor a step changes another process or the settings
pub use Rattle.rules.proofs.Changes.Leaves.{begin_no_other, step_no_other, begin_settings, step_settings}
-- a step changes no word past those used, none of another variable, none of another process's announce row
pub use Rattle.rules.proofs.Changes.Leaves.{step_rest, step_length, step_past, step_word, step_header, step_segment, step_row}
-- at the entry point: a load's first step opens its sequence, a store's answer closes it; no other variable's changes
pub use Rattle.rules.proofs.Changes.Leaves.{step_own, step_sequence, step_sequences}
-- demand 3: every answer is the atomic one, under the total premise and within a window; calls are as short as document 01 says
pub use Rattle.rules.proofs.Demand3.Holds.{holds, in_window}
-- the total premise of demand 3 gives the window premise
pub use Rattle.rules.proofs.Demand3.Window.{window_of_few}
-- runs that meet demand 3's premise to the last store, and one that shows it tight
pub use Rattle.rules.proofs.Demand3.Shown.{shown}
