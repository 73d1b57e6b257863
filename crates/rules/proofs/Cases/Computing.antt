-- A name for all that a schedule computes through: `unfolding schedule` opens every rule. Assumes nothing.
use Prim.Native.Nat.{ℕ}
use Rattle.word.specs.Word as words
use Rattle.rules.specs.Entry as entry
use Rattle.rules.specs.GoodForm as form
use Rattle.rules.specs.Processes as processes
use Rattle.rules.specs.Refusals as refusals
use Rattle.rules.specs.Runs.{rows, numbered_rows}
use Rattle.rules.specs.Sizes as sizes
use Rattle.rules.specs.Steps as steps

unfoldable pub schedule : ℕ
unfolding rows numbered_rows words.word words.tag_of words.value_of words.next_tag words.previous_tag sizes.settings_fit processes.with_open processes.with_closed processes.open_count steps.process_step form.all form.names form.value_fits form.one_place form.many_place form.one_place_open form.many_place_open form.header_held form.segment_held form.value_held form.values_fit form.kept_fit form.open_fits form.process_fits form.processes_fit form.headers_fit form.row_fits form.rows_fit form.words_fit form.in_good_form refusals.sizes_check refusals.process_check refusals.all_blank refusals.storable refusals.call_check refusals.begin_check refusals.step_check entry.set_up_rule entry.begin_rule entry.step_rule entry.open_count_rule
schedule = 0
