-- Document 01's listing is printed as it stands there, by computation from the definitions. Assumes nothing.
use mathlib.Core.Path.{refl}
use Rattle.rules.proofs.Cases.Computing.{schedule as rules}
use Rattle.fields.specs.Form as record_form
use Rattle.fields.specs.Fields as fields
use Rattle.fields.specs.Number as number
use Rattle.fields.specs.Blanks as blanks
use Rattle.record.specs.Words as record_words
use Rattle.record.specs.Setup as setup
use Rattle.record.specs.Entries as schedule
use Rattle.fields.specs.Decimal as decimals
use Rattle.printout.specs.Row as row
use Rattle.answers.specs.Listing.{Listing}
use Rattle.answers.specs.Records.{records_from}
use Rattle.answers.specs.Run.{set_up_told, numbered_row, event_told, schedule_told, record_told, rows_of, printout_of}

pub holds : Listing
unfolding rules record_form.closed record_form.body_length record_form.body_of record_form.no_stray record_form.commas record_form.in_form fields.up_to_comma fields.past_comma fields.part_of fields.field_of number.all_digits number.zero_leads number.value_from number.number_case number.number_of blanks.blanks blanks.blank_from record_words.act_of record_words.kind_of setup.settings_from setup.settings_of schedule.values_read schedule.step_of schedule.call_of schedule.entry_in schedule.schedule_of decimals.decimal_in row.row_of records_from set_up_told numbered_row event_told schedule_told record_told rows_of printout_of
holds = refl
