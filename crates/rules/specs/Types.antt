-- The types of src/lib.rt with their cases, and the refusals of `word`, for every file to name by one line.
pub use Rattle.word.specs.declared.Refusal.{Refusal, TheVariants.SettingOutsideSizes, TheVariants.MemoryTooShort, TheVariants.NotInGoodForm, TheVariants.NoSuchProcess, TheVariants.NoSuchVariable, TheVariants.CallInProgress, TheVariants.NoOpenSequence, TheVariants.ValueTooGreat, TheVariants.ProcessIdle}
pub use Rattle.rules.specs.declared.Kind.{Kind, TheVariants.One, TheVariants.Many}
pub use Rattle.rules.specs.declared.Settings.{Settings}
pub use Rattle.rules.specs.declared.Call.{Call, TheVariants.Load, TheVariants.Validate, TheVariants.Store}
pub use Rattle.rules.specs.declared.Copy.{Copy}
pub use Rattle.rules.specs.declared.Place.{Place, TheVariants.Idle, TheVariants.LoadReadsWord, TheVariants.ValidateReadsWord, TheVariants.StoreSwapsWord, TheVariants.LoadReadsHeader, TheVariants.ValidateReadsHeader, TheVariants.StoreReadsHeader, TheVariants.StoreAnnounces, TheVariants.StoreSwapsHeader, TheVariants.ReadsSegment, TheVariants.ReadsAnnounced, TheVariants.SwapsSegment, TheVariants.ReadsSegmentAgain, TheVariants.ReadsHeader}
pub use Rattle.rules.specs.declared.Process.{Process}
pub use Rattle.rules.specs.declared.Board.{Board}
pub use Rattle.rules.specs.declared.Answer.{Answer, TheVariants.Begun, TheVariants.Busy, TheVariants.Value, TheVariants.Witness, TheVariants.Yes, TheVariants.No}
pub use Rattle.rules.specs.declared.Answered.{Answered}
pub use Rattle.std.specs.Prelude.{Result, Ok, Err}

-- what an entry point answers to a begin or a step: an answer, or a refusal
abbrev pub Reply : Type 0
Reply = Result Answer Refusal
