-- Document 01, "Refusal numbers": the number of each refusal, and what an answer tells by numbers.
use Rattle.std.specs.Prelude.{ℕ, List, [], Result, Ok, Err}
use Rattle.word.specs.declared.Refusal.{Refusal}
use Rattle.word.specs.declared.Refusal.TheVariants.{SettingOutsideSizes, MemoryTooShort, NotInGoodForm, NoSuchProcess, NoSuchVariable, CallInProgress, NoOpenSequence, ValueTooGreat, ProcessIdle, RecordNotInForm, FieldNotInForm, TooManyRecords}

abbrev pub number : Refusal → ℕ
number SettingOutsideSizes = 1
number MemoryTooShort = 2
number NotInGoodForm = 3
number NoSuchProcess = 4
number NoSuchVariable = 5
number CallInProgress = 6
number NoOpenSequence = 7
number ValueTooGreat = 8
number ProcessIdle = 9
number RecordNotInForm = 10
number FieldNotInForm = 11
number TooManyRecords = 12

-- what an answer tells: the number of its refusal, 0 where it is not refused; and its values
abbrev pub Told : Type 0
Told = ℕ × List ℕ

-- a refusal tells its number and nothing else
abbrev pub told : {A : Type 0} → (A → List ℕ) → Result A Refusal → Told
told values (Ok answer) = (0, values answer)
told values (Err refusal) = (number refusal, [])

-- the number alone
abbrev pub told_number : {A : Type 0} → Result A Refusal → ℕ
told_number (Ok answer) = 0
told_number (Err refusal) = number refusal
