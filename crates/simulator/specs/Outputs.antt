-- The bytes that wait for standard output, and how many were written to it.
use Rattle.std.specs.Prelude.{ℕ, ◌+◌, ◌-◌, ◌≡◌, Bool, true, false, cond, ltb}
use Rattle.printout.specs.Writing.{longest_row}
use Rattle.simulator.specs.declared.output.Output.{Output}

-- what waited is written, once, and counted; or a write has failed, and nothing is counted from then on
pub record Flushes (before after : Output) : Type 0 where
  pub empty : after.len ≡ 0
  pub stays : before.failed ≡ true → after.failed ≡ true
  pub counted : after.written ≡ before.written + cond after.failed 0 before.len

-- where there may be no room for another row what waits is written, else all is as it was
abbrev pub RoomMade : Bool → Output → Output → Type 0
RoomMade true before after = Flushes before after
RoomMade false before after = after ≡ before

abbrev pub MakesRoom : ℕ → Output → Output → Type 0
MakesRoom lent before after = RoomMade (ltb (lent - before.len) longest_row) before after

-- so many bytes more are written where no write has failed
pub record Counts (before : Output) (bytes : ℕ) (after : Output) : Type 0 where
  pub unfailed : after.failed ≡ false → before.failed ≡ false
  pub counted : after.failed ≡ false → after.written ≡ before.written + bytes
