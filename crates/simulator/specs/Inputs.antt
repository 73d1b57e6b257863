-- How much was read of standard input, and why reading stops.
use Rattle.std.specs.Prelude.{ℕ, ◌+◌, ◌-◌, ◌≤◌, ◌≡◌, Bool, ◌||◌, eqb, leb}
use Rattle.answers.specs.declared.Stage.{Stage}
use Rattle.schedule.specs.Feeding.{is_over}
use Rattle.simulator.specs.declared.input.Input.{Input}

-- one read into so many lent bytes: it gives some of them, or none, and then the input has ended
pub record Reads (before : Input) (lent : ℕ) (after : Input) : Type 0 where
  pub more : before.total ≤ after.total
  pub most : after.total ≤ before.total + lent
  pub ended : after.ended ≡ eqb after.total before.total

-- a count has 64 bits
abbrev pub count_limit : ℕ
count_limit = 18446744073709551616

abbrev pub buffer_length : ℕ
buffer_length = 65536

-- so many bytes that another read could give more than can be counted
abbrev pub most_read : ℕ
most_read = count_limit - buffer_length

-- the input has ended, the run is over, or so much was read
abbrev pub stopped : Input → Stage → Bool
stopped input stage = input.ended || is_over stage || leb most_read input.total
