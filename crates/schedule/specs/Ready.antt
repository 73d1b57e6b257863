-- A session is ready to go on: its board is in order where it runs, and a line of 513 bytes is lent.
use Rattle.std.specs.Prelude.{ℕ, ◌≤◌, ◌≡◌, List, length}
use Rattle.schedule.specs.Gathering.{line_length}
use Rattle.schedule.specs.declared.Session.{Session}
use Rattle.answers.specs.Order.{OrderIn}

-- a session with the line and the words that are lent to it
pub record Ready (session : Session) (line words : List ℕ) : Type 0 where
  pub order : OrderIn session.stage words
  pub held : session.held.len ≤ line_length
  pub long : length line ≡ line_length
