-- What gathering and feeding the bytes of a chunk leave: the line and the record in it are those of `gather_of`; the session, the
-- line, the words, the output and the bytes left are those of `feed_of`, and the session is ready to go on.
use Rattle.std.specs.Prelude.{ℕ, ◌≤◌, ◌≡◌, List, length, drop}
use Rattle.writing.specs.Put.{SameLent}
use Rattle.writing.specs.declared.writer.Writer.{Writer}
use Rattle.schedule.specs.Feeding.{Feeding, feeding_to, feed_of}
use Rattle.schedule.specs.Gathering.{line_length, held_in, gather_of}
use Rattle.schedule.specs.Ready.{Ready}
use Rattle.schedule.specs.declared.Session.{Session}
use Rattle.schedule.specs.declared.Fed.{Fed}
use Rattle.schedule.specs.declared.gather.Kept.{Kept}
use Rattle.schedule.specs.declared.gather.Found.{Found}

-- the chunk's bytes are gathered from `at` on, after what is held in the line; those from `r.next` on are left
pub record Gathers (held : Kept) (chunk : List ℕ) (at : ℕ) (line : List ℕ) (r : Found) (line_after : List ℕ) : Type 0 where
  pub gathered : record { held = held_in line_after r.held; left = drop r.next chunk; closed = r.closed }
      ≡ gather_of (held_in line held) (drop at chunk)
  pub kept : r.held.len ≤ line_length
  pub within : r.next ≤ length chunk
  pub long : length line_after ≡ line_length

-- the chunk's bytes are fed from `at` on; those from `r.next` on are left
pub record Feeds (session : Session) (chunk : List ℕ) (at : ℕ) (line words : List ℕ) (out : Writer)
    (r : Fed) (line_after words_after : List ℕ) (out_after : Writer) : Type 0 where
  pub fed : ◌≡◌ {A = Feeding × List ℕ} (feeding_to r.session line_after words_after out_after, drop r.next chunk)
      (feed_of (feeding_to session line words out) (drop at chunk))
  pub ready : Ready r.session line_after words_after
  pub within : r.next ≤ length chunk
  pub same : SameLent out out_after
