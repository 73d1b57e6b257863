-- A record is gathered byte by byte in a lent line, up to its closing CR LF. Of a record of more than 513 bytes the first 513
-- are kept: it is refused 10, whatever else it holds.
use Rattle.std.specs.Prelude.{ℕ, ◌+◌, Bool, true, false, cond, ◌&&◌, List, [], ◌∷◌, eqb, ltb, set, take}
use Rattle.fields.specs.Bytes.{carriage_return, line_feed}
use Rattle.schedule.specs.declared.gather.Kept.{Kept}

abbrev pub line_length : ℕ
line_length = 513

-- a record so far: the lent line, how many bytes of it are the record's, and whether the record's last byte is a CR
pub record Held : Type 0 where
  pub line : List ℕ
  pub held : ℕ
  pub cr : Bool

-- a line with what is held of a record in it; nothing is held before the record's first byte
abbrev pub held_in : List ℕ → Kept → Held
held_in line held = record { line = line; held = held.len; cr = held.cr }

abbrev pub nothing : Kept
nothing = record { len = 0; cr = false }

abbrev pub bytes_of : Held → List ℕ
bytes_of h = take h.held h.line

abbrev pub nothing_held : List ℕ → Held
nothing_held line = held_in line nothing

unfoldable pub put : Held → ℕ → Held
put h byte =
    record {
      line = cond (ltb h.held line_length) (set h.line h.held byte) h.line;
      held = cond (ltb h.held line_length) (h.held + 1) h.held;
      cr = eqb byte carriage_return;
    }

-- a byte closes the record: an LF after a CR
unfoldable pub closes : Held → ℕ → Bool
closes h byte = eqb byte line_feed && h.cr

-- a record after some bytes, the bytes that are left, and whether it is closed
pub record Gathered : Type 0 where
  pub held : Held
  pub left : List ℕ
  pub closed : Bool

unfoldable pub gather_of : Held → List ℕ → Gathered
gather_of h [] = record { held = h; left = []; closed = false }
gather_of h (byte ∷ bytes) =
    cond (closes h byte)
    (record { held = put h byte; left = bytes; closed = true })
    (gather_of (put h byte) bytes)
