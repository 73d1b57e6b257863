-- What a writer does to the lent bytes: it puts bytes from a place on and changes no other byte.
use Rattle.std.specs.Prelude.{◌≡◌, List, ℕ, ◌+◌, length}
use Rattle.std.proofs.lemmas.List.Edits.{sets}
use Rattle.writing.specs.declared.writer.Writer.{Writer}

-- bytes from `at` on, and the place after them
pub record Put (before : List ℕ) (at : ℕ) (bytes after : List ℕ) (next : ℕ) : Type 0 where
  pub list : after ≡ sets before at bytes
  pub place : next ≡ at + length bytes

-- the same bytes are lent, whatever stands in them
pub record SameLent (before after : Writer) : Type 0 where
  pub name : after.bytes.ghost_name ≡ before.bytes.ghost_name
  pub long : length after.bytes.now ≡ length before.bytes.now

-- bytes put after those that are written
pub record Puts (before : Writer) (bytes : List ℕ) (after : Writer) : Type 0 where
  pub written : Put before.bytes.now before.len bytes after.bytes.now after.len
  pub same : SameLent before after
