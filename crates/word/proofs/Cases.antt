-- Packing at its limits, by computation from the rule: b, tag and value at the last number that stands and at the first that
-- is refused. P1 and P2 of document 01 stand with its other schedules, in `rules`. Assumes nothing.
use Rattle.std.proofs.Common.{refl}
use Rattle.word.specs.Word.{word}
pub use Rattle.word.specs.Statements.{Limits}

pub limits : Limits
unfolding word
limits =
    record {
      bits_3 = refl;
      bits_4 = refl;
      bits_48 = refl;
      bits_49 = refl;
      tag_16 = refl;
      value_65536 = refl;
      unpacking_3 = refl;
    }
