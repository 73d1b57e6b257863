-- `new_header` meets its contract: the next tag is a tag and the own number a value, so that the word can be made. Assumes
-- nothing.
use native.Mathlib.Omega.{arith}
use Rattle.word.proofs.Laws.{tag_lt, next_lt}
use Rattle.rules.proofs.Sizes.Addresses.{number_fits}
use Rattle.many.proofs.store.new_header.Goals as goal

pub word_of-requires : goal.word_of-requires
word_of-requires c = grind (arith, tag_lt, next_lt, number_fits _ c.requires.0 c.requires.1)
