-- `Layout::word_of` meets its contract: the sum fits a word because tag and value are in range. Assumes nothing.
use Rattle.word.specs.Word.{word, tag_limit, value_limit}
use Rattle.std.proofs.Common.{◌≡◌, ℕ, ◌+◌, ◌*◌, ◌^◌, ◌<◌, ◌≤◌, sym, subst, le-add_right, Fits-le, w64, Fits}
use Rattle.word.proofs.Laws as laws
use Rattle.word.proofs.Layout.word_of.Goals as goal

fit : (b : ℕ) → b ≤ 48 → {t v n : ℕ} → t < tag_limit b → v < value_limit b → n ≡ value_limit b → Fits w64 (t * n + v)
unfolding word
fit b h {t} {v} ht hv e = record { fits = subst (λ (k : ℕ). t * k + v < 2 ^ 64) (sym e) (laws.word_lt b h ht hv) }

pub overflow_mul-result : goal.overflow_mul-result
overflow_mul-result c =
    Fits-le (le-add_right _ _) (fit c.args.self.bits c.requires.1 c.requires.2 c.requires.3 c.value_limit.ensures)

pub overflow_add-result : goal.overflow_add-result
overflow_add-result c = fit c.args.self.bits c.requires.1 c.requires.2 c.requires.3 c.value_limit.ensures
