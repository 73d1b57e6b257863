-- Figure 4 of source document 001: one word. A step gives the process after it, with its answer, and the words after it.
use Rattle.std.specs.Prelude.{cond, List, [], ◌∷◌, ℕ, eqb, get_or, set}
use Rattle.word.specs.Word.{word, tag_of, value_of, next_tag}
use Rattle.rules.specs.Sizes.{bits, word_at, word_of}
use Rattle.rules.specs.Processes.{opening, closing, keeping, kept_of, ends}
use Rattle.rules.specs.Types.{Value, Yes, No, Ok, Answered, Process, Settings}

abbrev pub Step : Type 0
Step = Answered Process × List ℕ

-- lines 1 and 2: read the word, keep it whole, answer the value; the sequence opens
abbrev pub load_reads_word : Settings → Process → ℕ → List ℕ → Step
load_reads_word s p x words = (
  ends (Ok (Value (value_of (bits s) (word_of x words) ∷ 0 ∷ 0 ∷ 0 ∷ []))) (opening x (keeping x (word_of x words) p)),
  words,
)

-- line 3: read the word; yes exactly if it equals the keep-word
abbrev pub validate_reads_word : Settings → Process → ℕ → List ℕ → Step
validate_reads_word s p x words = (ends (Ok (cond (eqb (word_of x words) (kept_of x p)) Yes No)) p, words)

-- line 4: the new word is (next tag of the keep-word, new value)
abbrev pub new_word : Settings → Process → ℕ → ℕ
new_word s p x = word (bits s) (next_tag (bits s) (tag_of (bits s) (kept_of x p))) (get_or p.values 0 0)

-- line 4: compare-and-swap from the keep-word; the answer is whether it swapped; the sequence closes
abbrev pub store_swaps_word : Settings → Process → ℕ → List ℕ → Step
store_swaps_word s p x words =
    cond (eqb (word_of x words) (kept_of x p))
    (ends (Ok Yes) (closing x p), set words (word_at x) (new_word s p x))
    (ends (Ok No) (closing x p), words)
