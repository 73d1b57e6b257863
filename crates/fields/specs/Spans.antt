-- Where the fields of a record lie in it, and what a part of a record is: its bytes, and its place in memory.
use Rattle.std.specs.Prelude.{ℕ, zero, suc, ◌+◌, ◌-◌, ◌≡◌, cond, List, [], ◌∷◌, eqb, take, drop}
use Rattle.std.specs.Borrow.{Bor}
use Rattle.fields.specs.Bytes.{comma}
use Rattle.fields.specs.Form.{body_length, body_of}
use Rattle.fields.specs.declared.spans.Span.{Span}

-- where part k starts: past the k-th comma; at the end where there are fewer
unfoldable pub start_of : List ℕ → ℕ → ℕ
start_of [] k = 0
start_of (x ∷ xs) zero = 0
start_of (x ∷ xs) (suc k) = suc (start_of xs (cond (eqb x comma) k (suc k)))

-- how many bytes stand before the first comma; all where there is none
unfoldable pub to_comma : List ℕ → ℕ
to_comma [] = 0
to_comma (x ∷ xs) = cond (eqb x comma) 0 (suc (to_comma xs))

-- where the part that starts at `start` ends: at the next comma, or at the end
abbrev pub end_from : List ℕ → ℕ → ℕ
end_from s start = start + to_comma (drop start s)

abbrev pub span_from : List ℕ → ℕ → Span
span_from s start = record { start = start; end = end_from s start }

-- field k, within the body
unfoldable pub span_of : List ℕ → ℕ → Span
span_of s k = span_from (body_of s) (start_of (body_of s) k)

abbrev pub body_span : List ℕ → Span
body_span s = record { start = 0; end = body_length s }

-- the bytes from the span's start to its end
abbrev pub bytes_in : Span → List ℕ → List ℕ
bytes_in span s = take (span.end - span.start) (drop span.start s)

-- `part` is the part of `whole` that the span tells: its bytes, in the same block of memory, `start` bytes after where `whole` lies
pub record PartAt (span : Span) (whole part : Bor (List ℕ)) : Type 0 where
  pub bytes : part.now ≡ bytes_in span whole.now
  pub block : part.ref_ptr.0 ≡ whole.ref_ptr.0
  pub offset : part.ref_ptr.1 ≡ whole.ref_ptr.1 + span.start
