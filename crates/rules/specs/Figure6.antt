-- Figure 6 of source document 001, with document 01's mended line: many segments. A step gives the process after it,
-- with its answer, and the words after it. The numbers are the figure's lines.
use Rattle.std.specs.Prelude.{true, false, cond, List, ℕ, ◌+◌, eqb, ltb, get_or, set}
use Rattle.word.specs.Word.{word, tag_of, value_of, next_tag, previous_tag}
use Rattle.rules.specs.Figure4.{Step}
use Rattle.rules.specs.Processes.{opening, closing, keeping, kept_of, gathering, gathering_anew, goes_on, ends}
use Rattle.rules.specs.Sizes.{bits, header_at, segment_at, announce_at, header_of, segment_of, announced_of}
use Rattle.rules.specs.Types.{Value, Witness, Yes, No, Ok, Copy, Answered, StoreAnnounces, StoreSwapsHeader, ReadsSegment, ReadsAnnounced, SwapsSegment, ReadsSegmentAgain, ReadsHeader, Process, Settings}

-- 10, 11, 12: read the header, keep its tag, then Copy with that header, gathering values; the sequence opens
abbrev pub load_reads_header : Settings → Process → ℕ → List ℕ → Step
load_reads_header s p x words = (
  goes_on (ReadsSegment (record { variable = x; header = header_of s x words; segment = 0; gathers = true }))
      (opening x (keeping x (tag_of (bits s) (header_of s x words)) (gathering_anew p))),
  words,
)

-- 13: read the header; yes exactly if its tag is the kept one
abbrev pub validate_reads_header : Settings → Process → ℕ → List ℕ → Step
validate_reads_header s p x words = (ends (Ok (cond (eqb (tag_of (bits s) (header_of s x words)) (kept_of x p)) Yes No)) p, words)

-- 14, 15: read the header; if its tag is not the kept one, no, and the sequence closes
abbrev pub store_reads_header : Settings → Process → ℕ → List ℕ → Step
store_reads_header s p x words =
    cond (eqb (tag_of (bits s) (header_of s x words)) (kept_of x p))
    (goes_on (StoreAnnounces x (header_of s x words) 0) p, words)
    (ends (Ok No) (closing x p), words)

-- 16, 17: write the values into the own announce row, one a step
abbrev pub store_announces : Settings → Process → ℕ → ℕ → ℕ → ℕ → List ℕ → Step
store_announces s p me x header i words = (
  goes_on (cond (ltb (i + 1) s.w) (StoreAnnounces x header (i + 1)) (StoreSwapsHeader x header)) p,
  set words (announce_at s me i) (get_or p.values i 0),
)

-- 18: the new header is (the next tag of the one read, own number)
abbrev pub new_header : Settings → ℕ → ℕ → ℕ
new_header s me header = word (bits s) (next_tag (bits s) (tag_of (bits s) header)) me

-- 19, 20: compare-and-swap the header from the one read; if that fails, no; else Copy with the new header
abbrev pub store_swaps_header : Settings → Process → ℕ → ℕ → ℕ → List ℕ → Step
store_swaps_header s p me x header words =
    cond (eqb (header_of s x words) header) (
      goes_on (ReadsSegment (record { variable = x; header = new_header s me header; segment = 0; gathers = false })) p,
      set words (header_at s x) (new_header s me header),
    )
    (ends (Ok No) (closing x p), words)

-- 2, 3: read the segment; is its tag the one before the header's?
abbrev pub reads_segment : Settings → Process → Copy → List ℕ → Step
reads_segment s p c words =
    cond
    (eqb (tag_of (bits s) (segment_of s c.variable c.segment words)) (previous_tag (bits s) (tag_of (bits s) c.header)))
    (goes_on (ReadsAnnounced c (segment_of s c.variable c.segment words)) p, words)
    (goes_on (ReadsHeader c (value_of (bits s) (segment_of s c.variable c.segment words))) p, words)

-- 4: read the announced value of the header's process at this place
abbrev pub reads_announced : Settings → Process → Copy → ℕ → List ℕ → Step
reads_announced s p c read words =
    (goes_on (SwapsSegment c read (announced_of s (value_of (bits s) c.header) c.segment words)) p, words)

-- 5: compare-and-swap the segment from what was read to (header's tag, that value).
-- 6, mended: where the swap succeeded, that is the segment's content; where it failed, the segment is read again
abbrev pub swaps_segment : Settings → Process → Copy → ℕ → ℕ → List ℕ → Step
swaps_segment s p c read announced words =
    cond (eqb (segment_of s c.variable c.segment words) read) (
      goes_on (ReadsHeader c announced) p,
      set words (segment_at s c.variable c.segment) (word (bits s) (tag_of (bits s) c.header) announced),
    )
    (goes_on (ReadsSegmentAgain c) p, words)

-- 6, mended: one step more
abbrev pub reads_segment_again : Settings → Process → Copy → List ℕ → Step
reads_segment_again s p c words =
    (goes_on (ReadsHeader c (value_of (bits s) (segment_of s c.variable c.segment words))) p, words)

-- 8: a load saves the segment's value; a store gathers nothing
abbrev pub saving : Copy → ℕ → Process → Process
saving c value p = cond c.gathers (gathering c.segment value p) p

-- 9, 12 and 20, 21: Copy is through: a load answers the values; a store yes, and its sequence closes
abbrev pub copy_through : Copy → Process → Answered Process
copy_through c p = cond c.gathers (ends (Ok (Value p.gathered)) p) (ends (Ok Yes) (closing c.variable p))

-- 1: the next segment, or the end
abbrev pub copy_on : Settings → Copy → Process → Answered Process
copy_on s c p =
    cond (ltb (c.segment + 1) s.w)
    (goes_on (ReadsSegment (record { variable = c.variable; header = c.header; segment = c.segment + 1; gathers = c.gathers })) p)
    (copy_through c p)

-- 7: the header differs: end at once with the process named in the header just read; in a store yes in any case
abbrev pub copy_cut_short : Settings → Copy → ℕ → Process → Answered Process
copy_cut_short s c header p =
    cond c.gathers (ends (Ok (Witness (value_of (bits s) header))) p) (ends (Ok Yes) (closing c.variable p))

-- 7: read the header; does it differ from the one Copy was given?
abbrev pub reads_header : Settings → Process → Copy → ℕ → List ℕ → Step
reads_header s p c value words =
    cond (eqb (header_of s c.variable words) c.header)
    (copy_on s c (saving c value p), words)
    (copy_cut_short s c (header_of s c.variable words) p, words)
