-- The line keeps what matters of a record: whether its next byte closes it, and what it says. Assumes nothing.
use Prim.Native.Nat.{ℕ, ◌+◌, ◌-◌, ◌≤◌, ◌<◌}
use mathlib.Core.Path.{◌≡◌, refl, sym, ap, ◌∙◌}
use mathlib.Core.Bool.{Bool, true, false, cond, ◌&&◌}
use mathlib.Core.List.{List, [], ◌∷◌, ◌++◌}
use native.Mathlib.Numerals.{add-one}
use native.Mathlib.Omega.{arith}
use borrow.Author.Tests.{ltb-true, ltb-false, lt-leb, le-leb, lt-ltb, le-ltb}
use lib.Dec.{eqb, leb, ltb}
use lib.ListN.{length, get_or, take, length-append, length-set, get_or-append}
use lib.Seq.{take-append-le, take_all, take-suc-set, get_or-append_seam, length-take-le}
use Rattle.fields.specs.Form.{closed, in_form}
use Rattle.std.specs.Prelude.{Result, Err}
use Rattle.record.specs.Entries.{schedule_of}
use Rattle.record.specs.Setup.{settings_of}
use Rattle.record.specs.declared.entries.Entry.{Entry}
use Rattle.word.specs.declared.Refusal.{Refusal}
use Rattle.word.specs.declared.Refusal.TheVariants.{RecordNotInForm}
use Rattle.schedule.specs.Gathering.{Held, line_length, bytes_of, nothing_held, put, closes}
use Rattle.answers.specs.Run.{Run, by_settings, set_up_told, by_entry, most_records, too_many_told, schedule_told, told_in, record_told}
use Rattle.answers.specs.declared.Stage.{Stage}
use Rattle.answers.specs.declared.Stage.TheVariants.{Waiting, Running, Over}

-- a record's last byte is a CR
abbrev pub ends_in_cr : List ℕ → Bool
ends_in_cr part = leb 1 (length part) && eqb (get_or part (length part - 1) 0) 13

-- the line holds the first 513 bytes of a record
pub record Keeps (h : Held) (part : List ℕ) : Type 0 where
  pub long : length h.line ≡ line_length
  pub bytes : bytes_of h ≡ take line_length part
  pub count : h.held ≡ length (take line_length part)
  pub cr : h.cr ≡ ends_in_cr part

pub keeps_nothing : (line : List ℕ) → length line ≡ line_length → Keeps (nothing_held line) []
keeps_nothing line long = record { long = long; bytes = refl; count = refl; cr = refl }

and_swap : (a b : Bool) → a && b ≡ b && a
and_swap true true = refl
and_swap true false = refl
and_swap false true = refl
and_swap false false = refl

-- with the last byte of what stands before it
ends_or : (part : List ℕ) (byte : ℕ) → 1 ≤ length part
    → closed (part ++ byte ∷ []) ≡ eqb (get_or part (length part - 1) 0) 13 && eqb byte 10
unfolding closed
ends_or part byte h =
    let long : length (part ++ byte ∷ []) ≡ length part + 1 = length-append part (byte ∷ []) in
    let two : leb 2 (length (part ++ byte ∷ [])) ≡ true = le-leb 2 (length (part ++ byte ∷ [])) (omega arith) in
    let one : length (part ++ byte ∷ []) - 2 ≡ length part - 1 = omega arith in
    let last : length (part ++ byte ∷ []) - 1 ≡ length part = omega arith in
    let before : get_or (part ++ byte ∷ []) (length part - 1) 0 ≡ get_or part (length part - 1) 0 =
    get_or-append part (byte ∷ []) 0 (length part - 1) (omega arith) in
    rw (two, one, last, before, get_or-append_seam part byte [] 0)

none_closed : (byte : ℕ) → closed (byte ∷ []) ≡ false
unfolding closed
none_closed byte = refl

-- the next byte closes the line's record where it closes the record
pub closes_kept : (h : Held) (part : List ℕ) (byte : ℕ) → Keeps h part → closed (part ++ byte ∷ []) ≡ closes h byte
unfolding closes
closes_kept h [] byte k = none_closed byte ∙ and_swap false (eqb byte 10) ∙ ap (λ (cr : Bool). eqb byte 10 && cr) (sym k.cr)
closes_kept h (x ∷ part) byte k =
    let some : 1 ≤ length (x ∷ part) = omega arith in
    ends_or (x ∷ part) byte some
    ∙ and_swap (eqb (get_or (x ∷ part) (length (x ∷ part) - 1) 0) 13) (eqb byte 10)
    ∙ ap (λ (cr : Bool). eqb byte 10 && cr) (sym (k.cr ∙ rw (le-leb 1 (length (x ∷ part)) some)))

-- a byte more
cr_after : (part : List ℕ) (byte : ℕ) → eqb byte 13 ≡ ends_in_cr (part ++ byte ∷ [])
cr_after part byte =
    let long : length (part ++ byte ∷ []) ≡ length part + 1 = length-append part (byte ∷ []) in
    let one : leb 1 (length (part ++ byte ∷ [])) ≡ true = le-leb 1 (length (part ++ byte ∷ [])) (omega arith) in
    let last : length (part ++ byte ∷ []) - 1 ≡ length part = omega arith in
    rw (one, last, get_or-append_seam part byte [] 0)

pub put_kept : (h : Held) (part : List ℕ) (byte : ℕ) → Keeps h part → Keeps (put h byte) (part ++ byte ∷ [])
unfolding put
put_kept h part byte k = go (ltb (length part) line_length) refl
  where
    long : length (part ++ byte ∷ []) ≡ length part + 1
    long = length-append part (byte ∷ [])

    short : length part < line_length → Keeps (put h byte) (part ++ byte ∷ [])
    short l =
        let whole : take line_length part ≡ part = take_all line_length part (omega arith) in
        let whole_too : take line_length (part ++ byte ∷ []) ≡ part ++ byte ∷ [] =
        take_all line_length (part ++ byte ∷ []) (omega (arith, long)) in
        let count : h.held ≡ length part = k.count ∙ ap length whole in
        let room : ltb h.held line_length ≡ true = lt-ltb h.held line_length (omega arith) in
        let inside : h.held < length h.line = omega (arith, k.long) in
        record {
          long = rw room (length-set h.line h.held byte ∙ k.long);
          bytes = rw (room, add-one, take-suc-set h.line h.held byte inside, k.bytes, whole, whole_too);
          count = rw (room, whole_too, count, long);
          cr = cr_after part byte;
        }

    full : line_length ≤ length part → Keeps (put h byte) (part ++ byte ∷ [])
    full l =
        let held : h.held ≡ line_length = k.count ∙ length-take-le line_length part l in
        let room : ltb h.held line_length ≡ false = le-ltb h.held line_length (omega arith) in
        let same : take line_length (part ++ byte ∷ []) ≡ take line_length part = take-append-le line_length part (byte ∷ []) l in
        record {
          long = rw room k.long;
          bytes = rw (room, same) k.bytes;
          count = rw (room, same) k.count;
          cr = cr_after part byte;
        }

    go : (t : Bool) → ltb (length part) line_length ≡ t → Keeps (put h byte) (part ++ byte ∷ [])
    go true e = short (ltb-true _ _ e)
    go false e = full (ltb-false _ _ e)

-- a record over 512 bytes says what its first 513 bytes say
too_long : (bytes : List ℕ) → 512 < length bytes → in_form bytes ≡ false
unfolding in_form
too_long bytes l = rw (lt-leb (length bytes) 512 l)

settings_long : (bytes : List ℕ) → 512 < length bytes → settings_of bytes ≡ Err RecordNotInForm
unfolding settings_of
settings_long bytes l = rw (too_long bytes l)

schedule_long : (bytes : List ℕ) (w : ℕ) → 512 < length bytes → schedule_of bytes w ≡ Err RecordNotInForm
unfolding schedule_of
schedule_long bytes w l = rw (too_long bytes l)

module _ (a b : List ℕ) (la : 512 < length a) (lb : 512 < length b) where
  long_same : (s : Stage) (run : Run) → told_in s run a ≡ told_in s run b
  unfolding set_up_told schedule_told
  long_same Waiting run = ap (by_settings run) (settings_long a la ∙ sym (settings_long b lb))
  long_same (Running board) run =
      ap (λ (r : Result Entry Refusal). cond (ltb run.count most_records) (by_entry board run r) (too_many_told run))
      (schedule_long a _ la ∙ sym (schedule_long b _ lb))
  long_same Over run = refl

pub told_kept : (h : Held) (part : List ℕ) → Keeps h part → (run : Run) → record_told run (bytes_of h) ≡ record_told run part
unfolding record_told
told_kept h part k run = ap (record_told run) k.bytes ∙ go (ltb (length part) line_length) refl
  where
    go : (t : Bool) → ltb (length part) line_length ≡ t → record_told run (take line_length part) ≡ record_told run part
    go true e = let l = ltb-true (length part) line_length e in ap (record_told run) (take_all line_length part (omega arith))
    go false e =
        let l = ltb-false (length part) line_length e in
        long_same (take line_length part) part (omega (arith, length-take-le line_length part l)) (omega arith) run.stage run
