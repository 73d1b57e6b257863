-- A means of proof: the rules over versions in place of tags. A version is never used twice; beside the shared words the
-- machine keeps every value ever stored, who stored it, and what the onlooker saw. One process at one variable.
use mathlib.Core.Bool.{Bool, true, false, ◌&&◌}
use Prim.Native.Nat.{ℕ, suc, ◌+◌}
use lib.Dec.{eqb, ltb}
use Rattle.rules.specs.Figure2.{change}
use Rattle.rules.specs.Onlooker.{Note, quiet, begins, loads, checks, stores, Seen, see}
use Rattle.rules.specs.Types.{Kind, One, Many}

-- a word: its version and its value
pub record Versioned : Type 0 where
  pub version : ℕ
  pub value : ℕ

abbrev pub stamp : ℕ → ℕ → Versioned
stamp t a = record { version = t; value = a }

abbrev pub same : Versioned → Versioned → Bool
same a b = eqb a.version b.version && eqb a.value b.value

-- what a step answers
pub data Told : Type 0 where
  busy : Told
  values : (ℕ → ℕ) → Told
  witness : ℕ → Told
  sure : Bool → Told

-- Copy's next access, with the word read, the announced value, the segment's value
pub data Phase : Type 0 where
  reads_segment : Phase
  reads_announced : Versioned → Phase
  swaps_segment : Versioned → ℕ → Phase
  reads_again : Phase
  reads_header : ℕ → Phase

-- Copy in a load, with what it has gathered; Copy in a store
pub data Aim : Type 0 where
  load : (ℕ → ℕ) → Aim
  store : Aim

-- where a process stands in its call, with the new values and the header read
pub data Place : Type 0 where
  idle load_reads validate_reads : Place
  store_reads : (ℕ → ℕ) → Place
  announces : (ℕ → ℕ) → Versioned → ℕ → Place
  swaps_header : (ℕ → ℕ) → Versioned → Place
  copies : Aim → Versioned → ℕ → Phase → Place

abbrev pub gather : Aim → ℕ → ℕ → Aim
gather (load g) i a = load (change g i a)
gather store i a = store

-- what a process holds for a variable: the version that it kept, the value beside it (kind `one`), and whether its
-- sequence is open
pub record Sequence : Type 0 where
  pub kept : ℕ
  pub kept_value : ℕ
  pub opened : Bool

-- the keep-word of kind `one`
abbrev pub kept_word : Sequence → Versioned
kept_word s = stamp s.kept s.kept_value

abbrev pub shut : Sequence → Sequence
shut s = record { kept = s.kept; kept_value = s.kept_value; opened = false }

-- a variable: its header (kind `one`: its word) and segments, what was seen of it, and its history by version
pub record Var : Type 0 where
  pub header : Versioned
  pub segment : ℕ → Versioned
  pub seen : Seen
  pub stored : ℕ → ℕ → ℕ
  pub storer : ℕ → ℕ

-- a step writes one word at most: the header, a segment, or a place of the process's own announce row
pub data Put : Type 0 where
  none : Put
  puts_header : Versioned → Put
  puts_segment : ℕ → Versioned → Put
  puts_row : ℕ → ℕ → Put

-- what a step does
pub record Core : Type 0 where
  pub put : Put
  pub sequence : Sequence
  pub place : Place
  pub told : Told
  pub note : Note

-- what a step leaves
pub record Out : Type 0 where
  pub var : Var
  pub row : ℕ → ℕ
  pub sequence : Sequence
  pub place : Place
  pub told : Told
  pub note : Note

abbrev pub header_after : Put → Versioned → Versioned
header_after none h = h
header_after (puts_header w) h = w
header_after (puts_segment i w) h = h
header_after (puts_row i a) h = h

abbrev pub segment_after : Put → (ℕ → Versioned) → ℕ → Versioned
segment_after none f = f
segment_after (puts_header w) f = f
segment_after (puts_segment i w) f = change f i w
segment_after (puts_row i a) f = f

abbrev pub row_after : Put → (ℕ → ℕ) → ℕ → ℕ
row_after none r = r
row_after (puts_header w) r = r
row_after (puts_segment i w) r = r
row_after (puts_row i a) r = change r i a

-- the history grows where a header is put
abbrev pub stored_after : Put → Note → (ℕ → ℕ → ℕ) → ℕ → ℕ → ℕ
stored_after none n f = f
stored_after (puts_header w) quiet f = f
stored_after (puts_header w) begins f = f
stored_after (puts_header w) loads f = f
stored_after (puts_header w) checks f = f
stored_after (puts_header w) (stores new b) f = change f w.version new
stored_after (puts_segment i w) n f = f
stored_after (puts_row i a) n f = f

abbrev pub storer_after : ℕ → Put → (ℕ → ℕ) → ℕ → ℕ
storer_after p none f = f
storer_after p (puts_header w) f = change f w.version p
storer_after p (puts_segment i w) f = f
storer_after p (puts_row i a) f = f

abbrev pub leaves : ℕ → Var → (ℕ → ℕ) → Core → Out
leaves p v row c =
    record {
      var = record {
        header = header_after c.put v.header;
        segment = segment_after c.put v.segment;
        seen = see p c.note v.seen;
        stored = stored_after c.put c.note v.stored;
        storer = storer_after p c.put v.storer;
      };
      row = row_after c.put row;
      sequence = c.sequence;
      place = c.place;
      told = c.told;
      note = c.note;
    }

-- p begins a call there
abbrev pub anew : ℕ → Var → Var
anew p v = record { header = v.header; segment = v.segment; seen = see p begins v.seen; stored = v.stored; storer = v.storer }

-- process p at the variable v; W segments
module _ (W p : ℕ) (v : Var) (rows : ℕ → ℕ → ℕ) (s : Sequence) where
  -- a step that only reads
  abbrev pub goes : Place → Core
  goes pl = record { put = none; sequence = s; place = pl; told = busy; note = quiet }

  abbrev pub ends : Sequence → Told → Note → Core
  ends s' a n = record { put = none; sequence = s'; place = idle; told = a; note = n }

  abbrev pub refuses : (ℕ → ℕ) → Core
  refuses new = ends (shut s) (sure false) (stores new false)

  abbrev pub on_read : Bool → (ℕ → ℕ) → Core
  on_read true new = goes (announces new v.header 0)
  on_read false new = refuses new

  abbrev pub on_announced : Bool → (ℕ → ℕ) → Versioned → ℕ → Core
  on_announced true new h i = record { put = puts_row i (new i); sequence = s; place = announces new h (i + 1); told = busy; note = quiet }
  on_announced false new h i = record { put = puts_row i (new i); sequence = s; place = swaps_header new h; told = busy; note = quiet }

  abbrev pub on_swap : Bool → (ℕ → ℕ) → Versioned → Core
  on_swap true new h =
      record {
        put = puts_header (stamp (suc h.version) p);
        sequence = s;
        place = copies store (stamp (suc h.version) p) 0 reads_segment;
        told = busy;
        note = stores new true;
      }
  on_swap false new h = refuses new

  abbrev pub on_segment : Bool → Aim → Versioned → ℕ → Core
  on_segment true a h i = goes (copies a h i (reads_announced (v.segment i)))
  on_segment false a h i = goes (copies a h i (reads_header (v.segment i).value))

  abbrev pub on_segment_swap : Bool → Aim → Versioned → ℕ → ℕ → Core
  on_segment_swap true a h i z =
      record {
        put = puts_segment i (stamp h.version z);
        sequence = s;
        place = copies a h i (reads_header z);
        told = busy;
        note = quiet;
      }
  on_segment_swap false a h i z = goes (copies a h i reads_again)

  abbrev pub through : Aim → Core
  through (load g) = ends s (values g) quiet
  through store = ends (shut s) (sure true) quiet

  abbrev pub cut_short : Aim → Core
  cut_short (load g) = ends s (witness v.header.value) quiet
  cut_short store = ends (shut s) (sure true) quiet

  -- the same header?, a segment more?
  abbrev pub on_header : Bool → Bool → Aim → Versioned → ℕ → ℕ → Core
  on_header true true a h i y = goes (copies (gather a i y) h (i + 1) reads_segment)
  on_header true false a h i y = through (gather a i y)
  on_header false more a h i y = cut_short a

  -- kind `many`
  unfoldable pub rule : Place → Core
  rule idle = goes idle
  rule load_reads =
      record {
        put = none;
        sequence = record { kept = v.header.version; kept_value = 0; opened = true };
        place = copies (load (λ i. 0)) v.header 0 reads_segment;
        told = busy;
        note = loads;
      }
  rule validate_reads = ends s (sure (eqb v.header.version s.kept)) checks
  rule (store_reads new) = on_read (eqb v.header.version s.kept) new
  rule (announces new h i) = on_announced (ltb (i + 1) W) new h i
  rule (swaps_header new h) = on_swap (same v.header h) new h
  rule (copies a h i reads_segment) = on_segment (eqb (suc (v.segment i).version) h.version) a h i
  rule (copies a h i (reads_announced y)) = goes (copies a h i (swaps_segment y (rows h.value i)))
  rule (copies a h i (swaps_segment y z)) = on_segment_swap (same (v.segment i) y) a h i z
  rule (copies a h i reads_again) = goes (copies a h i (reads_header (v.segment i).value))
  rule (copies a h i (reads_header y)) = on_header (same v.header h) (ltb (i + 1) W) a h i y

  -- kind `one`: the header is the word
  abbrev pub on_word_swap : Bool → (ℕ → ℕ) → Core
  on_word_swap true new =
      record {
        put = puts_header (stamp (suc v.header.version) (new 0));
        sequence = shut s;
        place = idle;
        told = sure true;
        note = stores new true;
      }
  on_word_swap false new = refuses new

  unfoldable pub rule_one : Place → Core
  rule_one idle = goes idle
  rule_one load_reads =
      ends (record { kept = v.header.version; kept_value = v.header.value; opened = true }) (values (λ i. v.header.value)) loads
  rule_one validate_reads = ends s (sure (same v.header (kept_word s))) checks
  rule_one (store_reads new) = on_word_swap (same v.header (kept_word s)) new
  rule_one (announces new h i) = goes idle
  rule_one (swaps_header new h) = goes idle
  rule_one (copies a h i ph) = goes idle

abbrev pub rules : Kind → ℕ → ℕ → Var → (ℕ → ℕ → ℕ) → Sequence → Place → Core
rules One W p v rows s pl = rule_one 1 p v rows s pl
rules Many W p v rows s pl = rule W p v rows s pl

abbrev pub acts : Kind → ℕ → ℕ → Var → (ℕ → ℕ → ℕ) → Sequence → Place → Out
acts k W p v rows s pl = leaves p v (rows p) (rules k W p v rows s pl)
