-- Kind `many`: at each place a step of the board is the machine's, as long as the sequence is short. Assumes nothing.
use mathlib.Core.Path.{◌≡◌, refl, ap, sym, ◌∙◌, subst}
use mathlib.Core.Bool.{Bool, true, false}
use mathlib.Core.List.{List}
use Prim.Native.Nat.{ℕ, zero, suc, ◌+◌, ◌≤◌, ◌<◌}
use native.Mathlib.Omega.{arith}
use lib.Dec.{eqb, ltb}
use lib.ListN.{length, get_or, set, length-set}
use lib.Seq.{get_or-set_same, get_or-set_other}
use Rattle.word.specs.Word.{word, tag_of, value_of, next_tag, previous_tag, tag_limit, value_limit}
use Rattle.rules.specs.Bounds.{Sized}
use Rattle.rules.specs.Figure2.{change}
use Rattle.rules.specs.Figure4.{Step}
use Rattle.rules.specs.Figure6.{new_header, saving, copy_on, copy_cut_short}
use Rattle.rules.specs.GoodForm.{place_fits}
use Rattle.rules.specs.Processes.{is_idle, kept_of, closing, no_values}
use Rattle.rules.specs.Sizes.{bits, header_of, segment_of, announced_of}
use Rattle.rules.specs.Steps.{step_from}
use Rattle.rules.specs.Types.{Many, Place, StoreReadsHeader, StoreAnnounces, StoreSwapsHeader, ReadsSegment, SwapsSegment, ReadsHeader, Process, Settings}
use Rattle.rules.proofs.Tests.{never}
use Rattle.rules.proofs.Sizes.Addresses.{number_fits}
use Rattle.rules.proofs.Branches.{branch}
use Rattle.rules.proofs.GoodForm.Held as form
use Rattle.rules.proofs.Demand3.Change.{change_all}
use Rattle.rules.proofs.Demand3.Invariant.Begin.{past}
use Rattle.rules.proofs.Demand3.Invariant.Many.{VarInv, Opened, Pair}
use Rattle.rules.proofs.Demand3.Link.Keeping.{Held, held_same, held_shut, held_opened}
use Rattle.rules.proofs.Demand3.Link.Stands.{at_place, copy_at, Gathered, Stands, at_idle, at_load, at_validate, at_store, at_announce, at_swap, at_segment, at_announced, at_segment_swap, at_again, at_header, says_busy, says_values, says_witness, says_yes, says_no, says_sure, Linked}
use Rattle.rules.proofs.Demand3.Link.Tags.{tag_test, next_tag_lem, previous_test, Means, means_word, word_test}
use Rattle.rules.proofs.Demand3.Machine.{Versioned, stamp, same, Aim, load, store, Phase, reads_segment, swaps_segment, reads_header, Place as Stand, validate_reads, store_reads, swaps_header, copies, Sequence, Var, on_read, on_announced, on_swap, on_segment, on_segment_swap, on_header, rule}

zeros : (j : ℕ) → ◌≡◌ {A = ℕ} (get_or no_values j 0) 0
zeros zero = refl
zeros (suc zero) = refl
zeros (suc (suc zero)) = refl
zeros (suc (suc (suc zero))) = refl
zeros (suc (suc (suc (suc j)))) = refl

-- one value more is gathered
gathered_more : (l : List ℕ) (g : ℕ → ℕ) (i y : ℕ) → i < 4 → Gathered l (load g) → Gathered (set l i y) (load (change g i y))
gathered_more l g i y h G = (
  length-set l i y ∙ G.0,
  change_all (λ j u. get_or (set l i y) j 0 ≡ u) g i y (get_or-set_same l i y 0 (omega (arith, G.0))) (λ j n. get_or-set_other l i j y 0 n ∙ G.1 j),
)

module _ (s : Settings) (z : Sized s) (p x : ℕ) (v : Var) (rows : ℕ → ℕ → ℕ) (sequences : ℕ → Sequence) (q : Process) (words : List ℕ)
    (pn : p < s.n) (xt : x < s.t) (H : Held Many s sequences q.keep q.opened)
    (MH : Means (bits s) (header_of s x words) v.header)
    (MS : (j : ℕ) → j < s.w → Means (bits s) (segment_of s x j words) (v.segment j))
    (MR : (r : ℕ) → r < s.n → (j : ℕ) → j < s.w → announced_of s r j words ≡ rows r j) where
  same_held : Held Many s (change sequences x (sequences x)) q.keep q.opened
  same_held = held_same Many s sequences q.keep q.opened H x

  shut_held : Held Many s (change sequences x (record { kept = (sequences x).kept; kept_value = (sequences x).kept_value; opened = false })) q.keep (closing x q).opened
  shut_held = held_shut Many s sequences q.keep q.opened H x

  -- the board's tests are the machine's
  tag_agrees : (pl : Stand) → Opened s.w p v (sequences x) pl → length (v.seen.since p) + 2 ≤ tag_limit (bits s) →
      eqb (tag_of (bits s) (header_of s x words)) (kept_of x q) ≡ eqb v.header.version (sequences x).kept
  tag_agrees pl O B = rw (MH.tag, H.kept x xt) (tag_test (tag_limit (bits s)) (sequences x).kept v.header.version O.old
      (omega (arith, O.count)))

  -- the row is written, and the next place or the header's turn comes
  link_announce : (header i : ℕ) (h : Versioned) → Means (bits s) header h → i < s.w → (more : Bool) → ltb (i + 1) s.w ≡ more →
      Linked Many s p x (StoreAnnounces x header i) q words sequences (step_from (StoreAnnounces x header i) s q p words)
      (on_announced s.w p v rows (sequences x) more (at_place q.values) h i)
  link_announce header i h M l true e = rw e (record { stands = at_announce M; held = same_held; wrote = (refl, l); says = says_busy; note = refl })
  link_announce header i h M l false e = rw e (record { stands = at_swap M; held = same_held; wrote = (refl, l); says = says_busy; note = refl })

  -- the new header has the next tag
  new_header_lem : (header : ℕ) (h : Versioned) → Means (bits s) header h → Means (bits s) (new_header s p header) (stamp (suc h.version) p)
  new_header_lem header h M =
      means_word (bits s) (next_tag (bits s) (tag_of (bits s) header)) p (suc h.version) (number_fits s z pn)
      (ap (next_tag (bits s)) M.tag ∙ next_tag_lem (bits s) h.version)

  -- the value of the segment read
  value_read : (header i : ℕ) (h : Versioned) (a : Aim) → Means (bits s) header h → Gathered q.gathered a → i < s.w →
      Stands (bits s) x q.values q.gathered (ReadsHeader (copy_at x header i a) (value_of (bits s) (segment_of s x i words)))
      (copies a h i (reads_header (v.segment i).value))
  value_read header i h a M G l =
      subst (λ (u : ℕ). Stands (bits s) x q.values q.gathered (ReadsHeader (copy_at x header i a) (value_of (bits s) (segment_of s x i words)))
      (copies a h i (reads_header u))) (MS i l).value (at_header M G)

  -- Copy's end of a segment, with the same header: a segment more?
  link_on : (header i : ℕ) (h : Versioned) (a : Aim) → Means (bits s) header h → Gathered q.gathered a → i < s.w → (u : ℕ) (more : Bool) →
      ltb (i + 1) s.w ≡ more →
      Linked Many s p x (ReadsHeader (copy_at x header i a) u) q words sequences
      (copy_on s (copy_at x header i a) (saving (copy_at x header i a) u q), words)
      (on_header s.w p v rows (sequences x) true more a h i u)
  link_on header i h (load g) M G l u true e =
      rw e (record {
        stands = at_segment {a = load (change g i u)} M
            (gathered_more q.gathered g i u (omega (arith, z.w_most)) G);
        held = same_held;
        wrote = refl;
        says = says_busy;
        note = refl;
      })
  link_on header i h store M G l u true e = rw e (record { stands = at_segment {a = store} M tt; held = same_held; wrote = refl; says = says_busy; note = refl })
  link_on header i h (load g) M G l u false e =
      rw e (record {
        stands = at_idle;
        held = same_held;
        wrote = refl;
        says = says_values
            (λ j k. (gathered_more q.gathered g i u (omega (arith, z.w_most)) G).1 j);
        note = refl;
      })
  link_on header i h store M G l u false e = rw e (record { stands = at_idle; held = shut_held; wrote = refl; says = says_yes; note = refl })

  -- with another header
  link_cut_short : (header i : ℕ) (h : Versioned) (a : Aim) → Gathered q.gathered a → (u : ℕ) (more : Bool) →
      Linked Many s p x (ReadsHeader (copy_at x header i a) u) q words sequences (copy_cut_short s (copy_at x header i a) (header_of s x words) q, words)
      (on_header s.w p v rows (sequences x) false more a h i u)
  link_cut_short header i h (load g) G u more = record {
    stands = at_idle;
    held = same_held;
    wrote = refl;
    says = says_witness
        MH.value;
    note = refl;
  }
  link_cut_short header i h store G u more = record { stands = at_idle; held = shut_held; wrote = refl; says = says_yes; note = refl }

  module _ (I : VarInv s.w v) where
    -- in Copy no more than 2^b versions are about
    window : (a : Aim) (h : Versioned) (i : ℕ) (ph : Phase) → Pair s.w p v (rows p) (sequences x) (copies a h i ph) →
        length (v.seen.since p) + 2 ≤ tag_limit (bits s) → v.header.version + 2 ≤ h.version + tag_limit (bits s)
    window (load g) h i ph P B = omega (arith, (P.seq P.doing.0.open').count, P.doing.0.aim.from)
    window store h i ph P B = omega (arith, (P.seq P.doing.0.open').count, P.doing.0.aim.from)

    pub link_many : (place : Place) (stand : Stand) → Stands (bits s) x q.values q.gathered place stand → is_idle place ≡ false →
        place_fits s q.opened place ≡ true →
        Pair s.w p v (rows p) (sequences x) stand → (past stand ≡ true → length (v.seen.since p) + 2 ≤ tag_limit (bits s)) →
        Linked Many s p x place q words sequences (step_from place s q p words) (rule s.w p v rows (sequences x) stand)
    unfolding rule
    link_many place stand at_idle i f P B = never i
    link_many place stand at_load i f P B = record {
      stands = at_segment {a = load (λ j. 0)} MH (refl, zeros);
      held = held_opened Many s sequences q.keep q.opened H x (omega (arith, z.t_most)) (tag_of (bits s) (header_of s x words))
          (record { kept = v.header.version; kept_value = 0; opened = true }) MH.tag refl;
      wrote = refl;
      says = says_busy;
      note = refl;
    }
    link_many place stand at_validate i f P B = record {
      stands = at_idle;
      held = same_held;
      wrote = refl;
      says = rw (← (tag_agrees validate_reads (P.seq P.doing) (B refl)))
          (says_sure s.w (eqb (tag_of (bits s) (header_of s x words)) (kept_of x q)));
      note = refl;
    }
    link_many place stand at_store i f P B =
        let T : eqb (tag_of (bits s) (header_of s x words)) (kept_of x q) ≡ eqb v.header.version (sequences x).kept =
        tag_agrees (store_reads (at_place q.values)) (P.seq P.doing) (B refl) in
        branch (λ (r : Step). Linked Many s p x (StoreReadsHeader x) q words sequences r
        (on_read s.w p v rows (sequences x) (eqb v.header.version (sequences x).kept) (at_place q.values)))
        (eqb (tag_of (bits s) (header_of s x words)) (kept_of x q)) _ _
        (λ e. rw (sym T ∙ e) (record { stands = at_announce MH; held = same_held; wrote = refl; says = says_busy; note = refl }))
        (λ e. rw (sym T ∙ e) (record { stands = at_idle; held = shut_held; wrote = refl; says = says_no; note = refl }))
    link_many place stand (at_announce {header = header} {i = i} {h = h} M) n f P B = link_announce header i h M P.doing.0
        (ltb (i + 1) s.w) refl
    link_many place stand (at_swap {header = header} {h = h} M) n f P B =
        let O : Opened s.w p v (sequences x) (swaps_header (at_place q.values) h) = P.seq P.doing.open' in
        let T : eqb (header_of s x words) header ≡ same v.header h =
        word_test (bits s) MH M (omega (arith, O.old, P.doing.from)) (omega (arith, O.count, P.doing.from, B refl)) in
        branch (λ (r : Step). Linked Many s p x (StoreSwapsHeader x header) q words sequences r
        (on_swap s.w p v rows (sequences x) (same v.header h) (at_place q.values) h))
        (eqb (header_of s x words) header) _ _
        (λ e. rw (sym T ∙ e) (record {
          stands = at_segment {a = store} (new_header_lem header h M) tt;
          held = same_held;
          wrote = (new_header s p header, new_header_lem header h M, refl);
          says = says_busy;
          note = refl;
        }))
        (λ e. rw (sym T ∙ e) (record { stands = at_idle; held = shut_held; wrote = refl; says = says_no; note = refl }))
    link_many place stand (at_segment {header = header} {i = i} {h = h} {a = a} M G) n f P B =
        let l : i < s.w = P.doing.0.in' in
        let w : v.header.version + 2 ≤ h.version + tag_limit (bits s) = window a h i reads_segment P (B refl) in
        let T : eqb (tag_of (bits s) (segment_of s x i words)) (previous_tag (bits s) (tag_of (bits s) header)) ≡ eqb
        (suc (v.segment i).version) h.version =
        rw ((MS i l).tag, M.tag) (previous_test (bits s) h.version (v.segment i).version
        (omega (arith, I.lo i l, P.doing.0.old)) (omega (arith, I.hi i l))) in
        branch (λ (r : Step). Linked Many s p x (ReadsSegment (copy_at x header i a)) q words sequences r
        (on_segment s.w p v rows (sequences x) (eqb (suc (v.segment i).version) h.version) a h i))
        (eqb (tag_of (bits s) (segment_of s x i words)) (previous_tag (bits s) (tag_of (bits s) header))) _ _
        (λ e. rw (sym T ∙ e) (record { stands = at_announced M G (MS i l); held = same_held; wrote = refl; says = says_busy; note = refl }))
        (λ e. rw (sym T ∙ e) (record { stands = value_read header i h a M G l; held = same_held; wrote = refl; says = says_busy; note = refl }))
    link_many place stand (at_announced {header = header} {i = i} {w = w} {h = h} {y = y} {a = a} M G My) n f P B =
        let l : i < s.w = P.doing.0.in' in
        let names : value_of (bits s) header < s.n = form.held_names s q.opened x header (form.segment s q.opened x header i f) in
        let same_row : announced_of s (value_of (bits s) header) i words ≡ rows h.value i =
        MR (value_of (bits s) header) names i l ∙ ap (λ (r : ℕ). rows r i) M.value in
        record {
          stands = subst (λ (u : ℕ). Stands (bits s) x q.values q.gathered
              (SwapsSegment (copy_at x header i a) w (announced_of s (value_of (bits s) header) i words))
              (copies a h i (swaps_segment y u))) same_row (at_segment_swap M G My);
          held = same_held;
          wrote = refl;
          says = says_busy;
          note = refl;
        }
    link_many place stand (at_segment_swap {header = header} {i = i} {w = w} {u = u} {h = h} {y = y} {a = a} M G My) n f P B =
        let l : i < s.w = P.doing.0.in' in
        let r : v.header.version + 2 ≤ h.version + tag_limit (bits s) = window a h i (swaps_segment y u) P (B refl) in
        let small : u < value_limit (bits s) = form.held_value s q.opened u (copy_at x header i a) f in
        let T : eqb (segment_of s x i words) w ≡ same (v.segment i) y =
        word_test (bits s) (MS i l) My (omega (arith, I.lo i l, P.doing.0.old, P.doing.1.0.prev))
        (omega (arith, I.hi i l, P.doing.1.0.prev)) in
        branch (λ (r : Step). Linked Many s p x (SwapsSegment (copy_at x header i a) w u) q words sequences r
        (on_segment_swap s.w p v rows (sequences x) (same (v.segment i) y) a h i u))
        (eqb (segment_of s x i words) w) _ _
        (λ e. rw (sym T ∙ e) (record {
          stands = at_header M G;
          held = same_held;
          wrote = (word (bits s) (tag_of (bits s) header) u, means_word (bits s) (tag_of (bits s) header) u h.version small M.tag, refl, l);
          says = says_busy;
          note = refl;
        }))
        (λ e. rw (sym T ∙ e) (record { stands = at_again M G; held = same_held; wrote = refl; says = says_busy; note = refl }))
    link_many place stand (at_again {header = header} {i = i} {h = h} {a = a} M G) n f P B =
        record { stands = value_read header i h a M G P.doing.0.in'; held = same_held; wrote = refl; says = says_busy; note = refl }
    link_many place stand (at_header {header = header} {i = i} {u = u} {h = h} {a = a} M G) n f P B =
        let w : v.header.version + 2 ≤ h.version + tag_limit (bits s) = window a h i (reads_header u) P (B refl) in
        let T : eqb (header_of s x words) header ≡ same v.header h = word_test (bits s) MH M P.doing.0.old (omega arith) in
        branch (λ (r : Step). Linked Many s p x (ReadsHeader (copy_at x header i a) u) q words sequences r
        (on_header s.w p v rows (sequences x) (same v.header h) (ltb (i + 1) s.w) a h i u))
        (eqb (header_of s x words) header) _ _
        (λ e. rw (sym T ∙ e) (link_on header i h a M G P.doing.0.in' u (ltb (i + 1) s.w) refl))
        (λ e. rw (sym T ∙ e) (link_cut_short header i h a G u (ltb (i + 1) s.w)))
