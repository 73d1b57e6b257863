-- The shared words of the board stand for the words of the machine over versions, and a step's one write keeps it so.
-- Assumes nothing.
use mathlib.Core.Path.{◌≡◌, sym, ◌∙◌}
use mathlib.Core.Logic.{◌≢◌}
use mathlib.Core.List.{List}
use Prim.Native.Nat.{ℕ, ◌≤◌, ◌<◌}
use native.Mathlib.Omega.{arith}
use lib.ListN.{length, set, length-set}
use lib.Seq.{get_or-set_same, get_or-set_other}
use Rattle.rules.specs.Bounds.{Sized}
use Rattle.rules.specs.Figure2.{change}
use Rattle.rules.specs.Sizes.{bits, word_at, header_at, segment_at, announce_at, used_by, word_of, header_of, segment_of, announced_of}
use Rattle.rules.specs.Types.{Kind, One, Many, Settings}
use Rattle.rules.proofs.Sizes.Addresses.{header_in, segment_in, announce_in, header_header, segment_segment, header_segment, header_announce, segment_announce, announce_announce}
use Rattle.rules.proofs.Demand3.Change.{change_all}
use Rattle.rules.proofs.Demand3.Link.Tags.{Means}
use Rattle.rules.proofs.Demand3.Machine.{Var, Put, none, puts_header, puts_segment, puts_row, header_after, segment_after, row_after}

pub record Mem (s : Settings) (vars : ℕ → Var) (rows : ℕ → ℕ → ℕ) (words : List ℕ) : Type 0 where
  pub enough : used_by Many s ≤ length words
  pub header : (y : ℕ) → y < s.t → Means (bits s) (header_of s y words) (vars y).header
  pub segment : (y : ℕ) → y < s.t → (j : ℕ) → j < s.w → Means (bits s) (segment_of s y j words) ((vars y).segment j)
  pub row : (q : ℕ) → q < s.n → (j : ℕ) → j < s.w → announced_of s q j words ≡ rows q j

pub record MemOne (s : Settings) (vars : ℕ → Var) (words : List ℕ) : Type 0 where
  pub enough : s.t ≤ length words
  pub word : (y : ℕ) → y < s.t → Means (bits s) (word_of y words) (vars y).header

abbrev pub MemK : Kind → Settings → (ℕ → Var) → (ℕ → ℕ → ℕ) → List ℕ → Type 0
MemK One s vars rows words = MemOne s vars words
MemK Many s vars rows words = Mem s vars rows words

-- a write of the machine, made in the words of the board: by process p at variable x
abbrev pub Wrote : Settings → ℕ → ℕ → Put → List ℕ → List ℕ → Type 0
Wrote s p x none words words' = words' ≡ words
Wrote s p x (puts_header w) words words' = (n : ℕ) × Means (bits s) n w × (words' ≡ set words (header_at s x) n)
Wrote s p x (puts_segment i w) words words' = (n : ℕ) × Means (bits s) n w × (words' ≡ set words (segment_at s x i) n) × (i < s.w)
Wrote s p x (puts_row i a) words words' = (words' ≡ set words (announce_at s p i) a) × (i < s.w)

abbrev pub WroteOne : Settings → ℕ → ℕ → Put → List ℕ → List ℕ → Type 0
WroteOne s p x none words words' = words' ≡ words
WroteOne s p x (puts_header w) words words' = (n : ℕ) × Means (bits s) n w × (words' ≡ set words (word_at x) n)
WroteOne s p x (puts_segment i w) words words' = ⊥
WroteOne s p x (puts_row i a) words words' = ⊥

abbrev pub WroteK : Kind → Settings → ℕ → ℕ → Put → List ℕ → List ℕ → Type 0
WroteK One s p x put words words' = WroteOne s p x put words words'
WroteK Many s p x put words words' = Wrote s p x put words words'

module _ (s : Settings) (z : Sized s) (vars : ℕ → Var) (rows : ℕ → ℕ → ℕ) (words : List ℕ) (M : Mem s vars rows words) (p x : ℕ)
    (pn : p < s.n) (xt : x < s.t) where
  -- what stays where one word is set
  header_stays : (d n : ℕ) (y : ℕ) → y < s.t → header_at s y ≢ d → Means (bits s) (header_of s y (set words d n)) (vars y).header
  header_stays d n y l q = rw (get_or-set_other words d (header_at s y) n 0 q) (M.header y l)

  segment_stays : (d n : ℕ) (y : ℕ) → y < s.t → (j : ℕ) → j < s.w → segment_at s y j ≢ d →
      Means (bits s) (segment_of s y j (set words d n)) ((vars y).segment j)
  segment_stays d n y l j lj q = rw (get_or-set_other words d (segment_at s y j) n 0 q) (M.segment y l j lj)

  row_stays : (d n : ℕ) (q : ℕ) → q < s.n → (j : ℕ) → j < s.w → announce_at s q j ≢ d → announced_of s q j (set words d n) ≡ rows q j
  row_stays d n q l j lj e = get_or-set_other words d (announce_at s q j) n 0 e ∙ M.row q l j lj

  long : (d n : ℕ) → used_by Many s ≤ length (set words d n)
  long d n = omega (arith, M.enough, length-set words d n)

  -- the variable x, with other segments or another header
  module _ (v' : Var) where
    headers : (words' : List ℕ) → Means (bits s) (header_of s x words') v'.header →
        ((y : ℕ) → y < s.t → y ≢ x → Means (bits s) (header_of s y words') (vars y).header) →
        (y : ℕ) → y < s.t → Means (bits s) (header_of s y words') (change vars x v' y).header
    headers words' h o = change_all (λ y v. y < s.t → Means (bits s) (header_of s y words') v.header) vars x v' (λ l. h) (λ y n l. o y l n)

    segments : (words' : List ℕ) → ((j : ℕ) → j < s.w → Means (bits s) (segment_of s x j words') (v'.segment j)) →
        ((y : ℕ) → y < s.t → y ≢ x → (j : ℕ) → j < s.w → Means (bits s) (segment_of s y j words') ((vars y).segment j)) →
        (y : ℕ) → y < s.t → (j : ℕ) → j < s.w → Means (bits s) (segment_of s y j words') ((change vars x v' y).segment j)
    segments words' h o = change_all (λ y v. y < s.t → (j : ℕ) → j < s.w →
        Means (bits s) (segment_of s y j words') (v.segment j)) vars x v' (λ l. h) (λ y n l. o y l n)

    same_rows : (words' : List ℕ) → ((q : ℕ) → q < s.n → (j : ℕ) → j < s.w → announced_of s q j words' ≡ rows q j) →
        (q : ℕ) → q < s.n → (j : ℕ) → j < s.w → announced_of s q j words' ≡ change rows p (rows p) q j
    same_rows words' h = change_all (λ q r. q < s.n → (j : ℕ) → j < s.w → announced_of s q j words' ≡ r j) rows p (rows p) (h p) (λ q n. h q)

    pub put_many : (put : Put) (words' : List ℕ) → Wrote s p x put words words' →
        v'.header ≡ header_after put (vars x).header → v'.segment ≡ segment_after put (vars x).segment →
        Mem s (change vars x v') (change rows p (row_after put (rows p))) words'
    put_many none words' e eh es = rw e (record {
      enough = M.enough;
      header = headers words (rw eh (M.header x xt)) (λ y l n. M.header y l);
      segment = segments words (rw es (M.segment x xt)) (λ y l n. M.segment y l);
      row = same_rows words M.row;
    })
    put_many (puts_header w) words' e eh es =
        let n : ℕ = e.0 in
        let d : ℕ = header_at s x in
        rw e.2 (record {
          enough = long d n;
          header = headers (set words d n)
              (rw (eh, get_or-set_same words d n 0 (omega (arith, header_in s z xt, M.enough))) e.1)
              (λ y l ne. header_stays d n y l (λ q. ne (header_header s y x q)));
          segment = segments (set words d n)
              (rw es (λ j lj. segment_stays d n x xt j lj (λ q. header_segment s x x j lj (sym q))))
              (λ y l ne j lj. segment_stays d n y l j lj (λ q. header_segment s x y j lj (sym q)));
          row = same_rows (set words d n) (λ q l j lj. row_stays d n q l j lj (λ k. header_announce s x q j xt (sym k)));
        })
    put_many (puts_segment i w) words' e eh es =
        let n : ℕ = e.0 in
        let d : ℕ = segment_at s x i in
        rw e.2 (record {
          enough = long d n;
          header = headers (set words d n)
              (rw eh (header_stays d n x xt (λ q. header_segment s x x i e.3 q)))
              (λ y l ne. header_stays d n y l (λ q. header_segment s y x i e.3 q));
          segment = segments (set words d n)
              (rw es (change_all (λ j u. j < s.w → Means (bits s) (segment_of s x j (set words d n)) u) (vars x).segment i w
              (λ l. rw (get_or-set_same words d n 0 (omega (arith, segment_in s z xt e.3, M.enough))) e.1)
              (λ j ne lj. segment_stays d n x xt j lj (λ q. ne (segment_segment s x x j i lj e.3 q).1))))
              (λ y l ne j lj. segment_stays d n y l j lj (λ q. ne (segment_segment s y x j i lj e.3 q).0));
          row = same_rows (set words d n) (λ q l j lj. row_stays d n q l j lj (λ k. segment_announce s x q i j xt e.3 (sym k)));
        })
    put_many (puts_row i a) words' e eh es =
        let d : ℕ = announce_at s p i in
        rw e.0 (record {
          enough = long d a;
          header = headers (set words d a)
              (rw eh (header_stays d a x xt (λ q. header_announce s x p i xt q)))
              (λ y l ne. header_stays d a y l (λ q. header_announce s y p i l q));
          segment = segments (set words d a)
              (rw es (λ j lj. segment_stays d a x xt j lj (λ q. segment_announce s x p j i xt lj q)))
              (λ y l ne j lj. segment_stays d a y l j lj (λ q. segment_announce s y p j i l lj q));
          row = change_all (λ q r. q < s.n → (j : ℕ) → j < s.w → announced_of s q j (set words d a) ≡ r j) rows p (change (rows p) i a)
              (λ l. change_all (λ j u. j < s.w → announced_of s p j (set words d a) ≡ u) (rows p) i a
              (λ lj. get_or-set_same words d a 0 (omega (arith, announce_in s z pn e.1, M.enough)))
              (λ j ne lj. row_stays d a p pn j lj (λ k. ne (announce_announce s p p j i lj e.1 k).1)))
              (λ q ne l j lj. row_stays d a q l j lj (λ k. ne (announce_announce s q p j i lj e.1 k).0));
        })

put_one : (s : Settings) (vars : ℕ → Var) (words : List ℕ) → MemOne s vars words → (p x : ℕ) → x < s.t → (v' : Var) (put : Put) (words' : List ℕ) →
    WroteOne s p x put words words' → v'.header ≡ header_after put (vars x).header → MemOne s (change vars x v') words'
put_one s vars words M p x xt v' none words' e eh = rw e (record {
  enough = M.enough;
  word = change_all (λ y v. y < s.t → Means (bits s) (word_of y words) v.header) vars x v' (rw eh (M.word x)) (λ y n. M.word y);
})
put_one s vars words M p x xt v' (puts_header w) words' e eh =
    let n : ℕ = e.0 in
    rw e.2 (record {
      enough = omega (arith, M.enough, length-set words x n);
      word = change_all (λ y v. y < s.t → Means (bits s) (word_of y (set words x n)) v.header) vars x v'
          (λ l. rw (eh, get_or-set_same words x n 0 (omega (arith, M.enough))) e.1)
          (λ y ne l. rw (get_or-set_other words x y n 0 ne) (M.word y l));
    })
put_one s vars words M p x xt v' (puts_segment i w) words' e eh = absurd e
put_one s vars words M p x xt v' (puts_row i a) words' e eh = absurd e

pub put_kind : (k : Kind) (s : Settings) → Sized s → (vars : ℕ → Var) (rows : ℕ → ℕ → ℕ) (words : List ℕ) → MemK k s vars rows words →
    (p x : ℕ) → p < s.n → x < s.t → (v' : Var) (put : Put) (words' : List ℕ) → WroteK k s p x put words words' →
    v'.header ≡ header_after put (vars x).header → v'.segment ≡ segment_after put (vars x).segment →
    MemK k s (change vars x v') (change rows p (row_after put (rows p))) words'
put_kind One s z vars rows words M p x pn xt v' put words' e eh es = put_one s vars words M p x xt v' put words' e eh
put_kind Many s z vars rows words M p x pn xt v' put words' e eh es = put_many s z vars rows words M p x pn xt v' put words' e eh es
