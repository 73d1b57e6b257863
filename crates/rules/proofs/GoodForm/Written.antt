-- What good form gives of the words of kind `many`, and that a write of what fits its place keeps the words in form.
-- Assumes nothing.
use mathlib.Core.Path.{◌≡◌, sym, ap, ◌∙◌, subst}
use mathlib.Core.Bool.{true, ◌&&◌}
use mathlib.Core.List.{List}
use Prim.Native.Nat.{ℕ, ◌^◌, ◌<◌}
use lib.ListN.{set}
use Rattle.rules.specs.Bounds.{Sized}
use Rattle.rules.specs.GoodForm.{names, value_fits, words_fit, words_fit_by, headers_fit, row_fits, rows_fit}
use Rattle.rules.specs.Sizes.{header_at, announce_at, header_of, announced_of, used_by}
use Rattle.rules.proofs.Sizes.Addresses.{header_in}
use Rattle.rules.proofs.Branches.{after_set}
use Rattle.rules.specs.InForm.{Bounded, Clean}
use Rattle.rules.specs.Types.{Kind, One, Many, Settings}
use Rattle.rules.proofs.Tests.{and_left, and_right, and_both, all_at, all_of}

module _ (s : Settings) (words : List ℕ) (clean : Clean s words) (many : s.kind ≡ Many) where
  both_fit : (headers_fit s words && rows_fit s words) ≡ true
  unfolding words_fit
  both_fit = subst (λ (k : Kind). words_fit_by k s words ≡ true) many clean.fits

  pub header_names : (x : ℕ) → x < s.t → names s (header_of s x words) ≡ true
  unfolding headers_fit
  header_names x h =
      all_at (λ i. names s (header_of s i words)) x s.t (and_left (headers_fit s words) (rows_fit s words) both_fit) h

  pub announced_fits : (p i : ℕ) → p < s.n → i < s.w → value_fits s (announced_of s p i words) ≡ true
  unfolding rows_fit row_fits
  announced_fits p i h hi =
      let rows = and_right (headers_fit s words) (rows_fit s words) both_fit in
      all_at (λ j. value_fits s (announced_of s p j words)) i s.w (all_at (λ q. row_fits s q words) p s.n rows h) hi

  pub header_bounded : Sized s → (x : ℕ) → x < s.t → header_of s x words < 2 ^ 64
  header_bounded z x h = clean.bounded _ (subst (λ (k : Kind). header_at s x < used_by k s) (sym many) (header_in s z h))

-- a write of v, below 2^64, at address a: v names a process if a is a header's, and fits if a is in an announce row
module _ (s : Settings) (words : List ℕ) (clean : Clean s words) (a v : ℕ) (small : v < 2 ^ 64) where
  bounds : Bounded s (set words a v)
  bounds b h = after_set (λ (k : ℕ). k < 2 ^ 64) words a v 0 b (λ q. small) (clean.bounded b h)

  -- kind `one` asks nothing of its words
  pub write_one : s.kind ≡ One → Clean s (set words a v)
  unfolding words_fit
  write_one one = record { fits = ap (λ (k : Kind). words_fit_by k s (set words a v)) one; bounded = bounds }

  pub write_many : s.kind ≡ Many
      → ((x : ℕ) → x < s.t → header_at s x ≡ a → names s v ≡ true)
      → ((p i : ℕ) → p < s.n → i < s.w → announce_at s p i ≡ a → value_fits s v ≡ true)
      → Clean s (set words a v)
  unfolding words_fit headers_fit rows_fit row_fits
  write_many many header announced =
      record { fits = ap (λ (k : Kind). words_fit_by k s (set words a v)) many ∙ and_both _ _ headers rows; bounded = bounds }
    where
      headers : headers_fit s (set words a v) ≡ true
      headers =
          all_of _ s.t (λ x h. after_set (λ (k : ℕ). names s k ≡ true) words a v 0 (header_at s x)
          (header x h) (header_names s words clean many x h))

      rows : rows_fit s (set words a v) ≡ true
      rows =
          all_of _ s.n (λ p h. all_of _ s.w (λ i hi. after_set (λ (k : ℕ). value_fits s k ≡ true) words a v 0 (announce_at s p i)
          (announced p i h hi) (announced_fits s words clean many p i h hi)))
