-- Packing and unpacking tell document 01's numbers, and undo each other, as the rules of the entry points say them. Assumes nothing.
use Rattle.std.proofs.Common.{◌≡◌, ℕ, ◌^◌, ◌<◌, Bool, true, false, cond, ◌&&◌, ltb, leb, [], ◌∷◌, sym, refl, ap, ◌∙◌, ltb-true, lt-ltb, leb-true, List, Result, Ok, Err}
use Rattle.word.proofs.Laws.{tag_word, value_word, word_parts, value_lt, tag_lt}
use Rattle.word.specs.Packing.{pack_rule, unpack_rule, packed_told, unpacked_told}
use Rattle.word.specs.Refusals.{told_number, told as told_by}
use Rattle.word.specs.Statements.{PackingTold, NumberTold, PackingUndone}
use Rattle.word.specs.Word.{bits_fit, tag_limit, value_limit, word, tag_of, value_of}
use Rattle.word.specs.declared.Parts.{Parts}
use Rattle.word.specs.declared.Refusal.{Refusal}
use Rattle.word.specs.declared.Refusal.TheVariants.{SettingOutsideSizes, ValueTooGreat}

pub told : PackingTold
told =
    record {
      packing = λ b tag value. packing (bits_fit b) (ltb tag (tag_limit b) && ltb value (value_limit b)) (word b tag value);
      unpacking = λ b w. unpacking (bits_fit b) (tag_of b w) (value_of b w);
    }
  where
    packing : (stands fits : Bool) (w : ℕ)
        → packed_told (cond stands (cond fits (Ok w) (Err ValueTooGreat)) (Err SettingOutsideSizes))
        ≡ cond stands (cond fits (0, w ∷ []) (8, [])) (1, [])
    packing true true w = refl
    packing true false w = refl
    packing false fits w = refl

    unpacking : (stands : Bool) (tag value : ℕ)
        → unpacked_told (cond stands (Ok (record { tag = tag; value = value })) (Err SettingOutsideSizes))
        ≡ cond stands (0, tag ∷ value ∷ []) (1, [])
    unpacking true tag value = refl
    unpacking false tag value = refl

pub number_told : NumberTold
number_told =
    record {
      any = any;
      packing = any ℕ (λ w. w ∷ []);
      unpacking = any Parts (λ parts. parts.tag ∷ parts.value ∷ []);
    }
  where
    any : (A : Type 0) (values : A → List ℕ) (answer : Result A Refusal) → told_number answer ≡ (told_by values answer).0
    any A values (Ok answer) = refl
    any A values (Err refusal) = refl

-- unpacking a packed word gives its parts
pub packed_unpacks : (b tag value w : ℕ)
    → pack_rule b tag value ≡ Ok w → unpack_rule b w ≡ Ok (record { tag = tag; value = value })
packed_unpacks b tag value w = go (bits_fit b) (ltb tag (tag_limit b)) (ltb value (value_limit b)) refl
  where
    go : (stands tag_fits value_fits : Bool) → ltb value (value_limit b) ≡ value_fits
        → ◌≡◌ {A = Result ℕ Refusal}
        (cond stands (cond (tag_fits && value_fits) (Ok (word b tag value)) (Err ValueTooGreat)) (Err SettingOutsideSizes))
        (Ok w)
        → ◌≡◌ {A = Result Parts Refusal}
        (cond stands (Ok (record { tag = tag_of b w; value = value_of b w })) (Err SettingOutsideSizes))
        (Ok (record { tag = tag; value = value }))
    go true true true f e =
        let small : value < value_limit b = ltb-true _ _ f in
        let same : word b tag value ≡ w = cc in
        let high : tag_of b w ≡ tag = ap (tag_of b) (sym same) ∙ tag_word b tag small in
        let low : value_of b w ≡ value = ap (value_of b) (sym same) ∙ value_word b tag small in
        rw (high, low)
    go true true false f e = cc
    go true false value_fits f e = cc
    go false tag_fits value_fits f e = cc

-- packing an unpacked word's parts gives the word
pub unpacked_packs : (b w : ℕ) (parts : Parts)
    → w < 2 ^ 64 → unpack_rule b w ≡ Ok parts → pack_rule b parts.tag parts.value ≡ Ok w
unpacked_packs b w parts h = go (leb 4 b) (leb b 48) refl
  where
    go : (least most : Bool) → leb b 48 ≡ most
        → ◌≡◌ {A = Result Parts Refusal}
        (cond (least && most) (Ok (record { tag = tag_of b w; value = value_of b w })) (Err SettingOutsideSizes))
        (Ok parts)
        → ◌≡◌ {A = Result ℕ Refusal}
        (cond (least && most)
        (cond (ltb parts.tag (tag_limit b) && ltb parts.value (value_limit b)) (Ok (word b parts.tag parts.value)) (Err ValueTooGreat))
        (Err SettingOutsideSizes))
        (Ok w)
    go true true f e =
        let same : ◌≡◌ {A = Parts} (record { tag = tag_of b w; value = value_of b w }) parts = cc in
        let high : tag_of b w ≡ parts.tag = ap (λ (p : Parts). p.tag) same in
        let low : value_of b w ≡ parts.value = ap (λ (p : Parts). p.value) same in
        let tag_fits = lt-ltb (tag_of b w) (tag_limit b) (tag_lt b (leb-true b 48 f) h) in
        let value_fits = lt-ltb (value_of b w) (value_limit b) (value_lt b w) in
        rw (← high, ← low, tag_fits, value_fits, word_parts b w)
    go true false f e = cc
    go false most f e = cc

pub undone : PackingUndone
undone = record { packed_unpacks = packed_unpacks; unpacked_packs = unpacked_packs }
