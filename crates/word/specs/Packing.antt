-- Packing checks 1 (for b alone), then 8; unpacking only 1. A refusal gives its number and nothing else.
use Rattle.std.specs.Prelude.{ℕ, if◌then◌else◌, ◌&&◌, [], ◌∷◌, nat_lt, Result, Ok, Err}
use Rattle.word.specs.Refusals.{Told, told}
use Rattle.word.specs.Word.{bits_fit, tag_limit, value_limit, word, tag_of, value_of}
use Rattle.word.specs.declared.Parts.{Parts}
use Rattle.word.specs.declared.Refusal.{Refusal}
use Rattle.word.specs.declared.Refusal.TheVariants.{SettingOutsideSizes, ValueTooGreat}

abbrev pub pack_rule : ℕ → ℕ → ℕ → Result ℕ Refusal
pack_rule b tag value =
    if bits_fit b
    then if nat_lt tag (tag_limit b) && nat_lt value (value_limit b) then Ok (word b tag value) else Err ValueTooGreat
    else Err SettingOutsideSizes

abbrev pub unpack_rule : ℕ → ℕ → Result Parts Refusal
unpack_rule b w = if bits_fit b then Ok (record { tag = tag_of b w; value = value_of b w }) else Err SettingOutsideSizes

-- what each answer tells: the word; the tag and the value
abbrev pub packed_told : Result ℕ Refusal → Told
packed_told = told (λ w. w ∷ [])

abbrev pub unpacked_told : Result Parts Refusal → Told
unpacked_told = told (λ parts. parts.tag ∷ parts.value ∷ [])
