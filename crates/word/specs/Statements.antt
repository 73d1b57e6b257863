-- What is proved of packing, beside the contracts: what it tells in document 01's numbers, that unpacking undoes it, and its limits.
use Rattle.std.specs.Prelude.{◌≡◌, ℕ, if◌then◌else◌, ◌^◌, ◌<◌, ◌&&◌, List, [], ◌∷◌, nat_lt, Result, Ok, Err}
use Rattle.word.specs.Refusals.{told, told_number}
use Rattle.word.specs.Packing.{pack_rule, unpack_rule, packed_told, unpacked_told}
use Rattle.word.specs.Word.{bits_fit, tag_limit, value_limit, word, tag_of, value_of}
use Rattle.word.specs.declared.Parts.{Parts}
use Rattle.word.specs.declared.Refusal.{Refusal}
use Rattle.word.specs.declared.Refusal.TheVariants.{SettingOutsideSizes, ValueTooGreat}

-- packing tells 1 unless b stands, then 8 unless tag and value are in range, else the word; unpacking 1, else tag and value
pub record PackingTold : Type 0 where
  pub packing :
      (b tag value : ℕ)
      → packed_told (pack_rule b tag value)
      ≡ (if bits_fit b
      then if nat_lt tag (tag_limit b) && nat_lt value (value_limit b) then (0, word b tag value ∷ []) else (8, [])
      else (1, []))
  pub unpacking : (b w : ℕ)
      → unpacked_told (unpack_rule b w) ≡ (if bits_fit b then (0, tag_of b w ∷ value_of b w ∷ []) else (1, []))

-- the number alone is the number that is told, whatever the values: so by packing, and by unpacking
pub record NumberTold : Type 1 where
  pub any : (A : Type 0) (values : A → List ℕ) (answer : Result A Refusal) → told_number answer ≡ (told values answer).0
  pub packing : (answer : Result ℕ Refusal) → told_number answer ≡ (packed_told answer).0
  pub unpacking : (answer : Result Parts Refusal) → told_number answer ≡ (unpacked_told answer).0

-- packing and unpacking undo each other
pub record PackingUndone : Type 0 where
  -- unpacking a packed word gives its parts
  pub packed_unpacks : (b tag value w : ℕ)
      → pack_rule b tag value ≡ Ok w → unpack_rule b w ≡ Ok (record { tag = tag; value = value })
  -- packing an unpacked word's parts gives the word
  pub unpacked_packs : (b w : ℕ) (parts : Parts)
      → w < 2 ^ 64 → unpack_rule b w ≡ Ok parts → pack_rule b parts.tag parts.value ≡ Ok w

-- b, tag and value at the last number that stands and at the first that is refused
pub record Limits : Type 0 where
  pub bits_3 : pack_rule 3 0 0 ≡ Err SettingOutsideSizes
  pub bits_4 : pack_rule 4 15 0 ≡ Ok 17293822569102704640
  pub bits_48 : pack_rule 48 0 65535 ≡ Ok 65535
  pub bits_49 : pack_rule 49 0 0 ≡ Err SettingOutsideSizes
  pub tag_16 : pack_rule 4 16 0 ≡ Err ValueTooGreat
  pub value_65536 : pack_rule 48 0 65536 ≡ Err ValueTooGreat
  pub unpacking_3 : unpack_rule 3 0 ≡ Err SettingOutsideSizes
