-- Document 01, "Sizes": a word is 64 bits, the tag in the upper b bits, the value in the lower 64 - b.
use Rattle.std.specs.Prelude.{ℕ, ◌+◌, ◌-◌, ◌*◌, ◌/◌, ◌%◌, ◌^◌, Bool, ◌&&◌, nat_le}

-- tag bits b, 4 to 48
abbrev pub bits_fit : ℕ → Bool
bits_fit b = nat_le 4 b && nat_le b 48

-- tags lie below 2^b
abbrev pub tag_limit : ℕ → ℕ
tag_limit b = 2 ^ b

-- values lie below 2^(64 - b)
abbrev pub value_limit : ℕ → ℕ
value_limit b = 2 ^ (64 - b)

unfoldable pub word : ℕ → ℕ → ℕ → ℕ
word b tag value = tag * value_limit b + value

unfoldable pub tag_of : ℕ → ℕ → ℕ
tag_of b w = w / value_limit b

unfoldable pub value_of : ℕ → ℕ → ℕ
value_of b w = w % value_limit b

-- the tag after the greatest is 0
unfoldable pub next_tag : ℕ → ℕ → ℕ
next_tag b tag = (tag + 1) % tag_limit b

-- the tag before 0 is the greatest
unfoldable pub previous_tag : ℕ → ℕ → ℕ
previous_tag b tag = (tag + (tag_limit b - 1)) % tag_limit b
