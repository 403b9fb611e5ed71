-- Where the fields of a record begin, in bits.
use Rattle.std.specs.Prelude.{ℕ, ◌+◌, ◌*◌, ◌/◌, List, [], ◌∷◌, Option}
use Rattle.std.specs.Option.{option_map_or}

-- what a field takes up: the bits of an entry and, where it is an array, the number of its entries
pub record Extent : Type 0 where
  pub bits : ℕ
  pub entries : Option ℕ

-- the first byte boundary at a bit or behind it
abbrev pub up_to_byte : ℕ → ℕ
up_to_byte bit = (bit + 7) / 8 * 8

-- the bit behind a field that begins at a bit; behind an array it is a byte boundary
abbrev pub bit_behind : ℕ → Extent → ℕ
bit_behind bit e = option_map_or (λ n. up_to_byte (bit + n * e.bits)) e.entries (bit + e.bits)

-- the bit behind fields that follow each other without gaps, the first of which begins at a bit
abbrev pub bit_behind_all : ℕ → List Extent → ℕ
bit_behind_all bit [] = bit
bit_behind_all bit (e ∷ es) = bit_behind_all (bit_behind bit e) es
