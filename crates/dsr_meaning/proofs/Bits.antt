-- The bit at which a field begins, inside its byte.
use Rattle.std.proofs.Common.{◌≡◌, ◌+◌, ◌*◌, ◌/◌, ◌%◌, ℕ, List, [], ◌∷◌, ◌++◌, None, Some, refl, sym, ap, ◌∙◌}
use Rattle.std.proofs.Math.Nat.{mod-add-mod, mul-mod_left}
use Rattle.dsr_meaning.specs.Extents.{Extent, up_to_byte, bit_behind, bit_behind_all}

-- a byte begins at a byte boundary
pub byte_begins : (bit : ℕ) → up_to_byte bit % 8 ≡ 0
byte_begins bit = mul-mod_left ((bit + 7) / 8) 8

-- where in its byte a field ends depends on where in its byte it begins
pub bit_behind_in_byte : (bit : ℕ) (e : Extent) → bit_behind (bit % 8) e % 8 ≡ bit_behind bit e % 8
bit_behind_in_byte bit e = elim e.entries as (λ o. bit_behind (bit % 8) (record { bits = e.bits; entries = o }) % 8 ≡ bit_behind bit (record { bits = e.bits; entries = o }) % 8) [
  | None ↦ mod-add-mod bit 8 e.bits
  | Some n ↦ byte_begins (bit % 8 + n * e.bits) ∙ sym (byte_begins (bit + n * e.bits))
]

-- behind fields, and behind one more at the end
pub bit_behind_append : (bit : ℕ) (es : List Extent) (e : Extent) → bit_behind_all bit (es ++ e ∷ []) ≡ bit_behind (bit_behind_all bit es) e
bit_behind_append bit [] e = refl
bit_behind_append bit (f ∷ fs) e = bit_behind_append (bit_behind bit f) fs e

-- where in its byte a field ends, where all before it are known
pub bit_behind_next : (es : List Extent) (e : Extent) → bit_behind (bit_behind_all 0 es % 8) e % 8 ≡ bit_behind_all 0 (es ++ e ∷ []) % 8
bit_behind_next es e = bit_behind_in_byte (bit_behind_all 0 es) e ∙ ap (λ n. n % 8) (sym (bit_behind_append 0 es e))
