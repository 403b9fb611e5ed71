-- What a legal layout is known to be.
use Rattle.std.specs.Prelude.{◌≡◌, ◌≢◌, ◌<◌, ◌≤◌, ◌+◌, ◌*◌, ◌%◌, ◌^◌, ℕ, nat_eq, IsTrue, All, Some, IsSomeAnd, unwrap_or, MatchBool}
use Rattle.dsr_ir.specs.Layouts.{pool_numbers, field_place}
use Rattle.dsr_ir.specs.declared.declarations.FieldRef.{FieldRef}
use Rattle.dsr_ir.specs.declared.layouts.FieldPlace.{FieldPlace}
use Rattle.dsr_ir.specs.declared.layouts.Layout.{Layout}
use Rattle.dsr_ir.specs.declared.layouts.PoolNumbers.{PoolNumbers}
use Rattle.dsr_ir.specs.declared.tuples.Element.{Element}
use Rattle.dsr_meaning.specs.Cells.{is_bytewise, width_bits}
use Rattle.dsr_meaning.specs.Layouts.{pool_end}
use Rattle.dsr_meaning.specs.Placeable.{IsLegalWidth}
use Rattle.dsr_meaning.specs.Limits.{most_bytes}

-- a pool in an image of so many bytes: its slots lie there, each
-- has a code of its own, and none has the one of no slot
pub record IsLegalPool (bytes : ℕ) (n : PoolNumbers) : Type 0 where
  pub slot_some : 0 < n.slot
  pub step_some : 0 < n.step
  pub within : pool_end n ≤ bytes
  pub codes_small : (slot : ℕ) → slot < n.count → n.code + slot * n.step < 2 ^ 64
  pub none_apart : (slot : ℕ) → slot < n.count → n.none ≢ n.code + slot * n.step

-- the byte is one of the pool's
pub record IsByteOf (n : PoolNumbers) (at : ℕ) : Type 0 where
  pub from : n.start ≤ at
  pub before : at < pool_end n

-- no byte is one of two pools
abbrev pub AreApart : Layout → Type 0
AreApart layout =
    (p q at : ℕ) (m n : PoolNumbers) → p ≢ q → pool_numbers layout p ≡ Some m
    → pool_numbers layout q ≡ Some n → IsByteOf m at → IsByteOf n at → ⊥

-- entries of whole bytes begin at a byte
pub record IsLegalPlace (place : FieldPlace) : Type 0 where
  pub width : IsLegalWidth place.width
  pub aligned : IsTrue (is_bytewise place.width) → place.bit % 8 ≡ 0

pub record IsLegalLayout (layout : Layout) : Type 0 where
  pub small : layout.length ≤ most_bytes
  pub pools : All (IsLegalPool layout.length) layout.pools
  pub apart : AreApart layout
  pub fields : All (All IsLegalPlace) layout.fields

-- how many entries a field has; a scalar has one
abbrev pub entry_count : FieldPlace → ℕ
entry_count place = unwrap_or place.length 1

-- so many bits from the start of a record on are its own: those of a slot, or the image's where it
-- is the head
abbrev pub HasBits : Layout → Element → ℕ → Type 0
HasBits layout e bits =
    MatchBool (nat_eq e.pool 0) (bits ≤ 8 * layout.length)
    (IsSomeAnd (pool_numbers layout e.pool) (λ n. (e.slot < n.count) × (bits ≤ 8 * n.slot)))

-- the record has an entry of the field, by the layout alone; that it has follows from the
-- specification, by laws of `dsr_layout`
pub record HasEntry (layout : Layout) (e : Element) (field : FieldRef) (index : ℕ) : Type 0 where
  pub place : FieldPlace
  pub place_is : field_place layout field ≡ Some place
  pub index_below : index < entry_count place
  pub within : HasBits layout e (place.bit + (index + 1) * width_bits place.width)
