-- When fields can be placed: what a layout asks of tables. Typed ones are such.
use Rattle.std.specs.Prelude.{◌≡◌, ◌≤◌, ◌+◌, ◌%◌, ℕ, Bool, ◌||◌, IsTrue, List, [], ◌∷◌, length, All, is_some, option_map}
use Rattle.dsr_ir.specs.declared.declarations.Field.{Field}
use Rattle.dsr_ir.specs.declared.declarations.Structure.{Structure}
use Rattle.dsr_ir.specs.declared.declarations.Structures.{Structures}
use Rattle.dsr_ir.specs.declared.declarations.Spec.{Spec}
use Rattle.dsr_ir.specs.declared.declarations.Width.{Width}
use Rattle.dsr_ir.specs.declared.declarations.Width.TheVariants.{Bits}
use Rattle.dsr_meaning.specs.Cells.{width_bits, is_bytewise}
use Rattle.dsr_meaning.specs.Extents.{Extent, bit_behind}
use Rattle.dsr_meaning.specs.Limits.{most_constraints, most_fields, most_rules, most_structures, most_symbols}

-- an entry of bits has 1 to 32 of them
abbrev pub IsLegalWidth : Width → Type 0
IsLegalWidth (Bits n) = (1 ≤ n) × (n ≤ 32)
IsLegalWidth _ = Unit {0}

abbrev pub HasLegalWidth : Field → Type 0
HasLegalWidth f = IsLegalWidth f.width

-- whether a field has to begin at a byte: whole bytes and arrays do
abbrev pub begins_byte : Field → Bool
begins_byte f = is_bytewise f.width || is_some f.len

-- what a field takes up; how many entries an array has is no matter for where a byte begins, since
-- behind it one does
abbrev pub plain_extent : Field → Extent
plain_extent f = record { bits = width_bits f.width; entries = option_map (λ _. 0) f.len }

-- fields that follow each other from a bit on begin at a byte where they have to
abbrev pub AreAligned : ℕ → List Field → Type 0
AreAligned bit [] = Unit {0}
AreAligned bit (f ∷ fs) =
    (IsTrue (begins_byte f) → bit % 8 ≡ 0) × AreAligned (bit_behind bit (plain_extent f)) fs

pub record IsPlaceableStructure (s : Structure) : Type 0 where
  pub few_fields : length s.fields ≤ most_fields
  pub widths : All HasLegalWidth s.fields
  pub aligned : AreAligned 0 s.fields

-- structures, pools, sets and relations
pub record ArePlaceable (base : Structures) : Type 0 where
  pub structures : All IsPlaceableStructure base.structures
  pub few_structures : length base.structures ≤ most_structures
  pub few_pools : length base.pools ≤ 32
  pub few_symbols : length base.sets + length base.rels ≤ most_symbols

-- a specification
pub record IsPlaceable (spec : Spec) : Type 0 where
  pub base : ArePlaceable spec.base
  pub few_rules : length spec.rules ≤ most_rules
  pub few_constraints : length spec.constraints ≤ most_constraints
