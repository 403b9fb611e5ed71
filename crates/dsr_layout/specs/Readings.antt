-- What is read off an image, and the layout that is made of it.
use Rattle.std.specs.Prelude.{◌≡◌, ◌≤◌, ℕ, List, [], length, All, Option, Some}
use Rattle.dsr_ir.specs.declared.declarations.Structures.{Structures}
use Rattle.dsr_ir.specs.declared.layouts.Layout.{Layout}
use Rattle.dsr_layout.specs.Pools.{IsComputable}
use Rattle.dsr_layout.specs.Tables.{known, size_in, HoldsEnds}
use Rattle.dsr_meaning.specs.FixedFields.{head_fields, fixed_cell, fixed_value}
use Rattle.dsr_meaning.specs.Layouts.{layout_with}
use Rattle.dsr_meaning.specs.Legal.{IsLegalPlace}
use Rattle.dsr_meaning.specs.Refusals.{cut_refusals, head_refusals, size_refusals, value_refusals}

-- the values of the fixed fields and the ends of structures are those on an image that isn't short
pub record IsRead (base : Structures) (bytes : List ℕ) (fixed ends : List (Option ℕ)) : Type 0 where
  pub values : (k : ℕ) → known fixed k ≡ fixed_value base bytes k
  pub uncut : cut_refusals (fixed_cell base) (head_fields base) (length bytes) ≡ []
  pub holds : HoldsEnds (known fixed) base.structures ends
  pub whole : head_refusals (size_in ends) base.head (length bytes) ≡ []

-- the layout of these, in which every number has a value
pub record IsMade (base : Structures) (bytes : ℕ) (fixed ends : List (Option ℕ)) (layout : Layout) : Type 0 where
  pub made : layout_with (known fixed) base bytes ≡ Some layout
  pub bytes_is : layout.length ≡ bytes
  pub sized : size_refusals (size_in ends) base.structures ≡ []
  pub valued : value_refusals (known fixed) (size_in ends) base.pools ≡ []
  pub computable : All IsComputable layout.pools
  pub few : length layout.pools ≤ 32
  pub legal : All (All IsLegalPlace) layout.fields
