-- What is found by a name.
use Rattle.std.specs.Prelude.{◌≡◌, ◌<◌, ◌≤◌, ℕ, Bool, is_some, List, Option, None, Some, length, slice_get}
use Rattle.dsr_answers.specs.Texts.{pool_name}
use Rattle.dsr_ir.specs.declared.declarations.Field.{Field}
use Rattle.dsr_ir.specs.declared.declarations.FieldRef.{FieldRef}
use Rattle.dsr_ir.specs.declared.declarations.Spec.{Spec}
use Rattle.dsr_ir.specs.declared.declarations.Structure.{Structure}
use Rattle.dsr_ir.specs.declared.declarations.Structures.{Structures}
use Rattle.dsr_meaning.specs.Typed.{HasName}
use Rattle.dsr_report_read.specs.Forms.{IsPoolField}

-- the pool with this number, counted from 1, has this name
pub record IsPoolNamed (spec : Spec) (name : List ℕ) (pool : ℕ) : Type 0 where
  pub some : 0 < pool
  pub declared : pool ≤ length spec.base.pools
  pub name_is : pool_name spec pool ≡ name

-- a field with this name, an array or not
pub record IsNamedAs (name : List ℕ) (indexed : Bool) (field : Field) : Type 0 where
  pub named : HasName field
  pub name_is : field.name ≡ name
  pub shape : is_some field.len ≡ indexed

-- such a field of the pool's records
pub record IsNamedIn (base : Structures) (pool : ℕ) (name : List ℕ) (indexed : Bool)
    (place : FieldRef) : Type 0 where
  pub field : Field
  pub is_field : IsPoolField base pool place field
  pub name_is : field.name ≡ name
  pub shape : is_some field.len ≡ indexed

-- such a field among those of the structure with this number
abbrev pub FindsUnder : ℕ → Structure → List ℕ → Bool → Option FieldRef → Type 0
FindsUnder number structure name indexed None =
    (k : ℕ) (field : Field) → slice_get structure.fields k ≡ Some field
    → IsNamedAs name indexed field → ⊥
FindsUnder number structure name indexed (Some place) =
    (place.structure ≡ number)
    × ((field : Field) × (slice_get structure.fields place.field ≡ Some field)
    × IsNamedAs name indexed field)

-- such a field of the pool's records, among those of the structure
abbrev pub FindsIn : Structures → ℕ → ℕ → List ℕ → Bool → Option FieldRef → Type 0
FindsIn base pool number name indexed None =
    (place : FieldRef) → place.structure ≡ number → IsNamedIn base pool name indexed place → ⊥
FindsIn base pool number name indexed (Some place) =
    (place.structure ≡ number) × IsNamedIn base pool name indexed place

-- such a field of the first structure that has one
abbrev pub FindsField : Structures → ℕ → List ℕ → Bool → Option FieldRef → Type 0
FindsField base pool name indexed None =
    (place : FieldRef) → IsNamedIn base pool name indexed place → ⊥
FindsField base pool name indexed (Some place) =
    IsNamedIn base pool name indexed place
    × ((other : FieldRef) → IsNamedIn base pool name indexed other
    → other.structure < place.structure → ⊥)
