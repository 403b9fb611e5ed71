-- Fields of typed declarations have legal widths.
use Rattle.std.proofs.Common.{◌≡◌, None, Some, option_and_then, slice_get, refl}
use Rattle.dsr_ir.specs.declared.declarations.Field.{Field}
use Rattle.dsr_ir.specs.declared.declarations.FieldRef.{FieldRef}
use Rattle.dsr_ir.specs.declared.declarations.Structures.{Structures}
use Rattle.dsr_meaning.specs.Instances.{declared_field}
use Rattle.dsr_meaning.specs.Placeable.{IsLegalWidth}
use Rattle.dsr_meaning.specs.Typed.{AreTyped}

pub legal_width : (base : Structures) (place : FieldRef) (f : Field) → AreTyped base → declared_field base place ≡ Some f → IsLegalWidth f.width
legal_width base place f typed is = elim (slice_get base.structures place.structure) as (λ o. slice_get base.structures place.structure ≡ o → option_and_then (λ s. slice_get s.fields place.field) o ≡ Some f → IsLegalWidth f.width) [
  | None ↦ λ _ e. absurd cc
  | Some s ↦ λ found e. ((typed.structures place.structure s found).fields place.field f e).width
] refl is
