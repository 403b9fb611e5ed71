-- The templates of a literal by its numbers, and the only one of several rules.
use Rattle.std.specs.Prelude.{◌≡◌, ℕ, List, [], ◌∷◌, ◌++◌, Option, None, Some, MatchOption, slice_get}
use Rattle.dsr_ir.specs.declared.constraints.Var.{Var}
use Rattle.dsr_ir.specs.declared.declarations.Spec.{Spec}
use Rattle.dsr_ir.specs.declared.updates.At.TheVariants.{SlotOf}
use Rattle.dsr_ir.specs.declared.updates.Goal.TheVariants.{ExactlyOne, SetValue}
use Rattle.dsr_ir.specs.declared.updates.Place.TheVariants.{Head}
use Rattle.dsr_ir.specs.declared.updates.Template.{Template}
use Rattle.dsr_ir.specs.declared.updates.Write.{Write}
use Rattle.dsr_update_theory.specs.Templates.{AreRawOf}

-- the item of a list that has no other one
abbrev pub only : {T : Type 0} → List T → Option T
only (x ∷ []) = Some x
only _ = None

-- the templates of a literal of the constraint with this number; none where there is no such
-- constraint
abbrev pub AreRawAt : Spec → ℕ → ℕ → ℕ → List Template → Type 0
AreRawAt spec constraint conj literal templates =
    MatchOption (slice_get spec.constraints constraint) (templates ≡ [])
    (λ c. AreRawOf spec c conj literal templates)

-- a value that is written in the head, at the slot of a variable
abbrev pub slot_template : Var → ℕ → Write → Template
slot_template v k write = record {
  goal = SetValue;
  updates = record {
    rule = k;
    place = Head;
    at = SlotOf v;
    writes = write ∷ [];
    fresh = None;
  } ∷ [];
}

-- a supply with a trim
abbrev pub with_trim : Template → Template → Template
with_trim s t = record { goal = ExactlyOne; updates = s.updates ++ t.updates }
