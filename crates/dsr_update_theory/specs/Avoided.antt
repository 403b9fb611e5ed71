-- The sets of which a fresh record is no member.
use Rattle.std.specs.Prelude.{◌≡◌, ℕ, true, List, None, Some, IsSome}
use Rattle.dsr_ir.specs.declared.declarations.Spec.{Spec}
use Rattle.dsr_ir.specs.declared.rules.Rule.{Rule}
use Rattle.dsr_ir.specs.declared.updates.Symbol.TheVariants.{Set}
use Rattle.dsr_meaning.specs.Counting.{IsIn}
use Rattle.dsr_meaning.specs.Models.{base_of}
use Rattle.dsr_update_theory.specs.Givers.{EachGiver, IsGiver, is_own}

-- the rule gives members of its premise
pub record GivesMembers (rule : Rule) : Type 0 where
  pub premise : IsSome rule.premise
  pub own : is_own rule.inc ≡ true

-- no fresh record is a member of the set: the supply names it, or it is no complement and each of
-- its rules gives members of such a set
pub data IsAvoided (spec : Spec) (avoid : List ℕ) : ℕ → Type 0 where
  named : (set : ℕ) → IsIn set avoid → IsAvoided spec avoid set
  given :
      (set : ℕ) → base_of spec set ≡ None → EachGiver spec (Set set) GivesMembers
      → ((k : ℕ) (rule : Rule) (premise : ℕ) → IsGiver spec (Set set) k rule
      → rule.premise ≡ Some premise → IsAvoided spec avoid premise)
      → IsAvoided spec avoid set
