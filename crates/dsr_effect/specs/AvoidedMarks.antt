-- What is marked on the way to the sets of which no fresh record is a member.
use Rattle.std.specs.Prelude.{◌≡◌, ◌<◌, ℕ, Bool, true, List, None, Some, slice_get, cond, sum_by}
use Rattle.dsr_facts.specs.Marks.{IsMarked}
use Rattle.dsr_ir.specs.Rules.{gives}
use Rattle.dsr_ir.specs.declared.declarations.SetDecl.{SetDecl}
use Rattle.dsr_ir.specs.declared.declarations.Spec.{Spec}
use Rattle.dsr_ir.specs.declared.rules.Rule.{Rule}
use Rattle.dsr_ir.specs.declared.updates.Symbol.TheVariants.{Set}
use Rattle.dsr_meaning.specs.Counting.{IsIn}
use Rattle.dsr_update_theory.specs.Avoided.{IsAvoided}
use Rattle.dsr_update_theory.specs.Givers.{is_own}

-- the rule gives members of a premise that is marked
pub record GivesAvoided (marks : List Bool) (rule : Rule) : Type 0 where
  pub premise : ℕ
  pub premise_is : rule.premise ≡ Some premise
  pub own : is_own rule.inc ≡ true
  pub marked : IsMarked marks premise

-- where the rule gives members of the set, it does so
abbrev pub GivesAvoidedTo : List Bool → ℕ → Rule → Type 0
GivesAvoidedTo marks set rule = gives (Set set) rule.inc ≡ true → GivesAvoided marks rule

-- the set is declared, no complement, and each of its rules gives members of a marked premise
pub record IsGivenAvoided (spec : Spec) (marks : List Bool) (set : ℕ) : Type 0 where
  pub declared : SetDecl
  pub declared_is : slice_get spec.base.sets set ≡ Some declared
  pub plain : declared.except ≡ None
  pub each :
      (k : ℕ) (rule : Rule) → slice_get spec.rules k ≡ Some rule → GivesAvoidedTo marks set rule

-- what is marked is avoided
abbrev pub AreAvoided : Spec → List ℕ → List Bool → Type 0
AreAvoided spec avoid marks = (set : ℕ) → IsMarked marks set → IsAvoided spec avoid set

-- what is named is marked
abbrev pub AreNamed : List ℕ → List Bool → Type 0
AreNamed avoid marks = (set : ℕ) → set < 64 → IsIn set avoid → IsMarked marks set

-- what follows from the marked sets is marked
abbrev pub IsClosed : Spec → List Bool → Type 0
IsClosed spec marks =
    (set : ℕ) → set < 64 → IsGivenAvoided spec marks set → IsMarked marks set

-- no mark is gone
abbrev pub AreStillMarked : List Bool → List Bool → Type 0
AreStillMarked marks after = (set : ℕ) → IsMarked marks set → IsMarked after set

-- how many sets aren't marked
abbrev pub unmarked : List Bool → ℕ
unmarked marks = sum_by (λ m. cond m 0 1) marks
