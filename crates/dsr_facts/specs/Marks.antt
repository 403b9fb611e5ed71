-- What is marked on the way to the sets of which a variable's record is known to be a member.
use Rattle.std.specs.Prelude.{◌≡◌, ℕ, Bool, false, List, Some, IsTrue, slice_index_or}
use Rattle.dsr_ir.specs.Rules.{target_of}
use Rattle.dsr_ir.specs.declared.constraints.Quant.{Quant}
use Rattle.dsr_ir.specs.declared.constraints.Quant.TheVariants.{Each, Pairs}
use Rattle.dsr_ir.specs.declared.constraints.Var.{Var}
use Rattle.dsr_ir.specs.declared.constraints.Var.TheVariants.{First, Second}
use Rattle.dsr_ir.specs.declared.declarations.Spec.{Spec}
use Rattle.dsr_ir.specs.declared.rules.Inc.{Inc}
use Rattle.dsr_ir.specs.declared.rules.Inc.TheVariants.{Target}
use Rattle.dsr_ir.specs.declared.rules.Path.{Path}
use Rattle.dsr_ir.specs.declared.updates.Symbol.TheVariants.{Set, Rel}
use Rattle.dsr_update_theory.specs.Givers.{IsGivenBy}
use Rattle.dsr_update_theory.specs.KnownSets.{GivesMembersOf, GivesTargetsTo}

-- the other inclusion gives the target of this one to the set
pub record GivesTargetOf (inc other : Inc) (set : ℕ) : Type 0 where
  pub path : Path
  pub target_is : target_of inc ≡ Some path
  pub gives_it : other ≡ Target set path

-- the variable's record is a member of the set by the quantifier or by the rules of its relation
abbrev pub Begins : Spec → Quant → Var → ℕ → Type 0
Begins spec (Each own) First set = own ≡ set
Begins spec (Pairs rel) First set = IsGivenBy spec (Rel rel) (GivesMembersOf set)
Begins spec (Pairs rel) Second set = IsGivenBy spec (Rel rel) (GivesTargetsTo spec set)
Begins spec quant var set = ⊥

-- each member of the set is a member of the one below
abbrev pub IsBelow : Spec → ℕ → ℕ → Type 0
IsBelow spec set base = IsGivenBy spec (Set set) (GivesMembersOf base)

abbrev pub IsNoneBelow : Spec → ℕ → Type 0
IsNoneBelow spec set = (base : ℕ) → IsBelow spec set base → ⊥

-- from a set to the one below it, and so on
pub data LeadsTo (spec : Spec) (set : ℕ) : ℕ → Type 0 where
  here : LeadsTo spec set set
  on : (other base : ℕ) → LeadsTo spec set other → IsBelow spec other base → LeadsTo spec set base

-- the set is marked
abbrev pub IsMarked : List Bool → ℕ → Type 0
IsMarked marks set = IsTrue (slice_index_or marks set false)

-- what is below a marked set is marked
abbrev pub IsClosed : Spec → List Bool → Type 0
IsClosed spec marks = (set base : ℕ) → IsMarked marks set → IsBelow spec set base → IsMarked marks base
