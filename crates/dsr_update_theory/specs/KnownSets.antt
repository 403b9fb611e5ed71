-- Of which sets a variable's record is a member, whatever the image.
use Rattle.std.specs.Prelude.{◌≡◌, ℕ, true, Some}
use Rattle.dsr_ir.specs.Rules.{target_of}
use Rattle.dsr_ir.specs.declared.constraints.Quant.{Quant}
use Rattle.dsr_ir.specs.declared.constraints.Quant.TheVariants.{Each, Pairs}
use Rattle.dsr_ir.specs.declared.constraints.Var.{Var}
use Rattle.dsr_ir.specs.declared.constraints.Var.TheVariants.{First, Second}
use Rattle.dsr_ir.specs.declared.declarations.Spec.{Spec}
use Rattle.dsr_ir.specs.declared.rules.Guard.{Guard}
use Rattle.dsr_ir.specs.declared.rules.Inc.TheVariants.{Target}
use Rattle.dsr_ir.specs.declared.rules.Path.{Path}
use Rattle.dsr_ir.specs.declared.rules.Rule.{Rule}
use Rattle.dsr_ir.specs.declared.updates.Symbol.TheVariants.{Set, Rel}
use Rattle.dsr_meaning.specs.Counting.{IsIn}
use Rattle.dsr_update_theory.specs.Givers.{IsGiver, IsGivenBy, is_own}

-- the rule starts from members of the set, and gives the record itself, as a member or a source
pub record GivesMembersOf (set : ℕ) (rule : Rule) : Type 0 where
  pub premise_is : rule.premise ≡ Some set
  pub own : is_own rule.inc ≡ true

-- where the rule gives a pair, the other one gives its target to the set: it has the same premise
-- and index, reads the same field, and asks no more
pub record IsCounterpart (rule other : Rule) (set : ℕ) : Type 0 where
  pub premise_same : other.premise ≡ rule.premise
  pub span_same : other.span ≡ rule.span
  pub path : Path
  pub target_is : target_of rule.inc ≡ Some path
  pub gives_it : other.inc ≡ Target set path
  pub guards : (guard : Guard) → IsIn guard other.guards → IsIn guard rule.guards

-- some rule gives the targets of the rule's pairs to the set
abbrev pub GivesTargetsTo : Spec → ℕ → Rule → Type 0
GivesTargetsTo spec set rule =
    (k : ℕ) × (other : Rule) × IsGiver spec (Set set) k other × IsCounterpart rule other set

-- the variable's record is a member of the set: the quantifier says so, each rule of the
-- quantifier's relation does, or each rule of a set of which it is known
pub data IsKnown (spec : Spec) (quant : Quant) : Var → ℕ → Type 0 where
  quantified : (set : ℕ) → quant ≡ Each set → IsKnown spec quant First set
  source :
      (rel set : ℕ) → quant ≡ Pairs rel → IsGivenBy spec (Rel rel) (GivesMembersOf set)
      → IsKnown spec quant First set
  target :
      (rel set : ℕ) → quant ≡ Pairs rel → IsGivenBy spec (Rel rel) (GivesTargetsTo spec set)
      → IsKnown spec quant Second set
  base :
      (v : Var) (set below : ℕ) → IsKnown spec quant v set
      → IsGivenBy spec (Set set) (GivesMembersOf below) → IsKnown spec quant v below
