-- The table of an effect as rows of tags.
use Rattle.std.specs.Prelude.{◌≡◌, ◌+◌, ◌⊎◌, ◌↔◌, ℕ, true, false, List, [], ◌∷◌, IsTrue, length, Some}
use Rattle.std.specs.Option.{option_map_or}
use Rattle.dsr_effect.specs.Rows.{is_open}
use Rattle.dsr_effect.specs.declared.flows.Flow.{Flow}
use Rattle.dsr_ir.specs.Rules.{symbol_of}
use Rattle.dsr_ir.specs.declared.declarations.SetDecl.{SetDecl}
use Rattle.dsr_ir.specs.declared.declarations.Structures.{Structures}
use Rattle.dsr_ir.specs.declared.rules.Rule.{Rule}
use Rattle.dsr_ir.specs.declared.updates.Symbol.{Symbol}
use Rattle.dsr_ir.specs.declared.updates.Symbol.TheVariants.{Set}
use Rattle.dsr_meaning.specs.Counting.{IsIn}
use Rattle.dsr_meaning.specs.Models.{base_of}
use Rattle.dsr_update_theory.specs.Changes.{Change}
use Rattle.dsr_update_theory.specs.Effects.{IsLeftOut, MayChange, other_direction, symbol_number}
use Rattle.dsr_update_theory.specs.Givers.{is_own}
use Rattle.dsr_update_theory.specs.declared.effects.Tag.{Tag}
use Rattle.dsr_update_theory.specs.declared.effects.Direction.{Direction}
use Rattle.dsr_update_theory.specs.declared.effects.Direction.TheVariants.{Gain, Loss}

abbrev pub symbol_count : Structures → ℕ
symbol_count base = length base.sets + length base.rels

-- one for what each symbol gains, and one for what it loses
abbrev pub row_count : Structures → ℕ
row_count base = symbol_count base + symbol_count base

-- the row of what a symbol gains, and behind all these that of what it loses
abbrev pub row_number : Structures → Direction → Symbol → ℕ
row_number base Gain symbol = symbol_number base symbol
row_number base Loss symbol = symbol_count base + symbol_number base symbol

-- one of the rules may change the row so
pub record IsChangedBy (c : Change) (rules : List Rule) (row : ℕ) (tag : Tag) : Type 0 where
  pub rule : Rule
  pub direction : Direction
  pub among : IsIn rule rules
  pub row_is : row ≡ row_number c.spec.base direction (symbol_of rule.inc)
  pub changes : MayChange c rule direction tag

-- the flow is what the rule's premise hands on to what the rule gives
pub record IsPassing (c : Change) (rule : Rule) (premise : ℕ) (direction : Direction) (flow : Flow) : Type 0 where
  pub premise_is : rule.premise ≡ Some premise
  pub from : flow.from ≡ row_number c.spec.base direction (Set premise)
  pub to : flow.to ≡ row_number c.spec.base direction (symbol_of rule.inc)
  pub keeps : flow.keeps ≡ is_own rule.inc
  pub hands : (tag : Tag) → IsTrue (is_open flow tag) ↔ (IsLeftOut c rule direction tag → ⊥)

-- the flow is what a set hands on to its complement, the other way round
pub record IsSwapping (c : Change) (set base : ℕ) (direction : Direction) (flow : Flow) : Type 0 where
  pub base_is : base_of c.spec set ≡ Some base
  pub from : flow.from ≡ row_number c.spec.base direction (Set base)
  pub to : flow.to ≡ row_number c.spec.base (other_direction direction) (Set set)
  pub keeps : flow.keeps ≡ true
  pub hands : (tag : Tag) → IsTrue (is_open flow tag)

-- the flow is one of a rule of these, or of a complement
abbrev pub IsRuleFlow : Change → List Rule → Flow → Type 0
IsRuleFlow c rules flow =
    (rule : Rule) × (premise : ℕ) × (direction : Direction) × IsIn rule rules × IsPassing c rule premise direction flow

abbrev pub IsComplementFlow : Change → Flow → Type 0
IsComplementFlow c flow = (set : ℕ) × (base : ℕ) × (direction : Direction) × IsSwapping c set base direction flow

-- what a set hands on to its complement, from one direction to the other
abbrev pub swapped_flow : Structures → ℕ → ℕ → Direction → Direction → Flow
swapped_flow base set under from to = record {
  from = row_number base from (Set under);
  to = row_number base to (Set set);
  keeps = true;
  without_written = false;
  without_fresh = false;
}

abbrev pub complement_flows : Structures → ℕ → SetDecl → List Flow
complement_flows base set d =
    option_map_or (λ under. swapped_flow base set under Gain Loss ∷ swapped_flow base set under Loss Gain ∷ []) d.except []

-- all that the premises of these rules hand on, and nothing else
pub record AreRuleFlows (c : Change) (rules : List Rule) (flows : List Flow) : Type 0 where
  pub sound : (flow : Flow) → IsIn flow flows → IsRuleFlow c rules flow
  pub all :
      (rule : Rule) (premise : ℕ) (direction : Direction) → IsIn rule rules → rule.premise ≡ Some premise
      → (flow : Flow) × IsIn flow flows × IsPassing c rule premise direction flow

-- all that is handed on, and nothing else
pub record AreFlows (c : Change) (flows : List Flow) : Type 0 where
  pub sound : (flow : Flow) → IsIn flow flows → IsRuleFlow c c.spec.rules flow ⊎ IsComplementFlow c flow
  pub rules :
      (rule : Rule) (premise : ℕ) (direction : Direction) → IsIn rule c.spec.rules → rule.premise ≡ Some premise
      → (flow : Flow) × IsIn flow flows × IsPassing c rule premise direction flow
  pub complements :
      (set base : ℕ) (direction : Direction) → base_of c.spec set ≡ Some base
      → (flow : Flow) × IsIn flow flows × IsSwapping c set base direction flow
