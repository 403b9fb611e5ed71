-- Which symbols don't gain, or don't change at all, by the updates of the examples.
use Rattle.std.proofs.Common.{◌≡◌, ◌∙◌, ◌⊎◌, ◌+◌, ℕ, zero, suc, false, List, None, Some, IsSomeAnd, IsTrue, inl, inr, refl, sym, ap, subst, arith}
use Rattle.std.proofs.lemmas.Bool.{false≢true}
use Rattle.std.proofs.lemmas.Option.{same_Some, none-some}
use Rattle.dsr_step_laws.proofs.Given.{example, from_head, marked, of_node, rules}
use Rattle.dsr_step_laws.proofs.Tried.{clear, cut, unmark}
use Rattle.dsr_ir.specs.Rules as rules_of
use Rattle.dsr_ir.specs.declared.constraints.Quant.TheVariants.{Each, Once}
use Rattle.dsr_ir.specs.declared.declarations.Spec.{Spec}
use Rattle.dsr_ir.specs.declared.rules.Op.TheVariants.{Eq}
use Rattle.dsr_ir.specs.declared.rules.Rule.{Rule}
use Rattle.dsr_ir.specs.declared.rules.Test.TheVariants.{Cmp}
use Rattle.dsr_ir.specs.declared.updates.Goal.TheVariants as goals
use Rattle.dsr_ir.specs.declared.updates.Symbol.{Symbol}
use Rattle.dsr_ir.specs.declared.updates.Symbol.TheVariants.{Set, Rel}
use Rattle.dsr_graph_theory.specs.Owners.{Keeps}
use Rattle.dsr_meaning.specs.Counting.{IsIn}
use Rattle.dsr_meaning.specs.Instances.{pool_of_premise}
use Rattle.dsr_meaning.specs.Models.{base_of}
use Rattle.dsr_update_theory.specs.Avoided.{IsAvoided}
use Rattle.dsr_update_theory.specs.Changes.{Change, fresh_pool, reads_touched, written_pool}
use Rattle.dsr_update_theory.specs.Effects.{InTable, MayChange, is_gain}
use Rattle.dsr_update_theory.specs.Touching.{IsBlockedAtW, IsTouchedAtF, IsTouchedAtW, named_by}
use Rattle.dsr_update_theory.specs.Values.{CellValue, Number, Passes}
use Rattle.dsr_update_theory.specs.declared.effects.Direction.{Direction}
use Rattle.dsr_update_theory.specs.declared.effects.Direction.TheVariants.{Gain}
use Rattle.dsr_update_theory.specs.declared.effects.Tag.{Tag}

-- ---- tables

touching : (c : Change) (rule : Rule) (d : Direction) (t : Tag) → MayChange c rule d t → IsTouchedAtW c rule ⊎ IsTouchedAtF c rule
touching c rule d t (MayChange.gain_at_w at open_there) = inl at
touching c rule d t (MayChange.loss_at_w at stays) = inl at
touching c rule d t (MayChange.gain_at_f at open_there) = inr at
touching c rule d t (MayChange.loss_at_f at stays) = inr at

gaining : (c : Change) (rule : Rule) (d : Direction) (t : Tag) → MayChange c rule d t → d ≡ Gain → (IsTouchedAtW c rule × (IsBlockedAtW c rule false → ⊥)) ⊎ IsTouchedAtF c rule
gaining c rule d t (MayChange.gain_at_w at open_there) is = inl (at, open_there)
gaining c rule d t (MayChange.loss_at_w at stays) is = absurd (false≢true (ap is_gain is))
gaining c rule d t (MayChange.gain_at_f at open_there) is = inr at
gaining c rule d t (MayChange.loss_at_f at stays) is = inr at

module _ (c : Change) (direction : Direction) (symbol : Symbol)
    (untouched : (rule : Rule) → IsIn rule c.spec.rules → rules_of.symbol_of rule.inc ≡ symbol → (t : Tag) → MayChange c rule direction t → ⊥)
    (unpassed : (rule : Rule) (premise : ℕ) → IsIn rule c.spec.rules → rules_of.symbol_of rule.inc ≡ symbol → rule.premise ≡ Some premise → Keeps c direction (Set premise))
    (plain : (set base : ℕ) → base_of c.spec set ≡ Some base → ⊥) where
  not_in : (d : Direction) (s : Symbol) (t : Tag) → InTable c d s t → d ≡ direction → s ≡ symbol → ⊥
  not_in d s t (InTable.touched rule x tag among may) dd ss = untouched rule among ss tag (subst (λ y. MayChange c rule y tag) dd may)
  not_in d s t (InTable.passed rule premise x tag among is there out) dd ss = unpassed rule premise among ss is tag (subst (λ y. InTable c y (Set premise) tag) dd there)
  not_in d s t (InTable.swapped set below x tag is there) dd ss = plain set below is

  keeps_by : Keeps c direction symbol
  keeps_by tag there = not_in direction symbol tag there refl refl

-- ---- the rules of the example

abbrev code : Symbol → ℕ
code (Set n) = n
code (Rel n) = 2 + n

-- the rule is this one, so that this is its symbol
symbol_there : (rule own : Rule) (s : Symbol) → rule ≡ own → rules_of.symbol_of rule.inc ≡ s → code (rules_of.symbol_of own.inc) ≡ code s
symbol_there rule own s same is = ap code (sym (ap (λ (r : Rule). rules_of.symbol_of r.inc) same) ∙ is)

no_base : (set below : ℕ) → base_of example set ≡ Some below → ⊥
no_base zero below is = none-some below is
no_base (suc zero) below is = none-some below is
no_base (suc (suc n)) below is = none-some below is

rules_of_a : (rule : Rule) → IsIn rule rules → rules_of.symbol_of rule.inc ≡ Set 0 → (rule ≡ from_head 0) ⊎ (rule ≡ from_head 1)
rules_of_a rule (inl same) is = inl same
rules_of_a rule (inr (inl same)) is = inr same
rules_of_a rule (inr (inr (inl same))) is = let n : 1 ≡ 0 = symbol_there rule marked (Set 0) same is in absurd (omega (arith, n))
rules_of_a rule (inr (inr (inr (inl same)))) is = let n : 2 ≡ 0 = symbol_there rule (of_node 0 0) (Set 0) same is in absurd (omega (arith, n))
rules_of_a rule (inr (inr (inr (inr (inl same))))) is = let n : 3 ≡ 0 = symbol_there rule (of_node 1 1) (Set 0) same is in absurd (omega (arith, n))
rules_of_a rule (inr (inr (inr (inr (inr none))))) is = absurd none

rule_of_b : (rule : Rule) → IsIn rule rules → rules_of.symbol_of rule.inc ≡ Set 1 → rule ≡ marked
rule_of_b rule (inl same) is = let n : 0 ≡ 1 = symbol_there rule (from_head 0) (Set 1) same is in absurd (omega (arith, n))
rule_of_b rule (inr (inl same)) is = let n : 0 ≡ 1 = symbol_there rule (from_head 1) (Set 1) same is in absurd (omega (arith, n))
rule_of_b rule (inr (inr (inl same))) is = same
rule_of_b rule (inr (inr (inr (inl same)))) is = let n : 2 ≡ 1 = symbol_there rule (of_node 0 0) (Set 1) same is in absurd (omega (arith, n))
rule_of_b rule (inr (inr (inr (inr (inl same))))) is = let n : 3 ≡ 1 = symbol_there rule (of_node 1 1) (Set 1) same is in absurd (omega (arith, n))
rule_of_b rule (inr (inr (inr (inr (inr none))))) is = absurd none

rule_of_n : (rule : Rule) → IsIn rule rules → rules_of.symbol_of rule.inc ≡ Rel 0 → rule ≡ of_node 0 0
rule_of_n rule (inl same) is = let n : 0 ≡ 2 = symbol_there rule (from_head 0) (Rel 0) same is in absurd (omega (arith, n))
rule_of_n rule (inr (inl same)) is = let n : 0 ≡ 2 = symbol_there rule (from_head 1) (Rel 0) same is in absurd (omega (arith, n))
rule_of_n rule (inr (inr (inl same))) is = let n : 1 ≡ 2 = symbol_there rule marked (Rel 0) same is in absurd (omega (arith, n))
rule_of_n rule (inr (inr (inr (inl same)))) is = same
rule_of_n rule (inr (inr (inr (inr (inl same))))) is = let n : 3 ≡ 2 = symbol_there rule (of_node 1 1) (Rel 0) same is in absurd (omega (arith, n))
rule_of_n rule (inr (inr (inr (inr (inr none))))) is = absurd none

at_head : (rule : Rule) → (rule ≡ from_head 0) ⊎ (rule ≡ from_head 1) → rule.premise ≡ None
at_head rule (inl same) = ap (λ (r : Rule). r.premise) same
at_head rule (inr same) = ap (λ (r : Rule). r.premise) same

-- ---- where a node is written, A stays

module _ (c : Change) (spec_is : c.spec ≡ example) (node : written_pool c ≡ Some 1) where
  among_rules : (rule : Rule) → IsIn rule c.spec.rules → IsIn rule rules
  among_rules rule i = subst (λ (s : Spec). IsIn rule s.rules) spec_is i

  unwritten : (rule : Rule) → rule.premise ≡ None → IsTouchedAtW c rule ⊎ IsTouchedAtF c rule → ⊥
  unwritten rule none (inl at_w) =
      let pool : 1 ≡ 0 = same_Some 1 0 (sym node ∙ (at_w.pool ∙ ap (λ o. Some (pool_of_premise c.spec.base o)) none)) in
      omega (arith, pool)
  unwritten rule none (inr at_f) = subst (λ o. IsSomeAnd o (λ set. IsAvoided c.spec (named_by (fresh_pool c)) set → ⊥)) none at_f.premise

  pub a_stays : (direction : Direction) → Keeps c direction (Set 0)
  a_stays direction =
      keeps_by c direction (Set 0)
      (λ rule i is t may. unwritten rule (at_head rule (rules_of_a rule (among_rules rule i) is)) (touching c rule direction t may))
      (λ rule premise i is some. absurd (none-some premise (sym (at_head rule (rules_of_a rule (among_rules rule i) is)) ∙ some)))
      (λ set below is. no_base set below (subst (λ s. base_of s set ≡ Some below) spec_is is))

-- ---- removals gain nothing in their symbol

-- x.next := none
abbrev pub cutting : List (ℕ × ℕ) → Change
cutting exclusive = record { spec = example; exclusive = exclusive; quant = Each 0; goal = goals.RemoveTuple; update = cut }

pub cut_keeps : (exclusive : List (ℕ × ℕ)) → Keeps (cutting exclusive) Gain (Rel 0)
cut_keeps exclusive =
    keeps_by (cutting exclusive) Gain (Rel 0)
    (λ rule i is t may. by rule (rule_of_n rule i is) (gaining (cutting exclusive) rule Gain t may refl))
    (λ rule premise i is some. subst (λ n. Keeps (cutting exclusive) Gain (Set n)) (same_Some 0 premise (sym (ap (λ (r : Rule). r.premise) (rule_of_n rule i is)) ∙ some)) (a_stays (cutting exclusive) refl refl Gain))
    no_base where
      blocked : IsBlockedAtW (cutting exclusive) (of_node 0 0) false
      blocked = inr (λ value. ((λ left. left), λ none. none))

      by : (rule : Rule) → rule ≡ of_node 0 0 → (IsTouchedAtW (cutting exclusive) rule × (IsBlockedAtW (cutting exclusive) rule false → ⊥)) ⊎ IsTouchedAtF (cutting exclusive) rule → ⊥
      by rule same (inl at_w) = at_w.1 (subst (λ r. IsBlockedAtW (cutting exclusive) r false) (sym same) blocked)
      by rule same (inr at_f) = none-some _ at_f.pool

-- x.value := 0
abbrev pub unmarking : List (ℕ × ℕ) → Change
unmarking exclusive = record { spec = example; exclusive = exclusive; quant = Each 0; goal = goals.RemoveSet; update = unmark }

pub unmark_keeps : (exclusive : List (ℕ × ℕ)) → Keeps (unmarking exclusive) Gain (Set 1)
unmark_keeps exclusive =
    keeps_by (unmarking exclusive) Gain (Set 1)
    (λ rule i is t may. by rule (rule_of_b rule i is) (gaining (unmarking exclusive) rule Gain t may refl))
    (λ rule premise i is some. subst (λ n. Keeps (unmarking exclusive) Gain (Set n)) (same_Some 0 premise (sym (ap (λ (r : Rule). r.premise) (rule_of_b rule i is)) ∙ some)) (a_stays (unmarking exclusive) refl refl Gain))
    no_base where
      sure : (value : CellValue) → value ≡ Number 0 → Passes (Cmp Eq 1) value → ⊥
      sure value is passes = let no : 0 ≡ 1 = subst (Passes (Cmp Eq 1)) is passes in omega (arith, no)

      blocked : IsBlockedAtW (unmarking exclusive) marked false
      blocked = inl (_, inl refl, sure)

      by : (rule : Rule) → rule ≡ marked → (IsTouchedAtW (unmarking exclusive) rule × (IsBlockedAtW (unmarking exclusive) rule false → ⊥)) ⊎ IsTouchedAtF (unmarking exclusive) rule → ⊥
      by rule same (inl at_w) = at_w.1 (subst (λ r. IsBlockedAtW (unmarking exclusive) r false) (sym same) blocked)
      by rule same (inr at_f) = none-some _ at_f.pool

-- head.second := none
abbrev pub clearing : List (ℕ × ℕ) → Change
clearing exclusive = record { spec = example; exclusive = exclusive; quant = Once; goal = goals.Trim; update = clear 1 }

pub clear_keeps : (exclusive : List (ℕ × ℕ)) → Keeps (clearing exclusive) Gain (Set 0)
clear_keeps exclusive =
    keeps_by (clearing exclusive) Gain (Set 0)
    (λ rule i is t may. by rule (rules_of_a rule i is) (gaining (clearing exclusive) rule Gain t may refl))
    (λ rule premise i is some. absurd (none-some premise (sym (at_head rule (rules_of_a rule i is)) ∙ some)))
    no_base where
      blocked : IsBlockedAtW (clearing exclusive) (from_head 1) false
      blocked = inr (λ value. ((λ left. left), λ none. none))

      by : (rule : Rule) → (rule ≡ from_head 0) ⊎ (rule ≡ from_head 1) → (IsTouchedAtW (clearing exclusive) rule × (IsBlockedAtW (clearing exclusive) rule false → ⊥)) ⊎ IsTouchedAtF (clearing exclusive) rule → ⊥
      by rule (inl same) (inl at_w) = let reads : IsTrue (reads_touched (clearing exclusive) (from_head 0)) = subst (λ r. IsTrue (reads_touched (clearing exclusive) r)) same at_w.0.reads in false≢true reads
      by rule (inr same) (inl at_w) = at_w.1 (subst (λ r. IsBlockedAtW (clearing exclusive) r false) (sym same) blocked)
      by rule either (inr at_f) = none-some _ at_f.pool
