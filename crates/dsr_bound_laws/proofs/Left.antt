-- What is left is at most what the constraints of its level and of higher ones cost.
use Rattle.std.proofs.Common.{◌≡◌, ◌≤◌, ◌<◌, ◌+◌, ◌-◌, ◌*◌, ℕ, zero, suc, List, [], ◌∷◌, length, Some, slice_get, inl, inr, refl, sym, ap, subst, ◌∙◌, arith}
use Rattle.std.specs.Option.{option_and_then, option_map_or}
use Rattle.std.proofs.Math.Nat.{le-max_left, le-max_right}
use Rattle.std.proofs.lemmas.Option.{slice_get_within}
use Rattle.dsr_ir.specs.declared.constraints.Conj.{Conj}
use Rattle.dsr_ir.specs.declared.constraints.Constraint.{Constraint}
use Rattle.dsr_ir.specs.declared.constraints.Literal.{Literal}
use Rattle.dsr_ir.specs.declared.declarations.Spec.{Spec}
use Rattle.dsr_ir.specs.declared.layouts.Layout.{Layout}
use Rattle.dsr_ir.specs.declared.updates.Goal.{Goal}
use Rattle.dsr_ir.specs.declared.updates.Symbol.{Symbol}
use Rattle.dsr_ir.specs.declared.updates.Template.{Template}
use Rattle.dsr_meaning.specs.Consistency.{BoundConstraint, IsViolated}
use Rattle.dsr_meaning.specs.Counting.{IsIn}
use Rattle.dsr_meaning.specs.Models.{IsFact}
use Rattle.dsr_plan_theory.specs.declared.choices.Choice.{Choice}
use Rattle.dsr_plan_theory.specs.declared.choices.Row.{Row}
use Rattle.dsr_bound_laws.specs.Bounds.{binding_cost, conj_cost, most_literals, total}
use Rattle.dsr_bound_laws.specs.Remaining.{AreToStop, IsLeft, IsRepairable, cost_of, higher_cost}
use Rattle.dsr_bound_laws.proofs.Levels.{FewBindings, LevelBindings, level_bindings, level_cost}
use Rattle.dsr_bound_laws.proofs.Sizes.{within_binding}
use Rattle.dsr_bound_laws.proofs.Sublists.{many_below, many_some, sum_no_more}

-- a literal of a conjunction stands before as many as the longest one has
pub literal_below : (conjs : List Conj) (conj n : ℕ) (its : Literal) → option_and_then (λ l. slice_get l.literals n) (slice_get conjs conj) ≡ Some its → n < most_literals conjs
literal_below [] conj n its is = absurd cc
literal_below (c ∷ conjs) zero n its is =
    let within = slice_get_within c.literals n its is in
    let most = le-max_left (length c.literals) (most_literals conjs) in
    omega (arith, within, most)
literal_below (c ∷ conjs) (suc conj) n its is =
    let within = literal_below conjs conj n its is in
    let most = le-max_right (length c.literals) (most_literals conjs) in
    omega (arith, within, most)

module _ (spec : Spec) (choice : Choice) (layout : Layout) (bytes : List ℕ) (m : ℕ) where
  abbrev pub FewStops : Type 0
  FewStops = (symbol : Symbol) (goal : Goal) (n : ℕ) → AreToStop spec layout bytes symbol goal n → n + 1 ≤ m

  abbrev pub FewAll : Type 0
  FewAll = (k : ℕ) (c : Constraint) → slice_get spec.constraints k ≡ Some c → FewBindings (IsFact spec layout bytes) m c.quant

  module _ (v : BoundConstraint) (constraint : Constraint) (row : Row) (conj literal : ℕ) (its : Literal) (template : Template) (n : ℕ)
      (left : IsLeft spec choice layout bytes m v constraint row conj literal its template n) where
    pub cost_is : cost_of spec m v ≡ binding_cost m constraint
    cost_is = ap (λ o. option_map_or (binding_cost m) o 0) left.binding_is.row_of.constraint_is

    pub some_to_repair : 1 ≤ left.to_repair
    some_to_repair =
        many_some (IsRepairable (IsFact spec layout bytes) v.binding constraint row conj) left.to_repair literal
        (record { its = its; template = template; is = left.literal_is.repaired }) left.are_to_repair

    pub few_to_repair : left.to_repair ≤ most_literals constraint.conjs
    few_to_repair =
        many_below (IsRepairable (IsFact spec layout bytes) v.binding constraint row conj) left.to_repair (most_literals constraint.conjs)
        (λ x r. literal_below constraint.conjs conj x r.its r.is.literal_is) left.are_to_repair

    module _ (stops : FewStops) where
      pub few_to_stop : left.to_stop + 1 ≤ m
      few_to_stop = stops _ _ left.to_stop left.are_to_stop

      -- at its own binding
      pub own_cost : left.to_stop + 1 + (left.to_repair - 1) * m + conj * conj_cost m constraint ≤ cost_of spec m v
      own_cost =
          let most = within_binding m left.to_stop left.to_repair (most_literals constraint.conjs) conj (length constraint.conjs) few_to_stop some_to_repair few_to_repair left.conj_is.there in
          omega (arith, most, cost_is)

      -- at all bindings of the level
      pub all_cost : FewAll → total (cost_of spec m) (v ∷ left.others) ≤ level_cost m row.level choice.rows spec.constraints
      all_cost few =
          let all = level_bindings (IsFact spec layout bytes) m row.level (λ k. option_map_or (binding_cost m) (slice_get spec.constraints k) 0) 0 choice.rows spec.constraints
          (λ j c is. (few j c is, ap (λ k. option_map_or (binding_cost m) (slice_get spec.constraints k) 0) (omega arith) ∙ ap (λ o. option_map_or (binding_cost m) o 0) is)) in
          let less = sum_no_more (cost_of spec m) (v ∷ left.others) all.all
          (λ i. (left.are_others.only v i).other refl, left.are_others.distinct)
          (λ w i. elim i as (λ _. IsIn w all.all) [
            | inl same ↦ subst (λ x. IsIn x all.all) (sym same) (placed all v left.binding_is.violated row left.binding_is.row_of.row_is refl)
            | inr among ↦ let other = left.are_others.only w among in placed all w other.violated other.row other.row_is other.level_is
          ]) in
          let cheap = all.cheap in
          omega (arith, less, cheap) where
            placed :
                (all : LevelBindings (IsFact spec layout bytes) (λ k. option_map_or (binding_cost m) (slice_get spec.constraints k) 0) m row.level 0 choice.rows spec.constraints)
                (w : BoundConstraint) → IsViolated (IsFact spec layout bytes) spec w → (r : Row) → slice_get choice.rows w.constraint ≡ Some r
                → r.level ≡ row.level → IsIn w all.all
            placed all w violated r r_is level_is =
                let none : 0 + w.constraint ≡ w.constraint = omega arith in
                subst (λ k. IsIn {A = BoundConstraint} (record { constraint = k; binding = w.binding }) all.all) none
                (all.have w.constraint violated.constraint r w.binding violated.declared r_is level_is violated.is_binding)

      pub left_bounded : FewAll → n ≤ level_cost m row.level choice.rows spec.constraints + higher_cost m row.level choice.rows spec.constraints
      left_bounded few =
          let own = own_cost in
          let all = all_cost few in
          let number = left.number in
          omega (arith, own, all, number)
