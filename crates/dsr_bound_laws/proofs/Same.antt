-- What is left on an image is left for one literal alone, and is one number.
use Rattle.std.proofs.Common.{◌≡◌, ◌-◌, ◌*◌, ℕ, List, length, refl, sym, ap, subst, ◌∙◌, arith}
use Rattle.dsr_ir.specs.declared.constraints.Constraint.{Constraint}
use Rattle.dsr_ir.specs.declared.constraints.Literal.{Literal}
use Rattle.dsr_ir.specs.declared.declarations.Spec.{Spec}
use Rattle.dsr_ir.specs.declared.layouts.Layout.{Layout}
use Rattle.dsr_ir.specs.declared.updates.Goal.{Goal}
use Rattle.dsr_ir.specs.declared.updates.Goal.TheVariants as goals
use Rattle.dsr_ir.specs.declared.updates.Symbol.{Symbol}
use Rattle.dsr_ir.specs.declared.updates.Template.{Template}
use Rattle.dsr_graph_theory.specs.Sides.{atom_symbol}
use Rattle.dsr_meaning.proofs.Counts.{many_once}
use Rattle.dsr_meaning.specs.Consistency.{BoundConstraint}
use Rattle.dsr_meaning.specs.Models.{IsFact}
use Rattle.dsr_plan_theory.specs.declared.choices.Choice.{Choice}
use Rattle.dsr_plan_theory.specs.declared.choices.Row.{Row}
use Rattle.dsr_repair_theory.specs.Due.{IsDueBinding, IsDueConj, IsDueLiteral}
use Rattle.dsr_bound_laws.specs.Bounds.{instances_and_one}
use Rattle.dsr_template_laws.specs.Helping.{IsActiveFor}
use Rattle.dsr_bound_laws.specs.Remaining.{AreToStop, IsLeft, IsRemaining, IsRepairable, cost_of}
use Rattle.dsr_bound_laws.specs.Remaining.IsRemaining.{left, nothing}
use Rattle.dsr_run_laws.proofs.Again.{no_later, no_later_literal, same_binding, same_constraint, same_literal, same_row, same_template}
use Rattle.dsr_bound_laws.proofs.Sublists.{sum_no_more}

module _ (spec : Spec) (choice : Choice) (layout : Layout) (bytes : List ℕ) (m : ℕ)
    (v : BoundConstraint) (c : Constraint) (r : Row) (conj literal : ℕ) (its : Literal) (template : Template)
    (binding_is : IsDueBinding (IsFact spec layout bytes) spec choice v c r)
    (conj_is : IsDueConj (IsFact spec layout bytes) v.binding c r conj)
    (literal_is : IsDueLiteral (IsFact spec layout bytes) v.binding c r conj literal its template) where
  abbrev Left : BoundConstraint → Constraint → Row → ℕ → ℕ → Literal → Template → ℕ → Type 0
  Left = IsLeft spec choice layout bytes m

  -- in the same conjunction
  same_literals : (literal' : ℕ) (its' : Literal) (template' : Template) (n : ℕ) → Left v c r conj literal' its' template' n → Left v c r conj literal its template n
  same_literals literal' its' template' n is =
      let P = IsFact spec layout bytes in
      let to = no_later_literal v.binding c r P conj literal literal' its its' template template' is.literal_is literal_is.repaired in
      let from = no_later_literal v.binding c r P conj literal' literal its' its template' template literal_is is.literal_is.repaired in
      let same : literal' ≡ literal = omega (arith, to, from) in
      let same_its = same_literal v.binding c r P P conj literal' literal its' its template' template is.literal_is.repaired literal_is.repaired same in
      let same_by = same_template v.binding c r P P conj literal' literal its' its template' template is.literal_is.repaired literal_is.repaired same in
      subst (λ x. Left v c r conj literal its x n) same_by (subst (λ x. Left v c r conj literal x template' n) same_its (subst (λ x. Left v c r conj x its' template' n) same is))

  -- at the same binding
  same_conjs : (conj' literal' : ℕ) (its' : Literal) (template' : Template) (n : ℕ) → Left v c r conj' literal' its' template' n → Left v c r conj literal its template n
  same_conjs conj' literal' its' template' n is =
      let P = IsFact spec layout bytes in
      let to = no_later v.binding c r P conj conj' is.conj_is conj_is.tests in
      let from = no_later v.binding c r P conj' conj conj_is is.conj_is.tests in
      let same : conj' ≡ conj = omega (arith, to, from) in
      same_literals literal' its' template' n (subst (λ x. Left v c r x literal' its' template' n) same is)

  -- wherever
  pub same_left :
      (w : BoundConstraint) (d : Constraint) (s : Row) (conj' literal' : ℕ) (its' : Literal) (template' : Template) (n : ℕ)
      → Left w d s conj' literal' its' template' n → Left v c r conj literal its template n
  same_left w d s conj' literal' its' template' n is =
      let P = IsFact spec layout bytes in
      let to = binding_is.lowest w s is.binding_is.violated is.binding_is.row_of.row_is in
      let from = is.binding_is.lowest v r binding_is.violated binding_is.row_of.row_is in
      let same = same_binding spec choice P P w v d c s r is.binding_is binding_is (omega (arith, to, from)) is.binding_is.violated binding_is.violated in
      let c_is = same_constraint spec choice P P w v d c s r is.binding_is binding_is same in
      let r_is = same_row spec choice P P w v d c s r is.binding_is binding_is same in
      same_conjs conj' literal' its' template' n
      (subst (λ x. Left x c r conj' literal' its' template' n) same
      (subst (λ x. Left w x r conj' literal' its' template' n) c_is (subst (λ x. Left w d x conj' literal' its' template' n) r_is is)))

to_stop_once : (spec : Spec) (layout : Layout) (bytes : List ℕ) (symbol : Symbol) (goal : Goal) (n k : ℕ) → AreToStop spec layout bytes symbol goal n → AreToStop spec layout bytes symbol goal k → n ≡ k
to_stop_once spec layout bytes symbol goals.RemoveSet n k a b = many_once (IsActiveFor spec layout bytes symbol) n k a b
to_stop_once spec layout bytes symbol goals.RemoveTuple n k a b = many_once (IsActiveFor spec layout bytes symbol) n k a b
to_stop_once spec layout bytes symbol goals.Trim n k a b = many_once (IsActiveFor spec layout bytes symbol) n k a b
to_stop_once spec layout bytes symbol goals.ExactlyOne n k a b = many_once (IsActiveFor spec layout bytes symbol) n k a b
to_stop_once spec layout bytes symbol goals.AddSet n k a b = a ∙ sym b
to_stop_once spec layout bytes symbol goals.AddTuple n k a b = a ∙ sym b
to_stop_once spec layout bytes symbol goals.SetValue n k a b = a ∙ sym b
to_stop_once spec layout bytes symbol goals.Supply n k a b = a ∙ sym b

module _ (spec : Spec) (choice : Choice) (layout : Layout) (bytes : List ℕ) where
  left_once :
      (m : ℕ) (v : BoundConstraint) (c : Constraint) (r : Row) (conj literal : ℕ) (its : Literal) (template : Template) (n k : ℕ)
      → IsLeft spec choice layout bytes m v c r conj literal its template n → IsLeft spec choice layout bytes m v c r conj literal its template k → n ≡ k
  left_once m v c r conj literal its template n k a b =
      let stop = to_stop_once spec layout bytes (atom_symbol its.atom) template.goal a.to_stop b.to_stop a.are_to_stop b.are_to_stop in
      let repair = many_once (IsRepairable (IsFact spec layout bytes) v.binding c r conj) a.to_repair b.to_repair a.are_to_repair b.are_to_repair in
      let low = sum_no_more (cost_of spec m) a.others b.others a.are_others.distinct (λ w i. b.are_others.all w (a.are_others.only w i)) in
      let high = sum_no_more (cost_of spec m) b.others a.others b.are_others.distinct (λ w i. a.are_others.all w (b.are_others.only w i)) in
      let one = a.number in
      let two = b.number in
      let product = ap (λ x. (x - 1) * m) repair in
      omega (arith, stop, low, high, one, two, product)

  pub remaining_once : (n k : ℕ) → IsRemaining spec choice layout bytes n → IsRemaining spec choice layout bytes k → n ≡ k
  remaining_once _ _ (nothing consistent) (nothing _) = refl
  remaining_once _ _ (nothing consistent) (left v c r conj literal its template k b) = absurd (consistent v b.binding_is.violated)
  remaining_once _ _ (left v c r conj literal its template n a) (nothing consistent) = absurd (consistent v a.binding_is.violated)
  remaining_once _ _ (left v c r conj literal its template n a) (left w d s conj' literal' its' template' k b) =
      left_once (instances_and_one spec (length bytes)) v c r conj literal its template n k a
      (same_left spec choice layout bytes (instances_and_one spec (length bytes)) v c r conj literal its template a.binding_is a.conj_is a.literal_is w d s conj' literal' its' template' k b)
