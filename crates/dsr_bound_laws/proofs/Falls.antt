-- What remains falls with a step that keeps what is promised.
use Rattle.std.proofs.Common.{◌≡◌, ◌≢◌, ◌≤◌, ◌<◌, ◌+◌, ◌-◌, ◌*◌, ℕ, List, ◌∷◌, Some, slice_get, ◌⊎◌, inl, inr, refl, sym, ap, subst, ◌∙◌, arith}
use Rattle.std.proofs.lemmas.Bool.{cases_lt, cases_order}
use Rattle.std.proofs.lemmas.Option.{same_Some}
use Rattle.dsr_model_laws.proofs.Instances.{elements}
use Rattle.dsr_model_laws.proofs.Listed.{numbers}
use Rattle.dsr_model_laws.proofs.Models.{facts_listed}
use Rattle.dsr_model_laws.proofs.Truths.{literal_decided}
use Rattle.dsr_model_laws.proofs.Ways.{AreCompared, both, by_logic}
use Rattle.dsr_bound_laws.proofs.Fewer.{StopsSome, many_fewer}
use Rattle.dsr_ir.specs.declared.constraints.Constraint.{Constraint}
use Rattle.dsr_ir.specs.declared.constraints.Literal.{Literal}
use Rattle.dsr_ir.specs.declared.declarations.Spec.{Spec}
use Rattle.dsr_ir.specs.declared.layouts.Layout.{Layout}
use Rattle.dsr_ir.specs.declared.tuples.Binding.{Binding}
use Rattle.dsr_ir.specs.declared.tuples.Binding.TheVariants.{Once, Each, Pair}
use Rattle.dsr_ir.specs.declared.updates.Goal.{Goal}
use Rattle.dsr_ir.specs.declared.updates.Goal.TheVariants as goals
use Rattle.dsr_ir.specs.declared.updates.Symbol.{Symbol}
use Rattle.dsr_ir.specs.declared.updates.Template.{Template}
use Rattle.dsr_graph_theory.specs.Sides.{atom_symbol}
use Rattle.dsr_meaning.specs.Consistency.{BoundConstraint, IsViolated}
use Rattle.dsr_meaning.specs.Counting.{IsIn}
use Rattle.dsr_meaning.specs.Models.{IsFact}
use Rattle.dsr_meaning.specs.Truth.{LiteralHolds}
use Rattle.dsr_plan_theory.specs.declared.choices.Choice.{Choice}
use Rattle.dsr_plan_theory.specs.declared.choices.Row.{Row}
use Rattle.dsr_repair_theory.specs.Due.{IsToRepair}
use Rattle.dsr_update_theory.specs.Templates.{literal_at}
use Rattle.dsr_bound_laws.specs.Bounds.{conj_cost, most_literals, total}
use Rattle.dsr_bound_laws.specs.Remaining.{AreToStop, IsLeft, IsRepairable, cost_of, higher_cost}
use Rattle.dsr_run_laws.proofs.Again.{no_later, no_later_literal, same_binding, same_constraint, same_literal, same_row, same_template, tests_stay, was_to_repair}
use Rattle.dsr_bound_laws.proofs.Left.{FewAll, FewStops, few_to_repair, few_to_stop, left_bounded, own_cost, some_to_repair}
use Rattle.dsr_bound_laws.proofs.Levels.{within_higher}
use Rattle.dsr_bound_laws.proofs.Sizes.{earlier_conj, fewer_literals, fewer_stops}
use Rattle.dsr_bound_laws.proofs.Sublists.{many_no_more, sum_no_more}

-- what is kept from the old bytes to the new ones by a step for this literal
pub record IsHelped (spec : Spec) (choice : Choice) (layout : Layout) (old new : List ℕ) (v : BoundConstraint) (constraint : Constraint)
    (row : Row) (conj literal : ℕ) (its : Literal) (template : Template) : Type 0 where
  pub spares :
      (w : BoundConstraint) (other : Row) → slice_get choice.rows w.constraint ≡ Some other → other.level ≤ row.level
      → IsViolated (IsFact spec layout new) spec w → IsViolated (IsFact spec layout old) spec w
  pub stay :
      (n : ℕ) (o : Literal) → n ≢ literal → literal_at constraint conj n ≡ Some o
      → LiteralHolds (IsFact spec layout old) v.binding o → LiteralHolds (IsFact spec layout new) v.binding o
  pub helps :
      LiteralHolds (IsFact spec layout new) v.binding its
      ⊎ StopsSome spec layout old new (atom_symbol its.atom) template.goal

-- fewer are to be stopped, where the template stops some
fewer_to_stop :
    (spec : Spec) (layout : Layout) (old new : List ℕ) (symbol : Symbol) (goal : Goal) (n k : ℕ)
    → StopsSome spec layout old new symbol goal → AreToStop spec layout old symbol goal n → AreToStop spec layout new symbol goal k → k < n
fewer_to_stop spec layout old new symbol goals.RemoveSet n k some a b = some.fewer n k a b
fewer_to_stop spec layout old new symbol goals.RemoveTuple n k some a b = some.fewer n k a b
fewer_to_stop spec layout old new symbol goals.Trim n k some a b = some.fewer n k a b
fewer_to_stop spec layout old new symbol goals.ExactlyOne n k some a b = some.fewer n k a b
fewer_to_stop spec layout old new symbol goals.AddSet n k some a b = absurd some.stops
fewer_to_stop spec layout old new symbol goals.AddTuple n k some a b = absurd some.stops
fewer_to_stop spec layout old new symbol goals.SetValue n k some a b = absurd some.stops
fewer_to_stop spec layout old new symbol goals.Supply n k some a b = absurd some.stops

-- bindings are told apart
compared_bindings : AreCompared Binding
compared_bindings Once Once = inl refl
compared_bindings Once (Each b) = inr (λ (e : Once ≡ Each b). absurd cc)
compared_bindings Once (Pair b d) = inr (λ (e : Once ≡ Pair b d). absurd cc)
compared_bindings (Each a) Once = inr (λ (e : Each a ≡ Once). absurd cc)
compared_bindings (Each a) (Each b) = by_logic (λ e. ap Each e) (λ (e : Each a ≡ Each b). let q : a ≡ b = cc in q) (elements a b)
compared_bindings (Each a) (Pair b d) = inr (λ (e : Each a ≡ Pair b d). absurd cc)
compared_bindings (Pair a c) Once = inr (λ (e : Pair a c ≡ Once). absurd cc)
compared_bindings (Pair a c) (Each b) = inr (λ (e : Pair a c ≡ Each b). absurd cc)
compared_bindings (Pair a c) (Pair b d) =
    by_logic (λ (p : (a ≡ b) × (c ≡ d)). λ i. Pair (p.0 i) (p.1 i)) (λ (e : Pair a c ≡ Pair b d). let p : a ≡ b = cc in let q : c ≡ d = cc in (p, q)) (both (elements a b) (elements c d))

pub same_or_other : AreCompared BoundConstraint
same_or_other v w =
    by_logic (λ (p : (v.constraint ≡ w.constraint) × (v.binding ≡ w.binding)). λ i. record { constraint = p.0 i; binding = p.1 i })
    (λ e. (ap (λ (x : BoundConstraint). x.constraint) e, ap (λ (x : BoundConstraint). x.binding) e))
    (both (numbers v.constraint w.constraint) (compared_bindings v.binding w.binding))

module _ (spec : Spec) (choice : Choice) (layout : Layout) (old new : List ℕ) (m : ℕ)
    (stops : FewStops spec choice layout new m) (few : FewAll spec choice layout new m) where
  -- ---- at the same binding
  module _ (v : BoundConstraint) (c : Constraint) (r : Row) (conj literal : ℕ) (its : Literal) (template : Template) (n : ℕ)
      (left : IsLeft spec choice layout old m v c r conj literal its template n)
      (helped : IsHelped spec choice layout old new v c r conj literal its template) where
    repair : IsToRepair (IsFact spec layout old) v.binding c r conj literal its template
    repair = left.literal_is.repaired

    -- what is repairable then was so before
    was_repairable : (x : ℕ) → IsRepairable (IsFact spec layout new) v.binding c r conj x → IsRepairable (IsFact spec layout old) v.binding c r conj x
    was_repairable x is = record {
      its = is.its;
      template = is.template;
      is = was_to_repair v.binding c r (IsFact spec layout old) (IsFact spec layout new) conj literal its template repair helped.stay x is.its is.template is.is;
    }

    -- ---- and in the same conjunction
    module _ (literal' : ℕ) (its' : Literal) (template' : Template) (k : ℕ)
        (after : IsLeft spec choice layout new m v c r conj literal' its' template' k) where
      abbrev Own : Type 0
      Own = after.to_stop + 1 + (after.to_repair - 1) * m + conj * conj_cost m c < left.to_stop + 1 + (left.to_repair - 1) * m + conj * conj_cost m c

      -- the literal is true now, so that fewer are false
      now_true : LiteralHolds (IsFact spec layout new) v.binding its → Own
      now_true holds =
          let fewer = many_fewer (IsRepairable (IsFact spec layout old) v.binding c r conj) (IsRepairable (IsFact spec layout new) v.binding c r conj)
          left.to_repair after.to_repair literal was_repairable (record { its = its; template = template; is = repair })
          (λ again. again.is.is_false (subst (LiteralHolds (IsFact spec layout new) v.binding) (same_Some its again.its (sym repair.literal_is ∙ again.is.literal_is)) holds))
          left.are_to_repair after.are_to_repair in
          fewer_literals m left.to_stop left.to_repair after.to_stop after.to_repair (conj * conj_cost m c)
          (few_to_stop spec choice layout new m v c r conj literal' its' template' k after stops)
          (some_to_repair spec choice layout new m v c r conj literal' its' template' k after) fewer

      -- it is still false, so that it is due again, and fewer are left to be stopped
      still_false : (LiteralHolds (IsFact spec layout new) v.binding its → ⊥) → StopsSome spec layout old new (atom_symbol its.atom) template.goal → Own
      still_false fails some =
          let again : IsToRepair (IsFact spec layout new) v.binding c r conj literal its template = record { literal_is = repair.literal_is; template_is = repair.template_is; is_false = fails } in
          let to = no_later_literal v.binding c r (IsFact spec layout new) conj literal literal' its its' template template' after.literal_is again in
          let before = was_to_repair v.binding c r (IsFact spec layout old) (IsFact spec layout new) conj literal its template repair helped.stay literal' its' template' after.literal_is.repaired in
          let from = no_later_literal v.binding c r (IsFact spec layout old) conj literal' literal its' its template' template left.literal_is before in
          let same : literal' ≡ literal = omega (arith, to, from) in
          let same_its = same_literal v.binding c r (IsFact spec layout new) (IsFact spec layout new) conj literal' literal its' its template' template after.literal_is.repaired again same in
          let same_by = same_template v.binding c r (IsFact spec layout new) (IsFact spec layout new) conj literal' literal its' its template' template after.literal_is.repaired again same in
          let are : AreToStop spec layout new (atom_symbol its.atom) template.goal after.to_stop =
          subst (λ (t : Template). AreToStop spec layout new (atom_symbol its.atom) t.goal after.to_stop) same_by
          (subst (λ (l : Literal). AreToStop spec layout new (atom_symbol l.atom) template'.goal after.to_stop) same_its after.are_to_stop) in
          fewer_stops m left.to_stop left.to_repair after.to_stop after.to_repair (conj * conj_cost m c)
          (fewer_to_stop spec layout old new (atom_symbol its.atom) template.goal left.to_stop after.to_stop some left.are_to_stop are)
          (many_no_more (IsRepairable (IsFact spec layout old) v.binding c r conj) (IsRepairable (IsFact spec layout new) v.binding c r conj) left.to_repair after.to_repair was_repairable left.are_to_repair after.are_to_repair)

      own_less : Own
      own_less = elim helped.helps as (λ _. Own) [
        | inl holds ↦ now_true holds
        | inr some ↦ elim (literal_decided (IsFact spec layout new) (facts_listed spec layout new) v.binding its) as (λ _. Own) [
          | inl holds ↦ now_true holds
          | inr fails ↦ still_false fails some
        ]
      ]

    -- ---- in whichever conjunction
    module _ (conj' literal' : ℕ) (its' : Literal) (template' : Template) (k : ℕ)
        (after : IsLeft spec choice layout new m v c r conj' literal' its' template' k) where
      -- other bindings of the level that are violated now were so before
      others_less : total (cost_of spec m) after.others ≤ total (cost_of spec m) left.others
      others_less =
          sum_no_more (cost_of spec m) after.others left.others after.are_others.distinct
          (λ w i.
          let other = after.are_others.only w i in
          let low : other.row.level ≤ r.level = let e = other.level_is in omega (arith, e) in
          left.are_others.all w (record {
            violated = helped.spares w other.row other.row_is low other.violated;
            other = other.other;
            row = other.row;
            row_is = other.row_is;
            level_is = other.level_is;
          }))

      own_lower : after.to_stop + 1 + (after.to_repair - 1) * m + conj' * conj_cost m c < left.to_stop + 1 + (left.to_repair - 1) * m + conj * conj_cost m c
      own_lower =
          let to = no_later v.binding c r (IsFact spec layout new) conj conj' after.conj_is
          (tests_stay v.binding c r (IsFact spec layout old) (IsFact spec layout new) conj literal its template repair helped.stay left.conj_is.tests) in
          elim (cases_lt conj' conj) as (λ _. after.to_stop + 1 + (after.to_repair - 1) * m + conj' * conj_cost m c < left.to_stop + 1 + (left.to_repair - 1) * m + conj * conj_cost m c) [
            | inl less ↦
                earlier_conj m left.to_stop left.to_repair (most_literals c.conjs) conj after.to_stop after.to_repair conj'
                (few_to_stop spec choice layout new m v c r conj' literal' its' template' k after stops)
                (some_to_repair spec choice layout new m v c r conj' literal' its' template' k after)
                (few_to_repair spec choice layout new m v c r conj' literal' its' template' k after) less
            | inr from ↦
                let same : conj' ≡ conj = omega (arith, to, from) in
                same_conj conj' same after
          ] where
            same_conj : (x : ℕ) → x ≡ conj → (a : IsLeft spec choice layout new m v c r x literal' its' template' k)
                → a.to_stop + 1 + (a.to_repair - 1) * m + x * conj_cost m c < left.to_stop + 1 + (left.to_repair - 1) * m + conj * conj_cost m c
            same_conj x same a =
                subst (λ y. (b : IsLeft spec choice layout new m v c r y literal' its' template' k)
                → b.to_stop + 1 + (b.to_repair - 1) * m + y * conj_cost m c < left.to_stop + 1 + (left.to_repair - 1) * m + conj * conj_cost m c)
                (sym same) (λ b. own_less literal' its' template' k b) a

      at_same : k < n
      at_same =
          let own = own_lower in
          let others = others_less in
          let before = left.number in
          let now = after.number in
          omega (arith, own, others, before, now)

    -- ---- wherever
    module _ (w : BoundConstraint) (d : Constraint) (s : Row) (conj' literal' : ℕ) (its' : Literal) (template' : Template) (k : ℕ)
        (after : IsLeft spec choice layout new m w d s conj' literal' its' template' k) where
      -- on a higher level
      at_higher : r.level < s.level → k < n
      at_higher less =
          let most = left_bounded spec choice layout new m w d s conj' literal' its' template' k after stops few in
          let within = within_higher m r.level s.level choice.rows spec.constraints less in
          let before = left.number in
          omega (arith, most, within, before)

      before_too : s.level ≤ r.level → IsViolated (IsFact spec layout old) spec w
      before_too low = helped.spares w s after.binding_is.row_of.row_is low after.binding_is.violated

      -- at another binding of the level
      at_other : r.level ≡ s.level → v ≢ w → k < n
      at_other level other =
          let gone : IsViolated (IsFact spec layout new) spec v → ⊥ =
          λ still. other (same_binding spec choice (IsFact spec layout old) (IsFact spec layout new) v w c d r s left.binding_is after.binding_is level still
          (before_too (omega (arith, level)))) in
          let less = sum_no_more (cost_of spec m) (w ∷ after.others) left.others
          (λ i. (after.are_others.only w i).other refl, after.are_others.distinct)
          (λ x i. elim i as (λ _. IsIn x left.others) [
            | inl same ↦ subst (λ y. IsIn y left.others) (sym same) (left.are_others.all w (record {
              violated = before_too (omega (arith, level));
              other = λ e. other (sym e);
              row = s;
              row_is = after.binding_is.row_of.row_is;
              level_is = sym level;
            }))
            | inr among ↦
                let it = after.are_others.only x among in
                let its_level : it.row.level ≡ r.level = it.level_is ∙ sym level in
                left.are_others.all x (record {
                  violated = helped.spares x it.row it.row_is (omega (arith, its_level)) it.violated;
                  other = λ e. gone (subst (IsViolated (IsFact spec layout new) spec) e it.violated);
                  row = it.row;
                  row_is = it.row_is;
                  level_is = its_level;
                })
          ]) in
          let own = own_cost spec choice layout new m w d s conj' literal' its' template' k after stops in
          let before = left.number in
          let now = after.number in
          let higher = ap (λ l. higher_cost m l choice.rows spec.constraints) level in
          omega (arith, less, own, before, now, higher)

      at_this : v ≡ w → k < n
      at_this same =
          let c_is = same_constraint spec choice (IsFact spec layout old) (IsFact spec layout new) v w c d r s left.binding_is after.binding_is same in
          let r_is = same_row spec choice (IsFact spec layout old) (IsFact spec layout new) v w c d r s left.binding_is after.binding_is same in
          at_same conj' literal' its' template' k
          (subst (λ x. IsLeft spec choice layout new m x c r conj' literal' its' template' k) (sym same)
          (subst (λ x. IsLeft spec choice layout new m w x r conj' literal' its' template' k) (sym c_is)
          (subst (λ x. IsLeft spec choice layout new m w d x conj' literal' its' template' k) (sym r_is) after)))

      pub left_falls : k < n
      left_falls = elim (cases_order r.level s.level) as (λ _. k < n) [
        | inl level ↦ elim (same_or_other v w) as (λ _. k < n) [ inl same ↦ at_this same | inr other ↦ at_other level other ]
        | inr (inl less) ↦ at_higher less
        | inr (inr more) ↦
            let from = left.binding_is.lowest w s (before_too (omega (arith, more))) after.binding_is.row_of.row_is in
            absurd (omega (arith, from, more))
      ]
