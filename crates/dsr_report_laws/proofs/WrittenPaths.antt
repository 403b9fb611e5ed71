-- Each write of a step that is due is to a path which a rule reads in records of the written record's pool.
use Rattle.std.proofs.Common.{◌≡◌, ◌<◌, ◌∙◌, ℕ, List, [], ◌∷◌, Option, None, Some, length, inl, inr, refl, sym, ap, subst, slice_get}
use Rattle.std.specs.List.{filter_map}
use Rattle.std.specs.Option.{option_and_then, option_map_or}
use Rattle.std.specs.Prelude.{Bool, true, false, option_map}
use Rattle.std.proofs.lemmas.Bool.{and_parts}
use Rattle.std.proofs.lemmas.Option.{same_Some, slice_get_within}
use Rattle.dsr_repair_theory.specs.Choices.{IsPlace}
use Rattle.dsr_repair_laws.proofs.Compensating.{compensating, only_compensated}
use Rattle.dsr_repair_laws.proofs.MakingRecords.{of_rule, own_source, place_named, start_record}
use Rattle.dsr_repair_laws.proofs.MakingWrites.{of_guard, of_reference, of_value}
use Rattle.dsr_repair_laws.proofs.RawUpdates.{IsStopChosen}
use Rattle.dsr_repair_laws.proofs.TriedSteps.{IsTriedStep, chosen_kind, own_place, placed_at, stopped}
use Rattle.dsr_repair_laws.proofs.TriedUpdates.{IsAdder, IsAdding, IsSetAt, IsSetting, IsSupplying}
use Rattle.dsr_repair_laws.proofs.WrittenRecords.{var_pool}
use Rattle.dsr_repair_laws.specs.Grown.{Compensates}
use Rattle.dsr_ir.specs.Rules.{target_of}
use Rattle.dsr_ir.specs.declared.constraints.Atom.TheVariants as atoms
use Rattle.dsr_ir.specs.declared.constraints.Measure.{Measure}
use Rattle.dsr_ir.specs.declared.constraints.Var.{Var}
use Rattle.dsr_ir.specs.declared.declarations.Rel.{Rel}
use Rattle.dsr_ir.specs.declared.declarations.Spec.{Spec}
use Rattle.dsr_ir.specs.declared.layouts.Layout.{Layout}
use Rattle.dsr_ir.specs.declared.rules.Guard.{Guard}
use Rattle.dsr_ir.specs.declared.rules.Path.{Path}
use Rattle.dsr_ir.specs.declared.rules.Rule.{Rule}
use Rattle.dsr_ir.specs.declared.tuples.Element.{Element}
use Rattle.dsr_ir.specs.declared.updates.Goal.{Goal}
use Rattle.dsr_ir.specs.declared.updates.Pick.{Pick}
use Rattle.dsr_ir.specs.declared.updates.Pick.TheVariants as picks
use Rattle.dsr_ir.specs.declared.updates.Symbol.{Symbol}
use Rattle.dsr_ir.specs.declared.updates.Update.{Update}
use Rattle.dsr_ir.specs.declared.updates.Write.{Write}
use Rattle.dsr_meaning.proofs.Items.{in_either, in_filter, of_all, place_of}
use Rattle.dsr_meaning.proofs.Options.{chained_from, some_and}
use Rattle.dsr_meaning.specs.Counting.{IsIn}
use Rattle.dsr_meaning.specs.Instances.{pool_of_premise, premise_pool}
use Rattle.dsr_meaning.specs.Truth.{head}
use Rattle.dsr_meaning.specs.Typed.{IsTyped, IsTypedAtom, IsTypedGuard, IsTypedPath, IsTypedRule, pool_of_var}
use Rattle.dsr_plan_theory.specs.Plans.{owner_at}
use Rattle.dsr_step_laws.proofs.AllTrue.{first_true, in_others, target_written}
use Rattle.dsr_step_laws.proofs.Together.{target_typed}
use Rattle.dsr_step_theory.specs.declared.steps.Step.{Step}
use Rattle.dsr_update_theory.specs.Changes.{place_pool}
use Rattle.dsr_update_theory.specs.Givers.{is_own, is_single}
use Rattle.dsr_update_theory.specs.Guards.{guard_write}
use Rattle.dsr_update_theory.specs.Options.{options, reference_write, target_option}
use Rattle.dsr_update_theory.specs.Templates.{all_true, others, pick_of, starts_at, target_writes}

-- ---- writes of a rule

-- the rule reads the path in records of the pool
pub record IsRulePath (spec : Spec) (pool : ℕ) (path : Path) : Type 0 where
  pub rule : Rule
  pub typed : IsTypedRule spec.base rule
  pub pool_is : pool ≡ premise_pool spec rule
  pub its : IsTypedPath spec.base rule path

-- so of a write's path
abbrev pub IsOfRule : Spec → Step → Write → Type 0
IsOfRule spec step write = IsRulePath spec step.elem.pool write.path

module _ (spec : Spec) (step : Step) (rule : Rule) (of : IsTypedRule spec.base rule) (pool : step.elem.pool ≡ premise_pool spec rule) where
  path_of : (path : Path) → IsTypedPath spec.base rule path → (write : Write) → write.path ≡ path → IsOfRule spec step write
  path_of path its write same = record { rule = rule; typed = of; pool_is = pool; its = subst (IsTypedPath spec.base rule) (sym same) its }

  guard_of : (wanted : Bool) (guard : Guard) (write : Write) → IsIn guard rule.guards → guard_write spec.base wanted guard ≡ Some write → IsOfRule spec step write
  guard_of wanted guard write is_in e =
      path_of guard.path (of_all (IsTypedGuard spec.base rule) rule.guards guard of.guards is_in).path write
      (of_guard spec.base wanted guard write e).open_write.path_is

  target_its : (path : Path) → target_of rule.inc ≡ Some path → IsTypedPath spec.base rule path
  target_its path target = target_typed spec.base rule rule.inc path target of.inc

  target_reference : (pick : Pick) (path : Path) (write : Write) → target_of rule.inc ≡ Some path → reference_write spec.base pick path ≡ Some write → IsOfRule spec step write
  target_reference pick path write target e = path_of path (target_its path target) write (of_reference spec.base pick path write e).open_write.path_is

  all_true_of :
      (guards : List Guard) (writes : List Write) → all_true spec.base guards ≡ Some writes
      → ((guard : Guard) → IsIn guard guards → IsIn guard rule.guards) → (write : Write) → IsIn write writes → IsOfRule spec step write
  all_true_of [] writes e among write is_in = absurd (subst (IsIn write) (sym (same_Some [] writes e)) is_in)
  all_true_of (guard ∷ rest) writes e among write is_in =
      let first = first_true spec.base guard rest writes e in
      elim (subst (IsIn write) first.are is_in) as (λ _. IsOfRule spec step write) [
        | inl here ↦ guard_of true guard write (among guard (inl refl)) (first.made ∙ ap Some (sym here))
        | inr later ↦ all_true_of rest first.later first.later_are (λ g i. among g (inr i)) write later
      ]

  target_writes_of :
      (pick : Pick) (path : Path) (writes : List Write) → target_of rule.inc ≡ Some path
      → target_writes spec.base pick path rule.guards ≡ Some writes → (write : Write) → IsIn write writes → IsOfRule spec step write
  target_writes_of pick path writes target e write is_in =
      let by = target_written spec.base pick path rule.guards writes e in
      elim (subst (IsIn write) by.are is_in) as (λ _. IsOfRule spec step write) [
        | inl here ↦ target_reference pick path write target (by.made ∙ ap Some (sym here))
        | inr later ↦ all_true_of (others path.field rule.guards) by.later by.later_are (λ g i. (in_others path.field rule.guards g i).among) write later
      ]

  target_option_of : (o : Option Write) → option_and_then (reference_write spec.base picks.NoneCode) (target_of rule.inc) ≡ o → (write : Write) → IsIn write (option_map_or (λ w. w ∷ []) o []) → IsOfRule spec step write
  target_option_of None e write is_in = absurd is_in
  target_option_of (Some w) e write (inr none) = absurd none
  target_option_of (Some w) e write (inl here) =
      let from = chained_from (reference_write spec.base picks.NoneCode) (target_of rule.inc) w e in
      target_reference picks.NoneCode from.0 write from.1.0 (from.1.1 ∙ ap Some (sym here))

  option_of : (write : Write) → IsIn write (options spec.base rule) → IsOfRule spec step write
  option_of write is_in = elim (in_either write (filter_map (guard_write spec.base false) rule.guards) (target_option spec.base rule) is_in) as (λ _. IsOfRule spec step write) [
    | inl of_guards ↦
        let found = in_filter (guard_write spec.base false) rule.guards write of_guards in
        guard_of false found.from write found.among found.is
    | inr of_target ↦ target_option_of (option_and_then (reference_write spec.base picks.NoneCode) (target_of rule.inc)) refl write of_target
  ]

-- ---- writes of a step

module _ (spec : Spec) (layout : Layout) (bytes : List ℕ) (step : Step) (update : Update) (s : IsTriedStep spec layout bytes step update) where
  abbrev typed : IsTyped spec
  typed = s.image.typed

  abbrev u : Update
  u = s.own

  rule_of : (rule : Rule) → slice_get spec.rules u.rule ≡ Some rule → IsTypedRule spec.base rule
  rule_of rule is = of_rule spec typed u.rule rule is

  -- an update that adds writes the record at which its rule starts
  adding_pool : (symbol : Symbol) (v : Var) (rule : Rule) → IsAdding spec s.known symbol v rule u → step.elem.pool ≡ premise_pool spec rule
  adding_pool symbol v rule adding =
      let serves = and_parts (is_single rule.span) (starts_at s.known v rule) adding.serves_it in
      let place = subst (λ p. IsPlace step.binding s.chosen.stopped p step.elem) adding.place_is (own_place spec layout bytes step update s) in
      let at = place_named v step.binding s.chosen.stopped step.elem place in
      (start_record spec bytes layout s.image.layout_is.numbers typed s.constraint.quant s.there.quant_typed step.binding s.bound s.known s.tells v rule step.elem serves.1 at).pool_is

  supplier_of : (measure : Measure) → IsSupplying spec s.known measure u → (write : Write) → IsIn write u.writes → IsOfRule spec step write
  supplier_of measure y =
      target_writes_of spec step y.rule (rule_of y.rule y.adding_is.giver.rule_is) (adding_pool _ y.v y.rule y.adding_is) picks.Fresh y.path u.writes y.target_is y.made

  -- one that sets a value writes the variable's record, or the head
  setting_pool : (goal : Goal) (y : IsSetting spec goal s.literal.atom u) → IsSetAt y.v y.rel y.path y.rule u → step.elem.pool ≡ premise_pool spec y.rule
  setting_pool goal y (IsSetAt.own inc single place_is at_is) =
      let quant = s.constraint.quant in
      let place = subst (λ p. IsPlace step.binding s.chosen.stopped p step.elem) place_is (own_place spec layout bytes step update s) in
      let named = place_named y.v step.binding s.chosen.stopped step.elem place in
      let its = var_pool spec bytes layout s.image.layout_is.numbers typed step.binding quant step.binding s.bound y.v step.elem named in
      let value : IsTypedAtom spec quant (atoms.Value y.v y.rel y.op y.bound) = subst (IsTypedAtom spec quant) y.atom_is s.there.literal_typed.atom in
      let rel = some_and (slice_get spec.base.rels y.rel) (λ r. (r.target ≡ None) × (pool_of_var spec.base quant y.v ≡ Some r.source)) value.0 in
      let source = own_source spec typed y.rule y.rel y.rule.inc (rule_of y.rule y.giver.rule_is).inc y.giver.gives (ap is_own inc) in
      let same : Some step.elem.pool ≡ Some (premise_pool spec y.rule) =
      sym its ∙ (rel.1.1.1 ∙ (sym (ap (option_map (λ (r : Rel). r.source)) rel.1.0) ∙ source)) in
      same_Some step.elem.pool (premise_pool spec y.rule) same
  setting_pool goal y (IsSetAt.slot pool inc premise place_is at_is) =
      let is_head : step.elem ≡ head = subst (λ p. IsPlace step.binding s.chosen.stopped p step.elem) place_is (own_place spec layout bytes step update s) in
      ap (λ (e : Element). e.pool) is_head ∙ sym (ap (pool_of_premise spec.base) premise)

  setting_of : (goal : Goal) → IsSetting spec goal s.literal.atom u → (write : Write) → IsIn write u.writes → IsOfRule spec step write
  setting_of goal y write is_in =
      let of = rule_of y.rule y.giver.rule_is in
      let its = path_of spec step y.rule of (setting_pool goal y y.placed) y.path (target_typed spec.base y.rule y.rule.inc y.path y.target_is of.inc) y.write
      (of_value spec.base (pick_of y.bound) y.path y.write y.write_is).path_is in
      elim (subst (IsIn write) y.writes_are is_in) as (λ _. IsOfRule spec step write) [
        | inl here ↦ subst (IsOfRule spec step) (sym here) its
        | inr none ↦ absurd none
      ]

  adder_of : (goal : Goal) → IsAdder spec s.known goal s.literal.atom u → (write : Write) → IsIn write u.writes → IsOfRule spec step write
  adder_of goal (IsAdder.joins y) =
      all_true_of spec step y.rule (rule_of y.rule y.adding_is.giver.rule_is) (adding_pool _ y.v y.rule y.adding_is) y.rule.guards u.writes y.made (λ guard i. i)
  adder_of goal (IsAdder.relates y) =
      target_writes_of spec step y.rule (rule_of y.rule y.adding_is.giver.rule_is) (adding_pool _ y.v y.rule y.adding_is) (picks.CodeOf y.w) y.path u.writes y.target_is y.made
  adder_of goal (IsAdder.supplies_some measure goal_is atom_is y) = supplier_of measure y
  adder_of goal (IsAdder.supplies_one measure goal_is atom_is y) = supplier_of measure y
  adder_of goal (IsAdder.sets y) = setting_of goal y

  -- one that takes a fact away writes the record of the instance that it stops
  removal_of : IsStopChosen spec layout bytes step.binding s.template.goal s.literal.atom step.update u update s.chosen.stopped → (write : Write) → IsIn write u.writes → IsOfRule spec step write
  removal_of stop write is_in =
      let rule = stop.removing.rule in
      let at = stopped spec layout bytes step update s stop in
      let pool : step.elem.pool ≡ premise_pool spec rule = ap (λ (e : Element). e.pool) at.elem ∙ at.gives.is_instance.pool_is in
      let option : IsIn write (options spec.base rule) = elim (subst (IsIn write) stop.removing.writes_are is_in) as (λ _. IsIn write (options spec.base rule)) [
        | inl one ↦ subst (λ w. IsIn w (options spec.base rule)) (sym one) stop.removing.option
        | inr none ↦ absurd none
      ] in
      option_of spec step rule (rule_of rule stop.removing.giver.rule_is) pool write option

  -- and what compensates it is a guard of a rule for such records
  compensation_of : (write : Write) → Compensates (owner_at spec step.constraint s.constraint) s.raw write → IsOfRule spec step write
  compensation_of write compensates =
      let its = compensating (owner_at spec step.constraint s.constraint) s.raw write compensates in
      let rule = its.by.rule in
      let one : u ≡ its.update = (only_compensated s.raw.goal s.raw.updates its.update u step.update its.only s.own_at).same in
      let pool : place_pool spec s.constraint.quant u.rule u.place ≡ Some (premise_pool spec rule) =
      subst (λ (x : Update). place_pool spec s.constraint.quant x.rule x.place ≡ Some (premise_pool spec rule)) (sym one) its.by.may.touched.pool in
      let placed = placed_at spec layout bytes step update s in
      let own_pool : place_pool spec s.constraint.quant u.rule u.place ≡ Some step.elem.pool =
      subst (λ p. place_pool spec s.constraint.quant u.rule p ≡ Some step.elem.pool) s.grown.place_same
      (subst (λ k. place_pool spec s.constraint.quant k update.place ≡ Some step.elem.pool) s.grown.rule_same placed.pool_is) in
      let k = place_of spec.rules rule its.by.among in
      guard_of spec step rule (of_rule spec typed k.0 rule k.1) (same_Some step.elem.pool (premise_pool spec rule) (sym own_pool ∙ pool)) false its.by.guard write its.by.guard_in its.by.write_is

  pub each_of_rule : (write : Write) → IsIn write update.writes → IsOfRule spec step write
  each_of_rule write is_in = elim (in_either write u.writes s.grown.more (subst (IsIn write) s.grown.writes_are is_in)) as (λ _. IsOfRule spec step write) [
    | inl own ↦ elim (chosen_kind spec layout bytes step update s) as (λ _. IsOfRule spec step write) [
      | inl first ↦ adder_of s.template.goal first.adder write own
      | inr stop ↦ removal_of stop write own
    ]
    | inr more ↦ compensation_of write (s.grown.among write more)
  ]

  -- ---- the update's rule is declared

  declared : (rule : Rule) → slice_get spec.rules u.rule ≡ Some rule → update.rule < length spec.rules
  declared rule is = subst (λ k. k < length spec.rules) (sym s.grown.rule_same) (slice_get_within spec.rules u.rule rule is)

  adder_declared : (goal : Goal) → IsAdder spec s.known goal s.literal.atom u → update.rule < length spec.rules
  adder_declared goal (IsAdder.joins y) = declared y.rule y.adding_is.giver.rule_is
  adder_declared goal (IsAdder.relates y) = declared y.rule y.adding_is.giver.rule_is
  adder_declared goal (IsAdder.supplies_some measure goal_is atom_is y) = declared y.rule y.adding_is.giver.rule_is
  adder_declared goal (IsAdder.supplies_one measure goal_is atom_is y) = declared y.rule y.adding_is.giver.rule_is
  adder_declared goal (IsAdder.sets y) = declared y.rule y.giver.rule_is

  pub rule_declared : update.rule < length spec.rules
  rule_declared = elim (chosen_kind spec layout bytes step update s) as (λ _. update.rule < length spec.rules) [
    | inl first ↦ adder_declared s.template.goal first.adder
    | inr stop ↦ declared stop.removing.rule stop.removing.giver.rule_is
  ]
