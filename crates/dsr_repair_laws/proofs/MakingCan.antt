-- The writes of an instance's rule can be made at its record and entry, where what is picked fits.
use Rattle.std.proofs.Common.{◌≡◌, ◌∙◌, ℕ, Bool, true, false, List, [], ◌∷◌, None, Some, inl, inr, refl, sym, ap, subst}
use Rattle.std.specs.List.{filter_map}
use Rattle.std.specs.Option.{option_and_then, option_map_or}
use Rattle.std.proofs.lemmas.Option.{same_Some}
use Rattle.dsr_ir.specs.Rules.{target_of}
use Rattle.dsr_ir.specs.declared.declarations.Field.{Field}
use Rattle.dsr_ir.specs.declared.declarations.FieldRef.{FieldRef}
use Rattle.dsr_ir.specs.declared.declarations.Spec.{Spec}
use Rattle.dsr_ir.specs.declared.layouts.Layout.{Layout}
use Rattle.dsr_ir.specs.declared.rules.Guard.{Guard}
use Rattle.dsr_ir.specs.declared.rules.Path.{Path}
use Rattle.dsr_ir.specs.declared.rules.Rule.{Rule}
use Rattle.dsr_ir.specs.declared.tuples.Instance.{Instance}
use Rattle.dsr_ir.specs.declared.updates.Pick.{Pick}
use Rattle.dsr_ir.specs.declared.updates.Pick.TheVariants as picks
use Rattle.dsr_ir.specs.declared.updates.Write.{Write}
use Rattle.dsr_meaning.specs.Counting.{IsIn}
use Rattle.dsr_meaning.specs.Instances.{IsInstance, declared_field, kind_pool, premise_pool}
use Rattle.dsr_meaning.specs.Refusals.{IsLayoutOf}
use Rattle.dsr_meaning.specs.Typed.{IsTyped, IsTypedGuard, IsTypedPath, IsTypedRule}
use Rattle.dsr_step_theory.specs.Images.{IsFree, IsOfHead}
use Rattle.dsr_step_laws.proofs.AllTrue.{first_true, in_others, target_written}
use Rattle.dsr_step_laws.proofs.Together.{target_typed}
use Rattle.dsr_step_theory.specs.Steps.{CanWrite}
use Rattle.dsr_step_theory.specs.declared.steps.Step.{Step}
use Rattle.dsr_update_theory.specs.Guards.{guard_write, pick_wanted}
use Rattle.dsr_update_theory.specs.Options.{options, reference_write, target_option}
use Rattle.dsr_repair_theory.specs.Reading.{IsPathIn}
use Rattle.dsr_update_theory.specs.Templates.{all_true, others, target_writes, value_write}
use Rattle.dsr_repair_laws.proofs.MakingEntries.{FitsField, SameEntry, can_write, none_fits_field}
use Rattle.dsr_repair_laws.proofs.MakingHead.{of_head}
use Rattle.dsr_repair_laws.proofs.MakingWrites.{IsFitPick, IsOpenWrite, fit_pick, is_free, of_guard, of_reference, of_value}
use Rattle.dsr_meaning.proofs.Items.{in_either, in_filter, of_all}
use Rattle.dsr_meaning.proofs.Options.{chained_from}

-- the write can be made, is of no fixed field, and of one of the head's where it writes the head
abbrev pub IsMade : Spec → Layout → Step → Write → Type 0
IsMade spec layout step write = CanWrite spec layout step write × IsFree spec write × IsOfHead spec step.elem write × IsPathIn spec step.elem.pool write

module _ (spec : Spec) (bytes : List ℕ) (layout : Layout) (is : IsLayoutOf spec bytes layout) (typed : IsTyped spec) (step : Step) where
  pick_fits : (field : FieldRef) (f : Field) (pick : Pick) → declared_field spec.base field ≡ Some f → IsFitPick f pick → FitsField spec layout step field f pick
  pick_fits field f pick declared (IsFitPick.num n less) = record { number = n; number_is = refl; fits = less }
  pick_fits field f pick declared (IsFitPick.none pool refers) = none_fits_field spec bytes layout is typed step field f pool declared refers

  module _ (i : Instance) (rule : Rule) (instance : IsInstance spec layout i rule) (of : IsTypedRule spec.base rule) (elem : i.elem ≡ step.elem) (same : (path : Path) → IsTypedPath spec.base rule path → SameEntry step i path) where
    -- a write to a typed path whose field isn't fixed
    open_made : (path : Path) (its : IsTypedPath spec.base rule path) (pick : Pick) (write : Write) → IsOpenWrite spec.base path pick write → FitsField spec layout step path.field its.field pick → IsMade spec layout step write
    open_made path its pick write by fits = (
      can_write spec bytes layout is typed step i rule instance of elem path its write (same path its) by.path_is (subst (FitsField spec layout step path.field its.field) (sym by.pick_is) fits),
      is_free spec path pick write by,
      of_head spec typed rule of step.elem (subst (λ e. e.pool ≡ premise_pool spec rule) elem instance.pool_is) path its write by.path_is,
      record { rule = rule; typed = of; path = subst (IsTypedPath spec.base rule) (sym by.path_is) its; pool_is = subst (λ e. e.pool ≡ premise_pool spec rule) elem instance.pool_is },
    )

    pub guard_made : (wanted : Bool) (guard : Guard) (write : Write) → IsIn guard rule.guards → guard_write spec.base wanted guard ≡ Some write → IsMade spec layout step write
    guard_made wanted guard write is_in e =
        let its = of_all (IsTypedGuard spec.base rule) rule.guards guard of.guards is_in in
        let by = of_guard spec.base wanted guard write e in
        let field : by.open_write.field ≡ its.path.field = same_Some by.open_write.field its.path.field (sym by.open_write.declared ∙ its.path.is_field.declared) in
        let picked : pick_wanted wanted its.path.field guard.test ≡ Some by.pick = subst (λ f. pick_wanted wanted f guard.test ≡ Some by.pick) field by.picks in
        open_made guard.path its.path by.pick write by.open_write (pick_fits guard.path.field its.path.field by.pick its.path.is_field.declared (fit_pick wanted its.path.field guard.test by.pick its.test picked))

    target_its : (path : Path) → target_of rule.inc ≡ Some path → IsTypedPath spec.base rule path
    target_its path target = target_typed spec.base rule rule.inc path target of.inc

    pub target_made : (pick : Pick) (path : Path) (write : Write) → target_of rule.inc ≡ Some path → reference_write spec.base pick path ≡ Some write → ((f : Field) (pool : ℕ) → declared_field spec.base path.field ≡ Some f → kind_pool f.kind ≡ Some pool → FitsField spec layout step path.field f pick) → IsMade spec layout step write
    target_made pick path write target e fits =
        let its = target_its path target in
        let by = of_reference spec.base pick path write e in
        let field : by.open_write.field ≡ its.field = same_Some by.open_write.field its.field (sym by.open_write.declared ∙ its.is_field.declared) in
        open_made path its pick write by.open_write (fits its.field by.pool its.is_field.declared (subst (λ (f : Field). kind_pool f.kind ≡ Some by.pool) field by.refers))

    pub value_made : (pick : Pick) (path : Path) (write : Write) → target_of rule.inc ≡ Some path → value_write spec.base pick path ≡ Some write → ((f : Field) → declared_field spec.base path.field ≡ Some f → FitsField spec layout step path.field f pick) → IsMade spec layout step write
    value_made pick path write target e fits =
        let its = target_its path target in
        open_made path its pick write (of_value spec.base pick path write e) (fits its.field its.is_field.declared)

    -- guards that are made true
    pub all_true_made : (guards : List Guard) (writes : List Write) → all_true spec.base guards ≡ Some writes → ((guard : Guard) → IsIn guard guards → IsIn guard rule.guards) → (write : Write) → IsIn write writes → IsMade spec layout step write
    all_true_made [] writes e among write is_in = absurd (subst (IsIn write) (sym (same_Some [] writes e)) is_in)
    all_true_made (guard ∷ rest) writes e among write is_in =
        let first = first_true spec.base guard rest writes e in
        elim (subst (IsIn write) first.are is_in) as (λ _. IsMade spec layout step write) [
          | inl here ↦ guard_made true guard write (among guard (inl refl)) (first.made ∙ ap Some (sym here))
          | inr later ↦ all_true_made rest first.later first.later_are (λ g i. among g (inr i)) write later
        ]

    -- and a target besides
    pub target_writes_made : (pick : Pick) (path : Path) (writes : List Write) → target_of rule.inc ≡ Some path → target_writes spec.base pick path rule.guards ≡ Some writes → ((f : Field) (pool : ℕ) → declared_field spec.base path.field ≡ Some f → kind_pool f.kind ≡ Some pool → FitsField spec layout step path.field f pick) → (write : Write) → IsIn write writes → IsMade spec layout step write
    target_writes_made pick path writes target e fits write is_in =
        let by = target_written spec.base pick path rule.guards writes e in
        elim (subst (IsIn write) by.are is_in) as (λ _. IsMade spec layout step write) [
          | inl here ↦ target_made pick path write target (by.made ∙ ap Some (sym here)) fits
          | inr later ↦ all_true_made (others path.field rule.guards) by.later by.later_are (λ g i. (in_others path.field rule.guards g i).among) write later
        ]

    -- one option by which the instance can be made to give nothing
    pub option_made : (write : Write) → IsIn write (options spec.base rule) → IsMade spec layout step write
    option_made write is_in = elim (in_either write (filter_map (guard_write spec.base false) rule.guards) (target_option spec.base rule) is_in) as (λ _. IsMade spec layout step write) [
      | inl of_guards ↦
          let found = in_filter (guard_write spec.base false) rule.guards write of_guards in
          guard_made false found.from write found.among found.is
      | inr of_target ↦ elim (option_and_then (reference_write spec.base picks.NoneCode) (target_of rule.inc)) as (λ o. option_and_then (reference_write spec.base picks.NoneCode) (target_of rule.inc) ≡ o → IsIn write (option_map_or (λ w. w ∷ []) o []) → IsMade spec layout step write) [
        | None ↦ λ _ no. absurd no
        | Some w ↦ λ e found. elim found as (λ _. IsMade spec layout step write) [
          | inl here ↦
              let from = chained_from (reference_write spec.base picks.NoneCode) (target_of rule.inc) w e in
              target_made picks.NoneCode from.0 write from.1.0 (from.1.1 ∙ ap Some (sym here)) (λ f pool declared refers. none_fits_field spec bytes layout is typed step from.0.field f pool declared refers)
          | inr none ↦ absurd none
        ]
      ] refl of_target
    ]
