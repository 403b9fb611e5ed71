-- A write of a guard or of a path of a typed rule is fit: its path is typed, and what is picked may stand in its field.
use Rattle.std.proofs.Common.{◌≡◌, ◌≢◌, ◌∙◌, ℕ, Bool, true, false, List, [], ◌∷◌, inl, inr, if◌then◌else◌, None, Some, IsSome, MatchBool, refl, sym, ap, subst}
use Rattle.std.specs.Option.{option_and_then}
use Rattle.std.proofs.lemmas.Option.{same_Some, none-some}
use Rattle.dsr_repair_laws.proofs.MakingCan.{IsMade}
use Rattle.dsr_repair_laws.proofs.MakingWrites.{of_guard}
use Rattle.dsr_ir.specs.declared.declarations.Field.{Field}
use Rattle.dsr_ir.specs.declared.declarations.Structures.{Structures}
use Rattle.dsr_ir.specs.declared.layouts.Layout.{Layout}
use Rattle.dsr_ir.specs.declared.rules.Guard.{Guard}
use Rattle.dsr_ir.specs.declared.rules.Path.{Path}
use Rattle.dsr_ir.specs.declared.rules.Rule.{Rule}
use Rattle.dsr_ir.specs.declared.rules.Span.TheVariants as spans
use Rattle.dsr_ir.specs.declared.rules.Test.{Test}
use Rattle.dsr_ir.specs.declared.rules.Test.TheVariants as tests
use Rattle.dsr_ir.specs.declared.updates.Pick.{Pick}
use Rattle.dsr_ir.specs.declared.updates.Pick.TheVariants as picks
use Rattle.dsr_ir.specs.declared.updates.Write.{Write}
use Rattle.dsr_effect_laws.specs.Fitting.{IsFitWrite, IsPickFor}
use Rattle.dsr_meaning.specs.Counting.{IsIn}
use Rattle.dsr_meaning.specs.Instances.{kind_pool}
use Rattle.dsr_meaning.specs.Legal.{IsLegalLayout}
use Rattle.dsr_meaning.specs.Typed.{IsTypedGuard, IsTypedPath, IsTypedRule, IsTypedTest, RunsOver}
use Rattle.dsr_effect_laws.proofs.GuardsAfter.{test_of}
use Rattle.dsr_step_laws.proofs.GuardWrites.{guard_written, wanted_write}
use Rattle.dsr_step_laws.proofs.Passed.{picked_meets}
use Rattle.dsr_step_laws.proofs.ReferenceWrites.{plain_write}
use Rattle.dsr_step_laws.proofs.Removed.{picked_fails}
use Rattle.dsr_step_theory.specs.Steps.{IsWanted, picked_number}
use Rattle.dsr_step_theory.specs.declared.steps.Step.{Step}
use Rattle.dsr_update_theory.specs.Changes.{Change}
use Rattle.dsr_update_theory.specs.Guards.{fitting, guard_write, number_false, number_true, pick_wanted}
use Rattle.dsr_step_laws.proofs.AllTrue.{first_true}
use Rattle.dsr_ir.specs.declared.declarations.Spec.{Spec}
use Rattle.dsr_meaning.specs.Instances.{declared_field}
use Rattle.dsr_update_theory.specs.Templates.{all_true, value_write}
use Rattle.dsr_meaning.proofs.Options.{chained_from, failed_from, mapped_from}
use Rattle.dsr_meaning.proofs.Items.{of_all}
use Rattle.dsr_repair_laws.proofs.MakingSpans.{indexed_some}

-- of a rule without index no path has one
pub unindexed : (base : Structures) (rule : Rule) (path : Path) → rule.span ≡ spans.Single → IsTypedPath base rule path → path.indexed ≡ false
unindexed base rule path single its =
    elim path.indexed as (λ b. MatchBool b (RunsOver base rule.span its.field.len) (its.field.len ≡ None) → b ≡ false) [
      | true ↦ λ runs. absurd (subst (λ s. RunsOver base s its.field.len) single runs)
      | false ↦ λ _. refl
    ] its.index

-- ---- which writes they are

-- a write by which guards are made true is that of one of them
pub true_made : (base : Structures) (guards : List Guard) (writes : List Write) → all_true base guards ≡ Some writes → (w : Write) → IsIn w writes → (guard : Guard) × IsIn guard guards × (guard_write base true guard ≡ Some w)
true_made base [] writes e w i = absurd (subst (IsIn w) (sym (same_Some [] writes e)) i)
true_made base (guard ∷ rest) writes e w i =
    let first = first_true base guard rest writes e in
    elim (subst (IsIn w) first.are i) as (λ _. (g : Guard) × IsIn g (guard ∷ rest) × (guard_write base true g ≡ Some w)) [
      | inl here ↦ (guard, inl refl, first.made ∙ ap Some (sym here))
      | inr later ↦ let r = true_made base rest first.later first.later_are w later in (r.0, inr r.1, r.2)
    ]

-- a value is written to the path, with no test
pub value_written : (spec : Spec) (pick : Pick) (path : Path) (write : Write) → value_write spec.base pick path ≡ Some write → write ≡ plain_write pick path
value_written spec pick path write e =
    let plain : Write = plain_write pick path in
    let from = chained_from (λ (f : Field). if f.fixed then None else Some plain) (declared_field spec.base path.field) write e in
    sym (same_Some plain write (failed_from from.0.fixed (Some plain) write from.1.1).1)

-- ---- picks

none_pick : (layout : Layout) (step : Step) (f : Field) (pick : Pick) → IsSome (kind_pool f.kind) → Some picks.NoneCode ≡ Some pick → IsPickFor layout step f pick × (pick ≢ picks.Fresh)
none_pick layout step f pick refers e =
    let same : picks.NoneCode ≡ pick = same_Some picks.NoneCode pick e in
    (subst (IsPickFor layout step f) same refers, λ fresh. let no : picks.NoneCode ≡ picks.Fresh = same ∙ fresh in absurd cc)

-- what is picked for a typed test is of the field's kind
pick_for : (layout : Layout) (step : Step) (wanted : Bool) (f : Field) (test : Test) (pick : Pick) → IsTypedTest f test → pick_wanted wanted f test ≡ Some pick → IsPickFor layout step f pick × (pick ≢ picks.Fresh)
pick_for layout step true f (tests.Cmp op k) pick typed e =
    let n = mapped_from picks.Num (option_and_then (fitting f) (number_true op k)) pick e in
    (subst (IsPickFor layout step f) (sym n.1.1) typed.0, λ fresh. let no : picks.Num n.0 ≡ picks.Fresh = sym n.1.1 ∙ fresh in absurd cc)
pick_for layout step false f (tests.Cmp op k) pick typed e =
    let n = mapped_from picks.Num (option_and_then (fitting f) (number_false op k)) pick e in
    (subst (IsPickFor layout step f) (sym n.1.1) typed.0, λ fresh. let no : picks.Num n.0 ≡ picks.Fresh = sym n.1.1 ∙ fresh in absurd cc)
pick_for layout step true f tests.IsNone pick typed e = none_pick layout step f pick typed e
pick_for layout step true f tests.IsSome pick typed e = absurd (none-some pick e)
pick_for layout step true f tests.Legal pick typed e = absurd (none-some pick e)
pick_for layout step true f tests.Illegal pick typed e = absurd (none-some pick e)
pick_for layout step false f tests.IsNone pick typed e = absurd (none-some pick e)
pick_for layout step false f tests.IsSome pick typed e = none_pick layout step f pick typed e
pick_for layout step false f tests.Legal pick typed e = none_pick layout step f pick typed e
pick_for layout step false f tests.Illegal pick typed e = none_pick layout step f pick typed e

module _ (c : Change) (layout : Layout) (legal : IsLegalLayout layout) (step : Step) where
  -- where the picked number makes the test come out as wanted, that holds of it
  serves : (wanted : Bool) (guard : Guard) (f : Field) (pick : Pick) (number : ℕ) → pick_wanted wanted f guard.test ≡ Some pick → picked_number c.spec layout step guard.path.field pick ≡ Some number → IsWanted c.spec layout (wanted_write wanted guard pick) number number
  serves true guard f pick number picks at = picked_meets c.spec layout legal step guard.path.field f guard.test pick number picks at
  serves false guard f pick number picks at = picked_fails c.spec layout legal step guard.path.field f guard.test pick number picks at

  -- the write of a guard of a typed rule
  pub fit_guard : (rule : Rule) → IsTypedRule c.spec.base rule → (wanted : Bool) (guard : Guard) → IsIn guard rule.guards → (write : Write) → guard_write c.spec.base wanted guard ≡ Some write → IsMade c.spec layout step write → IsFitWrite c layout step write
  fit_guard rule typed wanted guard is_in write e made =
      let form = guard_written c.spec.base wanted guard write e in
      let by = of_guard c.spec.base wanted guard write e in
      let its = of_all (IsTypedGuard c.spec.base rule) rule.guards guard typed.guards is_in in
      let field : by.open_write.field ≡ its.path.field = same_Some by.open_write.field its.path.field (sym by.open_write.declared ∙ its.path.is_field.declared) in
      let pick : by.pick ≡ form.pick = sym by.open_write.pick_is ∙ ap (λ (w : Write). w.pick) form.is in
      let picks_it : pick_wanted wanted its.path.field guard.test ≡ Some form.pick = subst (λ f. pick_wanted wanted f guard.test ≡ Some form.pick) field (by.picks ∙ ap Some pick) in
      let m = subst (IsMade c.spec layout step) form.is made in
      let for = pick_for layout step wanted its.path.field guard.test form.pick its.test picks_it in
      subst (IsFitWrite c layout step) (sym form.is) (record {
        can = m.0;
        of_head = m.2;
        field = its.path.field;
        declared = its.path.is_field.declared;
        indexed = indexed_some c.spec.base rule.span guard.path.indexed its.path.field.len its.path.index;
        picks = for.0;
        tests = test_of its.path.field guard.test its.test;
        serves = λ number at. serves wanted guard its.path.field form.pick number picks_it at;
        fresh = λ is. absurd (for.1 is);
      })

  -- the write of what is picked to a typed path, which wants no test
  pub fit_plain : (rule : Rule) (path : Path) (its : IsTypedPath c.spec.base rule path) (pick : Pick) → IsMade c.spec layout step (plain_write pick path) → IsPickFor layout step its.field pick → (pick ≡ picks.Fresh → path.indexed ≡ false) → IsFitWrite c layout step (plain_write pick path)
  fit_plain rule path its pick m for scalar = record {
    can = m.0;
    of_head = m.2;
    field = its.field;
    declared = its.is_field.declared;
    indexed = indexed_some c.spec.base rule.span path.indexed its.field.len its.index;
    picks = for;
    tests = tt;
    serves = λ number at. refl;
    fresh = λ is. (refl, scalar is);
  }
