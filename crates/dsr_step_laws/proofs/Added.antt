-- After a step that adds, the rule's instance at the written record fires.
use Rattle.std.proofs.Common.{◌≡◌, ◌<◌, ◌+◌, ◌*◌, ◌∙◌, ℕ, true, false, List, All, Option, IsSomeAnd, MatchBool, None, Some, inl, inr, refl, sym, ap, subst, length}
use Rattle.std.specs.Prelude.{IfSome, option_map}
use Rattle.std.specs.Option.{option_and_then}
use Rattle.std.proofs.lemmas.Option.{same_Some}
use Rattle.dsr_ir.specs.Layouts.{pool_numbers}
use Rattle.dsr_ir.specs.Rules.{target_of}
use Rattle.dsr_ir.specs.declared.constraints.Var.{Var}
use Rattle.dsr_ir.specs.declared.declarations.Field.{Field}
use Rattle.dsr_ir.specs.declared.declarations.FieldRef.{FieldRef}
use Rattle.dsr_ir.specs.declared.declarations.Spec.{Spec}
use Rattle.dsr_ir.specs.declared.declarations.Structures.{Structures}
use Rattle.dsr_ir.specs.declared.layouts.Layout.{Layout}
use Rattle.dsr_ir.specs.declared.rules.Guard.{Guard}
use Rattle.dsr_ir.specs.declared.rules.Inc.{Inc}
use Rattle.dsr_ir.specs.declared.rules.Inc.TheVariants.{Own, OwnPair, Target}
use Rattle.dsr_ir.specs.declared.rules.Path.{Path}
use Rattle.dsr_ir.specs.declared.rules.Rule.{Rule}
use Rattle.dsr_ir.specs.declared.rules.Span.TheVariants.{Single}
use Rattle.dsr_ir.specs.declared.rules.Test.{Test}
use Rattle.dsr_ir.specs.declared.rules.Test.TheVariants as tests
use Rattle.dsr_ir.specs.declared.tuples.Element.{Element}
use Rattle.dsr_ir.specs.declared.tuples.Fact.TheVariants.{Member, Pair}
use Rattle.dsr_ir.specs.declared.tuples.Fact.{Fact}
use Rattle.dsr_ir.specs.declared.tuples.Target.TheVariants.{Elem}
use Rattle.dsr_ir.specs.declared.updates.Pick.TheVariants.{CodeOf, Fresh}
use Rattle.dsr_ir.specs.declared.updates.Pick.{Pick}
use Rattle.dsr_ir.specs.declared.updates.Update.{Update}
use Rattle.dsr_ir.specs.declared.updates.Write.{Write}
use Rattle.dsr_layout.proofs.Meanings.{found_holds}
use Rattle.dsr_meaning.specs.Cells.{cell_value, value_at}
use Rattle.dsr_meaning.specs.Counting.{IsIn}
use Rattle.dsr_meaning.specs.Instances.{Gives, GuardHolds, Includes, LeadsTo, Meets, referred_pool}
use Rattle.dsr_meaning.specs.Legal.{IsLegalLayout}
use Rattle.dsr_meaning.specs.References.{IsCodeOf}
use Rattle.dsr_meaning.specs.Truth.{element_of}
use Rattle.dsr_meaning.specs.Typed.{IsTypedGuard, IsTypedPath, IsTypedRule, RunsOver}
use Rattle.dsr_step_laws.proofs.AllTrue.{accepted, other_in, same_field, target_written, write_of}
use Rattle.dsr_step_laws.proofs.GuardWrites.{IsGuardWrite}
use Rattle.dsr_step_laws.proofs.Passed.{picked_meets}
use Rattle.dsr_step_laws.proofs.ReferenceWrites.{IsReferenceWrite, reference_written}
use Rattle.dsr_step_laws.proofs.Removed.{none_is_none}
use Rattle.dsr_step_laws.proofs.Together.{target_typed}
use Rattle.dsr_step_laws.proofs.Written.{IsLeft, left_by, step_legal}
use Rattle.dsr_step_laws.specs.Additions.{IsAddition, written_instance}
use Rattle.dsr_step_theory.specs.Steps.{IsSlot, IsStepped, code_of, picked_number}
use Rattle.dsr_step_theory.specs.declared.steps.Step.{Step}
use Rattle.dsr_update_theory.specs.Templates.{all_true, is_on, others, passes_slot, target_writes}
use Rattle.dsr_meaning.proofs.Items.{all_of, of_all}

-- a typed path of a rule without index has none either
unindexed : (base : Structures) (rule : Rule) (path : Path) → rule.span ≡ Single → IsTypedPath base rule path → path.indexed ≡ false
unindexed base rule path single typed =
    elim path.indexed as (λ b. MatchBool b (RunsOver base rule.span typed.field.len) (typed.field.len ≡ None) → b ≡ false) [
      | true ↦ λ runs. absurd (subst (λ s. RunsOver base s typed.field.len) single runs)
      | false ↦ λ _. refl
    ] typed.index

same_path : (p q : Path) → p.field ≡ q.field → p.indexed ≡ q.indexed → p ≡ q
same_path p q field indexed = λ i. record { field = field i; indexed = indexed i }

-- the number that is picked for a slot is its code
is_code : (layout : Layout) (e : Element) (number : ℕ) → code_of layout e ≡ Some number → IsSlot layout e → IsCodeOf layout e.pool e.slot number
is_code layout e number code slot =
    elim (pool_numbers layout e.pool) as (λ o. pool_numbers layout e.pool ≡ o → option_map (λ n. n.code + e.slot * n.step) o ≡ Some number → IsSomeAnd o (λ n. e.slot < n.count) → IsCodeOf layout e.pool e.slot number) [
      | None ↦ λ _ q _. absurd cc
      | Some n ↦ λ is q below. record {
        numbers = n;
        declared = is;
        below = below;
        code = sym (same_Some (n.code + e.slot * n.step) number q);
      }
    ] refl code slot

module _ (spec : Spec) (layout : Layout) (legal : IsLegalLayout layout) (step : Step) (new : List ℕ) where
  -- a guard that was made true holds
  guard_holds : (guard : Guard) (write : Write) → IsGuardWrite true guard write → IsLeft spec layout step write new → GuardHolds spec layout new (written_instance step) guard
  guard_holds guard write by left =
      let own = subst (λ w. IsLeft spec layout step w new) by.is left in
      record {
        value = cell_value new own.cell;
        read = ap (option_map (cell_value new)) own.cell_is;
        met = elim own.holds [
          | inl is ↦ subst (Meets layout (referred_pool spec guard.path.field) guard.test) (sym is) (picked_meets spec layout legal step guard.path.field by.field guard.test by.pick own.number by.picks own.number_is)
          | inr wanted ↦ wanted
        ];
      }

  -- a target that was given leads to the record
  target_leads : (pick : Pick) (path : Path) (write : Write) (e : Element) → IsReferenceWrite spec pick path write → IsLeft spec layout step write new → picked_number spec layout step path.field pick ≡ code_of layout e → referred_pool spec path.field ≡ Some e.pool → IsSlot layout e → LeadsTo spec layout new (written_instance step) path e
  target_leads pick path write e by left picked refers slot =
      let own = subst (λ w. IsLeft spec layout step w new) by.is left in
      let is : cell_value new own.cell ≡ own.number = elim own.holds [ inl is ↦ is | inr is ↦ is ] in
      record {
        value = cell_value new own.cell;
        read = ap (option_map (cell_value new)) own.cell_is;
        refers = refers;
        code = subst (IsCodeOf layout e.pool e.slot) (sym is) (is_code layout e own.number (sym picked ∙ own.number_is) slot);
      }

  -- the code of a slot meets a test that asks for no more
  slot_passes : (field : FieldRef) (f : Field) (e : Element) (value : ℕ) → IsCodeOf layout e.pool e.slot value → (test : Test) → passes_slot test ≡ true → Meets layout (Some e.pool) test value
  slot_passes field f e value code (tests.Cmp op k) passes = absurd cc
  slot_passes field f e value code tests.Legal passes = (e.slot, code)
  slot_passes field f e value code tests.Illegal passes = absurd cc
  slot_passes field f e value code tests.IsNone passes = absurd cc
  slot_passes field f e value code tests.IsSome passes = λ none. none_is_none spec layout legal step field f e.pool value none (e.slot, code)

  -- so a guard on the target holds
  slot_holds : (path : Path) (f : Field) (e : Element) (guard : Guard) → guard.path ≡ path → passes_slot guard.test ≡ true → LeadsTo spec layout new (written_instance step) path e → GuardHolds spec layout new (written_instance step) guard
  slot_holds path f e guard same passes leads = record {
    value = leads.value;
    read = subst (λ p. value_at layout new step.elem step.index p ≡ Some leads.value) (sym same) leads.read;
    met =
        subst (λ p. Meets layout (referred_pool spec p.field) guard.test leads.value) (sym same)
        (subst (λ o. Meets layout o guard.test leads.value) (sym leads.refers) (slot_passes path.field f e leads.value leads.code guard.test passes));
  }

-- what a step that writes a target leaves
record GivesSlot (spec : Spec) (layout : Layout) (step : Step) (rule : Rule) (new : List ℕ) (path : Path) (e : Element) : Type 0 where
  guards : All (GuardHolds spec layout new (written_instance step)) rule.guards
  leads : LeadsTo spec layout new (written_instance step) path e

module _ (spec : Spec) (layout : Layout) (step : Step) (update : Update) (rule : Rule) (old new : List ℕ) where
  module _ (adding : Option (List Write)) (adds : IsAddition spec layout step update rule adding (length old)) (stepped : IsStepped spec layout step update old new) where
    legal : IsLegalLayout layout
    legal = step_legal spec layout step update (length old) adds.can

    left : (write : Write) → IsIn write adds.writes → IsLeft spec layout step write new
    left write is_in = left_by spec layout step update (length old) adds.can update.writes stepped.between new adds.can.writes adds.together stepped.written write (adds.among write is_in)

    of_rule : IsTypedRule spec.base rule
    of_rule = found_holds (IsTypedRule spec.base) spec.rules step.rule rule adds.can.typed.rules adds.instance.rule_is

    -- each guard of a list that was made true holds
    each_holds : (guards : List Guard) (writes : List Write) → all_true spec.base guards ≡ Some writes → ((w : Write) → IsIn w writes → IsIn w adds.writes) → (guard : Guard) → IsIn guard guards → GuardHolds spec layout new (written_instance step) guard
    each_holds guards writes made among guard is_in =
        let by = write_of spec.base guards writes made guard is_in in
        guard_holds spec layout legal step new guard by.write by.by (left by.write (among by.write by.among))

    gives_slot : (pick : Pick) (path : Path) (e : Element) → adding ≡ target_writes spec.base pick path rule.guards → target_of rule.inc ≡ Some path → picked_number spec layout step path.field pick ≡ code_of layout e → referred_pool spec path.field ≡ Some e.pool → IsSlot layout e → GivesSlot spec layout step rule new path e
    gives_slot pick path e are target picked refers slot =
        let of = target_written spec.base pick path rule.guards adds.writes (sym are ∙ adds.adds) in
        let by = reference_written spec pick path of.write of.made in
        let leads = target_leads spec layout legal step new pick path of.write e by (left of.write (subst (IsIn of.write) (sym of.are) (inl refl))) picked refers slot in
        record {
          guards = all_of (GuardHolds spec layout new (written_instance step)) rule.guards (λ guard is_in.
              elim (is_on path.field guard) as (λ b. is_on path.field guard ≡ b → GuardHolds spec layout new (written_instance step) guard) [
                | true ↦ λ on.
                    let typed = of_all (IsTypedGuard spec.base rule) rule.guards guard of_rule.guards is_in in
                    let flat = unindexed spec.base rule guard.path adds.single typed.path in
                    let single = unindexed spec.base rule path adds.single (target_typed spec.base rule rule.inc path target of_rule.inc) in
                    slot_holds spec layout legal step new path by.field e guard
                    (same_path guard.path path (same_field guard.path.field path.field on) (flat ∙ sym single))
                    (accepted path.field rule.guards of.accepts guard is_in on) leads
                | false ↦ λ off. each_holds (others path.field rule.guards) of.later of.later_are (λ w later. subst (IsIn w) (sym of.are) (inr later)) guard (other_in path.field rule.guards guard is_in off)
              ] refl);
          leads = leads;
        }

  -- the fact that the rule includes is given
  given : (inc : Inc) (fact : Fact) → rule.inc ≡ inc → (adding : Option (List Write)) → IsAddition spec layout step update rule adding (length old) → All (GuardHolds spec layout new (written_instance step)) rule.guards → Includes spec layout new (written_instance step) inc fact → Gives spec layout new (written_instance step) rule fact
  given inc fact is adding adds guards included = record {
    is_instance = adds.instance;
    guards = guards;
    included = subst (λ x. Includes spec layout new (written_instance step) x fact) (sym is) included;
  }

  pub member_added : (set : ℕ) → rule.inc ≡ Own set → IsAddition spec layout step update rule (all_true spec.base rule.guards) (length old) → IsStepped spec layout step update old new → Gives spec layout new (written_instance step) rule (Member set step.elem)
  member_added set is adds stepped =
      let adding = all_true spec.base rule.guards in
      given (Own set) (Member set step.elem) is adding adds
      (all_of (GuardHolds spec layout new (written_instance step)) rule.guards (each_holds adding adds stepped rule.guards adds.writes adds.adds (λ w is_in. is_in))) refl

  pair_given : (rel : ℕ) (pick : Pick) (path : Path) (e : Element) → rule.inc ≡ OwnPair rel path → IsAddition spec layout step update rule (target_writes spec.base pick path rule.guards) (length old) → picked_number spec layout step path.field pick ≡ code_of layout e → referred_pool spec path.field ≡ Some e.pool → IsSlot layout e → IsStepped spec layout step update old new → Gives spec layout new (written_instance step) rule (Pair rel step.elem (Elem e))
  pair_given rel pick path e is adds picked refers slot stepped =
      let adding = target_writes spec.base pick path rule.guards in
      let made = gives_slot adding adds stepped pick path e refl (ap target_of is) picked refers slot in
      given (OwnPair rel path) (Pair rel step.elem (Elem e)) is adding adds made.guards (Elem e, made.leads, refl)

  pub pair_added : (rel : ℕ) (path : Path) (w : Var) (e : Element) → rule.inc ≡ OwnPair rel path → IsAddition spec layout step update rule (target_writes spec.base (CodeOf w) path rule.guards) (length old) → element_of step.binding w ≡ Some e → referred_pool spec path.field ≡ Some e.pool → IsSlot layout e → IsStepped spec layout step update old new → Gives spec layout new (written_instance step) rule (Pair rel step.elem (Elem e))
  pair_added rel path w e is adds found refers slot stepped = pair_given rel (CodeOf w) path e is adds (ap (option_and_then (code_of layout)) found) refers slot stepped

  -- the fresh record is a slot
  fresh_slot : (e : Element) (adding : Option (List Write)) → IsAddition spec layout step update rule adding (length old) → step.fresh ≡ Some e → IsSlot layout e
  fresh_slot e adding adds fresh = subst (λ o. IfSome o (IsSlot layout)) fresh adds.can.fresh

  pub fresh_member_added : (set : ℕ) (path : Path) (e : Element) → rule.inc ≡ Target set path → IsAddition spec layout step update rule (target_writes spec.base Fresh path rule.guards) (length old) → step.fresh ≡ Some e → referred_pool spec path.field ≡ Some e.pool → IsStepped spec layout step update old new → Gives spec layout new (written_instance step) rule (Member set e)
  fresh_member_added set path e is adds fresh refers stepped =
      let adding = target_writes spec.base Fresh path rule.guards in
      let made = gives_slot adding adds stepped Fresh path e refl (ap target_of is) (ap (option_and_then (code_of layout)) fresh) refers (fresh_slot e adding adds fresh) in
      given (Target set path) (Member set e) is adding adds made.guards (e, made.leads, refl)

  pub fresh_target_added : (rel : ℕ) (path : Path) (e : Element) → rule.inc ≡ OwnPair rel path → IsAddition spec layout step update rule (target_writes spec.base Fresh path rule.guards) (length old) → step.fresh ≡ Some e → referred_pool spec path.field ≡ Some e.pool → IsStepped spec layout step update old new → Gives spec layout new (written_instance step) rule (Pair rel step.elem (Elem e))
  fresh_target_added rel path e is adds fresh refers stepped =
      pair_given rel Fresh path e is adds (ap (option_and_then (code_of layout)) fresh) refers (fresh_slot e (target_writes spec.base Fresh path rule.guards) adds fresh) stepped
