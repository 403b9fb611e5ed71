-- The writes by which a rule adds may stand together: their fields are different, and all are of the premise's record.
use Rattle.std.proofs.Common.{◌≡◌, ◌≢◌, ◌∙◌, ℕ, suc, true, List, [], ◌∷◌, Some, inl, inr, refl, sym, ap, subst, arith}
use Rattle.std.proofs.lemmas.Option.{same_Some}
use Rattle.dsr_ir.specs.Rules.{target_of}
use Rattle.dsr_ir.specs.declared.declarations.Spec.{Spec}
use Rattle.dsr_ir.specs.declared.declarations.Structures.{Structures}
use Rattle.dsr_ir.specs.declared.rules.Guard.{Guard}
use Rattle.dsr_ir.specs.declared.rules.Inc.{Inc}
use Rattle.dsr_ir.specs.declared.rules.Inc.TheVariants.{Own, Target, Slot, OwnPair, SlotPair}
use Rattle.dsr_ir.specs.declared.rules.Path.{Path}
use Rattle.dsr_ir.specs.declared.rules.Rule.{Rule}
use Rattle.dsr_ir.specs.declared.updates.Pick.{Pick}
use Rattle.dsr_ir.specs.declared.updates.Write.{Write}
use Rattle.dsr_meaning.specs.Counting.{IsIn}
use Rattle.dsr_meaning.specs.Typed.{AreTyped, Descends, IsTyped, IsTypedGuard, IsTypedInc, IsTypedPath, IsTypedRule, premise_structure}
use Rattle.dsr_step_laws.proofs.AllTrue.{first_true, guard_of, in_others, other_field, target_written}
use Rattle.dsr_step_laws.proofs.Beside.{nothing_together, together_more}
use Rattle.dsr_step_laws.proofs.GuardWrites.{guard_written}
use Rattle.dsr_step_laws.proofs.ReferenceWrites.{reference_written}
use Rattle.dsr_step_laws.proofs.Related.{in_line, lines_related}
use Rattle.dsr_update_theory.specs.Templates.{all_true, is_on, others, target_writes}
use Rattle.dsr_update_theory.specs.Together.{MayStandBeside, MayStandTogether}
use Rattle.dsr_meaning.proofs.Items.{none_of, of_all}

-- the path of what a typed rule gives is a typed one
pub target_typed : (base : Structures) (rule : Rule) (inc : Inc) (path : Path) → target_of inc ≡ Some path → IsTypedInc base rule inc → IsTypedPath base rule path
target_typed base rule (Own set) path e typed = absurd cc
target_typed base rule (Slot set pool) path e typed = absurd cc
target_typed base rule (Target set q) path e typed = subst (IsTypedPath base rule) (same_Some q path e) typed.2.typed
target_typed base rule (OwnPair rel q) path e typed = subst (IsTypedPath base rule) (same_Some q path e) typed.reads.typed
target_typed base rule (SlotPair rel pool q) path e typed = subst (IsTypedPath base rule) (same_Some q path e) typed.1.reads.typed

module _ (base : Structures) (typed : AreTyped base) (i : ℕ) where
  -- of a record that is read by this structure
  abbrev IsOf : Path → Type 0
  IsOf path = Descends base.structures i path.field.structure

  beside : (a b : Write) (p q : Path) → a.path ≡ p → b.path ≡ q → p.field ≢ q.field → IsOf p → IsOf q → MayStandBeside base a b
  beside a b p q one two other first second = record {
    different = λ same. other (ap (λ r. r.field) (sym one) ∙ (same ∙ ap (λ r. r.field) two));
    related =
        lines_related base a.path.field.structure b.path.field.structure
        (in_line base typed (suc i) i (omega arith) a.path.field.structure b.path.field.structure (subst IsOf (sym one) first) (subst IsOf (sym two) second));
  }

  guards_together : (guards : List Guard) (writes : List Write) → all_true base guards ≡ Some writes → ((g : Guard) → IsIn g guards → IsOf g.path) → MayStandTogether base writes
  guards_together [] writes e of = subst (MayStandTogether base) (same_Some [] writes e) (nothing_together base)
  guards_together (guard ∷ rest) writes e of =
      let first = first_true base guard rest writes e in
      let by = guard_written base true guard first.write first.made in
      subst (MayStandTogether base) (sym first.are)
      (together_more base first.write first.later (λ v is_in.
      let other = guard_of base rest first.later first.later_are v is_in in
      beside first.write v guard.path other.guard.path (ap (λ w. w.path) by.is) other.path
      (λ same. other_field other.guard.path.field guard.path.field (none_of (is_on guard.path.field) rest first.alone other.guard other.among) (sym same))
      (of guard (inl refl)) (of other.guard (inr other.among)))
      (guards_together rest first.later first.later_are (λ g later. of g (inr later))))

module _ (spec : Spec) (rule : Rule) (writes : List Write) (typed : IsTyped spec) (among : IsIn rule spec.rules) where
  abbrev of_rule : IsTypedRule spec.base rule
  of_rule = of_all (IsTypedRule spec.base) spec.rules rule typed.rules among

  abbrev top : ℕ
  top = premise_structure spec.base rule.premise

  guard_of_record : (g : Guard) → IsIn g rule.guards → Descends spec.base.structures top g.path.field.structure
  guard_of_record g is_in = (of_all (IsTypedGuard spec.base rule) rule.guards g of_rule.guards is_in).path.is_field.of_record

  pub guards_may_stand : all_true spec.base rule.guards ≡ Some writes → MayStandTogether spec.base writes
  guards_may_stand e = guards_together spec.base typed.base top rule.guards writes e guard_of_record

  pub targets_may_stand : (pick : Pick) (path : Path) → target_of rule.inc ≡ Some path → target_writes spec.base pick path rule.guards ≡ Some writes → MayStandTogether spec.base writes
  targets_may_stand pick path target e =
      let are = target_written spec.base pick path rule.guards writes e in
      let by = reference_written spec pick path are.write are.made in
      subst (MayStandTogether spec.base) (sym are.are)
      (together_more spec.base are.write are.later (λ v is_in.
      let other = guard_of spec.base (others path.field rule.guards) are.later are.later_are v is_in in
      let off = in_others path.field rule.guards other.guard other.among in
      beside spec.base typed.base top are.write v path other.guard.path (ap (λ w. w.path) by.is) other.path
      (λ same. other_field other.guard.path.field path.field off.off (sym same))
      (target_typed spec.base rule rule.inc path target of_rule.inc).is_field.of_record
      (guard_of_record other.guard off.among))
      (guards_together spec.base typed.base top (others path.field rule.guards) are.later are.later_are (λ g is_in. guard_of_record g (in_others path.field rule.guards g is_in).among)))
