-- An instance whose target was written none gives nothing.
use Rattle.std.proofs.Common.{◌≡◌, ◌∙◌, ℕ, List, [], ◌∷◌, IsSomeAnd, Some, refl, sym, ap, subst}
use Rattle.std.specs.Prelude.{option_map}
use Rattle.std.proofs.lemmas.Option.{same_Some}
use Rattle.dsr_ir.specs.Layouts.{pool_numbers}
use Rattle.dsr_ir.specs.Rules.{target_of}
use Rattle.dsr_ir.specs.declared.declarations.Field.{Field}
use Rattle.dsr_ir.specs.declared.declarations.Spec.{Spec}
use Rattle.dsr_ir.specs.declared.layouts.Cell.{Cell}
use Rattle.dsr_ir.specs.declared.layouts.Layout.{Layout}
use Rattle.dsr_ir.specs.declared.rules.Inc.{Inc}
use Rattle.dsr_ir.specs.declared.rules.Inc.TheVariants.{Own, Target, Slot, OwnPair, SlotPair}
use Rattle.dsr_ir.specs.declared.rules.Path.{Path}
use Rattle.dsr_ir.specs.declared.rules.Rule.{Rule}
use Rattle.dsr_ir.specs.declared.tuples.Element.{Element}
use Rattle.dsr_ir.specs.declared.tuples.Fact.{Fact}
use Rattle.dsr_ir.specs.declared.tuples.Instance.{Instance}
use Rattle.dsr_ir.specs.declared.tuples.Target.{Target as TargetOf}
use Rattle.dsr_ir.specs.declared.tuples.Target.TheVariants.{Elem, Num}
use Rattle.dsr_ir.specs.declared.updates.Pick.TheVariants.{NoneCode}
use Rattle.dsr_ir.specs.declared.updates.Update.{Update}
use Rattle.dsr_ir.specs.declared.updates.Write.{Write}
use Rattle.dsr_meaning.specs.Cells.{cell_value, value_at}
use Rattle.dsr_meaning.specs.Instances.{Gives, HasTarget, Includes, LeadsTo, referred_pool}
use Rattle.dsr_meaning.specs.Legal.{IsLegalLayout}
use Rattle.dsr_meaning.specs.References.{IsCodeOf}
use Rattle.dsr_step_theory.specs.Steps.{AreWritten, IsStepped, written_cell, written_number}
use Rattle.dsr_step_theory.specs.Steps.AreWritten.{made, skipped}
use Rattle.dsr_step_theory.specs.declared.steps.Step.{Step}
use Rattle.dsr_step_laws.proofs.ReferenceWrites.{plain_write, reference_written}
use Rattle.dsr_step_laws.proofs.Removed.{none_is_none, none_number}
use Rattle.dsr_step_laws.proofs.Set.{one_write}
use Rattle.dsr_update_theory.specs.Options.{reference_write}

-- what the written cell is
record IsWrittenCell (spec : Spec) (layout : Layout) (step : Step) (write : Write) : Type 0 where
  cell : Cell
  number : ℕ
  cell_is : written_cell layout step write ≡ Some cell
  number_is : written_number spec layout step write ≡ Some number

written_there : (spec : Spec) (layout : Layout) (step : Step) (write : Write) (old new : List ℕ) → AreWritten spec layout step (write ∷ []) old new → IsWrittenCell spec layout step write
written_there spec layout step write old new (skipped w c n at is wanted rest) = record { cell = c; number = n; cell_is = at; number_is = is }
written_there spec layout step write old new (made w c n at is unwanted puts rest) = record { cell = c; number = n; cell_is = at; number_is = is }

module _ (spec : Spec) (layout : Layout) (legal : IsLegalLayout layout) (step : Step) (path : Path) (f : Field) (pool : ℕ) (refers : referred_pool spec path.field ≡ Some pool) (old new : List ℕ) (written : AreWritten spec layout step (plain_write NoneCode path ∷ []) old new) (i : Instance) (elem : i.elem ≡ step.elem) (index : i.index ≡ step.index) where
  -- the path doesn't lead anywhere
  leads_nowhere : (e : Element) → LeadsTo spec layout new i path e → ⊥
  leads_nowhere e leads =
      let there = written_there spec layout step (plain_write NoneCode path) old new written in
      let now = one_write spec layout step (plain_write NoneCode path) there.cell there.number old new refl there.cell_is there.number_is written in
      let read : value_at layout new step.elem step.index path ≡ Some leads.value =
      subst (λ x. value_at layout new x step.index path ≡ Some leads.value) elem
      (subst (λ k. value_at layout new i.elem k path ≡ Some leads.value) index leads.read) in
      let value : leads.value ≡ there.number = same_Some _ _ (sym read ∙ ap (option_map (cell_value new)) there.cell_is) ∙ now in
      let none = subst (λ o. IsSomeAnd o (λ p. IsSomeAnd (pool_numbers layout p) (λ n. there.number ≡ n.none))) leads.refers
      (none_number spec layout legal step path.field f there.number there.number_is) in
      none_is_none spec layout legal step path.field f e.pool there.number none (e.slot, subst (IsCodeOf layout e.pool e.slot) value leads.code)

  has_no_target : (t : TargetOf) → HasTarget spec layout new i path t → ⊥
  has_no_target (Elem e) leads = leads_nowhere e leads
  has_no_target (Num n) number = (let none = sym refers ∙ number.number in absurd cc)

  gives_none : (inc : Inc) (fact : Fact) → target_of inc ≡ Some path → Includes spec layout new i inc fact → ⊥
  gives_none (Own set) fact e included = absurd cc
  gives_none (Slot set p) fact e included = absurd cc
  gives_none (Target set q) fact e included = leads_nowhere included.0 (subst (λ r. LeadsTo spec layout new i r included.0) (same_Some q path e) included.1)
  gives_none (OwnPair rel q) fact e included = has_no_target included.0 (subst (λ r. HasTarget spec layout new i r included.0) (same_Some q path e) included.1)
  gives_none (SlotPair rel p q) fact e included = has_no_target included.0 (subst (λ r. HasTarget spec layout new i r included.0) (same_Some q path e) included.1)

pub stopped_at_none : (spec : Spec) (layout : Layout) (step : Step) (update : Update) (write : Write) (path : Path) (rule : Rule) (i : Instance) (old new : List ℕ) (fact : Fact)
    → IsLegalLayout layout → update.writes ≡ write ∷ [] → reference_write spec.base NoneCode path ≡ Some write → target_of rule.inc ≡ Some path
    → i.elem ≡ step.elem → i.index ≡ step.index → IsStepped spec layout step update old new → Gives spec layout new i rule fact → ⊥
stopped_at_none spec layout step update write path rule i old new fact legal writes by target elem index stepped gives =
    let none = reference_written spec NoneCode path write by in
    gives_none spec layout legal step path none.field none.pool none.refers stepped.between new
    (subst (λ ws. AreWritten spec layout step ws stepped.between new) (writes ∙ ap (λ w. w ∷ []) none.is) stepped.written)
    i elem index rule.inc fact target gives.included
