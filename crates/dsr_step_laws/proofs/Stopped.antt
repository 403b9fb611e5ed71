-- An instance whose guard was made false gives nothing.
use Rattle.std.proofs.Common.{◌≡◌, ◌∙◌, ℕ, false, List, [], ◌∷◌, Some, sym, ap, subst}
use Rattle.std.specs.Prelude.{option_map}
use Rattle.std.proofs.lemmas.Option.{same_Some}
use Rattle.dsr_ir.specs.declared.declarations.Field.{Field}
use Rattle.dsr_ir.specs.declared.declarations.Spec.{Spec}
use Rattle.dsr_ir.specs.declared.layouts.Layout.{Layout}
use Rattle.dsr_ir.specs.declared.rules.Guard.{Guard}
use Rattle.dsr_ir.specs.declared.rules.Rule.{Rule}
use Rattle.dsr_ir.specs.declared.tuples.Fact.{Fact}
use Rattle.dsr_ir.specs.declared.tuples.Instance.{Instance}
use Rattle.dsr_ir.specs.declared.updates.Pick.{Pick}
use Rattle.dsr_ir.specs.declared.updates.Update.{Update}
use Rattle.dsr_ir.specs.declared.updates.Write.{Write}
use Rattle.dsr_meaning.specs.Cells.{cell_value, value_at}
use Rattle.dsr_meaning.specs.Counting.{IsIn}
use Rattle.dsr_meaning.specs.Instances.{Gives, GuardHolds, Meets, referred_pool}
use Rattle.dsr_meaning.specs.Legal.{IsLegalLayout}
use Rattle.dsr_step_theory.specs.Steps.{AreWritten, IsStepped}
use Rattle.dsr_step_theory.specs.Steps.AreWritten.{made, skipped}
use Rattle.dsr_step_theory.specs.declared.steps.Step.{Step}
use Rattle.dsr_step_laws.proofs.GuardWrites.{guard_written, wanted_write}
use Rattle.dsr_step_laws.proofs.Removed.{picked_fails}
use Rattle.dsr_step_laws.proofs.Set.{nothing_written}
use Rattle.dsr_update_theory.specs.Guards.{guard_write, pick_false}
use Rattle.dsr_meaning.proofs.Items.{of_all}

module _ (spec : Spec) (layout : Layout) (legal : IsLegalLayout layout) (step : Step) (guard : Guard) (f : Field) (pick : Pick) (picks : pick_false f guard.test ≡ Some pick) where
  -- the test doesn't hold of what the write leaves
  left_fails : (old new : List ℕ) (value : ℕ) → AreWritten spec layout step (wanted_write false guard pick ∷ []) old new → value_at layout new step.elem step.index guard.path ≡ Some value → Meets layout (referred_pool spec guard.path.field) guard.test value → ⊥
  left_fails old new value (skipped w c n at is wanted rest) read meets =
      let now : value_at layout new step.elem step.index guard.path ≡ Some (cell_value new c) = ap (option_map (cell_value new)) at in
      let same : value ≡ cell_value old c = same_Some _ _ (sym read ∙ now) ∙ ap (λ bytes. cell_value bytes c) (nothing_written spec layout step old new rest) in
      wanted (subst (Meets layout (referred_pool spec guard.path.field) guard.test) same meets)
  left_fails old new value (made w c n at is unwanted puts rest) read meets =
      let now : value_at layout new step.elem step.index guard.path ≡ Some (cell_value new c) = ap (option_map (cell_value new)) at in
      let same : value ≡ n = same_Some _ _ (sym read ∙ now) ∙ (ap (λ bytes. cell_value bytes c) (nothing_written spec layout step _ new rest) ∙ puts.puts.got) in
      picked_fails spec layout legal step guard.path.field f guard.test pick n picks is (subst (Meets layout (referred_pool spec guard.path.field) guard.test) same meets)

pub stopped : (spec : Spec) (layout : Layout) (step : Step) (update : Update) (write : Write) (guard : Guard) (rule : Rule) (i : Instance) (old new : List ℕ) (fact : Fact)
    → IsLegalLayout layout → update.writes ≡ write ∷ [] → guard_write spec.base false guard ≡ Some write → IsIn guard rule.guards
    → i.elem ≡ step.elem → i.index ≡ step.index → IsStepped spec layout step update old new → Gives spec layout new i rule fact → ⊥
stopped spec layout step update write guard rule i old new fact legal writes by among elem index stepped gives =
    let false_one = guard_written spec.base false guard write by in
    let holds = of_all (GuardHolds spec layout new i) rule.guards guard gives.guards among in
    left_fails spec layout legal step guard false_one.field false_one.pick false_one.picks stepped.between new holds.value
    (subst (λ ws. AreWritten spec layout step ws stepped.between new) (writes ∙ ap (λ w. w ∷ []) false_one.is) stepped.written)
    (subst (λ e. value_at layout new e step.index guard.path ≡ Some holds.value) elem
    (subst (λ k. value_at layout new i.elem k guard.path ≡ Some holds.value) index holds.read))
    holds.met
