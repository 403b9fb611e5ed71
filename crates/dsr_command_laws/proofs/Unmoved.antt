-- No step is due on a consistent image, so a run leaves it as it is.
use Rattle.std.proofs.Common.{◌≡◌, ℕ, List, [], refl, sym, subst}
use Rattle.dsr_ir.specs.declared.declarations.Spec.{Spec}
use Rattle.dsr_ir.specs.declared.layouts.Layout.{Layout}
use Rattle.dsr_meaning.specs.Consistency.{IsConsistent}
use Rattle.dsr_plan_theory.specs.declared.choices.Choice.{Choice}
use Rattle.dsr_repair_theory.specs.Runs.{IsDueEntry, IsPartRun, begins, goes_on}
use Rattle.dsr_repair_theory.specs.Turns.{bound_by}
use Rattle.dsr_repair_theory.specs.declared.entries.Entry.{Entry}

module _ (spec : Spec) (choice : Choice) (layout : Layout) where
  none_due : (bytes : List ℕ) (entry : Entry) (new : List ℕ) → IsConsistent spec layout bytes
      → IsDueEntry spec choice layout bytes entry new → ⊥
  none_due bytes entry new consistent its = consistent (bound_by its.step) its.due.due.binding_is.violated

  pub unmoved : (old : List ℕ) (entries : List Entry) (new : List ℕ) → IsConsistent spec layout old
      → IsPartRun spec choice layout old entries new → (entries ≡ []) × (new ≡ old)
  unmoved _ _ _ consistent begins = (refl, refl)
  unmoved old _ new consistent (goes_on {middle = middle} {entries = before} entry steps its) =
      let same = unmoved old before middle consistent steps in
      absurd (none_due middle entry new (subst (IsConsistent spec layout) (sym same.1) consistent) its)
