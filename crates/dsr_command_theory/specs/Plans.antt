-- Specifications that have a plan.
use Rattle.dsr_ir.specs.declared.declarations.Spec.{Spec}
use Rattle.dsr_plan_theory.specs.Plans.{IsPlan}
use Rattle.dsr_plan_theory.specs.declared.choices.Choice.{Choice}

abbrev pub HasPlan : Spec → Type 0
HasPlan spec = (choice : Choice) × IsPlan spec choice
