-- What a template is to do for its literal.
use Rattle.std.specs.Prelude.{◌⊎◌, ℕ, List}
use Rattle.dsr_repair_theory.specs.Choices.{TakesAway}
use Rattle.dsr_ir.specs.declared.constraints.Literal.{Literal}
use Rattle.dsr_ir.specs.declared.declarations.Spec.{Spec}
use Rattle.dsr_ir.specs.declared.layouts.Layout.{Layout}
use Rattle.dsr_ir.specs.declared.rules.Rule.{Rule}
use Rattle.dsr_ir.specs.declared.tuples.Instance.{Instance}
use Rattle.dsr_ir.specs.declared.updates.Symbol.{Symbol}
use Rattle.dsr_ir.specs.declared.updates.Template.{Template}
use Rattle.dsr_graph_theory.specs.Sides.{atom_symbol}
use Rattle.dsr_meaning.specs.Models.{IsActive, IsFact}
use Rattle.dsr_meaning.specs.Truth.{LiteralHolds}
use Rattle.dsr_step_theory.specs.declared.steps.Step.{Step}
use Rattle.dsr_update_theory.specs.Givers.{IsGiver}
use Rattle.dsr_template_laws.specs.Judging.{Application}

-- the instance is an active one of a rule that gives facts of the symbol
pub record IsActiveFor (spec : Spec) (layout : Layout) (bytes : List ℕ) (symbol : Symbol)
    (i : Instance) : Type 0 where
  pub rule : Rule
  pub giver : IsGiver spec symbol i.rule rule
  pub active : IsActive spec layout bytes i

-- each such instance was one before, and one that was isn't any more
pub record HasFewer (spec : Spec) (layout : Layout) (old new : List ℕ)
    (symbol : Symbol) : Type 0 where
  pub none_new :
      (i : Instance) → IsActiveFor spec layout new symbol i → IsActiveFor spec layout old symbol i
  pub stopped : Instance
  pub was : IsActiveFor spec layout old symbol stopped
  pub no_more : IsActiveFor spec layout new symbol stopped → ⊥

-- the literal is true afterwards, or the step takes a fact away and fewer instances give facts of
-- the literal's symbol
abbrev pub Helps : Spec → Layout → Template → Step → List ℕ → List ℕ → Literal → Type 0
Helps spec layout template step old new literal =
    LiteralHolds (IsFact spec layout new) step.binding literal
    ⊎ (TakesAway template.goal step.update
    × HasFewer spec layout old new (atom_symbol literal.atom))

abbrev pub IsHelped : Application → Type 0
IsHelped a = Helps a.spec a.layout a.template a.step a.old a.new a.applied.literal
