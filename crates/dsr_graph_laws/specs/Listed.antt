-- A template that is listed for a literal, and what its applications leave as it was.
use Rattle.std.specs.Prelude.{◌≡◌, ℕ, List, Some, slice_get}
use Rattle.dsr_ir.specs.declared.constraints.Literal.{Literal}
use Rattle.dsr_ir.specs.declared.tuples.Binding.{Binding}
use Rattle.dsr_ir.specs.declared.updates.Template.{Template}
use Rattle.dsr_graph_theory.specs.Lists.{AreListedOf}
use Rattle.dsr_graph_theory.specs.Owners.{Owner}
use Rattle.dsr_meaning.specs.Consistency.{IsViolated}
use Rattle.dsr_meaning.specs.Models.{IsFact}
use Rattle.dsr_meaning.specs.Truth.{LiteralHolds}
use Rattle.dsr_template_laws.specs.Judging.{Application}

-- the template is the one of this number, counted from 0, among those that are listed for the
-- literal of a declared constraint
pub record IsListedWay (owner : Owner) (conj literal way : ℕ) (template : Template) : Type 0 where
  pub declared : slice_get owner.spec.constraints owner.number ≡ Some owner.constraint
  pub templates : List Template
  pub listed : AreListedOf owner conj literal templates
  pub template_is : slice_get templates way ≡ Some template

-- one of the template's updates is applied for this literal of the constraint
pub record IsApplicationOf (owner : Owner) (conj literal : ℕ) (template : Template)
    (a : Application) : Type 0 where
  pub spec_is : a.spec ≡ owner.spec
  pub constraint_is : a.step.constraint ≡ owner.number
  pub conj_is : a.step.conj ≡ conj
  pub literal_is : a.step.literal ≡ literal
  pub template_is : a.template ≡ template

-- each binding of the constraint with this number that is violated afterwards was so before
abbrev pub ViolatesNoMore : Application → ℕ → Type 0
ViolatesNoMore a constraint =
    (b : Binding)
    → IsViolated (IsFact a.spec a.layout a.new) a.spec
    (record { constraint = constraint; binding = b })
    → IsViolated (IsFact a.spec a.layout a.old) a.spec
    (record { constraint = constraint; binding = b })

-- the literal is true afterwards under each binding under which it was so before
abbrev pub StaysTrue : Application → Literal → Type 0
StaysTrue a literal =
    (b : Binding) → LiteralHolds (IsFact a.spec a.layout a.old) b literal
    → LiteralHolds (IsFact a.spec a.layout a.new) b literal
