-- The literal that is due on an image, by its model.
use Rattle.std.proofs.Common.{Option, MatchOption, subst}
use Rattle.dsr_model_laws.proofs.Models.{facts_listed}
use Rattle.dsr_model_laws.proofs.Truths.{literal_decided}
use Rattle.dsr_repair.proofs.Same.{decided_same, due_same, satisfied}
use Rattle.dsr_repair.specs.Chosen.{bound_of}
use Rattle.dsr_repair.specs.Violations.{IsNextViolation}
use Rattle.dsr_repair.specs.declared.bindings.Violation.{Violation}
use Rattle.dsr_meaning.specs.Consistency.{AreSatisfied}
use Rattle.dsr_meaning.specs.Models.{IsFact}
use Rattle.dsr_model.specs.Facts.{IsInModel}
use Rattle.dsr_fixpoint.proofs.Bridged.{same_facts}
use Rattle.dsr_repair.proofs.dues.next_due.Goals as goal

pub due_at-requires-clause-decided : goal.due_at-requires-clause-decided
due_at-requires-clause-decided g c =
    decided_same (IsInModel c.args.model.now) (IsFact c.args.spec.now c.args._layout.now (g.I.ImageBytes.bytes c.args._image.now))
    (same_facts c.args.spec.now c.args._layout.now (g.I.ImageBytes.bytes c.args._image.now) c.args.model.now c.requires.model c.requires.prepared)
    (literal_decided (IsFact c.args.spec.now c.args._layout.now (g.I.ImageBytes.bytes c.args._image.now))
    (facts_listed c.args.spec.now c.args._layout.now (g.I.ImageBytes.bytes c.args._image.now)))

pub returns-in-Some : goal.returns-in-Some
returns-in-Some g c =
    due_same (IsInModel c.args.model.now) (IsFact c.args.spec.now c.args._layout.now (g.I.ImageBytes.bytes c.args._image.now))
    (same_facts c.args.spec.now c.args._layout.now (g.I.ImageBytes.bytes c.args._image.now) c.args.model.now c.requires.model c.requires.prepared)
    c.args.spec.now c.args.choice.now (bound_of c.due_at.result) c.due_at.result.conj c.due_at.result.repaired.place
    c.due_at.result.repaired.literal.now c.due_at.result.repaired.template.now c.due_at.ensures

pub returns-in-None : goal.returns-in-None
returns-in-None g c =
    satisfied (IsInModel c.args.model.now) (IsFact c.args.spec.now c.args._layout.now (g.I.ImageBytes.bytes c.args._image.now))
    (same_facts c.args.spec.now c.args._layout.now (g.I.ImageBytes.bytes c.args._image.now) c.args.model.now c.requires.model c.requires.prepared)
    c.args.spec.now
    (subst (λ (next : Option Violation). MatchOption next (AreSatisfied (IsInModel c.args.model.now) c.args.spec.now)
    (IsNextViolation (IsInModel c.args.model.now) c.args.spec.now c.args.choice.now)) c.in-None.is c.requires.next)
