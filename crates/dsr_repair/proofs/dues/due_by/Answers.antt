-- The turn that is due.
use Rattle.std.proofs.Common.{sym, subst}
use Rattle.dsr_repair.proofs.Laws.{complete}
use Rattle.dsr_repair.proofs.Made.{step_due}
use Rattle.dsr_repair.proofs.Same.{used_same}
use Rattle.dsr_repair.specs.Chosen.{bound_of}
use Rattle.dsr_meaning.specs.Models.{IsFact}
use Rattle.dsr_model.specs.Facts.{IsInModel}
use Rattle.dsr_repair_theory.specs.Turns.{IsNeed}
use Rattle.dsr_resolve.proofs.AcceptedLayouts.{legal_of}
use Rattle.dsr_fixpoint.proofs.Bridged.{same_facts}
use Rattle.dsr_repair.proofs.dues.due_by.Goals as goal

pub fresh_for-requires-clause-supply : goal.fresh_for-requires-clause-supply
fresh_for-requires-clause-supply g c =
    (complete c.args.spec.now c.args.choice.now c.args.layout.now (g.I.ImageBytes.bytes c.args.image.now)
    (bound_of c.in-Some.due) c.in-Some.due.conj c.in-Some.due.repaired.place c.in-Some.due.repaired.literal.now
    c.in-Some.due.repaired.template.now c.chosen_for-chosen.result.place c.chosen_for-chosen.result.update.now
    c.chosen_for-chosen.result.stopped c.requires.image c.requires.plan c.in-Some.ensures c.chosen_for-chosen.ensures).supply

pub fresh_for-requires-clause-legal : goal.fresh_for-requires-clause-legal
fresh_for-requires-clause-legal g c =
    legal_of c.args.spec.now (g.I.ImageBytes.bytes c.args.image.now) c.args.layout.now c.requires.image.layout_is
    c.requires.image.typed c.requires.image.small

pub step_of-requires-clause-complete : goal.step_of-requires-clause-complete
step_of-requires-clause-complete g c =
    complete c.args.spec.now c.args.choice.now c.args.layout.now (g.I.ImageBytes.bytes c.args.image.now)
    (bound_of c.in-Some.due) c.in-Some.due.conj c.in-Some.due.repaired.place c.in-Some.due.repaired.literal.now
    c.in-Some.due.repaired.template.now c.chosen_for-chosen.result.place c.chosen_for-chosen.result.update.now
    c.chosen_for-chosen.result.stopped c.requires.image c.requires.plan c.in-Some.ensures c.chosen_for-chosen.ensures

pub returns-in-Ok : goal.returns-in-Ok
returns-in-Ok g c =
    step_due (IsInModel c.args.model.now) c.args.spec.now c.args.choice.now c.args.layout.now (g.I.ImageBytes.bytes c.args.image.now)
    (same_facts c.args.spec.now c.args.layout.now (g.I.ImageBytes.bytes c.args.image.now) c.args.model.now c.requires.model c.requires.prepared)
    c.in-Some.due c.chosen_for-chosen.result c.in-Ok.fresh c.step_of.result c.step_of.ensures
    c.in-Some.ensures c.chosen_for-chosen.ensures c.in-Ok.ensures.fresh

pub returns-in-Err : goal.returns-in-Err
returns-in-Err g c =
    subst (IsNeed c.args.spec.now c.args.choice.now c.args.layout.now (g.I.ImageBytes.bytes c.args.image.now)) (sym c.need_of.ensures)
    (record {
      literal = c.in-Some.due.repaired.literal.now;
      template = c.in-Some.due.repaired.template.now;
      due = c.in-Some.ensures;
      at = c.chosen_for-chosen.result.place;
      update = c.chosen_for-chosen.result.update.now;
      stopped = c.chosen_for-chosen.result.stopped;
      update_is = c.chosen_for-chosen.ensures;
      fresh = c.in-Err.ensures.empty.0;
      used_up = used_same (IsInModel c.args.model.now) (IsFact c.args.spec.now c.args.layout.now (g.I.ImageBytes.bytes c.args.image.now))
          (same_facts c.args.spec.now c.args.layout.now (g.I.ImageBytes.bytes c.args.image.now) c.args.model.now c.requires.model c.requires.prepared)
          c.args.spec.now c.args.layout.now c.in-Err.pool c.in-Err.ensures.empty.1;
    })
