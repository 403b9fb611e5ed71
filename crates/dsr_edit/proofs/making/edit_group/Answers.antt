use Rattle.dsr_edit.proofs.Made.{layout_laid_out}
use Rattle.dsr_edit.proofs.Outcomes.{refused_as}
use Rattle.dsr_edit.proofs.making.edit_group.Goals as goal

pub prepare-requires-clause-typed : goal.prepare-requires-clause-typed
prepare-requires-clause-typed c = c.requires.session.image.typed

pub prepare-requires-clause-layout : goal.prepare-requires-clause-layout
prepare-requires-clause-layout c = (c.args.image.now, c.requires.session.image.layout_is)

pub prepare-requires-clause-legal : goal.prepare-requires-clause-legal
prepare-requires-clause-legal c = (layout_laid_out c.args.spec.now c.args.layout.now c.args.image.now c.requires.session.image).legal

pub returns-in-Err-clause-refused : goal.returns-in-Err-clause-refused
returns-in-Err-clause-refused c = refused_as c.args.spec.now c.args.layout.now c.args.group.now c.args.image.now c.in-Err.fault c.in-Err.ensures.refused

pub returns-in-Some : goal.returns-in-Some
returns-in-Some c = record { session = c.in-Some.ensures.session; edited = tt; kept = c.in-Some.ensures.outcome.1; refused = c.in-Some.ensures.outcome.0 }
