use Rattle.dsr_edit.proofs.Made.{layout_laid_out}
use Rattle.dsr_edit.proofs.session.Session.may_write.Goals as goal

pub can_write-requires-clause-typed : goal.can_write-requires-clause-typed
can_write-requires-clause-typed c = c.self.invariant.image.typed

pub can_write-requires-clause-layout : goal.can_write-requires-clause-layout
can_write-requires-clause-layout c = (c.self.inside.image, c.self.invariant.image.layout_is)

pub can_write-requires-clause-legal : goal.can_write-requires-clause-legal
can_write-requires-clause-legal c = (layout_laid_out c.self.inside.spec.now c.self.inside.layout.now c.self.inside.image c.self.invariant.image).legal

pub returns : goal.returns
returns c = rw (← c.self.view_is) c.can_write.ensures
