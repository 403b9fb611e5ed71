use Rattle.dsr_edit.proofs.session.Session.into_bytes.Goals as goal

pub returns-clause-consistent : goal.returns-clause-consistent
returns-clause-consistent c = rw (← c.self.view_is) c.self.invariant.consistent
