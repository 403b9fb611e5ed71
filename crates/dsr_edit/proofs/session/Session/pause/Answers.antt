use Rattle.dsr_edit.proofs.session.Session.pause.Goals as goal

pub returns-clause-paused : goal.returns-clause-paused
returns-clause-paused c = rw (← c.self.view_is) c.self.invariant
