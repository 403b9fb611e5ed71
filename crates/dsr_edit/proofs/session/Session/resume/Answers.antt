use Rattle.dsr_edit.proofs.session.Session.resume.Goals as goal

pub invariant_of-result : goal.invariant_of-result
invariant_of-result c = c.requires.paused
