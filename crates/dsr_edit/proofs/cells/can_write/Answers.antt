use Rattle.dsr_edit.proofs.cells.can_write.Goals as goal

pub returns-in-None : goal.returns-in-None
returns-in-None c = (λ e. absurd cc, λ s. absurd (c.in-None.ensures s.0 s.1))
