use Rattle.dsr_meaning.proofs.cells.+little_at.Given as goal

abbrev pub decreases-little_at : goal.decreases-little_at
decreases-little_at l = l.count
