use Rattle.dsr_meaning.proofs.cells.+bits_at.Given as goal

abbrev pub decreases-bits_at : goal.decreases-bits_at
decreases-bits_at l = l.width
