use Rattle.dsr_meaning.proofs.cells.+big_after.Given as goal

abbrev pub decreases-big_after : goal.decreases-big_after
decreases-big_after l = l.count
