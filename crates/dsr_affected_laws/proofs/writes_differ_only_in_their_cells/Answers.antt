use Rattle.dsr_affected_laws.proofs.Writing.{more_differ, none_differ, one_differs}
use Rattle.dsr_affected_laws.proofs.writes_differ_only_in_their_cells.Goals as goal

pub returns-clause-none : goal.returns-clause-none
returns-clause-none c = none_differ

pub returns-clause-one : goal.returns-clause-one
returns-clause-one c = one_differs

pub returns-clause-more : goal.returns-clause-more
returns-clause-more c = more_differ
