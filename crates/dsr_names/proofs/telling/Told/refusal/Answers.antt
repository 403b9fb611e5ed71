use Rattle.std.proofs.Common.{sym, ◌∙◌}
use Rattle.dsr_names.proofs.Least.{told, none_told}
use Rattle.dsr_names.proofs.telling.Told.refusal.Goals as goal

pub returns-in-Some-clause-told : goal.returns-in-Some-clause-told
returns-in-Some-clause-told c = λ faults finds. (c.in-Some.fault.condition, c.kind.ensures, told faults c.in-Some.fault (sym finds.is ∙ c.in-Some.is))

pub returns-in-None-clause-none : goal.returns-in-None-clause-none
returns-in-None-clause-none c = λ faults finds _. none_told faults (sym finds.is ∙ c.in-None.is)
