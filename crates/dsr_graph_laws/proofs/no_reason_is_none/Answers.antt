use Rattle.std.proofs.Common.{nat_eq}
use Rattle.dsr_graph_theory.specs.Breaks.{MayBreakBy, MayFalsifyOther, SomeUpdate}
use Rattle.dsr_graph_theory.specs.Causes.{constraint_causes}
use Rattle.dsr_graph_theory.specs.declared.causes.Cause.{Cause}
use Rattle.dsr_graph_laws.proofs.Firsts.{no_first, no_reason, none_first, none_such, some_such}
use Rattle.dsr_graph_laws.proofs.no_reason_is_none.Goals as goal

pub returns-clause-breaks : goal.returns-clause-breaks
returns-clause-breaks c owner other template =
    let Such : Cause → Type 0 = λ cause. SomeUpdate owner template (MayBreakBy owner other cause) in
    let causes = constraint_causes (nat_eq owner.number other.number) other.constraint in
    (λ none reason found. let s = some_such Such causes reason found in none_such Such causes none s.0 s.1 s.2, no_reason Such causes)

pub returns-clause-causes : goal.returns-clause-causes
returns-clause-causes c owner other template =
    let Such : Cause → Type 0 = λ cause. SomeUpdate owner template (MayBreakBy owner other cause) in
    let causes = constraint_causes (nat_eq owner.number other.number) other.constraint in
    (none_such Such causes, none_first Such causes)

pub returns-clause-falsifies : goal.returns-clause-falsifies
returns-clause-falsifies c owner conj own template =
    (λ none n found. none n found.may, λ no_one. no_first (MayFalsifyOther owner conj own template) (λ n may before. no_one n (record { may = may; none_before = before })))
