use Rattle.dsr_graph.proofs.excuses.Excuses.may_break.Goals as goal

pub returns : goal.returns
returns c = λ owner other change tells same base_is is.
    c.may_break_at.ensures owner other change tells same (c.tags_for.ensures change base_is is)
