use Rattle.std.proofs.Common.{sym, ◌∙◌}
use Rattle.std.proofs.lemmas.Bool.{false≢true}
use Rattle.dsr_graph_theory.specs.Breaks.{MayBreakBy, SomeUpdate}
use Rattle.dsr_graph.proofs.Once.{behind_next, found_here, found_none}
use Rattle.dsr_compensate.specs.Owned.{owner_of}
use Rattle.dsr_graph.proofs.reasons.first_reason.Goals as goal

pub returns-then-some_may_break : goal.returns-then-some_may_break
returns-then-some_may_break c = λ other tells.
    found_here (λ cause. SomeUpdate (owner_of c.args.owner.now) c.args.judged.now.template (MayBreakBy (owner_of c.args.owner.now) other cause)) c.args.causes.now c.loop-cause.cause-index _ c.loop-cause-test.true
    ((c.some_may_break.ensures other tells).0 c.if-some_may_break.true) (c.loop-cause.invariant other tells)

pub loop-cause-preserved : goal.loop-cause-preserved
loop-cause-preserved c = λ other tells.
    behind_next (λ cause. SomeUpdate (owner_of c.args.owner.now) c.args.judged.now.template (MayBreakBy (owner_of c.args.owner.now) other cause)) c.args.causes.now c.loop-cause.cause-index _ c.loop-cause-test.true
    (λ some. false≢true (sym c.if-some_may_break.false ∙ (c.some_may_break.ensures other tells).1 some)) (c.loop-cause.invariant other tells)

pub returns : goal.returns
returns c = λ other tells.
    found_none (λ cause. SomeUpdate (owner_of c.args.owner.now) c.args.judged.now.template (MayBreakBy (owner_of c.args.owner.now) other cause)) c.args.causes.now c.loop-cause.cause-index c.loop-cause-test.false (c.loop-cause.invariant other tells)
