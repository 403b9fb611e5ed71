use Rattle.std.proofs.Common.{◌<◌, ◌∙◌, sym, arith}
use Rattle.std.proofs.lemmas.Bool.{false≢true}
use Rattle.dsr_meaning.specs.Instances.{record_count}
use Rattle.dsr_command_why.proofs.whys.Question.outside_told.Goals as goal

pub returns-then-branch : goal.returns-then-branch
returns-then-branch c = λ below none. none (c.in_ok-is_derived.ensures.0 c.if-branch.true)

pub returns : goal.returns
returns c =
    let q = c.args.self.now in
    let below : c.args.elem.slot < record_count q.layout.now c.args.elem.pool = omega (arith, c.if-record_count-from.false, c.record_count.ensures, c.from.ensures) in
    (below, λ derived. false≢true (sym c.if-branch.false ∙ c.in_ok-is_derived.ensures.1 derived), c.in_ok-outside.ensures)
