use Rattle.dsr_command_why.proofs.Whying.{pair_by_chain, pair_unnamed}
use Rattle.dsr_command_why.proofs.whys.Question.pair_told.Goals as goal

pub returns : goal.returns
returns c =
    let q = c.args.self.now in
    pair_by_chain q.spec.now q.layout.now q.image.now c.requires.image c.requires.legal q.word.now c.args.number c.args.rel.now c.requires.among c.pair_ahead-fact.result c.pair_ahead-fact.ensures
    c.chain_told.result c.chain_told.ensures

pub returns-then-not-branch : goal.returns-then-not-branch
returns-then-not-branch c =
    let q = c.args.self.now in
    pair_unnamed q.spec.now q.layout.now q.image.now c.requires.image c.requires.legal q.word.now c.args.number c.args.rel.now c.requires.among c.pair_ahead-fact.result c.pair_ahead-fact.ensures
    c.in_ok-is_text.field-0 c.in_ok-is_text.ensures c.if-not-branch.true
