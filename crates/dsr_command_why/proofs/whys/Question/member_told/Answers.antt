use Rattle.dsr_command_why.proofs.Whying.{member_by_base, member_by_chain, member_unnamed}
use Rattle.dsr_command_why.proofs.whys.Question.member_told.Goals as goal

pub returns-in-Some : goal.returns-in-Some
returns-in-Some c =
    let q = c.args.self.now in
    member_by_base q.spec.now q.layout.now q.image.now c.requires.image c.requires.legal q.word.now c.args.number c.args.set.now c.requires.among c.member_ahead-elem.result c.member_ahead-elem.ensures
    c.in_ok-is_text.field-0 c.in_ok-is_text.ensures c.if-not-branch.false c.in-Some.base c.in-Some.is c.outside_told.result c.outside_told.ensures

pub returns-in-None : goal.returns-in-None
returns-in-None c =
    let q = c.args.self.now in
    member_by_chain q.spec.now q.layout.now q.image.now c.requires.image c.requires.legal q.word.now c.args.number c.args.set.now c.requires.among c.member_ahead-elem.result c.member_ahead-elem.ensures
    c.in-None.is c.chain_told.result c.chain_told.ensures

pub returns-then-not-branch : goal.returns-then-not-branch
returns-then-not-branch c =
    let q = c.args.self.now in
    member_unnamed q.spec.now q.layout.now q.image.now c.requires.image c.requires.legal q.word.now c.args.number c.args.set.now c.requires.among c.member_ahead-elem.result c.member_ahead-elem.ensures
    c.in_ok-is_text.field-0 c.in_ok-is_text.ensures c.if-not-branch.true
