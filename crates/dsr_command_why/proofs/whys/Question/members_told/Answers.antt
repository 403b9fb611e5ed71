use Rattle.std.proofs.Common.{Option, length, ap, subst, arith, below_more}
use Rattle.dsr_command_why.proofs.Whying.{listed_at}
use Rattle.dsr_command_why.specs.Whys.{TellsOf}
use Rattle.dsr_ir.specs.declared.updates.Symbol.TheVariants as symbols
use Rattle.dsr_script.specs.declared.moves.Told.{Told}
use Rattle.dsr_command_why.proofs.whys.Question.members_told.Goals as goal

pub member_told-requires-clause-among : goal.member_told-requires-clause-among
member_told-requires-clause-among c = listed_at c.args.self.now.spec.now.base.sets c.items-set-items.result.now c.items-set-items.ensures c.loop-number.number c.set-item.result c.loop-number-test.true c.set-item.is

pub loop-number-preserved : goal.loop-number-preserved
loop-number-preserved c =
    let q = c.args.self.now in
    below_more _ _ c.loop-number.invariant (subst (λ (o : Option Told). TellsOf q.spec.now q.layout.now q.image.now q.word.now (symbols.Set c.loop-number.number) o) c.in_default.is c.in_ok-answer.ensures)

pub returns : goal.returns
returns c = λ k below. c.loop-number.invariant k (omega (arith, below, c.loop-number-test.false, ap length c.items-set-items.ensures))
