use Rattle.std.proofs.Common.{Ok, arith, subst}
use Rattle.dsr_lexer.specs.Lexing.{Steps, StepsOn}
use Rattle.dsr_lexer.proofs.Readings.{first_cut, next_cut, front_stopped}
use Rattle.dsr_lexer.proofs.lexer.front.Goals as goal

pub loop-place-init : goal.loop-place-init
loop-place-init c = record { within = omega arith; cut = first_cut c.args.text.now c.new-lexemes.result.items c.new-lexemes.ensures.items }

pub loop-place-preserved : goal.loop-place-preserved
loop-place-preserved c =
    let made : Steps c.loop-place.lexemes.items c.step.new.lexemes.items c.args.text.now c.loop-place.place c.in-Some.next =
    subst (λ next. StepsOn c.loop-place.lexemes.items c.step.new.lexemes.items c.args.text.now c.loop-place.place (Ok next)) c.in-Some.is c.in_ok-next.ensures in
    record { within = made.fits; cut = next_cut c.args.text.now c.loop-place.lexemes.items c.step.new.lexemes.items c.loop-place.place c.in-Some.next c.loop-place.invariant.cut made }

pub returns-in-None : goal.returns-in-None
returns-in-None c = front_stopped c.args.text.now c.loop-place.lexemes.items c.step.new.lexemes.items c.loop-place.place c.loop-place-test.true c.loop-place.invariant.cut
    (subst (λ next. StepsOn c.loop-place.lexemes.items c.step.new.lexemes.items c.args.text.now c.loop-place.place (Ok next)) c.in-None.is c.in_ok-next.ensures)
