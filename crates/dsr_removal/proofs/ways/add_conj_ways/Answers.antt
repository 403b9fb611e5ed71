use Rattle.std.proofs.Common.{◌≤◌, length, ap, arith}
use Rattle.dsr_placement.specs.Placing.{IsLeft}
use Rattle.dsr_removal.proofs.Beyond.{past_literals}
use Rattle.dsr_removal.proofs.StuckWays.{next_conj}
use Rattle.dsr_removal.proofs.ways.add_conj_ways.Goals as goal

pub loop-literal-preserved : goal.loop-literal-preserved
loop-literal-preserved c = λ owner in_graph many before. c.in_ok-add_literal_ways.ensures owner in_graph many (c.loop-literal.invariant owner in_graph many before)

pub returns : goal.returns
returns c = λ owner in_graph many conj_is before.
    let past = c.loop-literal-test.false in
    let long = ap length c.items-literal-end.ensures in
    let all : length c.args.conj.now.literals ≤ c.loop-literal.literal = omega (arith, past, long) in
    next_conj owner (IsLeft c.args.left.now) c.args.number c.loop-literal.literal _
    (λ n beyond. past_literals owner.constraint c.args.number n c.args.conj.now conj_is (omega (arith, all, beyond)))
    (c.loop-literal.invariant owner in_graph many before)
