use Rattle.std.proofs.Common.{arith, ap, length}
use Rattle.std.proofs.lemmas.Bool.{false≢true}
use Rattle.dsr_facts.proofs.Following.{known_declared}
use Rattle.dsr_compensate.proofs.Deciding.{typed_quantifier}
use Rattle.dsr_compensate.proofs.owner.Owner.is_known_avoided.Goals as goal

pub returns : goal.returns
returns c = (
  λ no. absurd (false≢true no),
  λ found.
      let below = known_declared c.args.self.now.spec.now c.args.self.now.constraint.now.quant c.requires.sound.typed (typed_quantifier c.args.self.now c.requires.sound) c.args.var found.0 found.1 in
      let all = ap length c.items-set-end.ensures in
      let past = c.loop-set-test.false in
      absurd (c.loop-set.invariant found.0 (omega (arith, below, all, past)) found.1 found.2),
)
