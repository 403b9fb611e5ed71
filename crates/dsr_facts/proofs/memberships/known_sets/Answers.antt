use Rattle.std.proofs.Common.{◌+◌, length, ap, sym, subst, arith}
use Rattle.dsr_facts.proofs.Following.{IsKnowing, all_known, known_more, known_same, none_known}
use Rattle.dsr_facts.proofs.memberships.known_sets.Goals as goal
use Rattle.dsr_facts.proofs.memberships.known_sets.Goals.{then-begins, else-begins}

pub loop-set-init : goal.loop-set-init
loop-set-init c = none_known c.args.spec.now c.args.quant.now c.args.var

pub follow-requires-clause-closed : goal.follow-requires-clause-closed
follow-requires-clause-closed c = c.loop-set.invariant.closed

pub loop-set-preserved : goal.loop-set-preserved
loop-set-preserved c = elim c.if-begins.branch [
  | then-begins w ↦ subst (λ marks. IsKnowing c.args.spec.now c.args.quant.now c.args.var marks (c.loop-set.set + 1)) (sym w.marks-is)
      (known_more c.args.spec.now c.args.quant.now c.args.var c.loop-set.marks w.follow.new.marks c.loop-set.set (c.begins.ensures.0 w.if-begins.true) w.follow.ensures c.loop-set.invariant)
  | else-begins w ↦ subst (λ marks. IsKnowing c.args.spec.now c.args.quant.now c.args.var marks (c.loop-set.set + 1)) (sym w.marks-is)
      (known_same c.args.spec.now c.args.quant.now c.args.var c.loop-set.marks c.loop-set.set c.begins.result c.begins.ensures w.if-begins.false c.loop-set.invariant)
]

pub returns : goal.returns
returns c =
    all_known c.args.spec.now c.args.quant.now c.args.var c.loop-set.marks c.loop-set.set c.requires.typed c.requires.quantifier
    (omega (arith, c.loop-set-test.false, ap length c.items.ensures)) c.loop-set.invariant
