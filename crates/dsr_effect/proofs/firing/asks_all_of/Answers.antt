use Rattle.dsr_effect.proofs.Asking.{asks_decides}
use Rattle.std.proofs.Common.{sym, ◌∙◌}
use Rattle.dsr_effect.proofs.firing.asks_all_of.Goals as goal
use Rattle.dsr_effect.proofs.firing.asks_all_of.Goals.{then-eq+in-Single, then-eq+in_default, else-eq}

pub returns-then-matches : goal.returns-then-matches
returns-then-matches c = elim c.if-eq.branch [
  | then-eq+in-Single w ↦
      asks_decides c.args.rule.now c.args.other.now c.has_guards.result
      (sym c.eq.ensures ∙ w.if-eq.true) w.in-Single.is c.has_guards.ensures
  | then-eq+in_default w ↦ absurd (cc (w.value-is, c.if-matches.true))
  | else-eq w ↦ absurd (cc (w.value-is, c.if-matches.true))
]
