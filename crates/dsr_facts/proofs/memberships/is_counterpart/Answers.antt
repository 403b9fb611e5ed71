use Rattle.std.proofs.Common.{◌∙◌, sym}
use Rattle.dsr_facts.proofs.Counterparts.{counterpart_decides}
use Rattle.dsr_facts.proofs.memberships.is_counterpart.Goals as goal
use Rattle.dsr_facts.proofs.memberships.is_counterpart.Goals.{then-eq, else-eq, then-eq-2, else-eq-2}

pub returns-then-gives_target : goal.returns-then-gives_target
returns-then-gives_target c = elim c.if-eq-2.branch [
  | then-eq-2 w ↦ (elim c.if-eq.branch [
    | then-eq v ↦
        counterpart_decides c.args.rule.now c.args.other.now c.args.set c.has_guards.result
        (sym c.eq.ensures ∙ v.if-eq.true)
        (sym v.eq-then-eq.ensures ∙ (sym v.value-is ∙ w.if-eq-2.true))
        (w.gives_target.ensures.0 (sym w.value-is ∙ c.if-gives_target.true))
        c.has_guards.ensures
    | else-eq v ↦ absurd (cc (v.value-is, w.if-eq-2.true))
  ])
  | else-eq-2 w ↦ absurd (cc (w.value-is, c.if-gives_target.true))
]
