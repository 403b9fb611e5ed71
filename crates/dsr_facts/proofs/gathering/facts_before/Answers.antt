use Rattle.std.proofs.Common.{◌++◌, ◌∙◌, ap, append_assoc, take, arith}
use Rattle.std.proofs.lemmas.Grind.{common_steps, elements}
use Rattle.std.specs.List.{flat_map}
use Rattle.dsr_meaning.specs.Lists.{each_at}
use Rattle.dsr_update_theory.specs.Facts as said
use Rattle.dsr_facts.proofs.Taking.{flat_more, each_more}
use Rattle.dsr_facts.proofs.gathering.facts_before.Goals as goal

pub loop-number-preserved : goal.loop-number-preserved
loop-number-preserved c =
    let spec = c.args.spec.now in
    let items = c.earlier-declared-items.result.now in
    let n = c.loop-number.number in
    let item = c.declared-item.result in
    let lt = c.loop-number-test.true in
    let is = c.declared-item.is in
    let fact = c.claim_of.ensures in (
      c.in_ok-note.ensures.injective
          ∙ (λ i. c.loop-number.invariant.0 i ++ said.injective_by (fact i))
          ∙ flat_more (λ d. said.injective_by (said.fact_of spec d)) items n item lt is,
      c.in_ok-note.ensures.exclusive
          ∙ (λ i. c.loop-number.invariant.1 i ++ said.exclusive_by (fact i))
          ∙ append_assoc (each_at said.complement_by 0 spec.base.sets) (flat_map (λ d. said.exclusive_by (said.fact_of spec d)) (take n items)) (said.exclusive_by (said.fact_of spec item))
          ∙ ap (λ pairs. each_at said.complement_by 0 spec.base.sets ++ pairs) (flat_more (λ d. said.exclusive_by (said.fact_of spec d)) items n item lt is),
      c.in_ok-note.ensures.apart
          ∙ (λ i. c.loop-number.invariant.2 i ++ said.apart_by (fact i))
          ∙ flat_more (λ d. said.apart_by (said.fact_of spec d)) items n item lt is,
      c.in_ok-note.ensures.from
          ∙ (λ i. c.loop-number.invariant.3 i ++ said.giver_by n (fact i))
          ∙ each_more (λ k d. said.giver_by k (said.fact_of spec d)) items n item lt is,
    )

pub overflow_cast-number : goal.overflow_cast-number
overflow_cast-number c = grind (arith, common_steps)

pub returns-clause-injective : goal.returns-clause-injective
returns-clause-injective c = grind (arith, common_steps)

pub returns-clause-exclusive : goal.returns-clause-exclusive
returns-clause-exclusive c = grind (arith, elements)

pub returns-clause-apart : goal.returns-clause-apart
returns-clause-apart c = grind (arith, common_steps)

pub returns-clause-from : goal.returns-clause-from
returns-clause-from c = grind (arith, common_steps)
