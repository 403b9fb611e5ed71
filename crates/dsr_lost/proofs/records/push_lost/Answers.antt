use Rattle.std.proofs.Common.{◌≡◌, ◌+◌, ◌<◌, ◌≤◌, ◌∙◌, false, true, List, Vec, Global, sym, ap, subst, arith}
use Rattle.dsr_ir.specs.declared.tuples.Element.{Element}
use Rattle.dsr_lost.proofs.Listing.{not_lost, one_lost, pool_ends}
use Rattle.dsr_lost.specs.Lost.{AreLostBefore}
use Rattle.dsr_meaning.specs.Instances.{record_count}
use Rattle.dsr_lost.proofs.records.push_lost.Goals as goal
use Rattle.dsr_lost.proofs.records.push_lost.Goals.{then-is_free+in_ok-push, else-is_free}

pub loop-slot-preserved : goal.loop-slot-preserved
loop-slot-preserved c =
    let below : c.loop-slot.slot < record_count c.args.layout.now c.args.pool = subst (λ n. c.loop-slot.slot < n) c.record_count-slot-end.ensures c.loop-slot-test.true in
    elim c.if-is_free.branch [
      | then-is_free+in_ok-push w ↦
          subst (λ (v : Vec Element Global). AreLostBefore c.args.spec.now c.args.layout.now c.args.model.now v.items (record { pool = c.args.pool; slot = c.loop-slot.slot + 1 })) (sym w.lost-is)
          (subst (λ (xs : List Element). AreLostBefore c.args.spec.now c.args.layout.now c.args.model.now xs (record { pool = c.args.pool; slot = c.loop-slot.slot + 1 })) (sym w.in_ok-push.ensures.items)
          (one_lost c.args.spec.now c.args.layout.now c.args.model.now c.loop-slot.lost.items c.args.pool c.loop-slot.slot
          (record { of_pool = c.requires.of_pool; declared = c.requires.declared; slot_below = below }) (c.is_free.ensures.0 w.if-is_free.true) c.loop-slot.invariant))
      | else-is_free w ↦
          subst (λ (v : Vec Element Global). AreLostBefore c.args.spec.now c.args.layout.now c.args.model.now v.items (record { pool = c.args.pool; slot = c.loop-slot.slot + 1 })) (sym w.lost-is)
          (not_lost c.args.spec.now c.args.layout.now c.args.model.now c.loop-slot.lost.items c.args.pool c.loop-slot.slot
          (λ free. let both : false ≡ true = sym w.if-is_free.false ∙ c.is_free.ensures.1 free in absurd cc) c.loop-slot.invariant)
    ]

pub returns : goal.returns
returns c =
    let all : record_count c.args.layout.now c.args.pool ≤ c.loop-slot.slot = subst (λ n. n ≤ c.loop-slot.slot) c.record_count-slot-end.ensures c.loop-slot-test.false in
    pool_ends c.args.spec.now c.args.layout.now c.args.model.now c.loop-slot.lost.items c.args.pool c.loop-slot.slot all c.loop-slot.invariant
