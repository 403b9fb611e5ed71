use Rattle.std.proofs.Common.{ap, sym, length, ◌∙◌, arith}
use Rattle.std.proofs.lemmas.Grind.{common_steps}
use Rattle.dsr_layout.specs.Ends.{start_in, end_behind}
use Rattle.dsr_layout.specs.Tables.{known}
use Rattle.dsr_layout.proofs.Sizes.{ends_next}
use Rattle.dsr_layout.proofs.places.ends.Goals as goal

pub loop-structure-preserved : goal.loop-structure-preserved
loop-structure-preserved c =
    let fixed = known c.args.fixed.now in
    let parent = c.structure-item.result.parent in
    let many = c.len.ensures ∙ sym c.deref.ensures.len ∙ ap length c.deref.ensures.value in
    let start = c.start_in-start.ensures ∙ ap (λ es. start_in es c.len.result parent) c.deref.ensures.value ∙ ap (λ n. start_in c.loop-structure.ends.items n parent) many in
    let made = c.end_behind-end.ensures ∙ ap (λ fs. end_behind fixed c.start_in-start.result fs) c.items.ensures ∙ ap (λ o. end_behind fixed o c.structure-item.result.fields) start in
    ends_next fixed c.args.structures.now c.loop-structure.structure-index c.structure-item.result c.loop-structure-test.true c.structure-item.is c.loop-structure.ends.items c.loop-structure.invariant.0 c.loop-structure.invariant.1 c.in_ok-push.ensures.items made

pub returns : goal.returns
returns c = grind (arith, common_steps)
