use Rattle.std.proofs.Common.{◌≡◌, ◌∙◌, ap, sym, subst, Some, slice_get}
use Rattle.std.proofs.lemmas.Option.{same_Some}
use Rattle.dsr_fixed_bits.proofs.Bits.{ends_unclipped}
use Rattle.dsr_fixed_bits.specs.Bits.{AreFixedBefore, start_of}
use Rattle.dsr_ir.specs.declared.declarations.Structure.{Structure}
use Rattle.dsr_layout.proofs.Items.{item_at}
use Rattle.dsr_fixed_bits.proofs.changes.FixedBits.new.Goals as goal

pub invariant_of-result-2 : goal.invariant_of-result-2
invariant_of-result-2 c =
    let found = c.in-Some.ensures.lookup in
    let base = c.args.base.now in
    let head = c.in-Some.head.now in
    let end = c.end_of_fixed.result in
    let is : slice_get base.structures base.head ≡ Some head = ap (λ ss. slice_get ss base.head) (sym c.items-structures.ensures) ∙ item_at c.items-structures.result.now base.head head found.3.0 found.1 in
    let start : c.start_of-start.result ≡ start_of base.structures base.head head.parent = c.start_of-start.ensures ∙ ap (λ ss. start_of ss base.head head.parent) c.items-structures.ensures in
    let before : AreFixedBefore base.order (start_of base.structures base.head head.parent) head.fields end =
    subst (λ s. AreFixedBefore base.order s head.fields end) start
    (subst (λ fs. AreFixedBefore base.order c.start_of-start.result fs end) c.items.ensures c.end_of_fixed.ensures) in
    record {
      starts = λ other at. start ∙ ap (λ (h : Structure). start_of base.structures base.head h.parent) (same_Some head other (sym is ∙ at));
      ends = ends_unclipped base end head is before;
    }
