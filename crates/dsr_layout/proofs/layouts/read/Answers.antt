use Rattle.std.proofs.Common.{sym, ap, subst, length, inr, ◌∙◌}
use Rattle.dsr_meaning.specs.Refusals.{head_refusals}
use Rattle.dsr_layout.specs.Tables.{known, size_in, HoldsEnds}
use Rattle.dsr_layout.specs.Telling.{told_of}
use Rattle.dsr_layout.proofs.Composed.{head_told}
use Rattle.dsr_layout.proofs.layouts.read.Goals as goal

pub returns-in-Some-clause-refused : goal.returns-in-Some-clause-refused
returns-in-Some-clause-refused c =
    let spec = c.args.spec.now in
    let fixed = c.in_ok-fixed.fixed.items in
    let ends = c.in_ok-ends.ends.items in
    let by_fixed = subst (λ t. HoldsEnds (known t) c.items.result.now ends) c.deref.ensures.value c.in_ok-ends.ensures in
    let holds = subst (λ ss. HoldsEnds (known fixed) ss ends) c.items.ensures by_fixed in
    let told = sym (ap (λ t. told_of (head_refusals (size_in t) spec.base.head (length c.args.bytes.now))) c.deref-2.ensures.value) ∙ sym c.short_head.ensures ∙ c.in-Some.is in
    head_told spec c.args.bytes.now fixed ends c.in_ok-fixed.ensures.values c.in_ok-fixed.ensures.uncut holds c.in-Some.fault (inr told)
