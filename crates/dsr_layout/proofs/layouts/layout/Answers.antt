use Rattle.std.proofs.Common.{◌≤◌, sym, ap, subst, ◌++◌, ◌∙◌}
use Rattle.std.proofs.lemmas.Result.{err_from_is_err_and}
use Rattle.dsr_meaning.specs.Refusals.{refusals, size_refusals, value_refusals, layout_refusals}
use Rattle.dsr_layout.specs.Tables.{known, size_in}
use Rattle.dsr_layout.specs.Telling.{told_of, Tells}
use Rattle.dsr_layout.proofs.Composed.{read_as, value_told, layout_told, accepted, layout_made}
use Rattle.dsr_layout.proofs.LegalLayout.{legal_layout}
use Rattle.dsr_layout.proofs.Looking.{told_none}
use Rattle.dsr_layout.proofs.layouts.layout.Goals as goal

pub returns-in_err-layout-clause-refused : goal.returns-in_err-layout-clause-refused
returns-in_err-layout-clause-refused c =
    let spec = c.args.spec.now in
    let base = spec.base in
    let p = err_from_is_err_and c.from_residual-in_err-layout.result c.from_residual-in_err-layout.ensures.1 in
    let fault = c.in_err-layout.field-0.0 in
    let by_fixed = subst (λ t. Tells (size_refusals (size_in c.deref-2.result.now) base.structures ++ value_refusals (known t) (size_in c.deref-2.result.now) base.pools) fault) c.deref.ensures.value c.in_err-layout.ensures.refused in
    let told = subst (λ t. Tells (size_refusals (size_in t) base.structures ++ value_refusals (known c.in_ok-readings.readings.fixed.items) (size_in t) base.pools) fault) c.deref-2.ensures.value by_fixed in
    rw p.1 (subst (Tells (refusals spec c.args.bytes.now)) (sym p.2) (value_told spec c.args.bytes.now c.in_ok-readings.readings.fixed.items c.in_ok-readings.readings.ends.items c.in_ok-readings.ensures.read fault told))

pub returns-in-Some-clause-refused : goal.returns-in-Some-clause-refused
returns-in-Some-clause-refused c =
    let spec = c.args.spec.now in
    let base = spec.base in
    let read = read_as c.deref.ensures.value c.deref-2.ensures.value c.in_ok-readings.ensures.read in
    let layout = c.in_ok-layout.layout in
    let told = ap (λ t. told_of (layout_refusals (size_in t) spec base layout)) (c.deref-3.ensures.value ∙ sym c.deref-2.ensures.value) in
    layout_told spec c.args.bytes.now c.deref.result.now c.deref-2.result.now read layout c.in_ok-layout.ensures.made c.in-Some.fault (sym c.in-Some.is ∙ c.in_ok-fault.ensures ∙ told)

pub returns-clause-layout : goal.returns-clause-layout
returns-clause-layout c =
    let spec = c.args.spec.now in
    let base = spec.base in
    let read = read_as c.deref.ensures.value c.deref-2.ensures.value c.in_ok-readings.ensures.read in
    let layout = c.in_ok-layout.layout in
    let told = ap (λ t. told_of (layout_refusals (size_in t) spec base layout)) (c.deref-3.ensures.value ∙ sym c.deref-2.ensures.value) in
    record {
      numbers = layout_made spec c.args.bytes.now c.deref.result.now c.deref-2.result.now read layout c.in_ok-layout.ensures.made;
      accepted = accepted spec c.args.bytes.now c.deref.result.now c.deref-2.result.now read layout c.in_ok-layout.ensures.made (sym c.in-None.is ∙ c.in_ok-fault.ensures ∙ told);
    }

pub returns-clause-legal : goal.returns-clause-legal
returns-clause-legal c =
    let spec = c.args.spec.now in
    let base = spec.base in
    let ends = c.deref-2.result.now in
    let made = c.in_ok-layout.ensures.made in
    let layout = c.in_ok-layout.layout in
    let told = ap (λ t. told_of (layout_refusals (size_in t) spec base layout)) (c.deref-3.ensures.value ∙ sym c.deref-2.ensures.value) in
    let nothing = told_none (layout_refusals (size_in ends) spec base layout) (sym c.in-None.is ∙ c.in_ok-fault.ensures ∙ told) in
    legal_layout (size_in ends) spec base layout (subst (λ n. n ≤ 67108864) (sym made.bytes_is) c.requires.image) made.computable made.legal nothing
