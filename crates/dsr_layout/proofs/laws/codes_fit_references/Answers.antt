use Rattle.std.proofs.Common.{◌<◌, ◌^◌, sym, subst}
use Rattle.dsr_meaning.specs.Cells.{width_bits}
use Rattle.dsr_layout.proofs.Fitting.{field_found, none_of, none_fits, code_fits}
use Rattle.dsr_layout.proofs.laws.codes_fit_references.Goals as goal

pub returns-clause-none : goal.returns-clause-none
returns-clause-none c spec bytes layout is pool value none place f found refers =
    let at = field_found spec.base place f found in
    let declared = none_of layout pool value none in
    subst (λ n. n < 2 ^ width_bits f.width) (sym declared.value_is) (none_fits spec bytes is.accepted layout is.numbers place.structure place.field pool at.structure f declared.numbers at.structure_is at.field_is refers declared.declared)

pub returns-clause-slots : goal.returns-clause-slots
returns-clause-slots c spec bytes layout is pool slot value code place f found refers =
    let at = field_found spec.base place f found in
    subst (λ n. n < 2 ^ width_bits f.width) (sym code.code) (code_fits spec bytes is.accepted layout is.numbers place.structure place.field pool at.structure f code.numbers at.structure_is at.field_is refers code.declared slot code.below)
