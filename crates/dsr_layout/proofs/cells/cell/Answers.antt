use Rattle.std.proofs.Common.{arith}
use Rattle.dsr_layout.proofs.HeldCells.{entry_within, cell_form}
use Rattle.dsr_layout.proofs.cells.cell.Goals as goal

pub record_start-requires : goal.record_start-requires
record_start-requires c =
    let inside = entry_within c.args.layout.now c.args.elem c.args.field c.args.index c.declared_place-place.result c.width_bits-bits.result c.requires.legal c.requires.entry c.declared_place-place.ensures c.width_bits-bits.ensures.value in
    omega (arith, inside, c.requires.legal.small)

pub overflow_mul-result : goal.overflow_mul-result
overflow_mul-result c =
    let inside = entry_within c.args.layout.now c.args.elem c.args.field c.args.index c.declared_place-place.result c.width_bits-bits.result c.requires.legal c.requires.entry c.declared_place-place.ensures c.width_bits-bits.ensures.value in
    omega (arith, inside, c.requires.legal.small, c.record_start.ensures)

pub overflow_add-result : goal.overflow_add-result
overflow_add-result c =
    let inside = entry_within c.args.layout.now c.args.elem c.args.field c.args.index c.declared_place-place.result c.width_bits-bits.result c.requires.legal c.requires.entry c.declared_place-place.ensures c.width_bits-bits.ensures.value in
    omega (arith, inside, c.requires.legal.small, c.record_start.ensures)

pub overflow_mul-result-2 : goal.overflow_mul-result-2
overflow_mul-result-2 c =
    let inside = entry_within c.args.layout.now c.args.elem c.args.field c.args.index c.declared_place-place.result c.width_bits-bits.result c.requires.legal c.requires.entry c.declared_place-place.ensures c.width_bits-bits.ensures.value in
    omega (arith, inside, c.requires.legal.small, c.record_start.ensures)

pub overflow_add-result-2 : goal.overflow_add-result-2
overflow_add-result-2 c =
    let inside = entry_within c.args.layout.now c.args.elem c.args.field c.args.index c.declared_place-place.result c.width_bits-bits.result c.requires.legal c.requires.entry c.declared_place-place.ensures c.width_bits-bits.ensures.value in
    omega (arith, inside, c.requires.legal.small, c.record_start.ensures)

pub returns-clause-form : goal.returns-clause-form
returns-clause-form c = cell_form c.args.layout.now c.args.field c.declared_place-place.result c.record_start.result c.args.index c.width_bits-bits.result c.is_bytewise.result c.args.layout.now.order c.requires.legal c.declared_place-place.ensures c.width_bits-bits.ensures.value c.is_bytewise.ensures

pub returns-clause-within : goal.returns-clause-within
returns-clause-within c =
    let inside = entry_within c.args.layout.now c.args.elem c.args.field c.args.index c.declared_place-place.result c.width_bits-bits.result c.requires.legal c.requires.entry c.declared_place-place.ensures c.width_bits-bits.ensures.value in
    omega (arith, inside, c.record_start.ensures)
