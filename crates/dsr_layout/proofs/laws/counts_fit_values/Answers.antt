use Rattle.std.proofs.Common.{◌<◌, ◌^◌}
use Rattle.dsr_ir.specs.Layouts.{field_place}
use Rattle.dsr_meaning.specs.Cells.{width_bits}
use Rattle.dsr_meaning.specs.Refusals.{greatest_size}
use Rattle.dsr_layout.proofs.Counted.{count_fits}
use Rattle.dsr_layout.proofs.Items.{if_some}
use Rattle.dsr_layout.proofs.laws.counts_fit_values.Goals as goal

pub returns : goal.returns
returns c spec bytes layout is rel measure path compared given =
    let atom = compared.compares in
    if_some (λ place. greatest_size spec layout measure < 2 ^ width_bits place.width) (field_place layout path.field) (λ place found.
    count_fits spec bytes is.accepted layout is.numbers compared.constraint atom.0 atom.1 compared.var rel compared.op measure compared.declared atom.2 atom.3 atom.4 compared.reaches given.rule path place given.declared given.gives found)
