use Rattle.std.proofs.Common.{◌≤◌, ◌*◌, refl}
use Rattle.dsr_ir.specs.Layouts.{pool_numbers}
use Rattle.dsr_layout.specs.Laws.{HasRoomFor, bits_of}
use Rattle.dsr_layout.proofs.Fitting.{pool_found, pool_fits, set_fits}
use Rattle.dsr_layout.proofs.Items.{if_some}
use Rattle.dsr_layout.proofs.laws.records_fit_their_slots.Goals as goal

pub returns-clause-pools : goal.returns-clause-pools
returns-clause-pools c spec bytes layout is p d found =
    if_some (HasRoomFor spec.base bytes d.structure) (pool_numbers layout p) (λ n numbers.
    if_some (λ bits. bits ≤ 8 * n.slot) (bits_of spec.base bytes d.structure) (λ bits sized.
    pool_fits spec bytes is.accepted layout is.numbers p n numbers d bits (pool_found spec.base p d found) sized))

pub returns-clause-sets : goal.returns-clause-sets
returns-clause-sets c spec bytes layout is k s found =
    if_some (HasRoomFor spec.base bytes s.structure) (pool_numbers layout s.pool) (λ n numbers.
    if_some (λ bits. bits ≤ 8 * n.slot) (bits_of spec.base bytes s.structure) (λ bits sized.
    set_fits spec bytes is.accepted layout is.numbers s.pool n numbers k s bits found refl sized))
