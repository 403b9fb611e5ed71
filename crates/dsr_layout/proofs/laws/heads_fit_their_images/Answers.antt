use Rattle.std.proofs.Common.{◌≤◌, ◌*◌, length}
use Rattle.dsr_layout.specs.Laws.{bits_of}
use Rattle.dsr_layout.proofs.Fitting.{head_fits, head_fits_layout}
use Rattle.dsr_layout.proofs.Items.{if_some}
use Rattle.dsr_layout.proofs.laws.heads_fit_their_images.Goals as goal

pub returns-clause-image : goal.returns-clause-image
returns-clause-image c spec bytes none =
    if_some (λ bits. bits ≤ 8 * length bytes) (bits_of spec.base bytes spec.base.head) (head_fits spec bytes none)

pub returns-clause-layout : goal.returns-clause-layout
returns-clause-layout c spec bytes layout is =
    if_some (λ bits. bits ≤ 8 * layout.length) (bits_of spec.base bytes spec.base.head) (head_fits_layout spec bytes is.accepted layout is.numbers)
