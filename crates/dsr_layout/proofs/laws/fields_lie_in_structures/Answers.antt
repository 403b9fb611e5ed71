use Rattle.std.proofs.Common.{◌<◌, ◌≤◌, ◌+◌, ◌*◌, ℕ}
use Rattle.dsr_ir.specs.Layouts.{field_place}
use Rattle.dsr_layout.specs.Laws.{FieldsLieInStructures, LiesInStructure, bits_of}
use Rattle.dsr_meaning.specs.Cells.{width_bits}
use Rattle.dsr_meaning.specs.Layouts.{layout_of}
use Rattle.dsr_meaning.specs.Legal.{entry_count}
use Rattle.dsr_layout.proofs.Enclosed.{field_within}
use Rattle.dsr_layout.proofs.Items.{if_some}
use Rattle.dsr_layout.proofs.laws.fields_lie_in_structures.Goals as goal

pub returns : goal.returns
returns c base bytes =
    if_some (FieldsLieInStructures base bytes) (layout_of base bytes) (λ layout is field.
    if_some (LiesInStructure base bytes field) (field_place layout field) (λ place found.
    if_some (λ bits. (index : ℕ) → index < entry_count place → place.bit + (index + 1) * width_bits place.width ≤ bits) (bits_of base bytes field.structure) (λ bits sized index below.
    field_within base bytes layout is field place index bits found below sized)))
