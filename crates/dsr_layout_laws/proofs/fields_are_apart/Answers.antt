-- Cells of two fields of a record share no bit.
use Rattle.dsr_layout_laws.proofs.Fields.{in_other_fields}
use Rattle.dsr_layout_laws.proofs.fields_are_apart.Goals as goal

pub returns : goal.returns
returns c = in_other_fields
