use Rattle.std.proofs.Common.{refl, sym}
use Rattle.dsr_edit.proofs.cells.field_of.Goals as goal

pub returns : goal.returns
returns c = record { declared = sym c.in-Some.ensures; named = c.if-not-has_name.ensures.0 refl; of_pool = c.if-not-is_of_pool.ensures.0 refl }
