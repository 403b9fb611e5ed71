-- What was prepared for a group.
use Rattle.std.specs.Prelude.{◌≡◌, List, length, map}
use Rattle.dsr_affected.specs.Marking.{AreAffected}
use Rattle.dsr_edit.specs.Updates.{AreReady, writes_of}
use Rattle.dsr_edit.specs.declared.groups.CellWrite.{CellWrite}
use Rattle.dsr_edit.specs.declared.preparing.Prepared.{Prepared}
use Rattle.dsr_ir.specs.declared.declarations.Spec.{Spec}
use Rattle.dsr_ir.specs.declared.layouts.Layout.{Layout}

-- each write can be made; there is room for what takes them back; and these are the constraints on
-- which they may bear
pub record IsPreparedGroup (spec : Spec) (layout : Layout) (group : List CellWrite)
    (prepared : Prepared) : Type 0 where
  pub writes : writes_of prepared.puts.items ≡ group
  pub ready : AreReady spec layout prepared.puts.items
  pub room : length prepared.was.items ≡ length prepared.puts.items
  pub order : AreAffected spec (map (λ write. write.field) group) prepared.order.items
