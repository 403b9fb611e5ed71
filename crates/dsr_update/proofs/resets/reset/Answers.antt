-- The structures of a record are reset, up its line.
use Rattle.std.proofs.Common.{◌<◌, suc, length, refl, sym, subst}
use Rattle.std.specs.Option.{option_map_or}
use Rattle.dsr_step_theory.specs.Resets.{reset_puts}
use Rattle.dsr_update.proofs.Left.{line_begins, line_end, line_next}
use Rattle.dsr_update.proofs.Putting.{put_all, put_more, put_none}
use Rattle.dsr_update.proofs.RecordEntries.{as_long, legal_where_small}
use Rattle.dsr_schema.proofs.Lines.{goes_down, parent_line}
use Rattle.dsr_update.proofs.RecordLines.{first_line, next_line, of_record}
use Rattle.dsr_update.specs.Claims.{CanReset, IsSlotClaimed}
use Rattle.dsr_update.proofs.resets.reset.Goals as goal

pub zero_slot-requires-clause-legal : goal.zero_slot-requires-clause-legal
zero_slot-requires-clause-legal g c = legal_where_small c.args.spec.now c.args.layout.now c.args.elem (length (g.I.ImageBytes.bytes c.args.image.now)) c.requires.can c.requires.can.small

pub zero_slot-requires-clause-slot : goal.zero_slot-requires-clause-slot
zero_slot-requires-clause-slot g c = c.requires.can.slot

pub zero_slot-requires-clause-long : goal.zero_slot-requires-clause-long
zero_slot-requires-clause-long g c = as_long c.args.spec.now c.args.layout.now c.args.elem (length (g.I.ImageBytes.bytes c.args.image.now)) c.requires.can

pub loop-next-init : goal.loop-next-init
loop-next-init g c = (
  put_more (put_none {all = reset_puts c.args.spec.now.base c.args.layout.now c.args.elem} refl)
      (line_begins c.args.spec.now.base c.args.layout.now c.args.elem c.structure_of-next.result c.structure_of-next.ensures)
      c.zero_slot.ensures.put c.zero_slot.ensures.long c.zero_slot.ensures.claimed,
  first_line c.args.spec.now c.args.elem c.structure_of-next.result c.structure_of-next.ensures,
)

pub reset_structure-requires-clause-can : goal.reset_structure-requires-clause-can
reset_structure-requires-clause-can g c = subst (CanReset c.args.spec.now c.args.layout.now c.args.elem) (sym c.loop-next.invariant.0.long) c.requires.can

pub reset_structure-requires-clause-legal : goal.reset_structure-requires-clause-legal
reset_structure-requires-clause-legal g c = legal_where_small c.args.spec.now c.args.layout.now c.args.elem (length (g.I.ImageBytes.bytes c.args.image.now)) c.requires.can c.requires.can.small

pub reset_structure-requires-clause-of_record : goal.reset_structure-requires-clause-of_record
reset_structure-requires-clause-of_record g c = of_record c.args.spec.now c.args.elem c.loop-next.next c.in-Some.current c.in-Some.is c.loop-next.invariant.1

pub reset_structure-requires-clause-claimed : goal.reset_structure-requires-clause-claimed
reset_structure-requires-clause-claimed g c = subst (λ claims. IsSlotClaimed claims c.args.layout.now c.args.elem) (sym c.loop-next.invariant.0.kept) c.requires.claimed

pub loop-next-smaller : goal.loop-next-smaller
loop-next-smaller g c =
    subst (λ o. option_map_or suc c.parent-next.result 0 < option_map_or suc o 0) (sym c.in-Some.is)
    (goes_down c.args.spec.now.base.structures c.in-Some.current c.parent-next.result
    (parent_line c.args.spec.now.base c.in-Some.current c.parent-next.result c.requires.can.typed.base c.parent-next.ensures))

pub loop-next-preserved : goal.loop-next-preserved
loop-next-preserved g c =
    let on = parent_line c.args.spec.now.base c.in-Some.current c.parent-next.result c.requires.can.typed.base c.parent-next.ensures in (
      put_more c.loop-next.invariant.0
          (line_next c.args.spec.now.base c.args.layout.now c.args.elem c.loop-next.next c.parent-next.result c.in-Some.current c.in-Some.is on.0)
          c.reset_structure.ensures.put c.reset_structure.ensures.long c.reset_structure.ensures.claimed,
      next_line c.args.spec.now c.args.elem c.loop-next.next c.parent-next.result c.in-Some.current c.in-Some.is on c.loop-next.invariant.1,
    )

pub returns-clause-put : goal.returns-clause-put
returns-clause-put g c = put_all c.loop-next.invariant.0 (line_end c.args.spec.now.base c.args.layout.now c.args.elem c.loop-next.next c.in_default.is)

pub returns-clause-long : goal.returns-clause-long
returns-clause-long g c = c.loop-next.invariant.0.long

pub returns-clause-claimed : goal.returns-clause-claimed
returns-clause-claimed g c = c.loop-next.invariant.0.kept
