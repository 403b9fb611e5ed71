use Rattle.std.proofs.Common.{◌/◌, sym, subst, arith}
use Rattle.dsr_image.specs.Images.{IsCellClaimed}
use Rattle.dsr_meaning.specs.Cells.{IsCellOf}
use Rattle.dsr_meaning.specs.Writes.{BesideStay, Puts}
use Rattle.dsr_undo.proofs.Putting.{byte_form, is_set}
use Rattle.dsr_undo.proofs.bytes.put_byte.Goals as goal

pub put-requires-clause-cell : goal.put-requires-clause-cell
put-requires-clause-cell g c =
    subst (IsCellOf (g.I.ImageBytes.bytes c.args.image.now)) (sym c.byte_cell.ensures) (record { form = byte_form c.args.place; within = omega (arith, c.requires.within) })

pub put-requires-clause-claimed : goal.put-requires-clause-claimed
put-requires-clause-claimed g c =
    subst (IsCellClaimed (g.I.ImageBytes.claimed c.args.image.now)) (sym c.byte_cell.ensures)
    (λ j from before. c.requires.claimed (j / 8) (omega arith) (omega (arith, from, before, c.requires.within)))

pub returns-clause-bytes : goal.returns-clause-bytes
returns-clause-bytes g c =
    let old = g.I.ImageBytes.bytes c.args.image.now in
    let new = g.I.ImageBytes.bytes c.put.new.self in
    is_set c.args.place c.args.byte old new c.requires.within
    (subst (λ cell. Puts cell c.args.byte old new) c.byte_cell.ensures
    (subst (λ v. Puts c.byte_cell.result v old new) c.from.ensures c.put.ensures.put))
    (subst (λ cell. BesideStay cell old new) c.byte_cell.ensures c.put.ensures.beside)
