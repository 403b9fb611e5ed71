-- One write, made or skipped, and what it sets.
use Rattle.std.proofs.Common.{sym, ap, subst, ◌∙◌, if◌then◌else◌}
use Rattle.std.proofs.lemmas.Bool.Decides.{not_from_Decides}
use Rattle.std.specs.Prelude.{IfSome}
use Rattle.dsr_image.specs.Images.{IsCellClaimed}
use Rattle.dsr_repair.proofs.Sets.{set_made, set_skipped}
use Rattle.dsr_repair.proofs.entries.set.Goals as goal

pub put-requires-clause-claimed : goal.put-requires-clause-claimed
put-requires-clause-claimed g c =
    subst (λ o. IfSome o (IsCellClaimed (g.I.ImageBytes.claimed c.args.image.now))) c.written_cell-cell.ensures.cell c.requires.claimed

pub returns-then-is_wanted-clause-set : goal.returns-then-is_wanted-clause-set
returns-then-is_wanted-clause-set g c =
    set_skipped c.args.spec.now c.args.layout.now c.args.step.now c.args.write.now c.written_cell-cell.result c.in-Some.number
    c.get-old.result (g.I.ImageBytes.bytes c.args.image.now) c.written_cell-cell.ensures.cell (sym c.picked_number.ensures ∙ c.in-Some.is)
    c.get-old.ensures.value (c.is_wanted.ensures.0 c.if-is_wanted.true)

pub returns-then-write-clause-set : goal.returns-then-write-clause-set
returns-then-write-clause-set g c =
    set_made c.args.spec.now c.args.layout.now c.args.step.now c.args.write.now c.written_cell-cell.result c.in-Some.number
    c.get-old.result c.args.step.now.index (g.I.ImageBytes.bytes c.args.image.now) (g.I.ImageBytes.bytes c.put.new.self)
    c.written_cell-cell.ensures.cell (sym c.picked_number.ensures ∙ c.in-Some.is) c.get-old.ensures.value
    (sym (ap (λ b. if b then c.args.step.now.index else 0) c.if-write.true))
    (not_from_Decides c.is_wanted.result c.is_wanted.ensures c.if-is_wanted.false)
    (record { puts = c.put.ensures.put; beside = c.put.ensures.beside; bytes = c.put.ensures.bytes })

pub returns-else-write-clause-set : goal.returns-else-write-clause-set
returns-else-write-clause-set g c =
    set_made c.args.spec.now c.args.layout.now c.args.step.now c.args.write.now c.written_cell-cell.result c.in-Some.number
    c.get-old.result 0 (g.I.ImageBytes.bytes c.args.image.now) (g.I.ImageBytes.bytes c.put.new.self)
    c.written_cell-cell.ensures.cell (sym c.picked_number.ensures ∙ c.in-Some.is) c.get-old.ensures.value
    (sym (ap (λ b. if b then c.args.step.now.index else 0) c.if-write.false))
    (not_from_Decides c.is_wanted.result c.is_wanted.ensures c.if-is_wanted.false)
    (record { puts = c.put.ensures.put; beside = c.put.ensures.beside; bytes = c.put.ensures.bytes })
