use Rattle.std.proofs.Common.{◌/◌, ℕ, List, Bool, false, get_or, refl, ap, arith}
use Rattle.std.proofs.lemmas.List.{length-take}
use Rattle.dsr_meaning.proofs.Values.{beside}
use Rattle.dsr_overlay.specs.Overlays.{is_owned}
use Rattle.dsr_overlay.proofs.Moved.{cell_claimed}
use Rattle.dsr_overlay.proofs.Placed.{placed_by}
use Rattle.dsr_overlay.proofs.overlay.OverlayImageBytes.put.Goals as goal

pub window-part-requires-clause-within : goal.window-part-requires-clause-within
window-part-requires-clause-within c = omega arith

pub write-requires-clause-claimed : goal.write-requires-clause-claimed
write-requires-clause-claimed c =
    λ i from lt. cell_claimed (is_owned 4096 c.args.self.now) c.args.cell.now c.span-count.result c.requires.cell.form c.requires.claimed c.span-count.ensures.least i from (omega (arith, length-take {A = ℕ}))

pub write-requires-clause-within : goal.write-requires-clause-within
write-requires-clause-within c = omega (arith, length-take {A = ℕ})

pub returns-clause-put : goal.returns-clause-put
returns-clause-put c =
    placed_by c.args.self.now.bytes c.window-part.result c.put_front.new.bytes (c.args.cell.now.bit / 8) c.span-count.result (omega arith) (omega (arith, c.put_front.ensures.length, c.window-part.ensures.eight)) c.window-part.ensures.bytes c.args.cell.now c.args.value refl c.span-count.ensures.enough c.requires.cell.form c.put_front.ensures _ c.write.ensures.bytes

pub returns-clause-beside : goal.returns-clause-beside
returns-clause-beside c =
    λ other form apart. beside _ _ other c.args.cell.now c.args.value (returns-clause-put c) form apart c.length.ensures.bytes c.write.ensures.after

pub returns-clause-kept : goal.returns-clause-kept
returns-clause-kept c = ap (λ (xs : List Bool). λ (at : ℕ). get_or xs (at / 4096) false) c.write.ensures.owned
