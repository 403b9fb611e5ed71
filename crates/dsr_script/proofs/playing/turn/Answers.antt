use Rattle.std.proofs.Common.{inr, refl}
use Rattle.dsr_script.specs.Moves.{shown}
use Rattle.dsr_script.specs.Outside.{told_by, Stands}
use Rattle.dsr_script.specs.Scripts.{Came, Next, Load, Save, Tell}
use Rattle.dsr_script.proofs.Played.{at_once, runs_on}
use Rattle.dsr_script.proofs.playing.turn.Goals as goal

pub returns-in-Ok-go_on-clause-continues : goal.returns-in-Ok-go_on-clause-continues
returns-in-Ok-go_on-clause-continues g c =
    let came : Came = record {
      name = c.in-Load.name.now;
      limit = c.in-Load.limit;
      long = c.in-Load.long.now;
      bytes = c.in-Ok.bytes.items;
    } in
    let before = told_by g.F.Shelf g.O.Sink c.args.shelf.now c.args.out.now in
    let middle = told_by g.F.Shelf g.O.Sink c.load.new.shelf c.load.new.out in
    rw c.in-Load.is (runs_on g.S.Stage.due came c.in-Load.stage c.in-Ok-go_on.next before middle
    c.in-Ok.ensures.whole c.in-Ok-go_on.ensures.follows c.in-Ok.ensures.same)

pub returns-in-Err-clause-ends : goal.returns-in-Err-clause-ends
returns-in-Err-clause-ends g c =
    let due : Next = Load c.in-Load.name.now c.in-Load.limit c.in-Load.long.now in
    let before = told_by g.F.Shelf g.O.Sink c.args.shelf.now c.args.out.now in
    let after = told_by g.F.Shelf g.O.Sink c.load.new.shelf c.load.new.out in
    rw c.in-Load.is (at_once _ due before after c.in-Err.status refl c.in-Err.ensures.ends)

pub returns-in-Save-clause-ends : goal.returns-in-Save-clause-ends
returns-in-Save-clause-ends g c =
    let due : Next = Save c.in-Save.name.now c.in-Save.bytes.items (shown c.in-Save.told) in
    let before = told_by g.F.Shelf g.O.Sink c.args.shelf.now c.args.out.now in
    let after = told_by g.F.Shelf g.O.Sink c.save.new.shelf c.save.new.out in
    let saved = rw c.deref.ensures.value at c.save.ensures in
    rw c.in-Save.is (at_once _ due before after c.save.result (_, _, (refl, refl), refl) saved)

pub returns-in-Tell-clause-ends : goal.returns-in-Tell-clause-ends
returns-in-Tell-clause-ends g c =
    let due : Next = Tell (shown c.in-Tell.told) in
    let before = told_by g.F.Shelf g.O.Sink c.args.shelf.now c.args.out.now in
    let after = told_by g.F.Shelf g.O.Sink c.args.shelf.now c.put.new.out in
    let told = rw c.deref-in-Tell.ensures.value at c.put.ensures in
    let stands : Stands before after = record { held = refl; calm = record { faults = refl; last = refl } } in
    rw c.in-Tell.is (at_once _ due before after c.put.result (_, refl, refl) (inr (stands, told)))
