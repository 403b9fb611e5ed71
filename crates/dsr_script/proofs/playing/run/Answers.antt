use Rattle.std.proofs.Common.{map, string_bytes}
use Rattle.dsr_script.specs.Outside.{told_by}
use Rattle.dsr_script.proofs.Caused.{caused}
use Rattle.dsr_script.proofs.Played.{runs_so}
use Rattle.dsr_script.proofs.playing.run.Goals as goal

pub returns-in-Ok-clause-runs : goal.returns-in-Ok-clause-runs
returns-in-Ok-clause-runs g c =
    let asked = g.C.Commands.asked (map string_bytes c.args.words.now) in
    let before = told_by g.F.Shelf g.O.Sink c.args.shelf.now c.args.out.now in
    let after = told_by g.F.Shelf g.O.Sink c.play.new.shelf c.play.new.out in
    let follows = c.in-Ok.ensures.follows in
    runs_so g.C.Stage.due asked c.in-Ok.first before follows after c.play.result c.play.ensures

pub returns-in-Ok-clause-causes : goal.returns-in-Ok-clause-causes
returns-in-Ok-clause-causes g c =
    let asked = g.C.Commands.asked (map string_bytes c.args.words.now) in
    let before = told_by g.F.Shelf g.O.Sink c.args.shelf.now c.args.out.now in
    let after = told_by g.F.Shelf g.O.Sink c.play.new.shelf c.play.new.out in
    let follows = c.in-Ok.ensures.follows in
    let runs = runs_so g.C.Stage.due asked c.in-Ok.first before follows after c.play.result c.play.ensures in
    caused asked before after c.play.result runs
