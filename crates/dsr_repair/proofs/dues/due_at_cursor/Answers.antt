-- A cursor on an image is one on its model.
use Rattle.dsr_repair.proofs.Same.{cursor_same}
use Rattle.dsr_meaning.specs.Models.{IsFact}
use Rattle.dsr_model.specs.Facts.{IsInModel}
use Rattle.dsr_fixpoint.proofs.Bridged.{same_facts}
use Rattle.dsr_fixpoint.proofs.SameFacts.{turned}
use Rattle.dsr_repair.proofs.dues.due_at_cursor.Goals as goal

pub next_from-next-requires-clause-cursor : goal.next_from-next-requires-clause-cursor
next_from-next-requires-clause-cursor g c =
    let seen = IsInModel c.args.model.now in
    let is_fact = IsFact c.args.spec.now c.args.layout.now (g.I.ImageBytes.bytes c.args.image.now) in
    cursor_same is_fact seen
    (turned seen is_fact (same_facts c.args.spec.now c.args.layout.now (g.I.ImageBytes.bytes c.args.image.now) c.args.model.now c.requires.model c.requires.prepared))
    c.args.spec.now c.args.choice.now c.args.cursor.now c.requires.cursor
