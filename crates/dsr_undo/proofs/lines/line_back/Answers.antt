use Rattle.std.proofs.Common.{arith}
use Rattle.std.proofs.lemmas.Option.{slice_get_within}
use Rattle.dsr_undo_laws.specs.TakingBack.IsLineRefused.{byte, fixed}
use Rattle.dsr_undo.proofs.lines.line_back.Goals as goal

pub returns-then-not-is_there-clause-refused : goal.returns-then-not-is_there-clause-refused
returns-then-not-is_there-clause-refused g c = byte c.if-not-is_there.ensures

pub changes_fixed-requires : goal.changes_fixed-requires
changes_fixed-requires g c =
    let within = slice_get_within (g.I.ImageBytes.bytes c.args.image.now) c.args.line.now.place c.args.line.now.new c.if-not-is_there.ensures in
    omega (arith, within, c.requires.small)

pub returns-then-changes_fixed-clause-refused : goal.returns-then-changes_fixed-clause-refused
returns-then-changes_fixed-clause-refused g c = fixed c.if-not-is_there.ensures c.if-changes_fixed.ensures

pub put_byte-requires-clause-within : goal.put_byte-requires-clause-within
put_byte-requires-clause-within g c = slice_get_within (g.I.ImageBytes.bytes c.args.image.now) c.args.line.now.place c.args.line.now.new c.if-not-is_there.ensures

pub returns-clause-back : goal.returns-clause-back
returns-clause-back g c = record { there = c.if-not-is_there.ensures; unfixed = c.if-changes_fixed.ensures; put = c.put_byte.ensures.bytes }
