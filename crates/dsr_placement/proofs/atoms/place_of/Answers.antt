use Rattle.std.proofs.Common.{sym, ◌∙◌}
use Rattle.dsr_placement.proofs.Places.{left_end, left_here, left_next}
use Rattle.dsr_placement.proofs.atoms.place_of.Goals as goal

pub returns-then-eq : goal.returns-then-eq
returns-then-eq c = left_here c.args.atom.now c.args.atoms.now c.loop-place.place _ c.loop-place-test.true (sym c.eq.ensures ∙ c.if-eq.true) c.loop-place.invariant

pub loop-place-preserved : goal.loop-place-preserved
loop-place-preserved c = left_next c.args.atom.now c.args.atoms.now c.loop-place.place _ c.loop-place-test.true (sym c.eq.ensures ∙ c.if-eq.false) c.loop-place.invariant

pub returns : goal.returns
returns c = left_end c.args.atom.now c.args.atoms.now c.loop-place.place c.loop-place-test.false c.loop-place.auto.place-end c.loop-place.invariant
