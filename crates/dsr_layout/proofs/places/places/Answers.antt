use Rattle.std.proofs.Common.{ap, sym, subst, ◌∷◌, [], ◌++◌, ◌∙◌}
use Rattle.std.proofs.lemmas.Result.{err_from_is_err_and}
use Rattle.dsr_meaning.specs.Refusals.{size_refusals}
use Rattle.dsr_layout.specs.Tables.{known, size_in}
use Rattle.dsr_layout.specs.Telling.{Tells}
use Rattle.dsr_layout.proofs.Placed.{places_first, places_next, places_refused, places_last}
use Rattle.dsr_layout.proofs.places.places.Goals as goal

pub loop-number-init : goal.loop-number-init
loop-number-init c = places_first (known c.args.fixed.now) c.args.ends.now c.args.structures.now c.new-places.result.items c.new-places.ensures.items

pub loop-number-preserved : goal.loop-number-preserved
loop-number-preserved c = places_next (known c.args.fixed.now) c.args.ends.now c.args.structures.now c.requires.ends c.loop-number.number c.index-structures-number.result c.loop-number-test.true c.index-structures-number.is c.loop-number.places.items c.in_ok-own.own.items c.loop-number.invariant c.in_ok-own.ensures.sized c.in_ok-own.ensures.placed (c.in_ok-push.ensures.items ∙ ap (λ own. c.loop-number.places.items ++ own ∷ []) c.new.ensures)

pub returns-in_err-own-clause-refused : goal.returns-in_err-own-clause-refused
returns-in_err-own-clause-refused c =
    let p = err_from_is_err_and c.from_residual.result c.from_residual.ensures.1 in
    let told = places_refused (known c.args.fixed.now) c.args.ends.now c.args.structures.now c.requires.ends c.loop-number.number c.index-structures-number.result c.loop-number-test.true c.index-structures-number.is c.loop-number.places.items c.in_err-own.field-0.0 c.loop-number.invariant c.in_err-own.ensures.refused in
    rw p.1 (subst (Tells (size_refusals (size_in c.args.ends.now) c.args.structures.now)) (sym p.2) told)

pub returns-clause-placed : goal.returns-clause-placed
returns-clause-placed c = (places_last (known c.args.fixed.now) c.args.ends.now c.args.structures.now c.loop-number.number c.loop-number.places.items c.loop-number-test.false c.loop-number.invariant).0

pub returns-clause-sized : goal.returns-clause-sized
returns-clause-sized c = (places_last (known c.args.fixed.now) c.args.ends.now c.args.structures.now c.loop-number.number c.loop-number.places.items c.loop-number-test.false c.loop-number.invariant).1
