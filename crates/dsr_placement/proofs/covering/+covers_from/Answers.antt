use Rattle.std.proofs.Common.{◌<◌, length, refl, true, false, set, ◌∙◌, arith}
use Rattle.dsr_placement.proofs.Fronts.{front_back, same_front, set_length, with_both, with_value}
use Rattle.dsr_placement.proofs.covering.+covers_from.Goals as goal

pub returns-then-not-covers_from-clause-front : goal.returns-then-not-covers_from-clause-front
returns-then-not-covers_from-clause-front t c = front_back c.args.place c.args.truths.now c.covers_from.new.truths true c.covers_from.ensures.length c.covers_from.ensures.front

pub returns-clause-front : goal.returns-clause-front
returns-clause-front t c =
    front_back c.args.place c.covers_from.new.truths c.covers_from-2.new.truths false c.covers_from-2.ensures.length c.covers_from-2.ensures.front
    ∙ front_back c.args.place c.args.truths.now c.covers_from.new.truths true c.covers_from.ensures.length c.covers_from.ensures.front

pub returns-clause-covers : goal.returns-clause-covers
returns-clause-covers t c =
    let less = c.if-place-truths.false in
    let below : c.args.place < length c.args.truths.now = omega (arith, less) in (
      λ covered. with_both c.args.atoms.now c.args.constraint.now c.args.tests.now c.args.truths.now (set c.args.truths.now c.args.place true) (set c.covers_from.new.truths c.args.place false) c.args.place c.covers_from.new.truths below
          refl c.covers_from.ensures.length c.covers_from.ensures.front refl (c.covers_from.ensures.covers.0 c.if-not-covers_from.false) (c.covers_from-2.ensures.covers.0 covered),
      λ covers. c.covers_from-2.ensures.covers.1 (with_value c.args.atoms.now c.args.constraint.now c.args.tests.now c.covers_from.new.truths (set c.covers_from.new.truths c.args.place false) c.args.place false refl
          (same_front c.args.atoms.now c.args.constraint.now c.args.tests.now c.args.truths.now c.covers_from.new.truths c.args.place (c.covers_from.ensures.length ∙ set_length c.args.truths.now c.args.place true)
          (front_back c.args.place c.args.truths.now c.covers_from.new.truths true c.covers_from.ensures.length c.covers_from.ensures.front) covers)),
    )
