use Rattle.std.proofs.Common.{◌≡◌, ◌<◌, Option, None, Some, IsSomeAnd, refl}
use Rattle.dsr_ir.specs.declared.tuples.Element.{Element}
use Rattle.dsr_model.proofs.Elements.{is_place}
use Rattle.dsr_model.specs.declared.sets.SetMarks.{SetMarks}
use Rattle.dsr_image_tests.proofs.calls.is_member.Goals as goal

below : (e : Element) (o : Option SetMarks) → IsSomeAnd o (λ s. (s.pool ≡ e.pool) × (e.slot < s.count))
    → IsSomeAnd o (λ s. e.slot < s.count)
below e None place = absurd place
below e (Some s) place = place.1

pub has-requires : goal.has-requires
has-requires c =
    let is = c.if-has_element.ensures.is.0 refl in
    record {
      slot =
          below c.args.elem _
          (is_place c.args.members.now.sets c.args.set c.args.elem c.has_element.ensures.bases is);
    }
