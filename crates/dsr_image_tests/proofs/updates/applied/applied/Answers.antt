-- What the step is asked to be was found at run time.
use Rattle.std.proofs.Common.{◌∙◌, All, ap, arith, length, subst, sym}
use Rattle.dsr_step_theory.specs.Images.{IsFree}
use Rattle.dsr_step_theory.specs.Steps.{CanWrite}
use Rattle.dsr_image_tests.proofs.updates.applied.applied.Goals as goal

pub make-requires : goal.make-requires
make-requires c = record {
  can = record {
    typed = c.requires.typed;
    image = c.deref.result.now;
    layout_is = c.in-Ok.ensures.layout;
    as_long = ap length (c.new-image.ensures ∙ sym c.deref.ensures.value);
    small = let short = c.if-len-gt67108864.false in
        omega (arith, short, c.len.ensures, c.deref.ensures.len, ap length c.deref.ensures.value, ap length c.new-image.ensures);
    writes = subst (All (CanWrite c.args.spec.now c.in-Ok.layout c.args.step.now)) c.items-2.ensures c.if-not-can_write_all.ensures;
    fresh = c.if-not-can_be_fresh.ensures;
  };
  free = subst (All (IsFree c.args.spec.now)) c.items-3.ensures c.if-not-are_free.ensures;
}
