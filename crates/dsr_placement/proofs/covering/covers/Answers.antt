use Rattle.std.proofs.Common.{◌≡◌, length, refl, sym, ap, subst, ◌∙◌, arith}
use Rattle.dsr_placement.proofs.Passing.{covers_all}
use Rattle.dsr_placement.specs.Atoms.{HasAtomsOf, truth_by}
use Rattle.dsr_placement.proofs.covering.covers.Goals as goal

pub returns : goal.returns
returns c =
    let many : length c.deref.result.now ≡ length c.deref_mut.result.now = omega (arith, ap length c.deref.ensures.value, ap length c.deref_mut.ensures.value, c.len.ensures, c.in_ok-truths.ensures.len, c.in_ok-truths.truths.small) in (
      λ covered. covers_all c.deref.result.now c.args.constraint.now c.args.tests.now (subst (λ xs. HasAtomsOf xs c.args.constraint.now) (sym c.deref.ensures.value) c.in_ok-atoms.ensures) (λ all long. c.covers_from.ensures.covers.0 covered all (long ∙ many) refl),
      λ covers. c.covers_from.ensures.covers.1 (λ all long front. covers (truth_by c.deref.result.now all)),
    )
