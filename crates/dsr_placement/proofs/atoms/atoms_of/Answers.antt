use Rattle.std.proofs.Common.{◌≡◌, Some, length, slice_get, sym, ap, subst, ◌∙◌, arith}
use Rattle.std.proofs.lemmas.Option.{slice_get-get_or}
use Rattle.dsr_placement.proofs.Each.{each_ends, each_more}
use Rattle.dsr_placement.specs.Atoms.{HasAtoms}
use Rattle.dsr_placement.proofs.atoms.atoms_of.Goals as goal

pub loop-conj-preserved : goal.loop-conj-preserved
loop-conj-preserved c =
    each_more (λ n conj. HasAtoms c.add_conj.new.atoms.items conj) c.args.constraint.now.conjs c.loop-conj.conj-index c.conj-item.result
    (subst (λ xs. slice_get xs c.loop-conj.conj-index ≡ Some c.conj-item.result) c.items-conj-items.ensures (slice_get-get_or c.items-conj-items.result.now c.loop-conj.conj-index c.conj-item.result c.loop-conj-test.true ∙ ap Some (sym c.conj-item.is)))
    c.in_ok-add_conj.ensures.there
    (λ m x below there n l is. c.in_ok-add_conj.ensures.keeps l.atom (c.loop-conj.invariant m x below there n l is))

pub returns : goal.returns
returns c =
    let past = c.loop-conj-test.false in
    let many = ap length c.items-conj-items.ensures in
    each_ends (λ n conj. HasAtoms c.loop-conj.atoms.items conj) c.args.constraint.now.conjs c.loop-conj.conj-index (omega (arith, past, many)) c.loop-conj.invariant
