use Rattle.std.proofs.Common.{slice_get, ap, ◌∙◌}
use Rattle.std.proofs.lemmas.Option.{slice_get-get_or}
use Rattle.dsr_placement.proofs.Each.{each_ends, each_more}
use Rattle.dsr_meaning.specs.Counting.{IsIn}
use Rattle.dsr_placement.proofs.atoms.add_conj.Goals as goal

pub loop-literal-preserved : goal.loop-literal-preserved
loop-literal-preserved c = (
  λ a is_in. c.in_ok-add_atom.ensures.keeps a (c.loop-literal.invariant.0 a is_in),
  each_more (λ n literal. IsIn literal.atom c.add_atom.new.atoms.items) c.items-literal-items.result.now c.loop-literal.literal-index _ (slice_get-get_or c.items-literal-items.result.now c.loop-literal.literal-index _ c.loop-literal-test.true) c.in_ok-add_atom.ensures.there
      (λ m x below there. c.in_ok-add_atom.ensures.keeps x.atom (c.loop-literal.invariant.1 m x below there)),
)

pub returns : goal.returns
returns c =
    record {
      keeps = c.loop-literal.invariant.0;
      there = λ n l here. each_ends (λ n literal. IsIn literal.atom c.loop-literal.atoms.items) c.items-literal-items.result.now c.loop-literal.literal-index c.loop-literal-test.false c.loop-literal.invariant.1 n l (ap (λ xs. slice_get xs n) c.items-literal-items.ensures ∙ here);
    }
