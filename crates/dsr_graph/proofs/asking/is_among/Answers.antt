use Rattle.std.proofs.Common.{eqb, refl}
use Rattle.std.proofs.lemmas.Bool.Decides.{Decides-eqb}
use Rattle.dsr_graph.proofs.Deciding.{found_if}
use Rattle.dsr_goal.proofs.Once.{tells_new}
use Rattle.dsr_graph.proofs.asking.is_among.Goals as goal

pub returns : goal.returns
returns c =
    found_if c.args.numbers.now c.args.numbers.now c.args.number c.contains.result
    (tells_new eqb Decides-eqb c.args.numbers.now c.args.number c.contains.result c.contains.ensures.value) refl
