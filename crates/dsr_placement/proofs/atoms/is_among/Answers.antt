use Rattle.dsr_placement.proofs.Places.{among_if}
use Rattle.dsr_placement.proofs.atoms.is_among.Goals as goal

pub returns : goal.returns
returns c = among_if c.args.atom.now c.args.atoms.now c.place_of.result c.place_of.ensures
