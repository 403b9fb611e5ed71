use Rattle.std.proofs.Common.{false, map, ap, ◌∙◌}
use Rattle.dsr_language_theory.specs.NormalForms.{conj_of, distributed, one_holds}
use Rattle.dsr_normal.proofs.Conjunctions.{restored}
use Rattle.dsr_normal.proofs.Saying.{says}
use Rattle.dsr_normal.proofs.normalizing.normal.Goals as goal

pub returns-clause-listed : goal.returns-clause-listed
returns-clause-listed c =
    restored c.in_ok-conjs.conjs.items
    ∙ ap (map conj_of) (c.in_ok-conjs.ensures ∙ ap (distributed false false) c.node-node.ensures)

pub returns-clause-same_truth : goal.returns-clause-same_truth
returns-clause-same_truth c = λ truth.
    ap (one_holds truth) (restored c.in_ok-conjs.conjs.items
    ∙ ap (map conj_of) (c.in_ok-conjs.ensures ∙ ap (distributed false false) c.node-node.ensures))
    ∙ says truth false false c.args.formula.now
