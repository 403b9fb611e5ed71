use Rattle.std.proofs.Common.{refl, subst}
use Rattle.dsr_cli.proofs.Stages.{picked_if_ok}
use Rattle.dsr_cli.specs.Stages.{comes_to, due}
use Rattle.dsr_command_theory.specs.Commands.{goes_on}
use Rattle.dsr_compile.specs.Readings.{IsInterpretation, IsReadingOf, Means, Refused}
use Rattle.dsr_script.specs.Moves.{shown}
use Rattle.dsr_tree.specs.Trees.{tree_shape}
use Rattle.dsr_cli.proofs.waiting.read_spec.Goals as goal

pub returns-in-Means-clause-follows : goal.returns-in-Means-clause-follows
returns-in-Means-clause-follows c =
    let means = subst (IsReadingOf c.args.text.now) c.in-Means.is c.in_ok-tree.ensures in
    picked_if_ok due (IsInterpretation c.args.text.now) (goes_on (comes_to c.args.task)) (Means (tree_shape c.in-Means.tree)) means.0
    c.go_on_with.result c.go_on_with.ensures.follows

pub returns-in-Refused-clause-follows : goal.returns-in-Refused-clause-follows
returns-in-Refused-clause-follows c =
    let refused = subst (IsReadingOf c.args.text.now) c.in-Refused.is c.in_ok-tree.ensures in
    (Refused (shown c.in-Refused.told), refused, (shown c.in-Refused.told, refl, refl))
