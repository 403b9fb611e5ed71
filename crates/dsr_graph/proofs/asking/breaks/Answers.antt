use Rattle.std.proofs.Common.{sym, subst}
use Rattle.dsr_graph_theory.specs.Breaks.{Breaks}
use Rattle.dsr_graph.proofs.Telling.{breaks_told}
use Rattle.dsr_graph.specs.Graphs.{owner_at}
use Rattle.dsr_graph.proofs.asking.breaks.Goals as goal

pub returns : goal.returns
returns c =
    record {
      told = c.broken_in.ensures;
      breaks = λ owner template its way here. subst (Breaks owner (owner_at owner.spec c.args.other its) template) (sym c.broken_in.ensures)
          (breaks_told c.args.graph.now c.args.at.constraint owner way.owner_in c.args.at.conj c.args.at.literal c.args.way template way.template_is c.args.other its here);
    }
