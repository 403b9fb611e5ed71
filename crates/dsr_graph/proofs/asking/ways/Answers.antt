use Rattle.std.proofs.Common.{sym, ap, subst, ◌∙◌}
use Rattle.dsr_graph.proofs.Found.{ways_listed, ways_only}
use Rattle.dsr_graph.specs.Graphs.{templates_of}
use Rattle.dsr_graph_theory.specs.Lists.{AreListedOf}
use Rattle.dsr_graph.proofs.asking.ways.Goals as goal

pub returns : goal.returns
returns c =
    let told = c.templates.ensures ∙ ap templates_of c.listing_in.ensures in
    record {
      ways = told;
      listed = λ owner in_graph. subst (AreListedOf owner c.args.at.conj c.args.at.literal) (sym told) (ways_listed c.args.graph.now c.args.at.constraint owner in_graph c.args.at.conj c.args.at.literal);
      only = λ owner ts in_graph listed. ways_only c.args.graph.now c.args.at.constraint owner in_graph c.args.at.conj c.args.at.literal ts listed ∙ sym told;
    }
