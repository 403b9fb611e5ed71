use Rattle.std.proofs.Common.{sym, subst}
use Rattle.dsr_graph.specs.Asking.{AllFacts}
use Rattle.dsr_graph.proofs.building.graph.Goals as goal

pub of_facts-requires : goal.of_facts-requires
of_facts-requires c =
    record {
      typed = c.requires.typed;
      facts = subst (AllFacts c.args.spec.now) (sym c.deref.ensures.value) c.in_ok-facts.ensures;
    }

pub returns : goal.returns
returns c = c.of_facts.ensures
