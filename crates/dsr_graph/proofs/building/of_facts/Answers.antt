use Rattle.std.proofs.Common.{sym, subst}
use Rattle.dsr_graph.specs.Asking.{AllCauses, AllOwners}
use Rattle.dsr_graph.proofs.building.of_facts.Goals as goal

pub of_owners-requires : goal.of_owners-requires
of_owners-requires c =
    record {
      facts = c.requires.facts;
      owners = subst (AllOwners c.args.spec.now) (sym c.deref.ensures.value) c.in_ok-owners.ensures;
      causes = subst (AllCauses c.args.spec.now) (sym c.deref-2.ensures.value) c.in_ok-causes.ensures;
    }

pub returns : goal.returns
returns c = c.of_owners.ensures
