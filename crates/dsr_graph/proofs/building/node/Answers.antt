use Rattle.std.proofs.Common.{All, subst, sym, ◌∙◌, arith}
use Rattle.std.proofs.lemmas.Grind.{elements}
use Rattle.dsr_graph.specs.Graphs.{AreListingsOf}
use Rattle.dsr_graph.specs.Kinds.{AreKindsOf, IsFirstIn}
use Rattle.dsr_compensate.specs.Owned.{owner_of}
use Rattle.dsr_graph.proofs.building.node.Goals as goal

pub kind_listings-requires : goal.kind_listings-requires
kind_listings-requires c =
    let owner = owner_of c.args.owner.now in
    let kinds = subst (λ its. AreKindsOf its c.in_ok-kinds.kinds) c.constraint.ensures c.in_ok-kinds.ensures in
    record {
      sound = c.requires.sound;
      facts = c.requires.facts;
      owners = c.requires.owners;
      causes = c.requires.causes;
      firsts = subst (All (IsFirstIn owner.constraint)) (sym c.deref.ensures.value) kinds.firsts;
    }

pub returns : goal.returns
returns c =
    let owner = owner_of c.args.owner.now in
    record {
      kinds = subst (λ its. AreKindsOf its c.in_ok-kinds.kinds) c.constraint.ensures c.in_ok-kinds.ensures;
      listings = subst (λ firsts. AreListingsOf owner firsts c.in_ok-listings.listings.items) c.deref.ensures.value c.in_ok-listings.ensures;
      from_is = c.new-from.ensures ∙ c.in_ok-from_slice.ensures.items ∙ c.items.ensures ∙ c.requires.from;
    }

pub kinds_of-requires : goal.kinds_of-requires
kinds_of-requires c = grind (arith, elements)
