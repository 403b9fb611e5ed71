use Rattle.std.proofs.Common.{sym, subst}
use Rattle.dsr_graph.specs.Asking.{AllExcuses, AreOwnCauses}
use Rattle.dsr_compensate.specs.Owned.{owner_of}
use Rattle.dsr_graph.proofs.building.kind_listings.Goals as goal

pub listings-requires : goal.listings-requires
listings-requires c =
    let owner = owner_of c.args.owner.now in
    record {
      asked = record {
        sound = c.requires.sound;
        own = subst (AreOwnCauses owner.spec.base c.args.firsts.now) (sym c.deref.ensures.value) c.in_ok-own.ensures;
        excuses = subst (AllExcuses owner) (sym c.deref-2.ensures.value) c.in_ok-excuses.ensures;
        causes = c.requires.causes;
      };
      firsts = c.requires.firsts;
    }

pub returns : goal.returns
returns c = c.listings.ensures
