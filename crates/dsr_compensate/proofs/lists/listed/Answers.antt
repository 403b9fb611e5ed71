use Rattle.std.proofs.Common.{◌≡◌, ◌++◌, [], List, MatchOption, Some, map, sym, ap, subst, ◌∙◌, arith}
use Rattle.std.proofs.lemmas.Grind.{elements}
use Rattle.std.specs.List.{flat_map}
use Rattle.dsr_compensate.proofs.Whole.{none_taken, taken_whole}
use Rattle.dsr_compensate.specs.Taking.{AreTakenOf, ones_of, pairs_of, templates_of, twos_of}
use Rattle.dsr_graph_theory.specs.Lists.{AreCompensable, AreListed}
use Rattle.dsr_compensate.specs.Owned.{owner_of}
use Rattle.dsr_update_theory.specs.Templates.{literal_at}
use Rattle.dsr_compensate.proofs.lists.listed.Goals as goal

pub returns-clause-listed : goal.returns-clause-listed
returns-clause-listed c =
    let owner = owner_of c.args.owner.now in
    let found = templates_of c.take_all.new.listed.items in
    let there : literal_at owner.constraint c.args.conj c.args.literal ≡ Some c.in-Some.its =
    ap (λ x. literal_at x c.args.conj c.args.literal) (sym c.constraint.ensures) ∙ (sym c.literal_at.ensures ∙ c.in-Some.is) in
    let tried = c.in_ok-tried-2.tried.items in
    let taken = c.in_ok-take_all.ensures.taken [] (none_taken owner c.in-Some.its.atom (templates_of c.new-found.result.items) (ap templates_of c.new-found.ensures.items)) in
    subst (λ o. MatchOption o (found ≡ []) (λ l. AreListed owner c.args.conj c.args.literal l.atom found)) (sym there)
    (record {
      tried = c.in_ok-tried.tried.items;
      are_tried = c.in_ok-tried.ensures;
      compensable = pairs_of tried;
      are_compensable = subst (λ ts. AreCompensable owner ts (pairs_of tried)) c.deref.ensures.value c.in_ok-tried-2.ensures;
      are_taken = taken_whole owner c.in-Some.its.atom tried found
          (subst (λ cs. AreTakenOf owner c.in-Some.its.atom ((([] ++ map (λ x. x.template) cs) ++ flat_map ones_of cs) ++ flat_map twos_of cs) found) c.deref-2.ensures.value taken);
    })

pub take_all-requires-clause-atom : goal.take_all-requires-clause-atom
take_all-requires-clause-atom c = grind (arith, elements)
