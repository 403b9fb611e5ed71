use Rattle.std.proofs.Common.{◌≡◌, sym, ap, subst, ◌∙◌}
use Rattle.dsr_compensate.specs.Taking.{templates_of}
use Rattle.dsr_graph.proofs.Growing.{alike_turned}
use Rattle.dsr_graph.proofs.Unique.{listed_alike}
use Rattle.dsr_graph.specs.Graphs.{AreOutcomesOf}
use Rattle.dsr_plan_laws.proofs.Unique.{listed_one}
use Rattle.dsr_graph_theory.specs.Lists.{AreListedOf}
use Rattle.dsr_compensate.specs.Owned.{owner_of}
use Rattle.dsr_graph.proofs.listings.Asked.listing.Goals as goal

pub returns : goal.returns
returns c =
    let owner = owner_of c.args.self.now.owner.now in
    let first = c.args.first.now in
    let found = c.in_ok-templates.templates.items in
    let are : found ≡ templates_of c.in_ok-judged.judged.items = c.in_ok-templates.ensures ∙ ap templates_of c.deref-2.ensures.value in
    let here : AreListedOf owner first.conj first.place found = subst (AreListedOf owner first.conj first.place) (sym are) c.in_ok-judged.ensures.listed in
    record {
      listed = λ conj place its is alike. listed_alike owner first.conj first.place first.literal conj place its found c.requires.first is alike here;
      only = λ conj place its others is alike theirs. listed_one owner first.conj first.place others found
          (listed_alike owner conj place its first.conj first.place first.literal others is c.requires.first (alike_turned first.literal its alike) theirs) here;
      outcomes = subst (λ ts. AreOutcomesOf owner c.args.self.now.firsts.now ts c.in_ok-outcomes.outcomes.items) (ap templates_of c.deref.ensures.value ∙ sym are) c.in_ok-outcomes.ensures;
    }
