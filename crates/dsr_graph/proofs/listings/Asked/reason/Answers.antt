use Rattle.std.proofs.Common.{[], false, sym, subst, ◌∙◌, arith}
use Rattle.std.proofs.lemmas.List.Elements.{All-same}
use Rattle.std.proofs.lemmas.Option.{slice_get-get_or}
use Rattle.dsr_graph_theory.specs.Causes.{constraint_causes}
use Rattle.dsr_compensate.proofs.Each.{item_at}
use Rattle.dsr_graph.specs.Told.{IsOfDeclared}
use Rattle.dsr_graph.proofs.Breaking.{Such, by_causes, first_declared, own_once, same_once}
use Rattle.dsr_graph.proofs.Paired.{paired_back}
use Rattle.dsr_graph.specs.Asking.{AreCausesOf}
use Rattle.dsr_graph.specs.Graphs.{owner_at}
use Rattle.dsr_compensate.specs.Owned.{owner_of}
use Rattle.dsr_update_theory.specs.Templates.{AreOnce}
use Rattle.dsr_graph.proofs.listings.Asked.reason.Goals as goal
use Rattle.dsr_meaning.proofs.Items.{item_there}

pub returns-then-breaks_nothing-clause-breaks : goal.returns-then-breaks_nothing-clause-breaks
returns-then-breaks_nothing-clause-breaks c = λ constraint here.
    let owner = owner_of c.args.self.now.owner.now in
    let other = owner_at owner.spec c.args.other constraint in
    let tells = c.requires.asked.excuses.are c.args.other constraint _ here (slice_get-get_or c.args.self.now.excuses.now c.args.other _ c.requires.below) in
    own_once owner other c.args.judged.now.template
    (sym (same_once owner c.args.other constraint c.requires.asked.sound.constraint_is here) ∙ (sym (c.breaks_nothing.ensures other tells) ∙ c.if-breaks_nothing.true))

pub first_reason-requires-clause-declared : goal.first_reason-requires-clause-declared
first_reason-requires-clause-declared c =
    let spec = c.args.self.now.owner.now.spec.now in
    let below = c.requires.below in
    let many = c.requires.asked.excuses.as_many in
    let also = c.requires.asked.causes.as_many in
    let its = paired_back (λ n constraint x. AreCausesOf spec constraint x) spec.constraints c.args.self.now.causes.now c.args.other c.index-self-other.result c.requires.asked.causes
    (item_at c.args.self.now.causes.now c.args.other c.index-self-other.result (omega (arith, below, many, also)) c.index-self-other.is) in
    All-same (IsOfDeclared spec.base) c.items.result.now c.index-self-other.result (c.items.ensures ∙ sym c.index-self-other.is) its.2.declared

pub returns-clause-breaks : goal.returns-clause-breaks
returns-clause-breaks c = λ constraint here.
    let owner = owner_of c.args.self.now.owner.now in
    let other = owner_at owner.spec c.args.other constraint in
    let below = c.requires.below in
    let many = c.requires.asked.excuses.as_many in
    let also = c.requires.asked.causes.as_many in
    let tells = c.requires.asked.excuses.are c.args.other constraint _ here (slice_get-get_or c.args.self.now.excuses.now c.args.other _ c.requires.below) in
    let causes = c.requires.asked.causes.are c.args.other constraint c.index-self-other.result here
    (item_at c.args.self.now.causes.now c.args.other c.index-self-other.result (omega (arith, below, many, also)) c.index-self-other.is) in
    by_causes owner other c.args.judged.now.template c.items.result.now c.first_reason.result
    (sym (same_once owner c.args.other constraint c.requires.asked.sound.constraint_is here) ∙ (sym (c.breaks_nothing.ensures other tells) ∙ c.if-breaks_nothing.false))
    (subst (AreOnce [] (constraint_causes false constraint)) (sym (c.items.ensures ∙ sym c.index-self-other.is)) causes.once)
    (c.first_reason.ensures other tells)

pub returns-clause-declared : goal.returns-clause-declared
returns-clause-declared c =
    let owner = owner_of c.args.self.now.owner.now in
    let below = c.requires.below in
    let many = c.requires.asked.excuses.as_many in
    let also = c.requires.asked.causes.as_many in
    let found = item_there owner.spec.constraints c.args.other (omega (arith, below, many)) in
    let other = owner_at owner.spec c.args.other found.0 in
    let tells = c.requires.asked.excuses.are c.args.other found.0 _ found.1 (slice_get-get_or c.args.self.now.excuses.now c.args.other _ c.requires.below) in
    let causes = c.requires.asked.causes.are c.args.other found.0 c.index-self-other.result found.1
    (item_at c.args.self.now.causes.now c.args.other c.index-self-other.result (omega (arith, below, many, also)) c.index-self-other.is) in
    first_declared (Such owner other c.args.judged.now.template) owner.spec.base c.items.result.now c.first_reason.result (c.first_reason.ensures other tells)
    (All-same (IsOfDeclared owner.spec.base) c.items.result.now c.index-self-other.result (c.items.ensures ∙ sym c.index-self-other.is) causes.declared)
