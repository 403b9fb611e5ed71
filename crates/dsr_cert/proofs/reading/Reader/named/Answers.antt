use Rattle.std.proofs.Common.{◌≡◌, ◌≤◌, ◌-◌, None, Some, slice_get, refl, subst, arith}
use Rattle.std.proofs.lemmas.Bool.Decides.{nat_tests}
use Rattle.dsr_cert.proofs.Naming.{none_below, none_other}
use Rattle.dsr_cert.proofs.Taken.{listed_there, never_at}
use Rattle.dsr_compensate.proofs.Each.{item_at}
use Rattle.dsr_graph.proofs.Paired.{item_beyond}
use Rattle.dsr_graph.specs.Graphs.{owner_at}
use Rattle.dsr_cert.proofs.reading.Reader.named.Goals as goal

pub returns-in_default-clause-listed : goal.returns-in_default-clause-listed
returns-in_default-clause-listed c = λ constraint is.
    none_below c.args.self.now.graph.now c.args.at.constraint (owner_at c.args.self.now.spec.now c.args.at.constraint constraint) (record { graph_is = c.requires.graph; number_is = refl; constraint_is = is }) c.args.at.conj c.args.at.literal c.args.digits.now c.in_default.ensures

pub returns-then-number-eq0-clause-listed : goal.returns-then-number-eq0-clause-listed
returns-then-number-eq0-clause-listed c = λ constraint is.
    let test = c.if-number-eq0.true in
    let none : c.in-Some.number ≡ 0 = grind (arith, nat_tests) in
    none_other c.args.self.now.graph.now c.args.at.constraint (owner_at c.args.self.now.spec.now c.args.at.constraint constraint) (record { graph_is = c.requires.graph; number_is = refl; constraint_is = is }) c.args.at.conj c.args.at.literal c.args.digits.now c.in-Some.number c.in-Some.ensures.0 c.in-Some.ensures.1
    (λ template its. let one = its.from_one in absurd (omega (arith, one, none)))

pub returns-in-Some-get-clause-listed : goal.returns-in-Some-get-clause-listed
returns-in-Some-get-clause-listed c = λ constraint is.
    let test = c.if-number-eq0.false in
    let some : 1 ≤ c.in-Some.number = grind (arith, nat_tests) in
    let k = c.in-Some.number - 1 in
    let template = c.in-Some-get.template.now in
    let found = c.in-Some-get.ensures.lookup in
    let placed = item_at c.ways.result.now c.way_place.result template found.3.0 found.1 in
    listed_there c.args.self.now.graph.now c.args.at.constraint (owner_at c.args.self.now.spec.now c.args.at.constraint constraint) (record { graph_is = c.requires.graph; number_is = refl; constraint_is = is }) c.args.at.conj c.args.at.literal c.in-Some.number template
    (subst (λ xs. slice_get xs k ≡ Some template) c.ways.ensures.ways (subst (λ j. slice_get c.ways.result.now j ≡ Some template) c.way_place.ensures placed)) some

pub returns-in-None-clause-listed : goal.returns-in-None-clause-listed
returns-in-None-clause-listed c = λ constraint is.
    let k = c.in-Some.number - 1 in
    let graph = c.args.self.now.graph.now in
    let owner = owner_at c.args.self.now.spec.now c.args.at.constraint constraint in
    let beyond = item_beyond c.ways.result.now c.way_place.result c.in-None.ensures.lookup.3 in
    let none = subst (λ xs. slice_get xs k ≡ None) c.ways.ensures.ways (subst (λ j. slice_get c.ways.result.now j ≡ None) c.way_place.ensures beyond) in
    none_other graph c.args.at.constraint owner (record { graph_is = c.requires.graph; number_is = refl; constraint_is = is }) c.args.at.conj c.args.at.literal c.args.digits.now c.in-Some.number c.in-Some.ensures.0 c.in-Some.ensures.1
    (λ template its. never_at graph c.args.at.constraint owner (record { graph_is = c.requires.graph; number_is = refl; constraint_is = is }) c.args.at.conj c.args.at.literal c.in-Some.number template none its)
