use Rattle.std.proofs.Common.{◌≡◌, ◌≤◌, ◌-◌, None, Some, slice_get, sym, subst, arith}
use Rattle.std.specs.Prelude.{Decides}
use Rattle.std.proofs.lemmas.Bool.{false≢true}
use Rattle.std.proofs.lemmas.Bool.Decides.{nat_tests}
use Rattle.dsr_cert.proofs.Taken.{listed_if, never_at}
use Rattle.dsr_compensate.proofs.Each.{item_at}
use Rattle.dsr_goal.proofs.Decided.{template_decides}
use Rattle.dsr_graph.proofs.Paired.{item_beyond}
use Rattle.dsr_cert.proofs.flaws.is_listed.Goals as goal

pub returns-in-Some : goal.returns-in-Some
returns-in-Some c = λ owner in_graph.
    let k = c.args.number - 1 in
    let listed = c.in-Some.listed.now in
    let found = c.in-Some.ensures.lookup in
    let placed = item_at c.ways.result.now c.way_place.result listed found.3.0 found.1 in
    let there = subst (λ xs. slice_get xs k ≡ Some listed) c.ways.ensures.ways (subst (λ j. slice_get c.ways.result.now j ≡ Some listed) c.way_place.ensures placed) in
    let test = c.if-number-eq0.false in
    let some : 1 ≤ c.args.number = grind (arith, nat_tests) in
    listed_if c.args.graph.now c.args.at.constraint owner in_graph c.args.at.conj c.args.at.literal c.args.number c.args.template.now listed there some c.eq.result
    (subst (λ b. Decides b (listed ≡ c.args.template.now)) (sym c.eq.ensures) (template_decides listed c.args.template.now))

pub returns-in-None : goal.returns-in-None
returns-in-None c = λ owner in_graph.
    let k = c.args.number - 1 in
    let none = subst (λ j. slice_get c.ways.result.now j ≡ None) c.way_place.ensures (item_beyond c.ways.result.now c.way_place.result c.in-None.ensures.lookup.3) in (
      λ e. absurd (false≢true e),
      λ its. absurd (never_at c.args.graph.now c.args.at.constraint owner in_graph c.args.at.conj c.args.at.literal c.args.number c.args.template.now (subst (λ xs. slice_get xs k ≡ None) c.ways.ensures.ways none) its),
    )
