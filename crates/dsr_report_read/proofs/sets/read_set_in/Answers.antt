use Rattle.std.proofs.Common.{◌<◌, ◌≤◌, ◌≡◌, ◌∙◌, length, get_or, drop, sym, subst, arith}
use Rattle.dsr_answers.specs.Texts.{pool_name}
use Rattle.dsr_report_read.proofs.Ahead.{refused}
use Rattle.dsr_report_read.proofs.FirstNamed.{as_set_in, found_first}
use Rattle.dsr_report_read.proofs.Sole.{begins_as, set_begins, structure_less}
use Rattle.dsr_report.specs.Reports.{set_line}
use Rattle.dsr_report_read.proofs.Sought.{none_next}
use Rattle.dsr_report_read.proofs.Views.{there_got}
use Rattle.dsr_report_read.specs.Forms.{IsOfPool}
use Rattle.dsr_report_read.specs.Reads.{IsSetIn}
use Rattle.dsr_report_read.proofs.sets.read_set_in.Goals as goal

pub returns-then-not-is_ahead : goal.returns-then-not-is_ahead
returns-then-not-is_ahead c = λ x such is.
    refused c.if-not-is_ahead.ensures
    (begins_as (drop 6 c.args.text.now) c.skip.result.now (pool_name c.args.spec.now c.args.pool) c.pool_name.result.now c.skip.ensures c.pool_name.ensures
    (set_begins c.args.spec.now c.args.pool c.args.text.now x (as_set_in c.args.spec.now c.args.pool x such) is))

pub read_set_under-requires-clause-declared : goal.read_set_under-requires-clause-declared
read_set_under-requires-clause-declared c =
    let same = c.items-structure-items.ensures in
    let i = c.loop-place.place in
    let structure = c.structure-item.result in
    there_got c.args.spec.now.base.structures i structure (subst (λ xs. i < length xs) same c.loop-place-test.true) (subst (λ xs. structure ≡ get_or xs i structure) same c.structure-item.is)

pub read_set_under-requires-clause-few : goal.read_set_under-requires-clause-few
read_set_under-requires-clause-few c =
    let same = c.items-structure-items.ensures in
    let i = c.loop-place.place in
    let structure = c.structure-item.result in
    let there = there_got c.args.spec.now.base.structures i structure (subst (λ xs. i < length xs) same c.loop-place-test.true) (subst (λ xs. structure ≡ get_or xs i structure) same c.structure-item.is) in
    let few = (c.requires.typed.structures i structure there).few_fields in
    omega (arith, few)

pub loop-place-preserved-then-not-is_of_pool : goal.loop-place-preserved-then-not-is_of_pool
loop-place-preserved-then-not-is_of_pool c =
    let base = c.args.spec.now.base in
    none_next (IsSetIn c.args.spec.now c.args.pool) (λ set. set.path.field.structure) (set_line c.args.spec.now) c.args.text.now c.loop-place.place c.loop-place.invariant
    (λ x such same is. refused c.if-not-is_of_pool.ensures
    (subst (IsOfPool base c.args.pool) same (subst (λ p. IsOfPool base p x.path.field.structure) such.pool_is such.is_set.is_field.of_pool)))

pub returns-then-is_some : goal.returns-then-is_some
returns-then-is_some c =
    found_first c.args.spec.now c.args.pool c.loop-place.place c.args.text.now c.loop-place.invariant c.in_ok-found.found c.in_ok-found.ensures (sym c.is_some.ensures ∙ c.if-is_some.true)

pub returns : goal.returns
returns c = λ x such is.
    let its = as_set_in c.args.spec.now c.args.pool x such in
    let low = structure_less c.args.spec.now c.args.pool x its in
    let past = subst (λ xs. length xs ≤ c.loop-place.place) c.items-structure-items.ensures c.loop-place-test.false in
    c.loop-place.invariant x its (omega (arith, low, past)) is
