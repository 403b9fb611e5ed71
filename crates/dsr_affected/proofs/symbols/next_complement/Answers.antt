use Rattle.std.proofs.Common.{IsTrue, sym, refl, ◌∙◌}
use Rattle.dsr_affected.specs.Marking.{has_mark, is_base_marked}
use Rattle.dsr_affected.proofs.Marking.{below_next, both_are, passed_is, there_got, within}
use Rattle.dsr_ir.specs.declared.updates.Symbol.TheVariants.{Set}
use Rattle.dsr_affected.proofs.symbols.next_complement.Goals as goal

pub loop-number-preserved : goal.loop-number-preserved
loop-number-preserved c =
    below_next (λ n set. IsTrue (is_base_marked c.args.marks.now set) → IsTrue (has_mark c.args.marks.now (Set n))) c.args.spec.now.base.sets c.loop-number.number c.set-item.result
    (there_got c.items-set-items.result.now c.args.spec.now.base.sets c.loop-number.number c.set-item.result c.items-set-items.ensures c.loop-number-test.true c.set-item.is)
    c.loop-number.invariant
    (passed_is (has_mark c.args.marks.now (Set c.loop-number.number)) (is_base_marked c.args.marks.now c.set-item.result) (sym c.is_next_complement.ensures ∙ c.if-is_next_complement.false))

pub returns-then-is_next_complement : goal.returns-then-is_next_complement
returns-then-is_next_complement c =
    let both = both_are (has_mark c.args.marks.now (Set c.loop-number.number)) (is_base_marked c.args.marks.now c.set-item.result) (sym c.is_next_complement.ensures ∙ c.if-is_next_complement.true) in
    record {
      unmarked = both.0;
      set = c.loop-number.number;
      declared = c.set-item.result;
      declared_is = there_got c.items-set-items.result.now c.args.spec.now.base.sets c.loop-number.number c.set-item.result c.items-set-items.ensures c.loop-number-test.true c.set-item.is;
      symbol_is = refl;
      base = both.1;
    }

pub returns : goal.returns
returns c = λ n set there. c.loop-number.invariant n set (within c.items-set-items.result.now c.args.spec.now.base.sets c.loop-number.number n set c.items-set-items.ensures c.loop-number-test.false there) there
