use Rattle.std.proofs.Common.{◌≡◌, ◌<◌, Some, get_or, slice_get, length, take, sym, subst, arith}
use Rattle.dsr_compensate.proofs.Each.{item_at}
use Rattle.dsr_meaning.specs.Typed.{IsTypedConj}
use Rattle.dsr_graph.proofs.Growing.{row_kept}
use Rattle.dsr_graph.proofs.Paired.{paired_all, paired_push, paired_weaker}
use Rattle.dsr_graph.specs.Kinds.{IsRowOf}
use Rattle.dsr_graph.proofs.kinds.kinds_of.Goals as goal

pub loop-number-preserved : goal.loop-number-preserved
loop-number-preserved c = (
  c.in_ok-kinds.ensures.firsts,
  paired_push (λ n conj row. IsRowOf c.conj_kinds.new.firsts.items conj.literals row.items) c.items-conj-items.result.now c.args.constraint.now.conjs c.items-conj-items.ensures c.loop-number.number c.loop-number-test.true c.conj-item.result c.conj-item.is
      c.loop-number.numbers.items c.push.new.self.items c.in_ok-kinds.kinds c.in_ok-push.ensures.items c.in_ok-kinds.ensures.kinds
      (paired_weaker (λ n conj row. IsRowOf c.loop-number.firsts.items conj.literals row.items) (λ n conj row. IsRowOf c.conj_kinds.new.firsts.items conj.literals row.items) (take c.loop-number.number c.args.constraint.now.conjs) c.loop-number.numbers.items
      (λ n conj row. row_kept c.loop-number.firsts.items c.conj_kinds.new.firsts.items conj.literals row.items c.in_ok-kinds.ensures.kept) c.loop-number.invariant.1),
)

pub returns : goal.returns
returns c =
    record {
      firsts = c.loop-number.invariant.0;
      numbered = paired_all (λ n conj row. IsRowOf c.loop-number.firsts.items conj.literals row.items) c.items-conj-items.result.now c.args.constraint.now.conjs c.items-conj-items.ensures c.loop-number.numbers.items c.loop-number.number c.loop-number-test.false c.loop-number.invariant.1;
    }

pub conj_kinds-requires : goal.conj_kinds-requires
conj_kinds-requires c =
    let constraint = c.args.constraint.now in
    let n = c.loop-number.number in
    let its = c.conj-item.result in
    let less = subst (λ xs. n < length xs) c.items-conj-items.ensures c.loop-number-test.true in
    let is = subst (λ xs. its ≡ get_or xs n its) c.items-conj-items.ensures c.conj-item.is in
    let few = c.requires.typed.few_conjs in
    record {
      typed = subst (IsTypedConj c.args.spec.now constraint.quant) (sym is) (c.requires.typed.conjs n its less);
      few = omega (arith, less, few);
      conj = item_at constraint.conjs n its less is;
      firsts = c.loop-number.invariant.0;
    }
