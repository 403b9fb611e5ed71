use Rattle.std.proofs.Common.{slice_get, take, sym, ap, ◌∙◌}
use Rattle.std.specs.Prelude.{option_and_then}
use Rattle.std.proofs.lemmas.Option.{slice_get-get_or}
use Rattle.dsr_graph.proofs.Growing.{grown_all, grown_kept, kept_then, numbered_kept}
use Rattle.dsr_graph.proofs.Paired.{paired_all, paired_step}
use Rattle.dsr_graph.specs.Kinds.{HasKind, IsFirstIn}
use Rattle.dsr_graph.proofs.kinds.conj_kinds.Goals as goal

pub loop-place-preserved : goal.loop-place-preserved
loop-place-preserved c =
    let place = c.loop-place.place in
    let old = c.loop-place.firsts.items in
    let new = c.kind_of.new.firsts.items in
    let kept = grown_kept old new _ c.in_ok-kind.ensures.grows in (
      grown_all (IsFirstIn c.args.constraint.now) old new _ c.in_ok-kind.ensures.grows
          (ap (option_and_then (λ x. slice_get x.literals place)) c.requires.conj ∙ (sym (ap (λ xs. slice_get xs place) c.items-literal-items.ensures) ∙ slice_get-get_or c.items-literal-items.result.now place _ c.loop-place-test.true))
          c.loop-place.invariant.0,
      kept_then c.args.firsts.now.items old new c.loop-place.invariant.1 kept,
      paired_step (λ n literal kind. HasKind new kind literal) c.args.conj.now.literals c.loop-place.kinds.items c.push.new.self.items place _ c.in_ok-kind.kind
          (sym (ap (λ xs. slice_get xs place) c.items-literal-items.ensures) ∙ slice_get-get_or c.items-literal-items.result.now place _ c.loop-place-test.true)
          c.in_ok-push.ensures.items c.in_ok-kind.ensures.kind
          (numbered_kept old new (take place c.args.conj.now.literals) c.loop-place.kinds.items kept c.loop-place.invariant.2),
    )

pub returns : goal.returns
returns c =
    record {
      firsts = c.loop-place.invariant.0;
      kept = c.loop-place.invariant.1;
      kinds = record {
        few = c.requires.typed.few_literals;
        numbered = paired_all (λ n literal kind. HasKind c.loop-place.firsts.items kind literal) c.items-literal-items.result.now c.args.conj.now.literals c.items-literal-items.ensures c.loop-place.kinds.items c.loop-place.place c.loop-place-test.false c.loop-place.invariant.2;
      };
    }
