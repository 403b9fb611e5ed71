-- The slot, and then the cells that are written.
use Rattle.std.proofs.Common.{◌≡◌, ◌+◌, ◌++◌, ◌∙◌, ap, drop, sym, subst}
use Rattle.std.proofs.lemmas.List.Elements.{All-push}
use Rattle.std.specs.List.{filter_map}
use Rattle.std.specs.Prelude.{option_to_list}
use Rattle.dsr_repair.proofs.StepSpans.{fresh_within, spans_end, spans_next}
use Rattle.dsr_repair.specs.Spans.{AreWithin, IsWithin, step_spans, write_span}
use Rattle.dsr_repair.proofs.touched.touched.Goals as goal

pub loop-write-init : goal.loop-write-init
loop-write-init c =
    let layout = c.args.layout.now in
    let step = c.args.step.now in
    let first : c.push_span.new.spans.items ≡ option_to_list c.fresh_span.result =
    c.in_ok-push_span.ensures ∙ ap (λ xs. xs ++ option_to_list c.fresh_span.result) c.clear.ensures.items in
    record {
      spans = ap (λ xs. xs ++ filter_map (write_span layout step) c.args.writes.now) (first ∙ ap option_to_list c.fresh_span.ensures.span);
      within = subst (λ xs. AreWithin xs layout.length) (sym first) (fresh_within layout.length c.fresh_span.result c.fresh_span.ensures.within);
    }

pub loop-write-preserved : goal.loop-write-preserved
loop-write-preserved c =
    let layout = c.args.layout.now in
    let step = c.args.step.now in
    let writes = c.args.writes.now in
    let spans = c.loop-write.spans.items in
    let span = c.write_span.result in
    let i = c.loop-write.write-index in
    record {
      spans = subst (λ xs. xs ++ filter_map (write_span layout step) (drop (i + 1) writes) ≡ step_spans layout step writes) (sym c.in_ok-push.ensures.items)
          (spans_next layout step writes i _ spans (step_spans layout step writes) span c.loop-write-test.true c.write_span.ensures c.loop-write.invariant.spans);
      within = subst (λ xs. AreWithin xs layout.length) (sym c.in_ok-push.ensures.items)
          (All-push (IsWithin layout.length) spans span c.loop-write.invariant.within c.write_span.ensures.within);
    }

pub returns-clause-spans : goal.returns-clause-spans
returns-clause-spans c =
    let layout = c.args.layout.now in
    let step = c.args.step.now in
    spans_end layout step c.args.writes.now c.loop-write.write-index c.loop-write.spans.items (step_spans layout step c.args.writes.now)
    c.loop-write-test.false c.loop-write.invariant.spans
