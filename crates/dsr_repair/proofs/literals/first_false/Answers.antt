-- The first literal that has a template and is false: the last one, where none before it is.
use Rattle.std.proofs.Common.{◌∙◌, arith, sym}
use Rattle.std.proofs.lemmas.Grind.{common_steps}
use Rattle.std.proofs.lemmas.Option.{slice_get-get_or}
use Rattle.dsr_repair.proofs.Gone.{each_more}
use Rattle.dsr_repair.proofs.LastLiteral.{has_way, item_before, last_false}
use Rattle.dsr_repair.specs.Literals.{IsFalseAt}
use Rattle.dsr_ir.specs.declared.updates.Template.{Template}
use Rattle.dsr_model.specs.Facts.{IsInModel}
use Rattle.dsr_repair.proofs.literals.first_false.Goals as goal

pub returns-in-Some-false_template : goal.returns-in-Some-false_template
returns-in-Some-false_template c =
    let at = item_before c.args.conj.now.literals c.in-Some.before.now c.in-Some.last.now
    (sym c.items.ensures ∙ c.in-Some.ensures.cases.0) c.loop-place.place _
    (slice_get-get_or c.in-Some.before.now c.loop-place.place _ c.loop-place-test.true) in
    record {
      is = record {
        number = c.in-Some-false_template.ensures.0;
        literal_is = at;
        way_is = c.in-Some-false_template.ensures.1;
        is_false = c.in-Some-false_template.ensures.2;
      };
      none_before = λ n other by less is. c.loop-place.invariant n other less is.literal_is by is;
    }

pub loop-place-preserved : goal.loop-place-preserved
loop-place-preserved c =
    each_more (λ n its. (by : Template) → IsFalseAt (IsInModel c.args.model.now) c.args.binding.now c.args.conj.now.literals c.args.ways.now n its by → ⊥)
    c.args.conj.now.literals c.loop-place.place _
    (item_before c.args.conj.now.literals c.in-Some.before.now c.in-Some.last.now
    (sym c.items.ensures ∙ c.in-Some.ensures.cases.0) c.loop-place.place _
    (slice_get-get_or c.in-Some.before.now c.loop-place.place _ c.loop-place-test.true))
    c.loop-place.invariant (λ by is. c.in_default-false_template.ensures is.number by is.way_is is.is_false)

pub unreachable-requires-in_default-template_at : goal.unreachable-requires-in_default-template_at
unreachable-requires-in_default-template_at c =
    has_way (IsInModel c.args.model.now) c.args.binding.now c.args.conj.now.literals c.args.ways.now c.in-Some.before.now
    c.in-Some.last.now (sym c.items.ensures ∙ c.in-Some.ensures.cases.0)
    (λ n its less. c.loop-place.invariant n its (omega (arith, less, c.loop-place-test.false)))
    c.requires.some c.in_default-template_at.ensures

pub returns : goal.returns
returns c = record {
  is = last_false (IsInModel c.args.model.now) c.args.binding.now c.args.conj.now.literals c.args.ways.now c.in-Some.before.now
      c.in-Some.last.now (sym c.items.ensures ∙ c.in-Some.ensures.cases.0)
      (λ n its less. c.loop-place.invariant n its (omega (arith, less, c.loop-place-test.false)))
      c.requires.some c.in-Some-template_at.ensures.0 c.in-Some-template_at.template.now c.in-Some-template_at.ensures.1;
  none_before = λ n other by less is.
      c.loop-place.invariant n other (omega (arith, less, c.loop-place-test.false)) is.literal_is by is;
}

pub unreachable-requires : goal.unreachable-requires
unreachable-requires c = grind (arith, common_steps)
