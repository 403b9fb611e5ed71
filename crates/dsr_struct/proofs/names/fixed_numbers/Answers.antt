use Rattle.std.proofs.Common.{Bool, ap, sym, ◌∙◌, ◌&&◌}
use Rattle.std.proofs.lemmas.List.{take_all}
use Rattle.std.specs.List.{position_from}
use Rattle.std.specs.Str.{bytes_eq}
use Rattle.indexmap.specs.IndexMap.{get}
use Rattle.dsr_tree.specs.Trees.{field_shape}
use Rattle.dsr_tree.specs.declared.tree.Field.{Field}
use Rattle.dsr_language_theory.specs.Names.{has_fixed_name}
use Rattle.dsr_names.proofs.Numbering.{position_map, position_stays}
use Rattle.dsr_struct.proofs.Numbering.{number_next}
use Rattle.dsr_struct.proofs.names.fixed_numbers.Goals as goal
use Rattle.dsr_struct.proofs.names.fixed_numbers.Goals.{in-Named+then-is_some+in_ok-enter, in-Named+else-is_some, in_default}

pub loop-number-preserved : goal.loop-number-preserved
loop-number-preserved c = λ q.
    let test : Field → Bool = λ f. has_fixed_name q (field_shape f) in
    let fields = c.args.fields.now in
    let i = c.loop-number.number in
    let x = c.index-fields-number.result in
    elim c.match-field.branch [
      | in-Named+then-is_some+in_ok-enter w ↦ ap (λ m. get bytes_eq m q) w.table-is ∙ w.in_ok-enter.ensures q ∙ number_next test fields i x c.loop-number-test.true c.index-fields-number.is (c.loop-number.invariant q) (ap (λ b. b && bytes_eq w.in-Named.field.name.name q) w.if-is_some.ensures ∙ ap test (sym w.in-Named.is))
      | in-Named+else-is_some w ↦ ap (λ m. get bytes_eq m q) w.table-is ∙ position_stays test 0 fields i x c.loop-number-test.true c.index-fields-number.is (c.loop-number.invariant q) (ap (λ b. b && bytes_eq w.in-Named.field.name.name q) w.if-is_some.ensures ∙ ap test (sym w.in-Named.is))
      | in_default w ↦ ap (λ m. get bytes_eq m q) w.table-is ∙ position_stays test 0 fields i x c.loop-number-test.true c.index-fields-number.is (c.loop-number.invariant q) (ap test (sym w.in_default.is))
    ]

pub returns : goal.returns
returns c = λ q.
    c.loop-number.invariant q
    ∙ ap (position_from (λ f. has_fixed_name q (field_shape f)) 0) (take_all c.loop-number.number c.args.fields.now c.loop-number-test.false)
    ∙ sym (position_map (has_fixed_name q) field_shape 0 c.args.fields.now)
