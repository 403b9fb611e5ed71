-- The fields of a structure are reset, one after the other.
use Rattle.std.proofs.Common.{◌≡◌, ◌≤◌, ◌∙◌, Some, length, refl, sym, ap, subst, arith}
use Rattle.std.specs.Prelude.{option_and_then, slice_get}
use Rattle.std.proofs.lemmas.Option.{slice_get_past, slice_get_read}
use Rattle.dsr_ir.specs.declared.declarations.Structure.{Structure}
use Rattle.dsr_layout.proofs.Items.{item_at}
use Rattle.dsr_step_theory.specs.Puts.{ArePut}
use Rattle.dsr_step_theory.specs.Puts.ArePut.{done}
use Rattle.dsr_step_theory.specs.Resets.{field_puts}
use Rattle.dsr_update.proofs.Left.{items_end, items_next, none_without_structure, puts_of_structure}
use Rattle.dsr_update.proofs.Putting.{put_all, put_more, put_none}
use Rattle.dsr_update.specs.Claims.{CanReset, IsSlotClaimed}
use Rattle.dsr_update.proofs.resets.reset_structure.Goals as goal

pub returns-in_default-clause-put : goal.returns-in_default-clause-put
returns-in_default-clause-put g c =
    let base = c.args.spec.now.base in
    let missed = c.in_default.ensures.lookup in
    subst (λ xs. ArePut xs (g.I.ImageBytes.bytes c.args.image.now) (g.I.ImageBytes.bytes c.args.image.now))
    (none_without_structure base c.args.layout.now c.args.elem c.args.number
    (ap (λ ss. slice_get ss c.args.number) (sym c.items.ensures) ∙ slice_get_past c.items.result.now c.args.number missed.3)) done

pub loop-field-init : goal.loop-field-init
loop-field-init g c = put_none refl

pub overflow_cast-place : goal.overflow_cast-place
overflow_cast-place g c =
    let found = c.in-Some.ensures.lookup in
    let at : slice_get c.args.spec.now.base.structures c.args.number ≡ Some c.in-Some.structure.now = ap (λ ss. slice_get ss c.args.number) (sym c.items.ensures) ∙ item_at c.items.result.now c.args.number c.in-Some.structure.now found.3.0 found.1 in
    let few = (c.requires.can.typed.base.structures c.args.number c.in-Some.structure.now at).few_fields in
    let many : length c.items-declared-items.result.now ≡ length c.in-Some.structure.now.fields = ap length c.items-declared-items.ensures in
    omega (arith, few, many, c.loop-field-test.true)

pub reset_field-requires-clause-can : goal.reset_field-requires-clause-can
reset_field-requires-clause-can g c = subst (CanReset c.args.spec.now c.args.layout.now c.args.elem) (sym c.loop-field.invariant.long) c.requires.can

pub reset_field-requires-clause-of_record : goal.reset_field-requires-clause-of_record
reset_field-requires-clause-of_record g c =
    let found = c.in-Some.ensures.lookup in
    let at : slice_get c.args.spec.now.base.structures c.args.number ≡ Some c.in-Some.structure.now = ap (λ ss. slice_get ss c.args.number) (sym c.items.ensures) ∙ item_at c.items.result.now c.args.number c.in-Some.structure.now found.3.0 found.1 in
    let item = slice_get_read c.items-declared-items.result.now (length c.items-declared-items.result.now) c.loop-field.field c.declared-item.result refl c.loop-field-test.true c.declared-item.is in
    record {
      structure = c.requires.of_record;
      declared = ap (option_and_then (λ (s : Structure). slice_get s.fields c.loop-field.field)) at ∙ (ap (λ fs. slice_get fs c.loop-field.field) (sym c.items-declared-items.ensures) ∙ item);
    }

pub reset_field-requires-clause-claimed : goal.reset_field-requires-clause-claimed
reset_field-requires-clause-claimed g c = subst (λ claims. IsSlotClaimed claims c.args.layout.now c.args.elem) (sym c.loop-field.invariant.kept) c.requires.claimed

pub loop-field-preserved : goal.loop-field-preserved
loop-field-preserved g c =
    put_more c.loop-field.invariant
    (items_next (λ k field. field_puts c.args.layout.now c.args.elem (record { structure = c.args.number; field = k }) field) c.items-declared-items.result.now c.loop-field.field c.declared-item.result c.loop-field-test.true c.declared-item.is)
    c.reset_field.ensures.put c.reset_field.ensures.long c.reset_field.ensures.claimed

pub returns-clause-put : goal.returns-clause-put
returns-clause-put g c =
    let found = c.in-Some.ensures.lookup in
    let at : slice_get c.args.spec.now.base.structures c.args.number ≡ Some c.in-Some.structure.now = ap (λ ss. slice_get ss c.args.number) (sym c.items.ensures) ∙ item_at c.items.result.now c.args.number c.in-Some.structure.now found.3.0 found.1 in
    let past : length c.items-declared-items.result.now ≤ c.loop-field.field = omega (arith, c.loop-field-test.false) in
    subst (λ xs. ArePut xs (g.I.ImageBytes.bytes c.args.image.now) (g.I.ImageBytes.bytes c.loop-field.image))
    (puts_of_structure c.args.spec.now.base c.args.layout.now c.args.elem c.args.number c.in-Some.structure.now c.items-declared-items.result.now at c.items-declared-items.ensures)
    (put_all c.loop-field.invariant (items_end (λ k field. field_puts c.args.layout.now c.args.elem (record { structure = c.args.number; field = k }) field) c.items-declared-items.result.now c.loop-field.field past))

pub returns-clause-long : goal.returns-clause-long
returns-clause-long g c = c.loop-field.invariant.long

pub returns-clause-claimed : goal.returns-clause-claimed
returns-clause-claimed g c = c.loop-field.invariant.kept
