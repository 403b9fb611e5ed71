-- A line names one write.
use Rattle.std.proofs.Common.{◌≡◌, ◌<◌, ◌∙◌, ℕ, true, false, None, Some, slice_get, nat_eq, inl, inr, refl, sym, ap, subst, arith}
use Rattle.std.specs.Prelude.{is_some, nat_lt, option_and_then}
use Rattle.std.proofs.lemmas.Bool.Decides.{nat_tests}
use Rattle.dsr_command_edit.proofs.Sought.{as_named, field_of_line}
use Rattle.dsr_command_edit.specs.Found.{FindsField}
use Rattle.dsr_command_edit.specs.Named.{CanBeMade, IsFieldNamed, IsRecordNamed, IsWriteOf}
use Rattle.dsr_edit.specs.Edits.{MayWriteSome}
use Rattle.dsr_edit.specs.declared.groups.CellWrite.{CellWrite}
use Rattle.dsr_edit_text.specs.Scripts.{SetText}
use Rattle.dsr_ir.specs.declared.declarations.Field.{Field}
use Rattle.dsr_ir.specs.declared.declarations.FieldRef.{FieldRef}
use Rattle.dsr_ir.specs.declared.declarations.Spec.{Spec}
use Rattle.dsr_ir.specs.declared.layouts.Layout.{Layout}
use Rattle.dsr_ir.specs.declared.tuples.Element.{Element}
use Rattle.dsr_meaning.specs.Instances.{declared_field}
use Rattle.dsr_meaning.specs.Typed.{HasName, IsTyped}
use Rattle.dsr_report_read.proofs.Spelled.{same_pool}

neither_less : (m n : ℕ) → (m < n → ⊥) → (n < m → ⊥) → m ≡ n
neither_less m n less more =
    elim (nat_eq m n) as (λ b. nat_eq m n ≡ b → m ≡ n) [
      | true ↦ λ e. grind (arith, nat_tests)
      | false ↦ λ e. elim (nat_lt m n) as (λ b. nat_lt m n ≡ b → m ≡ n) [
        | true ↦ λ t. absurd (less (grind (arith, nat_tests)))
        | false ↦ λ t. absurd (more (grind (arith, nat_tests)))
      ] refl
    ] refl

module _ (spec : Spec) (typed : IsTyped spec) (line : SetText) where
  pub one_record : (a b : Element) → IsRecordNamed spec line a → IsRecordNamed spec line b → a ≡ b
  one_record a b one two = elim one.by [
    | inl head ↦ elim two.by [
      | inl other ↦ head.1 ∙ sym other.1
      | inr named ↦ let both : None ≡ Some b.slot = sym head.0 ∙ named.0 in absurd cc
    ]
    | inr named ↦ elim two.by [
      | inl head ↦ let both : Some a.slot ≡ None = sym named.0 ∙ head.0 in absurd cc
      | inr other ↦
          let both : Some a.slot ≡ Some b.slot = sym named.0 ∙ other.0 in
          let slot : a.slot ≡ b.slot = cc in
          let pool = same_pool spec typed.base a.pool b.pool named.1 other.1 one.record_is.declared two.record_is.declared (named.2 ∙ sym other.2) in
          λ i. record { pool = pool i; slot = slot i }
    ]
  ]

  -- one field of a structure has the name
  module _ (p q : FieldRef) (f g : Field) (one : declared_field spec.base p ≡ Some f) (two : declared_field spec.base q ≡ Some g) (named : HasName f) (called : HasName g) where
    same_field : f.name ≡ g.name → p.structure ≡ q.structure → p.field ≡ q.field
    same_field name structure =
        elim (slice_get spec.base.structures p.structure) as (λ o. slice_get spec.base.structures p.structure ≡ o → option_and_then (λ s. slice_get s.fields p.field) o ≡ Some f → p.field ≡ q.field) [
          | None ↦ λ e none. absurd cc
          | Some s ↦ λ e there.
              let other : slice_get s.fields q.field ≡ Some g =
              sym (ap (option_and_then (λ t. slice_get t.fields q.field)) e) ∙ (ap (λ n. option_and_then (λ t. slice_get t.fields q.field) (slice_get spec.base.structures n)) structure ∙ two) in
              sym ((((typed.base.structures p.structure s e).fields p.field f there).own_name named).own q.field g other called (sym name))
        ] refl one

  one_place : (pool : ℕ) (p q : FieldRef) → IsFieldNamed spec pool line p → IsFieldNamed spec pool line q → p ≡ q
  one_place pool p q one two =
      let name : one.field.name ≡ two.field.name = one.name_is ∙ sym two.name_is in
      let shape : is_some one.field.len ≡ is_some two.field.len = one.indexed ∙ sym two.indexed in
      let structure = neither_less p.structure q.structure (two.first.none_before p one.field one.is_field name shape) (one.first.none_before q two.field two.is_field (sym name) (sym shape)) in
      let field = same_field p q one.field two.field one.is_field.declared two.is_field.declared one.is_field.named two.is_field.named name structure in
      λ i. record { structure = structure i; field = field i }

  pub one_write : (a b : CellWrite) → IsWriteOf spec line a → IsWriteOf spec line b → a ≡ b
  one_write a b one two =
      let elem = one_record a.elem b.elem one.elem two.elem in
      let field = one_place b.elem.pool a.field b.field (subst (λ (e : Element). IsFieldNamed spec e.pool line a.field) elem one.field) two.field in
      let index : a.index ≡ b.index = one.index ∙ sym two.index in
      let value : a.value ≡ b.value = one.value ∙ sym two.value in
      λ i. record { elem = elem i; field = field i; index = index i; value = value i }

  -- ---- the write that is found

  pub no_record : ((elem : Element) → IsRecordNamed spec line elem → ⊥) → (write : CellWrite) → IsWriteOf spec line write → ⊥
  no_record none write its = none write.elem its.elem

  module _ (elem : Element) (named : IsRecordNamed spec line elem) where
    pub no_field : FindsField spec.base elem.pool line.field (is_some line.index) None → (write : CellWrite) → IsWriteOf spec line write → ⊥
    no_field none write its =
        let same = one_record write.elem elem its.elem named in
        none write.field (as_named spec elem.pool line write.field (subst (λ (e : Element). IsFieldNamed spec e.pool line write.field) same its.field))

    pub write_named : (place : FieldRef) → FindsField spec.base elem.pool line.field (is_some line.index) (Some place)
        → IsWriteOf spec line (record { elem = elem; field = place; index = line.index; value = line.value })
    write_named place found = record { elem = named; field = field_of_line spec elem.pool line place found; index = refl; value = refl }

  -- ---- whether it can be made

  module _ (layout : Layout) where
    pub none_to_make : ((write : CellWrite) → IsWriteOf spec line write → ⊥) → CanBeMade spec layout line → ⊥
    none_to_make none can = none can.write can.is_write

    pub not_to_make : (write : CellWrite) → IsWriteOf spec line write → (MayWriteSome spec layout write → ⊥) → CanBeMade spec layout line → ⊥
    not_to_make write its may_not can = may_not (subst (MayWriteSome spec layout) (one_write can.write write can.is_write its) can.may)
