-- Of what differs in fields that are named alike, a report may tell one alone.
use Rattle.std.proofs.Common.{◌≡◌, ◌∙◌, ℕ, List, [], ◌∷◌, All, Some, is_some, inl, inr, refl, sym, ap, subst, slice_get, arith}
use Rattle.std.proofs.lemmas.Bool.{cases_lt}
use Rattle.std.proofs.lemmas.List.Elements.{All-head, All-tail}
use Rattle.std.proofs.lemmas.Option.{same_Some}
use Rattle.dsr_ir.specs.declared.declarations.Field.{Field}
use Rattle.dsr_ir.specs.declared.declarations.FieldRef.{FieldRef}
use Rattle.dsr_ir.specs.declared.declarations.Spec.{Spec}
use Rattle.dsr_ir.specs.declared.declarations.Structures.{Structures}
use Rattle.dsr_ir.specs.declared.tuples.Element.{Element}
use Rattle.dsr_layout.proofs.Fitting.{field_found}
use Rattle.dsr_meaning.specs.Instances.{declared_field}
use Rattle.dsr_meaning.specs.Typed.{AreTyped, HasName, IsTyped}
use Rattle.dsr_repair_theory.specs.declared.entries.CellSet.{CellSet}
use Rattle.dsr_repair_theory.specs.declared.entries.Entry.{Entry}
use Rattle.dsr_report_read.specs.Forms.{IsFirstNamed, IsFirstSet, IsPoolField, IsReported, IsTold, head_told}
use Rattle.dsr_report_read.specs.declared.lines.Head.{Head}
use Rattle.dsr_report_laws.specs.Readings.{AreReadAs, EachWith, HasOwnFieldNames, IsReadAs, IsSetReadAs}

-- a structure has one field of a name
own_field :
    (base : Structures) → AreTyped base → (place other : FieldRef) (field its : Field) → declared_field base place ≡ Some field
    → declared_field base other ≡ Some its → HasName field → HasName its → its.name ≡ field.name → other.structure ≡ place.structure
    → other ≡ place
own_field base typed place other field its declared found named has same at =
    let here = field_found base place field declared in
    let there = field_found base other its found in
    let structure : there.structure ≡ here.structure =
    same_Some there.structure here.structure (sym there.structure_is ∙ (ap (slice_get base.structures) at ∙ here.structure_is)) in
    let own = ((typed.structures place.structure here.structure here.structure_is).fields place.field field here.field_is).own_name named in
    let number : other.field ≡ place.field =
    own.own other.field its (subst (λ s. slice_get s.fields other.field ≡ Some its) structure there.field_is) has same in
    λ i. record { structure = at i; field = number i }

module _ (spec : Spec) (typed : IsTyped spec) where
  -- of two first fields of a name neither stands before the other
  first_once :
      (pool : ℕ) (place other : FieldRef) (field its : Field) → IsPoolField spec.base pool place field → IsPoolField spec.base pool other its
      → its.name ≡ field.name → is_some its.len ≡ is_some field.len → IsFirstNamed spec.base pool place field
      → IsFirstNamed spec.base pool other its → other ≡ place
  first_once pool place other field its is_field is_other name shape first also =
      elim (cases_lt place.structure other.structure) as (λ _. other ≡ place) [
        | inl less ↦ absurd (also.none_before place field is_field (sym name) (sym shape) less)
        | inr from ↦ elim (cases_lt other.structure place.structure) as (λ _. other ≡ place) [
          | inl more ↦ absurd (first.none_before other its is_other name shape more)
          | inr to ↦ own_field spec.base typed.base place other field its is_field.declared is_other.declared is_field.named is_other.named name (omega (arith, from, to))
        ]
      ]

  -- a field that is declared at the place
  field_once : (place : FieldRef) (field its : Field) → declared_field spec.base place ≡ Some field → declared_field spec.base place ≡ Some its → field ≡ its
  field_once place field its one two = same_Some field its (sym one ∙ two)

  set_once : (set one other : CellSet) → IsSetReadAs spec set one → IsSetReadAs spec set other → IsFirstSet spec one → IsFirstSet spec other → one ≡ other
  set_once set one other from also first too =
      let elem : one.elem ≡ other.elem = from.elem ∙ sym also.elem in
      let field_one = field_once one.path.field from.fields.its first.is_set.field from.fields.is_other.declared first.is_set.is_field.declared in
      let field_other = field_once other.path.field also.fields.its too.is_set.field also.fields.is_other.declared too.is_set.is_field.declared in
      let field_set = field_once set.path.field from.fields.field also.fields.field from.fields.is_field.declared also.fields.is_field.declared in
      let name : first.is_set.field.name ≡ too.is_set.field.name =
      ap (λ (f : Field). f.name) (sym field_one) ∙ (from.fields.name ∙ (ap (λ (f : Field). f.name) field_set ∙ (sym also.fields.name ∙ ap (λ (f : Field). f.name) field_other))) in
      let shape : is_some first.is_set.field.len ≡ is_some too.is_set.field.len =
      ap (λ (f : Field). is_some f.len) (sym field_one)
      ∙ (from.fields.shape ∙ (ap (λ (f : Field). is_some f.len) field_set ∙ (sym also.fields.shape ∙ ap (λ (f : Field). is_some f.len) field_other))) in
      let pool : one.elem.pool ≡ other.elem.pool = ap (λ (e : Element). e.pool) elem in
      let place : one.path.field ≡ other.path.field =
      first_once other.elem.pool other.path.field one.path.field too.is_set.field first.is_set.field too.is_set.is_field
      (subst (λ p. IsPoolField spec.base p one.path.field first.is_set.field) pool first.is_set.is_field) name shape too.is_first
      (subst (λ p. IsFirstNamed spec.base p one.path.field first.is_set.field) pool first.is_first) in
      let indexed = from.indexed ∙ sym also.indexed in
      λ i. record {
        elem = elem i;
        path = record { field = place i; indexed = indexed i };
        index = (from.index ∙ sym also.index) i;
        old = (from.old ∙ sym also.old) i;
        new = (from.new ∙ sym also.new) i;
      }

  sets_once : (sets ones others : List CellSet) → EachWith (IsSetReadAs spec) sets ones → EachWith (IsSetReadAs spec) sets others → All (IsFirstSet spec) ones → All (IsFirstSet spec) others → ones ≡ others
  sets_once [] [] [] from also first too = refl
  sets_once [] [] (other ∷ others) from also first too = absurd also
  sets_once [] (one ∷ ones) others from also first too = absurd from
  sets_once (set ∷ sets) [] others from also first too = absurd from
  sets_once (set ∷ sets) (one ∷ ones) [] from also first too = absurd also
  sets_once (set ∷ sets) (one ∷ ones) (other ∷ others) from also first too =
      let head = set_once set one other from.0 also.0 (All-head (IsFirstSet spec) one ones first) (All-head (IsFirstSet spec) other others too) in
      let rest = sets_once sets ones others from.1 also.1 (All-tail (IsFirstSet spec) one ones first) (All-tail (IsFirstSet spec) other others too) in
      λ i. head i ∷ rest i

  entry_once : (entry one other : Entry) → IsReadAs spec entry one → IsReadAs spec entry other → IsTold spec one → IsTold spec other → one ≡ other
  entry_once entry one other from also told too =
      let head : head_told one ≡ head_told other = from.head ∙ sym also.head in
      let sets = sets_once entry.sets one.sets other.sets from.sets also.sets told.sets too.sets in
      let reset = from.reset ∙ sym also.reset in
      let bytes = from.bytes ∙ sym also.bytes in
      λ i. record {
        constraint = (ap (λ (h : Head). h.constraint) head) i;
        binding = (ap (λ (h : Head). h.binding) head) i;
        conj = (ap (λ (h : Head). h.conj) head) i;
        literal = (ap (λ (h : Head). h.literal) head) i;
        rule = (ap (λ (h : Head). h.rule) head) i;
        reset = reset i;
        sets = sets i;
        bytes = bytes i;
      }

  pub entries_once : (entries ones others : List Entry) → AreReadAs spec entries ones → AreReadAs spec entries others → IsReported spec ones → IsReported spec others → ones ≡ others
  entries_once [] [] [] from also told too = refl
  entries_once [] [] (other ∷ others) from also told too = absurd also
  entries_once [] (one ∷ ones) others from also told too = absurd from
  entries_once (entry ∷ entries) [] others from also told too = absurd from
  entries_once (entry ∷ entries) (one ∷ ones) [] from also told too = absurd also
  entries_once (entry ∷ entries) (one ∷ ones) (other ∷ others) from also told too =
      let head = entry_once entry one other from.0 also.0 (All-head (IsTold spec) one ones told) (All-head (IsTold spec) other others too) in
      let rest = entries_once entries ones others from.1 also.1 (All-tail (IsTold spec) one ones told) (All-tail (IsTold spec) other others too) in
      λ i. head i ∷ rest i

-- ---- where no two fields are named alike, nothing else is read

module _ (spec : Spec) (own : HasOwnFieldNames spec) where
  own_set : (set other : CellSet) → IsSetReadAs spec set other → other ≡ set
  own_set set other read =
      let place : other.path.field ≡ set.path.field = own set.elem.pool set.path.field other.path.field read.fields in
      λ i. record {
        elem = read.elem i;
        path = record { field = place i; indexed = read.indexed i };
        index = read.index i;
        old = read.old i;
        new = read.new i;
      }

  own_sets : (sets others : List CellSet) → EachWith (IsSetReadAs spec) sets others → others ≡ sets
  own_sets [] [] each = refl
  own_sets [] (other ∷ others) each = absurd each
  own_sets (set ∷ sets) [] each = absurd each
  own_sets (set ∷ sets) (other ∷ others) each =
      let head = own_set set other each.0 in
      let rest = own_sets sets others each.1 in
      λ i. head i ∷ rest i

  own_entry : (entry other : Entry) → IsReadAs spec entry other → other ≡ entry
  own_entry entry other read =
      let head = read.head in
      let sets = own_sets entry.sets other.sets read.sets in
      λ i. record {
        constraint = (ap (λ (h : Head). h.constraint) head) i;
        binding = (ap (λ (h : Head). h.binding) head) i;
        conj = (ap (λ (h : Head). h.conj) head) i;
        literal = (ap (λ (h : Head). h.literal) head) i;
        rule = (ap (λ (h : Head). h.rule) head) i;
        reset = read.reset i;
        sets = sets i;
        bytes = read.bytes i;
      }

  pub own_entries : (entries others : List Entry) → AreReadAs spec entries others → others ≡ entries
  own_entries [] [] each = refl
  own_entries [] (other ∷ others) each = absurd each
  own_entries (entry ∷ entries) [] each = absurd each
  own_entries (entry ∷ entries) (other ∷ others) each =
      let head = own_entry entry other each.0 in
      let rest = own_entries entries others each.1 in
      λ i. head i ∷ rest i
