-- What is found by a name.
use Rattle.std.proofs.Common.{◌≡◌, ◌<◌, ◌≤◌, ◌+◌, ◌^◌, ◌∙◌, ℕ, Bool, true, false, List, Option, None, Some, MatchOption, Decides, length, slice_get, get_or, is_some, inl, inr, refl, sym, ap, subst, arith}
use Rattle.std.specs.Prelude.{option_and_then}
use Rattle.std.proofs.Math.Bool.{beq, not}
use Rattle.std.proofs.lemmas.Bool.{cases_lt}
use Rattle.std.proofs.lemmas.Option.{slice_get_read, slice_get_within}
use Rattle.dsr_command_edit.specs.Found.{FindsField, FindsIn, FindsUnder, IsNamedAs, IsNamedIn, IsPoolNamed}
use Rattle.dsr_answers.specs.Texts.{pool_name}
use Rattle.dsr_command_edit.specs.Named.{IsFieldNamed, IsRecordNamed}
use Rattle.dsr_edit_text.specs.Scripts.{SetText}
use Rattle.dsr_ir.specs.declared.declarations.Field.{Field}
use Rattle.dsr_ir.specs.declared.declarations.FieldRef.{FieldRef}
use Rattle.dsr_ir.specs.declared.declarations.Spec.{Spec}
use Rattle.dsr_ir.specs.declared.declarations.Structure.{Structure}
use Rattle.dsr_ir.specs.declared.declarations.Structures.{Structures}
use Rattle.dsr_ir.specs.declared.tuples.Element.{Element}
use Rattle.dsr_meaning.proofs.Firing.{some_same}
use Rattle.dsr_meaning.specs.Instances.{declared_field}
use Rattle.dsr_meaning.specs.Truth.{head}
use Rattle.dsr_meaning.specs.Typed.{HasName}
use Rattle.dsr_report_read.specs.Forms.{IsOfPool}

-- what stands at a place of a list
pub listed_at : {A : Type 0} (xs ys : List A) → ys ≡ xs → (k : ℕ) (x : A) → k < length ys → x ≡ get_or ys k x → slice_get xs k ≡ Some x
listed_at xs ys same k x below is = ap (λ zs. slice_get zs k) (sym same) ∙ slice_get_read ys (length ys) k x refl below is

-- ---- records

module _ (spec : Spec) (line : SetText) where
  pub head_named : line.slot ≡ None → IsRecordNamed spec line head
  head_named none = record {
    record_is = record { declared = omega arith; small = omega arith; head = λ _. refl };
    by = inl (none, refl);
  }

  pub no_pool : (slot : ℕ) → line.slot ≡ Some slot → ((pool : ℕ) → IsPoolNamed spec line.pool pool → ⊥) → (elem : Element) → IsRecordNamed spec line elem → ⊥
  no_pool slot is none elem its = elim its.by [
    | inl at_head ↦ let both : Some slot ≡ None = sym is ∙ at_head.0 in absurd cc
    | inr named ↦ none elem.pool (record { some = named.1; declared = its.record_is.declared; name_is = named.2 })
  ]

  pub slot_found :
      (slot pool : ℕ) → line.slot ≡ Some slot → IsPoolNamed spec line.pool pool → slot < 2 ^ 32 → (elem : Element) → elem ≡ record { pool = pool; slot = slot } → IsRecordNamed spec line elem
  slot_found slot pool is named small elem elem_is = subst (IsRecordNamed spec line) (sym elem_is) (record {
    record_is = record { declared = named.declared; small = small; head = λ zero. absurd (let some = named.some in omega (arith, some, zero)) };
    by = inr (is, named.some, named.name_is);
  })

  pub too_great : (slot : ℕ) → line.slot ≡ Some slot → 2 ^ 32 ≤ slot → (elem : Element) → IsRecordNamed spec line elem → ⊥
  too_great slot is great elem its = elim its.by [
    | inl at_head ↦ let both : Some slot ≡ None = sym is ∙ at_head.0 in absurd cc
    | inr named ↦
        let both : Some slot ≡ Some elem.slot = sym is ∙ named.0 in
        let same : slot ≡ elem.slot = cc in
        let small = its.record_is.small in
        omega (arith, small, great, same)
  ]

  pub record_found :
      (slot pool : ℕ) → line.slot ≡ Some slot → IsPoolNamed spec line.pool pool
      → (found : Option Element) → MatchOption found (2 ^ 32 ≤ slot) (λ elem. (slot < 2 ^ 32) × (elem ≡ record { pool = pool; slot = slot }))
      → MatchOption found ((elem : Element) → IsRecordNamed spec line elem → ⊥) (IsRecordNamed spec line)
  record_found slot pool is named None great = too_great slot is great
  record_found slot pool is named (Some elem) its = slot_found slot pool is named its.0 elem its.1

-- ---- pools

module _ (spec : Spec) (name : List ℕ) where
  -- no pool so far has the name
  abbrev pub NoPoolBefore : ℕ → Type 0
  NoPoolBefore place = (pool : ℕ) → pool ≤ place → IsPoolNamed spec name pool → ⊥

  pub no_pool_yet : NoPoolBefore 0
  no_pool_yet pool low its = let some = its.some in omega (arith, low, some)

  pub pool_next : (place : ℕ) → NoPoolBefore place → (pool_name spec (place + 1) ≡ name → ⊥) → NoPoolBefore (place + 1)
  pool_next place before other pool low its = elim (cases_lt pool (place + 1)) [
    | inl less ↦ before pool (omega (arith, less)) its
    | inr more ↦ let here : pool ≡ place + 1 = omega (arith, low, more) in other (subst (λ p. pool_name spec p ≡ name) here its.name_is)
  ]

  pub pool_here : (place : ℕ) → place < length spec.base.pools → pool_name spec (place + 1) ≡ name → IsPoolNamed spec name (place + 1)
  pool_here place low is = record { some = omega arith; declared = omega (arith, low); name_is = is }

  pub no_pool_left : (place : ℕ) → length spec.base.pools ≤ place → NoPoolBefore place → (pool : ℕ) → IsPoolNamed spec name pool → ⊥
  no_pool_left place all before pool its = let low = its.declared in before pool (omega (arith, low, all)) its

-- ---- fields of a structure

pub same_test : (a b : Bool) → not (beq a b) ≡ false → a ≡ b
same_test true true is = refl
same_test true false is = absurd cc
same_test false true is = absurd cc
same_test false false is = refl

pub named_by :
    (name : List ℕ) (indexed : Bool) (field : Field) → HasName field → is_some field.len ≡ indexed
    → (bytes : List ℕ) (b : Bool) → bytes ≡ field.name → Decides b (bytes ≡ name) → Decides b (IsNamedAs name indexed field)
named_by name indexed field named shape bytes b told is = (
  λ t. record { named = named; name_is = sym told ∙ is.0 t; shape = shape },
  λ its. is.1 (told ∙ its.name_is),
)

module _ (structure : Structure) (name : List ℕ) (indexed : Bool) where
  -- no field so far has the name
  abbrev pub NoFieldBefore : ℕ → Type 0
  NoFieldBefore place = (k : ℕ) (field : Field) → k < place → slice_get structure.fields k ≡ Some field → IsNamedAs name indexed field → ⊥

  pub no_field_yet : NoFieldBefore 0
  no_field_yet k field low at its = omega (arith, low)

  module _ (place : ℕ) (before : NoFieldBefore place) where
    pub field_next : (field : Field) → slice_get structure.fields place ≡ Some field → (IsNamedAs name indexed field → ⊥) → NoFieldBefore (place + 1)
    field_next field at other k its low there named = elim (cases_lt k place) [
      | inl less ↦ before k its less there named
      | inr more ↦
          let here : k ≡ place = omega (arith, low, more) in
          let same : its ≡ field = some_same _ its field there (ap (slice_get structure.fields) here ∙ at) in
          other (subst (IsNamedAs name indexed) same named)
    ]

    pub no_field_left : (number : ℕ) → length structure.fields ≤ place → FindsUnder number structure name indexed None
    no_field_left number all k field at named = let low = slice_get_within structure.fields k field at in before k field (omega (arith, low, all)) at named

  pub field_here : (number place : ℕ) (field : Field) → slice_get structure.fields place ≡ Some field → IsNamedAs name indexed field
      → FindsUnder number structure name indexed (Some (record { structure = number; field = place }))
  field_here number place field at named = (refl, (field, at, named))

-- ---- fields of a pool's records

abbrev own : ℕ → Structure → Option Field
own k structure = slice_get structure.fields k

field_at : (base : Structures) (number : ℕ) (structure : Structure) (place : FieldRef) → slice_get base.structures number ≡ Some structure → place.structure ≡ number
    → declared_field base place ≡ slice_get structure.fields place.field
field_at base number structure place declared same =
    ap (λ n. option_and_then (own place.field) (slice_get base.structures n)) same ∙ ap (option_and_then (own place.field)) declared

module _ (base : Structures) (pool : ℕ) (name : List ℕ) (indexed : Bool) where
  pub found_in :
      (number : ℕ) (structure : Structure) → slice_get base.structures number ≡ Some structure → IsOfPool base pool number
      → (found : Option FieldRef) → FindsUnder number structure name indexed found → FindsIn base pool number name indexed found
  found_in number structure declared of None none = λ place same its.
      none place.field its.field (sym (field_at base number structure place declared same) ∙ its.is_field.declared)
      (record { named = its.is_field.named; name_is = its.name_is; shape = its.shape })
  found_in number structure declared of (Some place) its = (
    its.0,
    record {
      field = its.1.0;
      is_field = record {
        declared = field_at base number structure place declared its.0 ∙ its.1.1;
        named = its.1.2.named;
        of_pool = subst (IsOfPool base pool) (sym its.0) of;
      };
      name_is = its.1.2.name_is;
      shape = its.1.2.shape;
    },
  )

  pub not_in : (number : ℕ) → (IsOfPool base pool number → ⊥) → FindsIn base pool number name indexed None
  not_in number other = λ place same its. other (subst (IsOfPool base pool) same its.is_field.of_pool)

  -- none of an earlier structure
  abbrev pub NoneBefore : ℕ → Type 0
  NoneBefore number = (place : FieldRef) → place.structure < number → IsNamedIn base pool name indexed place → ⊥

  pub none_next : (number : ℕ) (found : Option FieldRef) → NoneBefore number → FindsIn base pool number name indexed found → is_some found ≡ false → NoneBefore (number + 1)
  none_next number (Some place) before its none = absurd cc
  none_next number None before here none = λ place low its. elim (cases_lt place.structure number) [
    | inl less ↦ before place less its
    | inr more ↦ here place (omega (arith, low, more)) its
  ]

  pub found_first : (number : ℕ) (found : Option FieldRef) → NoneBefore number → FindsIn base pool number name indexed found → is_some found ≡ true → FindsField base pool name indexed found
  found_first number None before none is = absurd cc
  found_first number (Some place) before its is = (its.1, λ other named less. before other (subst (λ n. other.structure < n) its.0 less) named)

  declared_below : (place : FieldRef) (field : Field) → declared_field base place ≡ Some field → place.structure < length base.structures
  declared_below place field declared = elim (slice_get base.structures place.structure) as (λ o. slice_get base.structures place.structure ≡ o → option_and_then (own place.field) o ≡ Some field → place.structure < length base.structures) [
    | None ↦ λ e none. absurd cc
    | Some s ↦ λ e there. slice_get_within base.structures place.structure s e
  ] refl declared

  pub none_at_all : (number : ℕ) → length base.structures ≤ number → NoneBefore number → FindsField base pool name indexed None
  none_at_all number all before = λ place its.
      let low = declared_below place its.field its.is_field.declared in
      before place (omega (arith, low, all)) its

-- the first such field is the one that the line names
pub field_of_line : (spec : Spec) (pool : ℕ) (line : SetText) (place : FieldRef) → FindsField spec.base pool line.field (is_some line.index) (Some place) → IsFieldNamed spec pool line place
field_of_line spec pool line place its = record {
  field = its.0.field;
  is_field = its.0.is_field;
  name_is = its.0.name_is;
  indexed = its.0.shape;
  first = record {
    none_before = λ other field is_field name shape less.
        its.1 other (record { field = field; is_field = is_field; name_is = name ∙ its.0.name_is; shape = shape ∙ its.0.shape }) less;
  };
}

pub as_named : (spec : Spec) (pool : ℕ) (line : SetText) (place : FieldRef) → IsFieldNamed spec pool line place → IsNamedIn spec.base pool line.field (is_some line.index) place
as_named spec pool line place its = record { field = its.field; is_field = its.is_field; name_is = its.name_is; shape = its.indexed }
