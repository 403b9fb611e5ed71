-- The first field of a name: where a pool has such a field, it has a first one.
use Rattle.std.proofs.Common.{◌≡◌, ◌≢◌, ◌<◌, ◌⊎◌, ℕ, zero, suc, Bool, true, false, List, [], ◌∷◌, Option, None, Some, IsSomeAnd, is_some, length, inl, inr, refl, sym, subst, slice_get, arith}
use Rattle.std.specs.Option.{option_and_then}
use Rattle.std.proofs.lemmas.Option.{slice_get_within}
use Rattle.dsr_model_laws.proofs.Listed.{IsListed, alike, below, each, known, listed_decided, numbers, one, some_and, some_one, those, two_kinds, when}
use Rattle.dsr_model_laws.proofs.Ways.{AreCompared, both, by_logic}
use Rattle.dsr_model_laws.specs.Deciding.{IsDecided}
use Rattle.dsr_ir.specs.declared.declarations.Field.{Field}
use Rattle.dsr_ir.specs.declared.declarations.FieldRef.{FieldRef}
use Rattle.dsr_ir.specs.declared.declarations.Kind.{Kind}
use Rattle.dsr_ir.specs.declared.declarations.Kind.TheVariants.{Number, Refers, Gap}
use Rattle.dsr_ir.specs.declared.declarations.Pool.{Pool}
use Rattle.dsr_ir.specs.declared.declarations.SetDecl.{SetDecl}
use Rattle.dsr_ir.specs.declared.declarations.Structure.{Structure}
use Rattle.dsr_ir.specs.declared.declarations.Structures.{Structures}
use Rattle.dsr_meaning.proofs.Options.{and_some, some_and as found_and}
use Rattle.dsr_meaning.specs.Counting.{IsIn}
use Rattle.dsr_meaning.specs.Instances.{declared_field}
use Rattle.dsr_meaning.specs.Typed.{Descends, HasName, ancestors, pool_at}
use Rattle.dsr_report_read.specs.Forms.{IsOfPool, IsPoolField, IsTop}
use Rattle.dsr_report_read.specs.Forms.IsTop.{of_head, of_pool, of_set}

-- ---- comparisons

texts : AreCompared (List ℕ)
texts [] [] = inl refl
texts [] (y ∷ ys) = inr (λ (e : [] ≡ y ∷ ys). absurd cc)
texts (x ∷ xs) [] = inr (λ (e : x ∷ xs ≡ []). absurd cc)
texts (x ∷ xs) (y ∷ ys) =
    by_logic (λ (p : (x ≡ y) × (xs ≡ ys)). λ i. p.0 i ∷ p.1 i) (λ (e : x ∷ xs ≡ y ∷ ys). let first : x ≡ y = cc in let rest : xs ≡ ys = cc in (first, rest))
    (both (numbers x y) (texts xs ys))

bits : AreCompared Bool
bits true true = inl refl
bits false false = inl refl
bits true false = inr (λ (e : true ≡ false). absurd cc)
bits false true = inr (λ (e : false ≡ true). absurd cc)

named : (f : Field) → IsDecided (HasName f)
named f = by_kind f.kind where
  by_kind : (kind : Kind) → IsDecided (kind ≢ Gap)
  by_kind (Number init) = inl (λ (e : Number init ≡ Gap). absurd cc)
  by_kind (Refers pool) = inl (λ (e : Refers pool ≡ Gap). absurd cc)
  by_kind Gap = inr (λ gap. gap refl)

-- ---- the least number of a kind

-- none below is of the kind
abbrev NoneBelow : (ℕ → Type 0) → ℕ → Type 0
NoneBelow Such n = (k : ℕ) → Such k → k < n → ⊥

record IsLeast (Such : ℕ → Type 0) (n : ℕ) : Type 0 where
  is_such : Such n
  none_below : NoneBelow Such n

module _ (Such : ℕ → Type 0) (decided : (n : ℕ) → IsDecided (Such n)) where
  none_next : (n : ℕ) → NoneBelow Such n → (Such n → ⊥) → NoneBelow Such (suc n)
  none_next n none not_here k is low =
      elim (numbers k n) as (λ _. ⊥) [
        | inl same ↦ not_here (subst Such same is)
        | inr other ↦ none k is (omega (arith, low, other))
      ]

  looked : (n : ℕ) → NoneBelow Such n ⊎ ((m : ℕ) × IsLeast Such m)
  looked zero = inl (λ k is low. absurd (omega (arith, low)))
  looked (suc n) =
      elim (looked n) as (λ _. NoneBelow Such (suc n) ⊎ ((m : ℕ) × IsLeast Such m)) [
        | inr found ↦ inr found
        | inl none ↦ elim (decided n) as (λ _. NoneBelow Such (suc n) ⊎ ((m : ℕ) × IsLeast Such m)) [
          | inl here ↦ inr (n, record { is_such = here; none_below = none })
          | inr not_here ↦ inl (none_next n none not_here)
        ]
      ]

  least : (n : ℕ) → Such n → (m : ℕ) × IsLeast Such m
  least n is =
      elim (looked (suc n)) as (λ _. (m : ℕ) × IsLeast Such m) [
        | inl none ↦ absurd (none n is (omega arith))
        | inr found ↦ found
      ]

-- ---- fields of a pool

module _ (base : Structures) (pool : ℕ) where
  -- how a pool's records are read
  abbrev ByHead : ℕ → Type 0
  ByHead top = (pool ≡ 0) × (top ≡ base.head)

  abbrev ByPool : ℕ → Type 0
  ByPool top = (its : Pool) × (pool_at base pool ≡ Some its) × (top ≡ its.structure)

  abbrev BySet : ℕ → Type 0
  BySet top = (set : SetDecl) × IsIn set base.sets × ((set.pool ≡ pool) × (top ≡ set.structure))

  from_top : (top : ℕ) → IsTop base pool top → ByHead top ⊎ (ByPool top ⊎ BySet top)
  from_top _ (of_head e) = inl (e, refl)
  from_top _ (of_pool its e) = inr (inl (its, e, refl))
  from_top _ (of_set set is_in e) = inr (inr (set, is_in, (e, refl)))

  to_top : (top : ℕ) → ByHead top ⊎ (ByPool top ⊎ BySet top) → IsTop base pool top
  to_top top (inl h) = subst (IsTop base pool) (sym h.1) (of_head h.0)
  to_top top (inr (inl h)) = subst (IsTop base pool) (sym h.2) (of_pool h.0 h.1)
  to_top top (inr (inr h)) = subst (IsTop base pool) (sym h.2.1) (of_set h.0 h.1 h.2.0)

  tops : IsListed (IsTop base pool)
  tops =
      alike (λ top. ByHead top ⊎ (ByPool top ⊎ BySet top)) (IsTop base pool) to_top from_top
      (two_kinds ByHead (λ top. ByPool top ⊎ BySet top)
      (when (pool ≡ 0) (λ (top : ℕ). top ≡ base.head) (numbers pool 0) (λ _. one base.head))
      (two_kinds ByPool BySet
      (each (λ its. pool_at base pool ≡ Some its) (λ (its : Pool) (top : ℕ). top ≡ its.structure) (known (pool_at base pool)) (λ its _. one its.structure))
      (each (λ (set : SetDecl). IsIn set base.sets) (λ (set : SetDecl) (top : ℕ). (set.pool ≡ pool) × (top ≡ set.structure))
      (record { things = base.sets; all = λ set is_in. is_in; only = λ set is_in. is_in })
      (λ set _. when (set.pool ≡ pool) (λ (top : ℕ). top ≡ set.structure) (numbers set.pool pool) (λ _. one set.structure)))))

  descended : (structure top : ℕ) → IsDecided (Descends base.structures top structure)
  descended structure top =
      let line = top ∷ ancestors base.structures top in
      listed_decided (λ a. IsIn a line) numbers (record { things = line; all = λ a is_in. is_in; only = λ a is_in. is_in }) structure

  of_pool_decided : (structure : ℕ) → IsDecided (IsOfPool base pool structure)
  of_pool_decided structure =
      by_logic (λ h. record { top = h.0; is_top = h.1.0; descends = h.1.1 }) (λ (is : IsOfPool base pool structure). (is.top, (is.is_top, is.descends)))
      (some_one (λ top. IsTop base pool top × Descends base.structures top structure)
      (those (IsTop base pool) (λ top. Descends base.structures top structure) tops (λ top _. descended structure top)))

  module _ (name : List ℕ) (shape : Bool) where
    -- a field of this name and shape
    abbrev IsNamed : Field → Type 0
    IsNamed f = HasName f × ((f.name ≡ name) × (is_some f.len ≡ shape))

    named_decided : (f : Field) → IsDecided (IsNamed f)
    named_decided f = both (named f) (both (texts f.name name) (bits (is_some f.len) shape))

    abbrev HasNamed : ℕ → Type 0
    HasNamed structure = (k : ℕ) × IsSomeAnd (declared_field base (record { structure = structure; field = k })) IsNamed

    among_fields : (s : Structure) → IsDecided ((k : ℕ) × IsSomeAnd (slice_get s.fields k) IsNamed)
    among_fields s =
        by_logic (λ h. (h.0, h.1.1))
        (λ (h : (k : ℕ) × IsSomeAnd (slice_get s.fields k) IsNamed).
        let found = found_and (slice_get s.fields h.0) IsNamed h.1 in
        (h.0, (slice_get_within s.fields h.0 found.0 found.1.0, h.1)))
        (some_one (λ k. (k < length s.fields) × IsSomeAnd (slice_get s.fields k) IsNamed)
        (those (λ k. k < length s.fields) (λ k. IsSomeAnd (slice_get s.fields k) IsNamed) (below (length s.fields))
        (λ k _. some_and IsNamed (slice_get s.fields k) named_decided)))

    has_named : (structure : ℕ) → IsDecided (HasNamed structure)
    has_named structure = by_structure (slice_get base.structures structure) where
      by_structure : (o : Option Structure) → IsDecided ((k : ℕ) × IsSomeAnd (option_and_then (λ s. slice_get s.fields k) o) IsNamed)
      by_structure None = inr (λ h. h.1)
      by_structure (Some s) = among_fields s

    -- the structure declares one, and its fields are the pool's
    abbrev Declares : ℕ → Type 0
    Declares structure = IsOfPool base pool structure × HasNamed structure

    declares_decided : (structure : ℕ) → IsDecided (Declares structure)
    declares_decided structure = both (of_pool_decided structure) (has_named structure)

    declares : (place : FieldRef) (its : Field) → IsPoolField base pool place its → its.name ≡ name → is_some its.len ≡ shape → Declares place.structure
    declares place its is same alike_shape =
        (is.of_pool, (place.field, and_some (declared_field base place) IsNamed its is.declared (is.named, (same, alike_shape))))

    -- a field of the first structure that has one
    pub record IsFirst (place : FieldRef) (its : Field) : Type 0 where
      pub is_field : IsPoolField base pool place its
      pub name_is : its.name ≡ name
      pub shape_is : is_some its.len ≡ shape
      pub none_before :
          (other : FieldRef) (field : Field) → IsPoolField base pool other field → field.name ≡ name
          → is_some field.len ≡ shape → other.structure < place.structure → ⊥

    pub first_field : (place : FieldRef) (its : Field) → IsPoolField base pool place its → its.name ≡ name → is_some its.len ≡ shape → (first : FieldRef) × (field : Field) × IsFirst first field
    first_field place its is same alike_shape =
        let found = least Declares declares_decided place.structure (declares place its is same alike_shape) in
        let there = found.1.is_such.1 in
        let first : FieldRef = record { structure = found.0; field = there.0 } in
        let field = found_and (declared_field base first) IsNamed there.1 in (
          first,
          field.0,
          record {
            is_field = record { declared = field.1.0; named = field.1.1.0; of_pool = found.1.is_such.0 };
            name_is = field.1.1.1.0;
            shape_is = field.1.1.1.1;
            none_before = λ other its is_other name_same shape_same low. found.1.none_below other.structure (declares other its is_other name_same shape_same) low;
          },
        )
