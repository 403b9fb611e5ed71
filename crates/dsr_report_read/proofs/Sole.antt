-- What a text may be that of, where one value alone is tried.
use Rattle.std.proofs.Common.{◌≡◌, ◌<◌, ◌+◌, ◌^◌, ◌++◌, ◌∙◌, ℕ, zero, suc, true, false, cond, List, [], ◌∷◌, Option, None, Some, IsSome, length, drop, slice_get, refl, sym, ap, subst, arith, nat_eq}
use Rattle.std.specs.Prelude.{◌-◌, ◌*◌, ◌%◌, Bool, MatchBool, is_some, take, codes, decimal, ◌==◌, option_and_then}
use Rattle.std.specs.Option.{option_map_or}
use Rattle.std.proofs.lemmas.Bool.Decides.{nat_tests}
use Rattle.dsr_answers.specs.Texts.{constraint_name, element_text, field_name, pool_name}
use Rattle.dsr_ir.specs.declared.constraints.Constraint.{Constraint}
use Rattle.dsr_ir.specs.declared.declarations.Field.{Field}
use Rattle.dsr_ir.specs.declared.declarations.FieldRef.{FieldRef}
use Rattle.dsr_ir.specs.declared.declarations.Spec.{Spec}
use Rattle.dsr_ir.specs.declared.rules.Path.{Path}
use Rattle.dsr_ir.specs.declared.tuples.Element.{Element}
use Rattle.dsr_meaning.proofs.Firing.{found_fits}
use Rattle.dsr_ir.specs.Exprs.{ExprShape}
use Rattle.dsr_meaning.specs.Instances.{declared_field}
use Rattle.dsr_meaning.specs.Typed.{HasName, IsTyped, IsTypedConj, IsTypedConstraint}
use Rattle.dsr_repair_theory.specs.declared.entries.ByteChange.{ByteChange}
use Rattle.dsr_repair_theory.specs.declared.entries.CellSet.{CellSet}
use Rattle.dsr_report.specs.Reports.{byte_line, reset_line, set_line, update_line}
use Rattle.dsr_report_read.proofs.HeadsBack.{head_back, name_is}
use Rattle.dsr_report_read.proofs.LinesBack.{change_back, field_is, reset_back, set_back, set_grouped, slot_grouped}
use Rattle.dsr_report_read.proofs.ReadBack.{regroup}
use Rattle.dsr_report_read.specs.Forms.{IsChange, IsHead, IsOfPool, IsRecord}
use Rattle.dsr_report_read.specs.Lenient.{behind_field, behind_number, change_in, digits_len, element_ahead, field_ahead, head_in, index_ahead, name_ahead, narrow, number_ahead, set_in, value_after, values_ahead}
use Rattle.dsr_report_read.specs.Lines.{bare}
use Rattle.dsr_report_read.specs.Reads.{Begins, IsHeadOf, IsRecordIn, IsSetAt, IsSetIn, Reads}
use Rattle.dsr_report_read.specs.declared.lines.Head.{Head}
use Rattle.dsr_update_theory.specs.Templates.{literal_at}

-- ---- one value alone may be it

module _ {T : Type 0} (Such : T → Type 0) (shown : T → List ℕ) (text : List ℕ) (y : T) (sole : (x : T) → Such x → text ≡ shown x → y ≡ x) where
  -- and it isn't
  pub differs : (text ≡ shown y → ⊥) → Reads Such shown text None
  differs other = λ x such is. other (is ∙ ap shown (sym (sole x such is)))

  -- and it is none of the kind
  pub unfit : (Good : T → Type 0) → ((x : T) → Such x → Good x) → (Good y → ⊥) → Reads Such shown text None
  unfit Good good bad = λ x such is. bad (subst Good (sym (sole x such is)) (good x such))

-- ---- bytes

pub sole_change : (text : List ℕ) (y : ByteChange) → y ≡ change_in text → (x : ByteChange) → IsChange x → text ≡ byte_line x → y ≡ x
sole_change text y y_is x its is = y_is ∙ (ap change_in is ∙ change_back x its)

-- ---- what is read fits

less : {A : Type 0} (xs : List A) (k : ℕ) → IsSome (slice_get xs k) → k < length xs
less [] k is = absurd cc
less (x ∷ xs) zero is = omega arith
less (x ∷ xs) (suc k) is = let rest = less xs k is in omega (arith, rest)

value_small : (v : ℕ) (ds : List ℕ) → v < 2 ^ 64 → value_after v ds < 2 ^ 64
value_small v [] small = small
value_small v (d ∷ ds) small = value_small ((v * 10 % 2 ^ 64 + (d - 48)) % 2 ^ 64) ds (omega arith)

number_small : (text : List ℕ) → number_ahead text < 2 ^ 64
number_small text = value_small 0 (take (digits_len text) text) (omega arith)

index_small : (b : Bool) (text : List ℕ) → index_ahead b text < 2 ^ 64
index_small true text = number_small (drop 1 text)
index_small false text = omega arith

no_index : (b : Bool) (text : List ℕ) → b ≡ false → index_ahead b text ≡ 0
no_index true text e = absurd cc
no_index false text e = refl

pub told : (b : Bool) (o : Option ExprShape) → MatchBool b (IsSome o) (o ≡ None) → b ≡ is_some o
told true o is = sym is
told false o is = ap is_some (sym is)

pub tells : (b : Bool) (o : Option ExprShape) → b ≡ is_some o → MatchBool b (IsSome o) (o ≡ None)
tells true o is = sym is
tells false None is = refl
tells false (Some x) is = absurd cc

-- ---- records

module _ (spec : Spec) where
  ahead_pool : (pool : ℕ) (text : List ℕ) → (element_ahead spec pool text).pool ≡ pool
  ahead_pool pool text =
      let head : Element = record { pool = 0; slot = 0 } in
      let other : Element = record { pool = pool; slot = narrow (number_ahead (drop (length (pool_name spec pool) + 1) text)) } in
      elim (nat_eq pool 0) as (λ b. nat_eq pool 0 ≡ b → (cond b head other).pool ≡ pool) [
        | true ↦ λ e. grind (arith, nat_tests)
        | false ↦ λ e. refl
      ] refl

  element_begins : (elem : Element) (rest : List ℕ) → Begins (element_text spec elem ++ rest) (pool_name spec elem.pool)
  element_begins elem rest =
      elim (elem.pool == 0) as (λ b. (elem.pool == 0) ≡ b → Begins (element_text spec elem ++ rest) (pool_name spec elem.pool)) [
        | true ↦ λ e.
            let text : element_text spec elem ≡ codes "head" = ap (λ b. cond b (codes "head") (((pool_name spec elem.pool ++ codes "[") ++ decimal elem.slot) ++ codes "]")) e in
            let name : pool_name spec elem.pool ≡ codes "head" = ap (λ b. cond b (codes "head") (option_map_or (λ p. p.name) (slice_get spec.base.pools (elem.pool - 1)) [])) e in
            record { rest = rest; is = ap (λ t. t ++ rest) text ∙ ap (λ t. t ++ rest) (sym name) }
        | false ↦ λ e.
            let text : element_text spec elem ≡ ((pool_name spec elem.pool ++ codes "[") ++ decimal elem.slot) ++ codes "]" = ap (λ b. cond b (codes "head") (((pool_name spec elem.pool ++ codes "[") ++ decimal elem.slot) ++ codes "]")) e in
            record { rest = codes "[" ++ (decimal elem.slot ++ (codes "]" ++ rest)); is = ap (λ t. t ++ rest) text ∙ slot_grouped spec elem.pool elem.slot rest }
      ] refl

  module _ (pool : ℕ) (text : List ℕ) (x : Element) (its : IsRecordIn spec pool x) (is : text ≡ reset_line spec x) where
    pub reset_begins : Begins (drop 8 text) (pool_name spec pool)
    reset_begins =
        let e : drop 8 text ≡ element_text spec x ++ codes "\n" = ap (drop 8) (is ∙ regroup (codes "  reset ") (element_text spec x ∷ codes "\n" ∷ [])) in
        subst (λ p. Begins (drop 8 text) (pool_name spec p)) its.pool_is (subst (λ t. Begins t (pool_name spec x.pool)) (sym e) (element_begins x (codes "\n")))

    pub sole_reset : (y : Element) → y ≡ element_ahead spec pool (drop 8 text) → y ≡ x
    sole_reset y y_is =
        y_is ∙ (ap (λ p. element_ahead spec p (drop 8 text)) (sym its.pool_is) ∙ (ap (λ t. element_ahead spec x.pool (drop 8 t)) is ∙ reset_back spec x its.is_record.0))

  -- ---- values that are set

  pub set_begins : (pool : ℕ) (text : List ℕ) (x : CellSet) → IsSetIn spec pool x → text ≡ set_line spec x → Begins (drop 6 text) (pool_name spec pool)
  set_begins pool text x its is =
      let e = ap (drop 6) (is ∙ set_grouped spec x) in
      subst (λ p. Begins (drop 6 text) (pool_name spec p)) its.pool_is (subst (λ t. Begins t (pool_name spec x.elem.pool)) (sym e) (element_begins x.elem _))

  module _ (pool : ℕ) (place : FieldRef) (text : List ℕ) (x : CellSet) (its : IsSetAt spec pool place x) (is : text ≡ set_line spec x) where
    pub field_begins : Begins (field_ahead spec pool text) (field_name spec place.structure place.field)
    field_begins =
        subst (λ p. Begins (field_ahead spec p text) (field_name spec place.structure place.field)) its.pool_is
        (subst (λ f. Begins (field_ahead spec x.elem.pool text) (field_name spec f.structure f.field)) its.place_is
        (record { rest = _; is = ap (field_ahead spec x.elem.pool) is ∙ field_is spec x its.is_set }))

    pub sole_set : (path : Path) → path ≡ x.path → (y : CellSet) → y ≡ set_in spec pool path text → y ≡ x
    sole_set path path_is y y_is =
        y_is ∙ (ap (λ p. set_in spec p path text) (sym its.pool_is) ∙ (ap (λ p. set_in spec x.elem.pool p text) path_is ∙ (ap (set_in spec x.elem.pool x.path) is ∙ set_back spec x its.is_set)))

  field_same : (place : FieldRef) (a b : Field) → declared_field spec.base place ≡ Some a → declared_field spec.base place ≡ Some b → a ≡ b
  field_same place a b is too = let both : Some a ≡ Some b = sym is ∙ too in cc

  module _ (pool : ℕ) (place : FieldRef) (text : List ℕ) (x : CellSet) (its : IsSetAt spec pool place x) (is : text ≡ set_line spec x) where
    pub same_path : (field : Field) → declared_field spec.base place ≡ Some field → (b : Bool) → b ≡ is_some field.len → record { field = place; indexed = b } ≡ x.path
    same_path field declared b b_is =
        let same : its.is_set.field ≡ field = field_same place its.is_set.field field (ap (declared_field spec.base) (sym its.place_is) ∙ its.is_set.is_field.declared) declared in
        let indexed : x.path.indexed ≡ b = told x.path.indexed field.len (subst (λ f. MatchBool x.path.indexed (IsSome f.len) (f.len ≡ None)) same its.is_set.indexed) ∙ sym b_is in
        λ i. record { field = sym its.place_is i; indexed = sym indexed i }

  module _ (pool : ℕ) (place : FieldRef) (text : List ℕ) (field : Field) (declared : declared_field spec.base place ≡ Some field) (named : HasName field) (of_pool : IsOfPool spec.base pool place.structure) (b : Bool) (b_is : b ≡ is_some field.len) where
    abbrev path : Path
    path = record { field = place; indexed = b }

    made : IsRecord spec (element_ahead spec pool (drop 6 text)) → IsSetAt spec pool place (set_in spec pool path text)
    made is_record =
        let same = ahead_pool pool (drop 6 text) in
        record {
          is_set = record {
            elem = is_record;
            field = field;
            is_field = record { declared = declared; named = named; of_pool = subst (λ p. IsOfPool spec.base p place.structure) (sym same) of_pool };
            indexed = tells b field.len b_is;
            index = index_small b (behind_field spec pool path text);
            no_index = λ none. no_index b (behind_field spec pool path text) none;
            old = number_small (values_ahead spec pool path text);
            new = number_small (drop 1 (behind_number (values_ahead spec pool path text)));
          };
          pool_is = same;
          place_is = refl;
        }

    pub made_set : (y : CellSet) → y ≡ set_in spec pool path text → IsRecord spec y.elem → IsSetAt spec pool place y
    made_set y y_is is_record = subst (IsSetAt spec pool place) (sym y_is) (made (subst (λ s. IsRecord spec s.elem) y_is is_record))

  pub structure_less : (pool : ℕ) (x : CellSet) → IsSetIn spec pool x → x.path.field.structure < length spec.base.structures
  structure_less pool x its =
      elim (slice_get spec.base.structures x.path.field.structure) as (λ o. slice_get spec.base.structures x.path.field.structure ≡ o → option_and_then (λ s. slice_get s.fields x.path.field.field) o ≡ Some its.is_set.field → x.path.field.structure < length spec.base.structures) [
        | None ↦ λ e none. absurd cc
        | Some s ↦ λ e there. less spec.base.structures x.path.field.structure (subst IsSome (sym e) refl)
      ] refl its.is_set.is_field.declared

  -- ---- updates

  pub record IsSmall (head : Head) : Type 0 where
    pub conj : head.conj < 2 ^ 32
    pub literal : head.literal < 2 ^ 32
    pub rule : head.rule < 2 ^ 32

  small_literal : (constraint : Constraint) (conj literal : ℕ) → IsTypedConstraint spec constraint → IsSome (literal_at constraint conj literal) → (conj < 2 ^ 32) × (literal < 2 ^ 32)
  small_literal constraint conj literal typed is =
      elim (slice_get constraint.conjs conj) as (λ o. slice_get constraint.conjs conj ≡ o → IsSome (option_and_then (λ l. slice_get l.literals literal) o) → (conj < 2 ^ 32) × (literal < 2 ^ 32)) [
        | None ↦ λ e some. absurd cc
        | Some its ↦ λ e some.
            let few = typed.few_conjs in
            let below = less constraint.conjs conj (subst IsSome (sym e) refl) in
            let few_literals = (found_fits (IsTypedConj spec constraint.quant) constraint.conjs conj its typed.conjs e).few_literals in
            let literal_below = less its.literals literal some in
            (omega (arith, few, below), omega (arith, few_literals, literal_below))
      ] refl is

  pub small_head : IsTyped spec → (head : Head) → IsHead spec head → IsSmall head
  small_head typed head its =
      let both = small_literal its.constraint head.conj head.literal (found_fits (IsTypedConstraint spec) spec.constraints head.constraint its.constraint typed.constraints its.constraint_is) its.literal in
      let few = typed.few_rules in
      let rule = its.rule in
      record { conj = both.0; literal = both.1; rule = omega (arith, few, rule) }

  module _ (typed : IsTyped spec) (count number : ℕ) (small : count < 2 ^ 64) (text : List ℕ) (x : Head) (its : IsHeadOf spec number x) (is : text ≡ update_line spec count (bare x)) where
    pub name_begins : Begins (name_ahead text) (constraint_name spec number)
    name_begins =
        subst (λ n. Begins (name_ahead text) (constraint_name spec n)) its.constraint_is
        (record { rest = _; is = ap name_ahead is ∙ name_is spec its.is_head.constraint.quant count small x its.is_head.binding })

    pub sole_head : (constraint : Constraint) → slice_get spec.constraints number ≡ Some constraint → (y : Head) → y ≡ head_in spec constraint.quant number text → y ≡ x
    sole_head constraint there y y_is =
        let few = small_head typed x its.is_head in
        let both : Some constraint ≡ Some its.is_head.constraint = sym there ∙ (ap (slice_get spec.constraints) (sym its.constraint_is) ∙ its.is_head.constraint_is) in
        let same : constraint ≡ its.is_head.constraint = cc in
        y_is ∙ (ap (λ c. head_in spec c.quant number text) same ∙ (ap (λ n. head_in spec its.is_head.constraint.quant n text) (sym its.constraint_is)
        ∙ (ap (head_in spec its.is_head.constraint.quant x.constraint) is ∙ head_back spec its.is_head.constraint.quant count small x its.is_head.binding few.conj few.literal few.rule)))

    pub its_literal : (constraint : Constraint) → slice_get spec.constraints number ≡ Some constraint → IsSome (literal_at constraint x.conj x.literal)
    its_literal constraint there =
        let both : Some constraint ≡ Some its.is_head.constraint = sym there ∙ (ap (slice_get spec.constraints) (sym its.constraint_is) ∙ its.is_head.constraint_is) in
        let same : constraint ≡ its.is_head.constraint = cc in
        subst (λ c. IsSome (literal_at c x.conj x.literal)) (sym same) its.is_head.literal

-- the same text and front, otherwise told
pub begins_as : (text other front its : List ℕ) → other ≡ text → its ≡ front → Begins text front → Begins other its
begins_as text other front its text_is front_is begins = record { rest = begins.rest; is = text_is ∙ (begins.is ∙ ap (λ f. f ++ begins.rest) (sym front_is)) }
