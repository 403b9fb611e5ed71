-- The names of a specification, as texts tell them.
use Rattle.std.proofs.Common.{◌≡◌, ◌<◌, ◌≤◌, ◌-◌, ◌++◌, ◌∙◌, ◌==◌, ℕ, true, false, cond, inl, inr, List, [], None, Some, map, length, refl, sym, ap, subst, arith}
use Rattle.std.specs.Prelude.{codes, decimal, option_and_then, option_map, slice_get}
use Rattle.std.specs.Option.{option_map_or}
use Rattle.std.proofs.lemmas.Bool.Decides.{nat_tests}
use Rattle.std.proofs.lemmas.Option.{slice_get-map, slice_get_cases}
use Rattle.dsr_answers.specs.Texts.{constraint_name, element_text, field_name, pool_name}
use Rattle.dsr_ir.specs.declared.constraints.Constraint.{Constraint}
use Rattle.dsr_ir.specs.declared.declarations.Field.{Field}
use Rattle.dsr_ir.specs.declared.declarations.FieldRef.{FieldRef}
use Rattle.dsr_ir.specs.declared.declarations.Pool.{Pool}
use Rattle.dsr_ir.specs.declared.declarations.Spec.{Spec}
use Rattle.dsr_ir.specs.declared.tuples.Element.{Element}
use Rattle.dsr_meaning.proofs.Firing.{found_fits}
use Rattle.dsr_meaning.specs.Instances.{declared_field}
use Rattle.dsr_meaning.specs.Typed.{AreDifferent, AreTyped, HasName, IsTyped}
use Rattle.dsr_report_read.proofs.FirstNamed.{name_told}
use Rattle.dsr_report_read.proofs.LinesBack.{slot_grouped}
use Rattle.dsr_language_laws.specs.Spellings.{AreFieldsSpelled, HasSpelledNames, IsSpelled, spelled}
use Rattle.dsr_syntax_theory.specs.Tokens.{every, is_in_word, is_letter}
use Rattle.dsr_report_read.proofs.Words.{IsWord, Stops, all_of}

-- ---- names are words

letter_byte : (b : ℕ) → is_letter b ≡ true → is_in_word b ≡ true
letter_byte b is = grind (arith, nat_tests)

pub spelled_word : (name : List ℕ) → IsSpelled name → IsWord name
spelled_word _ (spelled letter bytes first rest) = all_of (is_in_word letter) (every is_in_word bytes) (letter_byte letter first) rest

module _ (spec : Spec) (names : HasSpelledNames spec) where
  pub pool_word : (pool : ℕ) → IsWord (pool_name spec pool)
  pool_word pool =
      elim (pool == 0) as (λ b. IsWord (cond b (codes "head") (option_map_or (λ p. p.name) (slice_get spec.base.pools (pool - 1)) []))) [
        | true ↦ refl
        | false ↦ elim (slice_get spec.base.pools (pool - 1)) as (λ o. slice_get spec.base.pools (pool - 1) ≡ o → IsWord (option_map_or (λ p. p.name) o [])) [
          | None ↦ λ e. refl
          | Some p ↦ λ e. spelled_word p.name (found_fits (λ p. IsSpelled p.name) spec.base.pools (pool - 1) p names.pools e)
        ] refl
      ]

  pub constraint_word : (constraint : ℕ) → IsWord (constraint_name spec constraint)
  constraint_word constraint =
      elim (slice_get spec.constraints constraint) as (λ o. slice_get spec.constraints constraint ≡ o → IsWord (option_map_or (λ c. c.name) o [])) [
        | None ↦ λ e. refl
        | Some c ↦ λ e. spelled_word c.name (found_fits (λ c. IsSpelled c.name) spec.constraints constraint c names.constraints e)
      ] refl

  field_spelled : (place : FieldRef) (field : Field) → declared_field spec.base place ≡ Some field → HasName field → IsSpelled field.name
  field_spelled place field declared named =
      elim (slice_get spec.base.structures place.structure) as (λ o. slice_get spec.base.structures place.structure ≡ o → option_and_then (λ s. slice_get s.fields place.field) o ≡ Some field → IsSpelled field.name) [
        | None ↦ λ e none. absurd cc
        | Some s ↦ λ e there.
            found_fits (λ f. HasName f → IsSpelled f.name) s.fields place.field field (found_fits AreFieldsSpelled spec.base.structures place.structure s names.structures e).fields there named
      ] refl declared

  pub field_word : (place : FieldRef) (field : Field) → declared_field spec.base place ≡ Some field → HasName field → IsWord (field_name spec place.structure place.field)
  field_word place field declared named =
      subst IsWord (sym (name_told spec place field declared)) (spelled_word field.name (field_spelled place field declared named))

-- ---- names tell what is named

module _ {A : Type 0} (name : A → List ℕ) (xs : List A) (different : AreDifferent (map name xs)) where
  pub one_named : (i j : ℕ) (x y : A) → slice_get xs i ≡ Some x → slice_get xs j ≡ Some y → name x ≡ name y → i ≡ j
  one_named i j x y one two same =
      different i j (name x)
      (slice_get-map name xs i ∙ ap (option_map name) one)
      (slice_get-map name xs j ∙ (ap (option_map name) two ∙ ap Some (sym same)))

module _ (spec : Spec) where
  -- ---- records at the front of a text

  -- what stands behind the name of the record's pool
  abbrev pub behind_name : Element → List ℕ → List ℕ
  behind_name elem rest = cond (elem.pool == 0) rest (codes "[" ++ (decimal elem.slot ++ (codes "]" ++ rest)))

  pub named_first : (elem : Element) (rest : List ℕ) → element_text spec elem ++ rest ≡ pool_name spec elem.pool ++ behind_name elem rest
  named_first elem rest =
      elim (elem.pool == 0) as (λ b. cond b (codes "head") (((pool_name spec elem.pool ++ codes "[") ++ decimal elem.slot) ++ codes "]") ++ rest
      ≡ cond b (codes "head") (pool_name spec elem.pool) ++ cond b rest (codes "[" ++ (decimal elem.slot ++ (codes "]" ++ rest)))) [
        | true ↦ refl
        | false ↦ slot_grouped spec elem.pool elem.slot rest
      ] ∙ ap (λ name. name ++ behind_name elem rest) (name_is elem.pool)
    where
      name_is : (pool : ℕ) → cond (pool == 0) (codes "head") (pool_name spec pool) ≡ pool_name spec pool
      name_is pool = elim (pool == 0) as (λ b. cond b (codes "head") (cond b (codes "head") (option_map_or (λ p. p.name) (slice_get spec.base.pools (pool - 1)) [])) ≡ cond b (codes "head") (option_map_or (λ p. p.name) (slice_get spec.base.pools (pool - 1)) [])) [
        | true ↦ refl
        | false ↦ refl
      ]

  pub name_stops : (elem : Element) (rest : List ℕ) → Stops rest → Stops (behind_name elem rest)
  name_stops elem rest stops = elim (elem.pool == 0) as (λ b. Stops (cond b rest (codes "[" ++ (decimal elem.slot ++ (codes "]" ++ rest))))) [
    | true ↦ stops
    | false ↦ refl
  ]

  -- a pool that isn't the head is declared
  record IsDeclared (pool : ℕ) : Type 0 where
    its : Pool
    is : slice_get spec.base.pools (pool - 1) ≡ Some its
    name_is : pool_name spec pool ≡ its.name

  declared : (pool : ℕ) → 0 < pool → pool ≤ length spec.base.pools → IsDeclared pool
  declared pool some within =
      let other : (pool == 0) ≡ false = grind (arith, nat_tests) in
      elim (slice_get_cases spec.base.pools (pool - 1)).1 [
        | inl w ↦ record {
          its = w.0;
          is = w.2;
          name_is = ap (λ b. cond b (codes "head") (option_map_or (λ p. p.name) (slice_get spec.base.pools (pool - 1)) [])) other ∙ ap (λ o. option_map_or (λ p. p.name) o []) w.2;
        }
        | inr w ↦ let past = w.0 in absurd (omega (arith, past, some, within))
      ]

  -- so one name is that of one pool
  pub same_pool : AreTyped spec.base → (p q : ℕ) → 0 < p → 0 < q → p ≤ length spec.base.pools → q ≤ length spec.base.pools → pool_name spec p ≡ pool_name spec q → p ≡ q
  same_pool typed p q some more within inside same =
      let one = declared p some within in
      let two = declared q more inside in
      let place : p - 1 ≡ q - 1 = one_named (λ d. d.name) spec.base.pools typed.pool_names (p - 1) (q - 1) one.its two.its one.is two.is (sym one.name_is ∙ (same ∙ two.name_is)) in
      omega (arith, place, some, more)

  constraint_is : (k : ℕ) (c : Constraint) → slice_get spec.constraints k ≡ Some c → constraint_name spec k ≡ c.name
  constraint_is k c is = ap (λ o. option_map_or (λ c. c.name) o []) is

  -- and of one constraint
  pub same_constraint : IsTyped spec → (k m : ℕ) (c d : Constraint) → slice_get spec.constraints k ≡ Some c → slice_get spec.constraints m ≡ Some d
      → constraint_name spec k ≡ constraint_name spec m → k ≡ m
  same_constraint typed k m c d one two same =
      one_named (λ c. c.name) spec.constraints typed.constraint_names k m c d one two (sym (constraint_is k c one) ∙ (same ∙ constraint_is m d two))
