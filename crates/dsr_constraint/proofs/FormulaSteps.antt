-- Steps over the joins of a formula and the units of a join.
use Rattle.std.proofs.Common.{◌≡◌, ◌<◌, ◌+◌, ℕ, Bool, ◌||◌, List, [], ◌∷◌, ◌++◌, map, take, length, get_or, Option, refl, sym, ap, ◌∙◌, append-nil, append_assoc}
use Rattle.std.proofs.lemmas.List.{map_more}
use Rattle.dsr_ir.specs.Formulas.{FormulaShape, MoreOf, in_row}
use Rattle.dsr_tree.specs.declared.faults.Fault.{Fault}
use Rattle.dsr_tree.specs.declared.tree.Formula.{Formula, out-Formula}
use Rattle.dsr_tree.specs.declared.tree.Join.{Join}
use Rattle.dsr_tree.specs.declared.tree.Rule.{Rule}
use Rattle.dsr_tree.specs.declared.tree.Unit.{Unit as UnitOf}
use Rattle.dsr_tree.specs.Trees.{JoinTree, UnitTree, in_joins, in_units, formula_shape, join_shape, unit_shape}
use Rattle.dsr_tree.proofs.TreeRows.{formula_is}
use Rattle.dsr_language_theory.specs.Constraints.{joins_faults, join_faults, units_faults, unit_faults, has_value, join_has_value, joins_have_value, joins_negations, join_negations, units_negations, unit_negations}
use Rattle.dsr_language_theory.specs.TypedConstraints.{Scope, typed_joins, typed_join, typed_units, typed_unit}
use Rattle.dsr_names.specs.Telling.{Finds}
use Rattle.dsr_names.proofs.Finding.{finds_same, finds_then}

-- the shapes of the items up to one with that one are one more
shapes_more : {X S : Type 0} (g : X → S) (xs : List X) (i : ℕ) (x : X) → i < length xs → x ≡ get_or xs i x → map g (take (i + 1) xs) ≡ map g (take i xs) ++ g x ∷ []
shapes_more g xs i x below is = map_more g xs i x below ∙ ap (λ y. map g (take i xs) ++ g y ∷ []) (sym is)

module _ (scope : Scope) (rs : List Rule) where
  -- the faults of the last join stand behind those of the others
  faults_of_joins : (js : List JoinTree) (j : JoinTree) → joins_faults scope rs (in_joins (js ++ j ∷ [])) ≡ joins_faults scope rs (in_joins js) ++ join_faults scope rs j
  faults_of_joins [] j = append-nil (join_faults scope rs j)
  faults_of_joins (k ∷ js) j = ap (λ fs. join_faults scope rs k ++ fs) (faults_of_joins js j) ∙ sym (append_assoc (join_faults scope rs k) (joins_faults scope rs (in_joins js)) (join_faults scope rs j))

  faults_of_units : (us : List UnitTree) (u : UnitTree) → units_faults scope rs (in_units (us ++ u ∷ [])) ≡ units_faults scope rs (in_units us) ++ unit_faults scope rs u
  faults_of_units [] u = append-nil (unit_faults scope rs u)
  faults_of_units (v ∷ us) u = ap (λ fs. unit_faults scope rs v ++ fs) (faults_of_units us u) ∙ sym (append_assoc (unit_faults scope rs v) (units_faults scope rs (in_units us)) (unit_faults scope rs u))

  -- the faults of the joins up to one were found, and then those of that one
  pub finds_join : {a b c : Option Fault} (xs : List Join) (i : ℕ) (x : Join) → i < length xs → x ≡ get_or xs i x → Finds (joins_faults scope rs (in_joins (map join_shape (take i xs)))) a b → Finds (join_faults scope rs (join_shape x)) b c → Finds (joins_faults scope rs (in_joins (map join_shape (take (i + 1) xs)))) a c
  finds_join xs i x below is p q =
      finds_same (sym (ap (λ js. joins_faults scope rs (in_joins js)) (shapes_more join_shape xs i x below is) ∙ faults_of_joins (map join_shape (take i xs)) (join_shape x))) (finds_then p q)

  pub finds_unit : {a b c : Option Fault} (xs : List UnitOf) (i : ℕ) (x : UnitOf) → i < length xs → x ≡ get_or xs i x → Finds (units_faults scope rs (in_units (map unit_shape (take i xs)))) a b → Finds (unit_faults scope rs (unit_shape x)) b c → Finds (units_faults scope rs (in_units (map unit_shape (take (i + 1) xs)))) a c
  finds_unit xs i x below is p q =
      finds_same (sym (ap (λ us. units_faults scope rs (in_units us)) (shapes_more unit_shape xs i x below is) ∙ faults_of_units (map unit_shape (take i xs)) (unit_shape x))) (finds_then p q)

-- the same for what is negated
negations_of_joins : (js : List JoinTree) (j : JoinTree) → joins_negations (in_joins (js ++ j ∷ [])) ≡ joins_negations (in_joins js) ++ join_negations j
negations_of_joins [] j = append-nil (join_negations j)
negations_of_joins (k ∷ js) j = ap (λ fs. join_negations k ++ fs) (negations_of_joins js j) ∙ sym (append_assoc (join_negations k) (joins_negations (in_joins js)) (join_negations j))

negations_of_units : (us : List UnitTree) (u : UnitTree) → units_negations (in_units (us ++ u ∷ [])) ≡ units_negations (in_units us) ++ unit_negations u
negations_of_units [] u = append-nil (unit_negations u)
negations_of_units (v ∷ us) u = ap (λ fs. unit_negations v ++ fs) (negations_of_units us u) ∙ sym (append_assoc (unit_negations v) (units_negations (in_units us)) (unit_negations u))

pub finds_negated_join : {a b c : Option Fault} (xs : List Join) (i : ℕ) (x : Join) → i < length xs → x ≡ get_or xs i x → Finds (joins_negations (in_joins (map join_shape (take i xs)))) a b → Finds (join_negations (join_shape x)) b c → Finds (joins_negations (in_joins (map join_shape (take (i + 1) xs)))) a c
finds_negated_join xs i x below is p q =
    finds_same (sym (ap (λ js. joins_negations (in_joins js)) (shapes_more join_shape xs i x below is) ∙ negations_of_joins (map join_shape (take i xs)) (join_shape x))) (finds_then p q)

pub finds_negated_unit : {a b c : Option Fault} (xs : List UnitOf) (i : ℕ) (x : UnitOf) → i < length xs → x ≡ get_or xs i x → Finds (units_negations (in_units (map unit_shape (take i xs)))) a b → Finds (unit_negations (unit_shape x)) b c → Finds (units_negations (in_units (map unit_shape (take (i + 1) xs)))) a c
finds_negated_unit xs i x below is p q =
    finds_same (sym (ap (λ us. units_negations (in_units us)) (shapes_more unit_shape xs i x below is) ∙ negations_of_units (map unit_shape (take i xs)) (unit_shape x))) (finds_then p q)

-- a value stands in a formula where one stands in its first join or in another one
pub value_is : {one rest : Bool} (f : Formula) → one ≡ join_has_value (join_shape (out-Formula f).first) → rest ≡ joins_have_value (in_joins (map join_shape (out-Formula f).rest.items)) → (one || rest) ≡ has_value (formula_shape f)
value_is f p q = (λ i. p i || q i) ∙ sym (ap has_value (formula_is f))

module _ (scope : Scope) where
  joins_row : (xs : List Join) → in_row (map (λ j. typed_join scope (join_shape j)) xs) ≡ typed_joins scope (in_joins (map join_shape xs))
  joins_row [] = refl
  joins_row (x ∷ xs) = ap (MoreOf (typed_join scope (join_shape x))) (joins_row xs)

  units_row : (xs : List UnitOf) → in_row (map (λ u. typed_unit scope (unit_shape u)) xs) ≡ typed_units scope (in_units (map unit_shape xs))
  units_row [] = refl
  units_row (x ∷ xs) = ap (MoreOf (typed_unit scope (unit_shape x))) (units_row xs)

  -- a list of typed joins is a row behind the first one
  pub joins_typed : (first : FormulaShape) (shapes : List FormulaShape) (xs ys : List Join) → shapes ≡ first ∷ map (λ j. typed_join scope (join_shape j)) xs → xs ≡ ys → in_row shapes ≡ MoreOf first (typed_joins scope (in_joins (map join_shape ys)))
  joins_typed first shapes xs ys e all = ap in_row e ∙ ap (MoreOf first) (joins_row xs ∙ ap (λ zs. typed_joins scope (in_joins (map join_shape zs))) all)

  pub units_typed : (first : FormulaShape) (shapes : List FormulaShape) (xs ys : List UnitOf) → shapes ≡ first ∷ map (λ u. typed_unit scope (unit_shape u)) xs → xs ≡ ys → in_row shapes ≡ MoreOf first (typed_units scope (in_units (map unit_shape ys)))
  units_typed first shapes xs ys e all = ap in_row e ∙ ap (MoreOf first) (units_row xs ∙ ap (λ zs. typed_units scope (in_units (map unit_shape zs))) all)
