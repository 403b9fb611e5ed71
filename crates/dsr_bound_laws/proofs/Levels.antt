-- What the constraints of one level cost, those of higher levels, and all.
use Rattle.std.proofs.Common.{◌≡◌, ◌≤◌, ◌<◌, ◌+◌, ◌*◌, ℕ, true, false, nat_eq, nat_lt, zero, suc, List, [], ◌∷◌, ◌++◌, map, length, Some, slice_get, if◌then◌else◌, inl, inr, refl, sym, ap, subst, ◌∙◌, arith}
use Rattle.std.proofs.Math.Nat.{mul-le-mul_right, suc-mul}
use Rattle.std.proofs.lemmas.Bool.Decides.{nat_tests}
use Rattle.dsr_ir.specs.declared.constraints.Constraint.{Constraint}
use Rattle.dsr_ir.specs.declared.constraints.Quant.{Quant}
use Rattle.dsr_ir.specs.declared.tuples.Binding.{Binding}
use Rattle.dsr_ir.specs.declared.tuples.Fact.{Fact}
use Rattle.dsr_meaning.specs.Consistency.{BoundConstraint, IsBinding}
use Rattle.dsr_meaning.specs.Counting.{IsIn}
use Rattle.dsr_plan_theory.specs.declared.choices.Row.{Row}
use Rattle.dsr_bound_laws.specs.Bounds.{binding_cost, constraint_cost, total}
use Rattle.dsr_bound_laws.specs.Remaining.{higher_cost}
use Rattle.dsr_meaning.proofs.Items.{in_left, in_right}

-- what the constraints of this level cost
abbrev pub level_cost : ℕ → ℕ → List Row → List Constraint → ℕ
level_cost m level (row ∷ rows) (c ∷ constraints) =
    (if nat_eq row.level level then constraint_cost m c else 0) + level_cost m level rows constraints
level_cost m level _ _ = 0

when_less : (a b x : ℕ) → a < b → (if nat_lt a b then x else 0) ≡ x
when_less a b x less = grind (arith, nat_tests, less)

when_same : (a b x : ℕ) → a ≡ b → (if nat_eq a b then x else 0) ≡ x
when_same a b x same = grind (arith, nat_tests, same)

-- one constraint counts once, on its level or above it
once : (level own x : ℕ) → (if nat_eq own level then x else 0) + (if nat_lt level own then x else 0) ≤ x
once level own x = grind (arith, nat_tests)

above : (level higher own x : ℕ) → level < higher → (if nat_eq own higher then x else 0) + (if nat_lt higher own then x else 0) ≤ (if nat_lt level own then x else 0)
above level higher own x less = grind (arith, nat_tests, less)

-- a level and those above it cost no more than all
pub within_all : (m level : ℕ) (rows : List Row) (cs : List Constraint) → level_cost m level rows cs + higher_cost m level rows cs ≤ total (constraint_cost m) cs
within_all m level [] cs = omega arith
within_all m level (row ∷ rows) [] = omega arith
within_all m level (row ∷ rows) (c ∷ cs) =
    let rest = within_all m level rows cs in
    let here = once level row.level (constraint_cost m c) in
    omega (arith, rest, here)

-- nor than those above a lower one
pub within_higher : (m level higher : ℕ) (rows : List Row) (cs : List Constraint) → level < higher → level_cost m higher rows cs + higher_cost m higher rows cs ≤ higher_cost m level rows cs
within_higher m level higher [] cs less = omega arith
within_higher m level higher (row ∷ rows) [] less = omega arith
within_higher m level higher (row ∷ rows) (c ∷ cs) less =
    let rest = within_higher m level higher rows cs less in
    let here = above level higher row.level (constraint_cost m c) less in
    omega (arith, rest, here)

-- ---- bindings of a level

-- a list that has all bindings, of at most m
pub record FewBindings (is_fact : Fact → Type 0) (m : ℕ) (quant : Quant) : Type 0 where
  pub bindings : List Binding
  pub few : length bindings ≤ m
  pub all : (b : Binding) → IsBinding is_fact quant b → IsIn b bindings

-- all bindings of the constraints of a level, of which the first has the number k
pub record LevelBindings (is_fact : Fact → Type 0) (cost : ℕ → ℕ) (m level k : ℕ) (rows : List Row) (cs : List Constraint) : Type 0 where
  pub all : List BoundConstraint
  pub cheap : total (λ w. cost w.constraint) all ≤ level_cost m level rows cs
  pub have :
      (j : ℕ) (c : Constraint) (row : Row) (b : Binding) → slice_get cs j ≡ Some c → slice_get rows j ≡ Some row
      → row.level ≡ level → IsBinding is_fact c.quant b → IsIn {A = BoundConstraint} (record { constraint = k + j; binding = b }) all

total_both : {A : Type 0} (f : A → ℕ) (xs ys : List A) → total f (xs ++ ys) ≡ total f xs + total f ys
total_both f [] ys = omega arith
total_both f (x ∷ xs) ys = let rest = total_both f xs ys in omega (arith, rest)

-- bindings with a number cost as much as there are
total_with : (cost : ℕ → ℕ) (k x : ℕ) (bs : List Binding) → cost k ≡ x → total (λ (w : BoundConstraint). cost w.constraint) (map (λ b. record { constraint = k; binding = b }) bs) ≡ length bs * x
total_with cost k x [] is = omega arith
total_with cost k x (b ∷ bs) is =
    let rest = total_with cost k x bs is in
    let more = suc-mul (length bs) x in
    omega (arith, rest, is, more)

in_with : (k : ℕ) (b : Binding) (bs : List Binding) → IsIn b bs → IsIn {A = BoundConstraint} (record { constraint = k; binding = b }) (map (λ b. record { constraint = k; binding = b }) bs)
in_with k b [] i = absurd i
in_with k b (c ∷ bs) (inl e) = inl (λ t. record { constraint = k; binding = e t })
in_with k b (c ∷ bs) (inr i) = inr (in_with k b bs i)

module _ (is_fact : Fact → Type 0) (m level : ℕ) where
  -- the number of a later constraint, counted from the next one
  abbrev IsAt : (ℕ → ℕ) → ℕ → ℕ → Constraint → Type 0
  IsAt cost k j c = FewBindings is_fact m c.quant × (cost (k + j) ≡ binding_cost m c)

  pub level_bindings :
      (cost : ℕ → ℕ) (k : ℕ) (rows : List Row) (cs : List Constraint)
      → ((j : ℕ) (c : Constraint) → slice_get cs j ≡ Some c → IsAt cost k j c)
      → LevelBindings is_fact cost m level k rows cs
  level_bindings cost k [] cs few = record { all = []; cheap = omega arith; have = λ j c row b is at same binding. absurd cc }
  level_bindings cost k (row ∷ rows) [] few = record { all = []; cheap = omega arith; have = λ j c row b is at same binding. absurd cc }
  level_bindings cost k (row ∷ rows) (c ∷ cs) few =
      let here = few 0 c refl in
      let at_here : cost k ≡ binding_cost m c = ap cost (omega arith) ∙ here.1 in
      let rest = level_bindings cost (suc k) rows cs (λ j d is. let next : suc k + j ≡ k + suc j = omega arith in ((few (suc j) d is).0, ap cost next ∙ (few (suc j) d is).1)) in
      elim (nat_eq row.level level) as (λ t. nat_eq row.level level ≡ t → LevelBindings is_fact cost m level k (row ∷ rows) (c ∷ cs)) [
        | true ↦ λ e.
            let same : row.level ≡ level = grind (arith, nat_tests) in
            let cheap = rest.cheap in
            let mine = total_with cost k (binding_cost m c) here.0.bindings at_here in
            let both = total_both (λ (w : BoundConstraint). cost w.constraint) (map (λ b. record { constraint = k; binding = b }) here.0.bindings) rest.all in
            let few_here = mul-le-mul_right (binding_cost m c) here.0.few in
            let counted = when_same row.level level (constraint_cost m c) same in
            record {
              all = map (λ b. record { constraint = k; binding = b }) here.0.bindings ++ rest.all;
              cheap = omega (arith, cheap, mine, both, few_here, counted);
              have = later k (map (λ b. record { constraint = k; binding = b }) here.0.bindings) rest.all c row rows cs (λ b _ binding. in_with k b here.0.bindings (here.0.all b binding)) rest.have;
            }
        | false ↦ λ e. record {
          all = rest.all;
          cheap = let cheap = rest.cheap in omega (arith, cheap);
          have = later k [] rest.all c row rows cs (λ b at_level binding. absurd (let wrong : nat_eq row.level level ≡ true = grind (arith, nat_tests) in let both : false ≡ true = sym e ∙ wrong in cc)) rest.have;
        }
      ] refl where
        later :
            (k : ℕ) (first all : List BoundConstraint) (c : Constraint) (row : Row) (rows : List Row) (cs : List Constraint)
            → ((b : Binding) → row.level ≡ level → IsBinding is_fact c.quant b → IsIn {A = BoundConstraint} (record { constraint = k; binding = b }) first)
            → ((j : ℕ) (d : Constraint) (r : Row) (b : Binding) → slice_get cs j ≡ Some d → slice_get rows j ≡ Some r → r.level ≡ level → IsBinding is_fact d.quant b → IsIn {A = BoundConstraint} (record { constraint = suc k + j; binding = b }) all)
            → (j : ℕ) (d : Constraint) (r : Row) (b : Binding) → slice_get (c ∷ cs) j ≡ Some d → slice_get (row ∷ rows) j ≡ Some r → r.level ≡ level → IsBinding is_fact d.quant b → IsIn {A = BoundConstraint} (record { constraint = k + j; binding = b }) (first ++ all)
        later k first all c row rows cs now then_ zero d r b is at at_level binding =
            let same : c ≡ d = cc in
            let row_same : row ≡ r = cc in
            let level_is : row.level ≡ level = ap (λ (x : Row). x.level) row_same ∙ at_level in
            let none : k ≡ k + 0 = omega arith in
            in_left (record { constraint = k + 0; binding = b }) first all
            (subst (λ n. IsIn {A = BoundConstraint} (record { constraint = n; binding = b }) first) none (now b level_is (subst (λ (x : Constraint). IsBinding is_fact x.quant b) (sym same) binding)))
        later k first all c row rows cs now then_ (suc j) d r b is at at_level binding =
            let next : suc k + j ≡ k + suc j = omega arith in
            in_right (record { constraint = k + suc j; binding = b }) first all
            (subst (λ n. IsIn {A = BoundConstraint} (record { constraint = n; binding = b }) all) next (then_ j d r b is at at_level binding))
