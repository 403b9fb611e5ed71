-- A stuck set leaves no plan: no member stands on the highest level of the members.
use Rattle.std.proofs.Common.{◌≡◌, ◌<◌, ◌+◌, ℕ, zero, suc, true, false, nat_eq, List, [], ◌∷◌, Some, slice_get, refl, sym, ap, ◌∙◌, arith}
use Rattle.std.specs.Prelude.{option_and_then}
use Rattle.std.proofs.lemmas.Bool.Decides.{nat_tests}
use Rattle.dsr_ir.specs.declared.constraints.Constraint.{Constraint}
use Rattle.dsr_ir.specs.declared.constraints.Literal.{Literal}
use Rattle.dsr_ir.specs.declared.declarations.Spec.{Spec}
use Rattle.dsr_plan_theory.specs.Plans.{Covers, IsPlan, IsRowOf, IsTested, IsWayFor, owner_at, way_at}
use Rattle.dsr_plan_theory.specs.Stuck.{IsHeld, IsStuck, MustTest, relied, uncovered}
use Rattle.dsr_plan_theory.specs.declared.choices.Choice.{Choice}
use Rattle.dsr_plan_theory.specs.declared.choices.Row.{Row}
use Rattle.dsr_plan_theory.specs.declared.choices.Way.{Way}
use Rattle.dsr_plan_theory.specs.declared.choices.Way.TheVariants.{Test, By}
use Rattle.dsr_meaning.proofs.Items.{item_there}

-- a number above all levels
above : List Row → ℕ
above [] = 0
above (row ∷ rows) = row.level + 1 + above rows

level_below : (rows : List Row) (n : ℕ) (row : Row) → slice_get rows n ≡ Some row → row.level < above rows
unfolding above
level_below [] n row is = absurd cc
level_below (r ∷ rows) zero row is = let same : r ≡ row = cc in let levels = ap (λ x. x.level) same in omega (arith, levels)
level_below (r ∷ rows) (suc n) row is = let less = level_below rows n row is in omega (arith, less)

module _ (spec : Spec) (Member : ℕ → Type 0) (choice : Choice) (stuck : IsStuck spec Member) (plan : IsPlan spec choice) where
  -- a member with its row
  row_of : (n : ℕ) → Member n → (constraint : Constraint) × (row : Row) × IsRowOf spec choice n constraint row
  row_of n member =
      let less = stuck.declared n member in
      let many = plan.as_many in
      let c = item_there spec.constraints n less in
      let r = item_there choice.rows n (omega (arith, less, many)) in
      (c.0, r.0, record { constraint_is = c.1; row_is = r.1 })

  -- all members stand below the level
  AllBelow : ℕ → Type 0
  AllBelow k = (n : ℕ) (constraint : Constraint) (row : Row) → Member n → IsRowOf spec choice n constraint row → row.level < k

  module _ (k : ℕ) (below : (n : ℕ) (constraint : Constraint) (row : Row) → Member n → IsRowOf spec choice n constraint row → row.level < suc k) (n : ℕ) (constraint : Constraint) (row : Row) (here : IsRowOf spec choice n constraint row) (level_is : row.level ≡ k) where
    -- a literal that has to be tested is tested, since its template would break a member on a level that is too high
    tested : (conj literal : ℕ) (its : Literal) → slice_get constraint.conjs conj ≡ slice_get constraint.conjs conj → (way : Way) → way_at row conj literal ≡ Some way → IsWayFor (owner_at spec n constraint) conj literal its way
        → (option_and_then (λ c. slice_get c.literals literal) (slice_get constraint.conjs conj) ≡ Some its) → MustTest (owner_at spec n constraint) Member conj literal → IsTested row conj literal
    tested conj literal its same Test way_is fits literal_is must = way_is
    tested conj literal its same (By number template) way_is fits literal_is must =
        absurd (must (record {
          its = its;
          literal_is = literal_is;
          number = number;
          template = template;
          may = fits;
          spares = λ m other reason member there breaks.
              let r = row_of m member in
              let both : Some other ≡ Some r.0 = sym there ∙ r.2.constraint_is in
              let other_is : other ≡ r.0 = cc in
              let higher = plan.breaks n m constraint other row r.1 conj literal template reason here (record { constraint_is = there; row_is = r.2.row_is }) (record { number = number; way_is = way_is }) breaks in
              let lower = below m r.0 r.1 member r.2 in
              absurd (omega (arith, higher, lower, level_is));
        }))

    covered : Covers constraint (MustTest (owner_at spec n constraint) Member)
    covered truth =
        let passes = plan.covers n constraint row here truth in
        record {
          number = passes.number;
          conj = passes.conj;
          conj_is = passes.conj_is;
          passes = λ l literal literal_is must.
              let its : option_and_then (λ c. slice_get c.literals l) (slice_get constraint.conjs passes.number) ≡ Some literal = ap (option_and_then (λ c. slice_get c.literals l)) passes.conj_is ∙ literal_is in
              let way = (plan.ways n constraint row here).ways passes.number l literal its in
              passes.passes l literal literal_is (tested passes.number l literal refl way.0 way.1 way.2 its must);
        }

    not_there : IsHeld spec Member n constraint → ⊥
    not_there (relied m member relies) =
        let r = row_of m member in
        let higher = plan.relies m n r.0 constraint r.1 row r.2 here relies in
        let lower = below m r.0 r.1 member r.2 in
        absurd (omega (arith, higher, lower, level_is))
    not_there (uncovered fails) = fails covered

  step : (k : ℕ) → AllBelow (suc k) → AllBelow k
  unfolding AllBelow
  step k below n constraint row member here =
      let less = below n constraint row member here in
      elim (nat_eq row.level k) as (λ t. nat_eq row.level k ≡ t → row.level < k) [
        | true ↦ λ e.
            let level_is : row.level ≡ k = grind (arith, nat_tests) in
            absurd (not_there k below n constraint row here level_is (stuck.held n constraint member here.constraint_is))
        | false ↦ λ e. grind (arith, nat_tests)
      ] refl

  descent : (k : ℕ) → AllBelow k → AllBelow 0
  descent zero below = below
  descent (suc k) below = descent k (step k below)

  pub no_member : (n : ℕ) → Member n → ⊥
  unfolding AllBelow
  no_member n member =
      let r = row_of n member in
      let less = descent (above choice.rows) (λ m constraint row _ here. level_below choice.rows m row here.row_is) n r.0 r.1 member r.2 in
      absurd (omega (arith, less))
