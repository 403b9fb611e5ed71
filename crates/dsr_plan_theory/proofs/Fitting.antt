-- Each list of a row has as many ways as its conjunction has literals.
use Rattle.std.proofs.Common.{◌≡◌, ◌<◌, ◌∙◌, ℕ, true, false, nat_lt, List, None, Some, length, slice_get, refl, sym, ap, arith}
use Rattle.std.specs.Prelude.{option_and_then}
use Rattle.std.proofs.lemmas.Bool.Decides.{nat_tests}
use Rattle.std.proofs.lemmas.Option.{slice_get_past}
use Rattle.dsr_ir.specs.declared.constraints.Conj.{Conj}
use Rattle.dsr_graph_theory.specs.Owners.{Owner}
use Rattle.dsr_plan_theory.specs.Plans.{AreWaysFor, way_at}
use Rattle.dsr_plan_theory.specs.declared.choices.Row.{Row}
use Rattle.dsr_plan_theory.specs.declared.choices.Way.{Way}
use Rattle.dsr_update_theory.specs.Templates.{literal_at}
use Rattle.dsr_meaning.proofs.Items.{item_there}

module _ (owner : Owner) (row : Row) (its : AreWaysFor owner row) (k : ℕ) (conj : Conj) (ways : List Way) (conj_is : slice_get owner.constraint.conjs k ≡ Some conj) (ways_are : slice_get row.ways k ≡ Some ways) where
  way_is : (n : ℕ) → way_at row k n ≡ slice_get ways n
  way_is n = ap (option_and_then (λ ws. slice_get ws n)) ways_are

  literal_is : (n : ℕ) → literal_at owner.constraint k n ≡ slice_get conj.literals n
  literal_is n = ap (option_and_then (λ c. slice_get c.literals n)) conj_is

  not_fewer : length ways < length conj.literals → ⊥
  not_fewer less =
      let literal = item_there conj.literals (length ways) less in
      let way = its.ways k (length ways) literal.0 (literal_is (length ways) ∙ literal.1) in
      let both = sym way.1 ∙ (way_is (length ways) ∙ slice_get_past ways (length ways) (omega arith)) in
      absurd cc

  not_more : length conj.literals < length ways → ⊥
  not_more less =
      let way = item_there ways (length conj.literals) less in
      let none = its.no_more k (length conj.literals) (literal_is (length conj.literals) ∙ slice_get_past conj.literals (length conj.literals) (omega arith)) in
      let both = sym way.1 ∙ (sym (way_is (length conj.literals)) ∙ none) in
      absurd cc

  pub ways_many : length ways ≡ length conj.literals
  ways_many = elim (nat_lt (length ways) (length conj.literals)) as (λ b. nat_lt (length ways) (length conj.literals) ≡ b → length ways ≡ length conj.literals) [
    | true ↦ λ e. absurd (not_fewer (grind (arith, nat_tests)))
    | false ↦ λ e. elim (nat_lt (length conj.literals) (length ways)) as (λ b. nat_lt (length conj.literals) (length ways) ≡ b → length ways ≡ length conj.literals) [
      | true ↦ λ f. absurd (not_more (grind (arith, nat_tests)))
      | false ↦ λ f. grind (arith, nat_tests)
    ] refl
  ] refl
