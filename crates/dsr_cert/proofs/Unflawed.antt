-- A choice that fits and has no flaw is a plan.
use Rattle.std.proofs.Common.{◌≡◌, ◌<◌, ◌-◌, ℕ, true, false, nat_lt, List, [], ◌∷◌, Option, None, Some, length, slice_get, refl, sym, ap, ◌∙◌, arith}
use Rattle.std.specs.Prelude.{option_and_then}
use Rattle.std.proofs.lemmas.Bool.Decides.{nat_tests}
use Rattle.std.proofs.lemmas.Option.{slice_get_within}
use Rattle.dsr_graph_theory.specs.Breaks.{Falsifies}
use Rattle.dsr_cert.proofs.Stable.{covers_stable}
use Rattle.dsr_cert.proofs.Taken.{listed_way, way_of}
use Rattle.dsr_cert.specs.Certificates.{Fits, FitsRow}
use Rattle.dsr_cert.specs.Flaws.{Uncovered, Falsifying, Breaking, Relying, HasNoFlaw, HasWay}
use Rattle.dsr_cert.specs.Searches.{NoneUnder}
use Rattle.dsr_graph.proofs.Paired.{beyond_item, item_beyond, paired_beyond, paired_got}
use Rattle.dsr_graph.proofs.Telling.{falsifies_told}
use Rattle.dsr_graph.specs.Graphs.{IsGraphOf, falsified_in}
use Rattle.dsr_graph.specs.declared.graphs.Graph.{Graph}
use Rattle.dsr_ir.specs.declared.constraints.Conj.{Conj}
use Rattle.dsr_ir.specs.declared.constraints.Constraint.{Constraint}
use Rattle.dsr_ir.specs.declared.constraints.Literal.{Literal}
use Rattle.dsr_ir.specs.declared.declarations.Spec.{Spec}
use Rattle.dsr_ir.specs.declared.updates.Template.{Template}
use Rattle.dsr_placement.proofs.Marks.{parts_of}
use Rattle.dsr_plan_theory.specs.Plans.{AreWaysFor, IsPlan, IsRowOf, IsWayFor, MayRepair, owner_at, way_at}
use Rattle.dsr_plan_theory.specs.declared.choices.Choice.{Choice}
use Rattle.dsr_plan_theory.specs.declared.choices.Row.{Row}
use Rattle.dsr_plan_theory.specs.declared.choices.Way.{Way}
use Rattle.dsr_plan_theory.specs.declared.choices.Way.TheVariants.{Test, By}
use Rattle.dsr_update_theory.specs.Templates.{literal_at}
use Rattle.dsr_meaning.proofs.Items.{item_there}

-- ---- a row that fits

abbrev Fit : ℕ → Conj → List Way → Type 0
Fit conj its ways = length ways ≡ length its.literals

module _ (constraint : Constraint) (row : Row) (fits : FitsRow constraint row) (conj literal : ℕ) where
  way_there : (its : Literal) → literal_at constraint conj literal ≡ Some its → (way : Way) × (way_at row conj literal ≡ Some way)
  way_there its is =
      let parts = parts_of constraint conj literal its is in
      let ways = paired_got Fit constraint.conjs row.ways conj parts.0 fits parts.1 in
      let less = slice_get_within parts.0.literals literal its parts.2 in
      let many = ways.2 in
      let way = item_there ways.0 literal (omega (arith, less, many)) in
      (way.0, ap (option_and_then (λ ws. slice_get ws literal)) ways.1 ∙ way.1)

  no_way : literal_at constraint conj literal ≡ None → way_at row conj literal ≡ None
  no_way none = by (slice_get constraint.conjs conj) refl where
    by : (o : Option Conj) → slice_get constraint.conjs conj ≡ o → way_at row conj literal ≡ None
    by None is = ap (option_and_then (λ ws. slice_get ws literal)) (paired_beyond Fit constraint.conjs row.ways conj fits is)
    by (Some its) is =
        let ways = paired_got Fit constraint.conjs row.ways conj its fits is in
        let past = beyond_item its.literals literal (sym (ap (option_and_then (λ c. slice_get c.literals literal)) is) ∙ none) in
        let many = ways.2 in
        ap (option_and_then (λ ws. slice_get ws literal)) ways.1 ∙ item_beyond ways.0 literal (omega (arith, past, many))

  literal_there : (way : Way) → way_at row conj literal ≡ Some way → (its : Literal) × (literal_at constraint conj literal ≡ Some its)
  literal_there way is = by (literal_at constraint conj literal) refl where
    by : (o : Option Literal) → literal_at constraint conj literal ≡ o → (its : Literal) × (literal_at constraint conj literal ≡ Some its)
    by None none = let both = sym (no_way none) ∙ is in absurd cc
    by (Some its) there = (its, there)

-- ---- the plan

module _ (spec : Spec) (choice : Choice) (fits : Fits spec choice) (graph : Graph) (graph_is : IsGraphOf spec graph) (none : HasNoFlaw spec choice) where
  module _ (n : ℕ) (constraint : Constraint) (row : Row) (row_of : IsRowOf spec choice n constraint row) where
    row_fits : FitsRow constraint row
    row_fits = fits.are n constraint row row_of.constraint_is row_of.row_is

    module _ (conj literal : ℕ) (its : Literal) (literal_is : literal_at constraint conj literal ≡ Some its) (number : ℕ) (template : Template) (way_is : way_at row conj literal ≡ Some (By number template)) where
      abbrev its_way : HasWay spec choice n conj literal
      its_way = record {
        constraint = constraint;
        row = row;
        row_of = row_of;
        its = its;
        literal_is = literal_is;
        number = number;
        template = template;
        way_is = way_is;
      }

      none_unlisted : NoneUnder spec choice (1 ∷ [])
      none_unlisted flaw found = none flaw found.is

      spared : (falsified : Option ℕ) → Falsifies (owner_at spec n constraint) conj literal template falsified → Falsifies (owner_at spec n constraint) conj literal template None
      spared None told = told
      spared (Some m) told = absurd (none (Falsifying n conj literal) (record { way = its_way; falsified = m; falsifies = told }))

      repaired : MayRepair (owner_at spec n constraint) conj literal its number template
      repaired =
          let named = listed_way spec choice n conj literal graph graph_is none_unlisted its_way in
          let way = way_of spec choice n conj literal graph graph_is none_unlisted its_way in
          record {
            free = named.free;
            listed = named.listed;
            falsifies_none = spared (falsified_in graph n conj literal (number - 1)) (falsifies_told graph n (owner_at spec n constraint) way.owner_in conj literal (number - 1) template way.template_is);
          }

    is_way : (conj literal : ℕ) (its : Literal) → literal_at constraint conj literal ≡ Some its → (way : Way) → way_at row conj literal ≡ Some way → IsWayFor (owner_at spec n constraint) conj literal its way
    is_way conj literal its literal_is Test way_is = tt
    is_way conj literal its literal_is (By number template) way_is = repaired conj literal its literal_is number template way_is

    are_ways : AreWaysFor (owner_at spec n constraint) row
    are_ways = record {
      as_many = row_fits.as_many;
      ways = λ conj literal its literal_is.
          let w = way_there constraint row row_fits conj literal its literal_is in
          (w.0, w.1, is_way conj literal its literal_is w.0 w.1);
      no_more = λ conj literal nothing. no_way constraint row row_fits conj literal nothing;
    }

  -- a number is less where it isn't so that it isn't
  less_stable : (a b : ℕ) → ((a < b → ⊥) → ⊥) → a < b
  less_stable a b never = elim (nat_lt a b) as (λ t. nat_lt a b ≡ t → a < b) [
    | true ↦ λ e. grind (arith, nat_tests)
    | false ↦ λ e. absurd (never (λ less. absurd (grind (arith, nat_tests))))
  ] refl

  pub plan_of : IsPlan spec choice
  plan_of = record {
    as_many = fits.as_many;
    ways = are_ways;
    covers = λ n constraint row row_of. covers_stable constraint row (λ uncovered.
        none (Uncovered n) (record { constraint = constraint; row = row; row_of = row_of; uncovered = uncovered }));
    breaks = λ n m constraint other row other_row conj literal template reason row_of other_of has breaks.
        let its = literal_there constraint row (row_fits n constraint row row_of) conj literal (By has.number template) has.way_is in
        less_stable row.level other_row.level (λ not_higher. none (Breaking n conj literal m) (record {
          way = its_way n constraint row row_of conj literal its.0 its.1 has.number template has.way_is;
          other = other;
          other_row = other_row;
          other_of = other_of;
          reason = reason;
          breaks = breaks;
          not_higher = not_higher;
        }));
    relies = λ n on constraint other row other_row row_of other_of relies.
        less_stable other_row.level row.level (λ not_lower. none (Relying n on) (record {
          constraint = constraint;
          row = row;
          row_of = row_of;
          other = other;
          other_row = other_row;
          other_of = other_of;
          relies = relies;
          not_lower = not_lower;
        }));
  }
