-- A literal has few listed templates, and what can be repaired is one of them.
use Rattle.std.proofs.Common.{◌≡◌, ◌≤◌, ◌+◌, ◌-◌, ℕ, true, false, List, [], Option, None, Some, MatchOption, length, slice_get, refl, sym, ap, subst, ◌∙◌, arith}
use Rattle.std.proofs.lemmas.Bool.{false≢true}
use Rattle.dsr_graph.proofs.Found.{ways_listed, ways_only}
use Rattle.dsr_graph.specs.Graphs.{IsOwnerIn, ways_of}
use Rattle.dsr_graph.specs.declared.graphs.Graph.{Graph}
use Rattle.dsr_ir.specs.declared.constraints.Literal.{Literal}
use Rattle.dsr_graph_theory.proofs.FirstKept.{few_listed}
use Rattle.dsr_graph_theory.specs.Owners.{Owner}
use Rattle.dsr_placement.specs.Placing.{HasUsable, IsFirstUsable, IsUsableWay, IsWayAt}
use Rattle.dsr_graph.specs.declared.asking.Position.{Position}
use Rattle.dsr_plan_theory.specs.Stuck.{CanRepair, MustTest}
use Rattle.dsr_update_theory.specs.Templates.{literal_at}

pub few_ways : (graph : Graph) (number : ℕ) (owner : Owner) → IsOwnerIn graph number owner → (conj place : ℕ) → length (ways_of graph number conj place) ≤ 64
few_ways graph number owner in_graph conj place = few_listed owner conj place (ways_of graph number conj place) (ways_listed graph number owner in_graph conj place)

module _ (graph : Graph) (at : Position) (owner : Owner) (in_graph : IsOwnerIn graph at.constraint owner) (Member : ℕ → Type 0) (literal : Literal) (literal_is : literal_at owner.constraint at.conj at.literal ≡ Some literal) where
  -- what can be repaired has a usable template
  usable_of : CanRepair owner Member at.conj at.literal → HasUsable graph owner Member at
  usable_of can =
      let same = ways_only graph at.constraint owner in_graph at.conj at.literal can.may.listed.templates can.may.listed.listed in (
        can.number - 1,
        record {
          template = can.template;
          is_way = record { owner_in = in_graph; template_is = sym (ap (λ ts. slice_get ts (can.number - 1)) same) ∙ can.may.listed.template_is };
          usable = record { falsifies_none = can.may.falsifies_none; spares = can.spares };
        },
      )

  -- and with a usable template, a literal that isn't `given` can be repaired
  pub repair_of : (way : ℕ) → literal.given ≡ false → IsUsableWay graph owner Member at way → CanRepair owner Member at.conj at.literal
  repair_of way free its = record {
    its = literal;
    literal_is = literal_is;
    number = way + 1;
    template = its.template;
    may = record {
      free = free;
      listed = record {
        templates = ways_of graph at.constraint at.conj at.literal;
        listed = ways_listed graph at.constraint owner in_graph at.conj at.literal;
        from_one = omega arith;
        template_is = let same : way + 1 - 1 ≡ way = omega arith in ap (slice_get (ways_of graph at.constraint at.conj at.literal)) same ∙ its.is_way.template_is;
      };
      falsifies_none = its.usable.falsifies_none;
    };
    spares = its.usable.spares;
  }

  pub given_tests : literal.given ≡ true → MustTest owner Member at.conj at.literal
  given_tests given can =
      let both : Some can.its ≡ Some literal = sym can.literal_is ∙ literal_is in
      let same : can.its ≡ literal = cc in
      false≢true (sym can.may.free ∙ (ap (λ l. l.given) same ∙ given))

  pub way_if : (r : Option ℕ) → literal.given ≡ false → MatchOption r (HasUsable graph owner Member at → ⊥) (IsFirstUsable graph owner Member at) → MatchOption r (MustTest owner Member at.conj at.literal) (IsWayAt graph owner Member at literal)
  way_if None free none = λ can. none (usable_of can)
  way_if (Some way) free first = record { free = free; first = first }
