-- The template that is taken for a literal, and taken ways where members are told in another way.
use Rattle.std.proofs.Common.{◌≡◌, ◌≤◌, ◌+◌, ◌-◌, ◌∙◌, ℕ, Bool, List, Option, Some, None, IsTrue, length, map, slice_get, sym, ap, subst, arith}
use Rattle.std.proofs.lemmas.Option.{slice_get_within, same_Some}
use Rattle.dsr_graph_theory.specs.Breaks.{Falsifies}
use Rattle.dsr_graph.proofs.Found.{ways_listed, ways_only}
use Rattle.dsr_graph.specs.Graphs.{IsOwnerIn, ways_of}
use Rattle.dsr_graph.specs.declared.graphs.Graph.{Graph}
use Rattle.dsr_ir.specs.declared.constraints.Literal.{Literal}
use Rattle.dsr_ir.specs.declared.updates.Template.{Template}
use Rattle.dsr_graph_theory.specs.Owners.{Owner}
use Rattle.dsr_placement.specs.Placing.{IsLeft, IsUsableWay, IsWayAt}
use Rattle.dsr_graph.specs.declared.asking.Position.{Position}
use Rattle.dsr_plan_theory.proofs.Grown.{test_more}
use Rattle.dsr_plan_theory.specs.Plans.{MayRepair, owner_at}
use Rattle.dsr_plan_theory.specs.Stuck.{SparesMembers}
use Rattle.dsr_plan_theory.specs.Taken.{IsFirstFor, IsTakenWay}
use Rattle.dsr_plan_theory.specs.declared.choices.Row.{Row}
use Rattle.dsr_plan_theory.specs.declared.choices.Way.{Way}
use Rattle.dsr_plan_theory.specs.declared.choices.Way.TheVariants.{Test, By}
use Rattle.dsr_removal.proofs.Staying.{left_told}
use Rattle.dsr_removal.specs.Rounds.{IsLeftAt, IsPlacedIn, is_late}
use Rattle.dsr_removal.specs.Taking.{AreTakenWays, IsRowAt}

module _ (graph : Graph) (at : Position) (owner : Owner) (in_graph : IsOwnerIn graph at.constraint owner) (Member : ℕ → Type 0) (literal : Literal) where
  usable_at : (number : ℕ) (template : Template) → MayRepair owner at.conj at.literal literal number template → SparesMembers owner Member template → IsUsableWay graph owner Member at (number - 1)
  usable_at number template may spares =
      let same = ways_only graph at.constraint owner in_graph at.conj at.literal may.listed.templates may.listed.listed in
      record {
        template = template;
        is_way = record { owner_in = in_graph; template_is = sym (ap (λ ts. slice_get ts (number - 1)) same) ∙ may.listed.template_is };
        usable = record { falsifies_none = may.falsifies_none; spares = spares };
      }

  pub first_for : (way number : ℕ) (template : Template) → IsWayAt graph owner Member at literal way → number ≡ way + 1 → slice_get (ways_of graph at.constraint at.conj at.literal) way ≡ Some template → IsFirstFor owner Member at.conj at.literal literal number template
  first_for way number template its number_is there =
      let usable = its.first.usable in
      let same : usable.template ≡ template = same_Some usable.template template (sym usable.is_way.template_is ∙ there) in
      let place : number - 1 ≡ way = omega (arith, number_is) in
      record {
        may = record {
          free = its.free;
          listed = record {
            templates = ways_of graph at.constraint at.conj at.literal;
            listed = ways_listed graph at.constraint owner in_graph at.conj at.literal;
            from_one = omega (arith, number_is);
            template_is = ap (slice_get (ways_of graph at.constraint at.conj at.literal)) place ∙ there;
          };
          falsifies_none = subst (λ t. Falsifies owner at.conj at.literal t None) same usable.usable.falsifies_none;
        };
        spares = subst (SparesMembers owner Member) same usable.usable.spares;
        none_before = λ before other less may spares.
            let one = may.listed.from_one in
            its.first.none_before (before - 1) (omega (arith, one, less, number_is)) (usable_at before other may spares);
      }

  pub no_such : (way : ℕ) → IsWayAt graph owner Member at literal way → length (ways_of graph at.constraint at.conj at.literal) ≤ way → ⊥
  no_such way its past =
      let below = slice_get_within (ways_of graph at.constraint at.conj at.literal) way its.first.usable.template its.first.usable.is_way.template_is in
      omega (arith, below, past)

-- ways by members that are told in another way
module _ (M N : ℕ → Type 0) (to : (n : ℕ) → M n → N n) (back : (n : ℕ) → N n → M n) where
  pub taken_same : (owner : Owner) (conj literal : ℕ) (its : Literal) (way : Way) → IsTakenWay owner M conj literal its way → IsTakenWay owner N conj literal its way
  taken_same owner conj literal its Test must = test_more M N to owner conj literal must
  taken_same owner conj literal its (By number template) first = record {
    may = first.may;
    spares = λ n other reason member. first.spares n other reason (back n member);
    none_before = λ before other less may spares. first.none_before before other less may (λ n c reason member. spares n c reason (to n member));
  }

  pub ways_same : (owner : Owner) (rows : List (List Way)) → AreTakenWays owner M rows → AreTakenWays owner N rows
  ways_same owner rows its = record {
    as_many = its.as_many;
    are = λ n conj ways conj_is ways_is.
        let taken = its.are n conj ways conj_is ways_is in
        record {
          as_many = taken.as_many;
          are = λ k literal way literal_is way_is. taken_same owner n k literal way (taken.are k literal way literal_is way_is);
        };
  }

pub row_by : (owner : Owner) (number : ℕ) → owner.number ≡ number → (rounds : List (Option ℕ)) (count round : ℕ) (marks : List Bool) → marks ≡ map (is_late round) rounds → (row : Row) → row.level + round + 1 ≡ count → IsPlacedIn rounds round number → AreTakenWays owner (IsLeft marks) row.ways → IsRowAt owner.spec rounds count number owner.constraint row
row_by owner number number_is rounds count round marks marks_are row level_is placed ways =
    let told = left_told marks rounds round marks_are in
    let its = ways_same (IsLeft marks) (IsLeftAt rounds round) (λ n. subst IsTrue (told n)) (λ n. subst IsTrue (sym (told n))) owner row.ways ways in
    record {
      round = round;
      placed = placed;
      level_is = level_is;
      ways = subst (λ k. AreTakenWays (owner_at owner.spec k owner.constraint) (IsLeftAt rounds round) row.ways) number_is its;
    }
