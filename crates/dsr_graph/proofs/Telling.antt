-- What the graph tells of a template is so.
use Rattle.std.proofs.Common.{◌≡◌, ◌<◌, ◌+◌, ◌↔◌, ℕ, zero, suc, Bool, false, IsTrue, List, [], ◌∷◌, Option, None, Some, slice_get, slice_index_or, refl, sym, ap, subst, ◌∙◌, arith}
use Rattle.std.specs.Prelude.{option_and_then}
use Rattle.std.specs.Option.{option_map_or}
use Rattle.std.proofs.lemmas.Bool.{false≢true}
use Rattle.dsr_graph_theory.specs.Breaks.{Breaks, Falsifies, MayFalsify, MayFalsifyOther}
use Rattle.dsr_graph_theory.specs.Causes.{atom_causes, literal_causes}
use Rattle.dsr_graph.proofs.Found.{few_kinds, found_for, got, kind_of, literal_of, no_listing, node_of, ways_if}
use Rattle.dsr_graph.proofs.Marked.{Turns, none_marked, some_marked, turns_if, turns_marked, turns_other}
use Rattle.dsr_graph.proofs.Paired.{paired_got}
use Rattle.dsr_graph.specs.Graphs.{IsNodeOf, IsOutcomeOf, IsOwnerIn, broken_in, falsified_in, first_marked, is_marked, kinds_at, kinds_in, listing_at, listing_in, outcome_in, owner_at, reason_at, reason_of, ways_of}
use Rattle.dsr_graph.specs.Kinds.{AreAlike, HasKind}
use Rattle.dsr_graph.specs.declared.graphs.Graph.{Graph}
use Rattle.dsr_graph.specs.declared.graphs.Node.{Node}
use Rattle.dsr_graph.specs.declared.listings.Outcome.{Outcome}
use Rattle.dsr_ir.specs.declared.constraints.Constraint.{Constraint}
use Rattle.dsr_ir.specs.declared.constraints.Literal.{Literal}
use Rattle.dsr_ir.specs.declared.updates.Template.{Template}
use Rattle.dsr_graph_theory.specs.Owners.{Owner}
use Rattle.dsr_meaning.specs.Counting.{IsIn}
use Rattle.dsr_update_theory.specs.Templates.{literal_at}

alike_causes : (a b : Literal) → AreAlike a b → literal_causes a ≡ literal_causes b
alike_causes a b alike = ap (λ n. atom_causes n a.atom) alike.negated ∙ ap (atom_causes b.negated) alike.atom

falsify_alike : (owner : Owner) (template : Template) (a b : Literal) → AreAlike a b → MayFalsify owner template a → MayFalsify owner template b
falsify_alike owner template a b alike may = record {
  cause = may.cause;
  among = subst (IsIn may.cause) (alike_causes a b alike) may.among;
  happens = may.happens;
}

from_zero : (n : ℕ) → 0 + n ≡ n
from_zero n = omega arith

index_is : (xs : List Bool) (k : ℕ) (mark : Bool) → slice_get xs k ≡ Some mark → slice_index_or xs k false ≡ mark
index_is [] k mark is = absurd cc
index_is (x ∷ xs) zero mark is = cc
index_is (x ∷ xs) (suc k) mark is = index_is xs k mark is

module _ (graph : Graph) (number : ℕ) (owner : Owner) (in_graph : IsOwnerIn graph number owner) (conj place way : ℕ) (template : Template) (template_is : slice_get (ways_of graph number conj place) way ≡ Some template) where
  -- what may come of the template, as it is kept
  record IsOutcomeFor (node : Node) (outcome : Outcome) : Type 0 where
    pub node_is : slice_get graph.nodes.items number ≡ Some node
    pub is_node : IsNodeOf owner node
    pub outcome_is : outcome_in graph number conj place way ≡ Some outcome
    pub its : IsOutcomeOf owner node.kinds.firsts.items template outcome

  outcome_for : (node : Node) × (outcome : Outcome) × IsOutcomeFor node outcome
  outcome_for = by (literal_at owner.constraint conj place) refl where
    by : (o : Option Literal) → literal_at owner.constraint conj place ≡ o → (node : Node) × (outcome : Outcome) × IsOutcomeFor node outcome
    by None none =
        let n = node_of graph number owner in_graph in
        let empty : ways_of graph number conj place ≡ [] = ways_if graph number owner in_graph conj place n.0 None n.1 (no_listing owner n.0 n.2 conj place none) in
        absurd (let no = sym (ap (λ ts. slice_get ts way) empty) ∙ template_is in cc)
    by (Some l) is =
        let n = node_of graph number owner in_graph in
        let found = found_for owner n.0 n.2 conj place l is in
        let ways_are = ways_if graph number owner in_graph conj place n.0 (Some found.0) n.1 found.1.listing_is in
        let o = paired_got (λ k t outcome. IsOutcomeOf owner n.0.kinds.firsts.items t outcome) found.0.templates.items found.0.outcomes.items way template found.1.its.outcomes (sym (ap (λ ts. slice_get ts way) ways_are) ∙ template_is) in
        let listing_is : listing_in graph number conj place ≡ Some found.0 = ap (option_and_then (λ x. listing_at x conj place)) n.1 ∙ found.1.listing_is in (
          n.0,
          o.0,
          record {
            node_is = n.1;
            is_node = n.2;
            outcome_is = ap (option_and_then (λ listing. slice_get listing.outcomes.items way)) listing_is ∙ o.1;
            its = o.2;
          },
        )

  pub breaks_told : (other : ℕ) (its : Constraint) → slice_get owner.spec.constraints other ≡ Some its → Breaks owner (owner_at owner.spec other its) template (broken_in graph number conj place way other)
  breaks_told other its here =
      let o = outcome_for in
      let edge = paired_got (λ n c e. Breaks owner (owner_at owner.spec n c) template (reason_of e)) owner.spec.constraints o.1.broken other its o.2.its.broken here in
      let is : broken_in graph number conj place way other ≡ reason_of edge.0 = ap (option_and_then (λ x. reason_at x other)) o.2.outcome_is ∙ ap (option_and_then reason_of) edge.1 in
      subst (Breaks owner (owner_at owner.spec other its) template) (sym is) edge.2

  falsified_is : (node : Node) (outcome : Outcome) → IsOutcomeFor node outcome → falsified_in graph number conj place way ≡ first_marked outcome place 0 (kinds_at node conj)
  falsified_is node outcome o =
      ap (option_and_then (λ x. first_marked x place 0 (kinds_in graph number conj))) o.outcome_is
      ∙ ap (first_marked outcome place 0) (ap (λ n. option_map_or (λ x. kinds_at x conj) n []) o.node_is)

  -- a literal of this kind may turn false exactly where its kind is marked
  module _ (node : Node) (outcome : Outcome) (o : IsOutcomeFor node outcome) where
    marked_if : (kind : ℕ) (l : Literal) → HasKind node.kinds.firsts.items kind l → MayFalsify owner template l → IsTrue (is_marked outcome kind)
    marked_if kind l has may =
        let f = got (λ first. AreAlike first.literal l) (slice_get node.kinds.firsts.items kind) has in
        let mark = paired_got (λ n first m. IsTrue m ↔ MayFalsify owner template first.literal) node.kinds.firsts.items outcome.falsified kind f.0 o.its.falsified f.1 in
        index_is outcome.falsified kind mark.0 mark.1 ∙ mark.2.1 (falsify_alike owner template l f.0.literal (record { atom = sym f.2.atom; negated = sym f.2.negated }) may)

    may_if : (kind : ℕ) (l : Literal) → HasKind node.kinds.firsts.items kind l → IsTrue (is_marked outcome kind) → MayFalsify owner template l
    may_if kind l has marked =
        let f = got (λ first. AreAlike first.literal l) (slice_get node.kinds.firsts.items kind) has in
        let mark = paired_got (λ n first m. IsTrue m ↔ MayFalsify owner template first.literal) node.kinds.firsts.items outcome.falsified kind f.0 o.its.falsified f.1 in
        falsify_alike owner template f.0.literal l f.2 (mark.2.0 (sym (index_is outcome.falsified kind mark.0 mark.1) ∙ marked))

    -- no other literal with a lower number may turn false where none of these turns
    none_turns : (limit : ℕ) → ((n kind : ℕ) → n < limit → slice_get (kinds_at node conj) n ≡ Some kind → Turns outcome place n kind ≡ false) → (n : ℕ) → n < limit → MayFalsifyOther owner conj place template n → ⊥
    none_turns limit none n less may =
        let k = kind_of owner node o.is_node conj n may.literal may.literal_is in
        false≢true (sym (none n k.0 less k.1) ∙ turns_if outcome place n k.0 may.other (marked_if k.0 may.literal k.2 may.may))

    told : (r : Option ℕ) → first_marked outcome place 0 (kinds_at node conj) ≡ r → Falsifies owner conj place template r
    told None none = λ n may. none_turns (suc n) (λ m kind less here. subst (λ x. Turns outcome place x kind ≡ false) (from_zero m) (none_marked outcome place (kinds_at node conj) 0 none m kind here)) n (omega arith) may
    told (Some found) is =
        let first = some_marked outcome place (kinds_at node conj) 0 found is in
        let is_there = first.found_is in
        let at : found ≡ first.n = omega (arith, is_there) in
        let l = literal_of owner node o.is_node conj first.n first.kind first.kind_is in
        record {
          may = record {
            other = turns_other outcome place found first.kind first.turns;
            literal = l.0;
            literal_is = ap (literal_at owner.constraint conj) at ∙ l.1;
            may = may_if first.kind l.0 l.2 (turns_marked outcome place found first.kind first.turns);
          };
          none_before = λ m less may. none_turns first.n (λ j kind lower here. subst (λ x. Turns outcome place x kind ≡ false) (from_zero j) (first.none_before j kind lower here)) m (omega (arith, less, at)) may;
        }

  pub falsifies_told : Falsifies owner conj place template (falsified_in graph number conj place way)
  falsifies_told =
      let o = outcome_for in
      subst (Falsifies owner conj place template) (sym (falsified_is o.0 o.1 o.2)) (told o.0 o.1 o.2 (first_marked o.1 place 0 (kinds_at o.0 conj)) refl)

-- the place of a literal that may be falsified is a small number
pub few_told : (graph : Graph) (number : ℕ) (owner : Owner) → IsOwnerIn graph number owner → (conj place way found : ℕ) → falsified_in graph number conj place way ≡ Some found → found < 8
few_told graph number owner in_graph conj place way found is = by (outcome_in graph number conj place way) refl where
  by : (o : Option Outcome) → outcome_in graph number conj place way ≡ o → found < 8
  by None none = absurd (let no = sym (ap (option_and_then (λ x. first_marked x place 0 (kinds_in graph number conj))) none) ∙ is in cc)
  by (Some o) o_is =
      let n = node_of graph number owner in_graph in
      let kinds_are : kinds_in graph number conj ≡ kinds_at n.0 conj = ap (λ x. option_map_or (λ y. kinds_at y conj) x []) n.1 in
      let marked : first_marked o place 0 (kinds_at n.0 conj) ≡ Some found =
      sym (ap (first_marked o place 0) kinds_are) ∙ (sym (ap (option_and_then (λ x. first_marked x place 0 (kinds_in graph number conj))) o_is) ∙ is) in
      let first = some_marked o place (kinds_at n.0 conj) 0 found marked in
      let at = first.found_is in
      let few = few_kinds owner n.0 n.2 conj first.n first.kind first.kind_is in
      omega (arith, at, few)
