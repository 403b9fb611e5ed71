-- What is listed for a literal, as the graph keeps it.
use Rattle.std.proofs.Common.{◌≡◌, ◌<◌, arith, ℕ, List, [], Option, None, Some, slice_get, refl, sym, ap, subst, ◌∙◌}
use Rattle.std.specs.Prelude.{IsSomeAnd, MatchOption, option_and_then}
use Rattle.std.specs.Option.{option_map_or}
use Rattle.std.proofs.lemmas.Option.{slice_get_within}
use Rattle.dsr_graph.proofs.Paired.{paired_back, paired_beyond, paired_got}
use Rattle.dsr_graph.specs.Graphs.{IsListingOf, IsNodeOf, IsOwnerIn, from_in, kinds_at, listing_at, owner_at, ways_of}
use Rattle.dsr_graph.specs.Kinds.{AreAlike, AreNumberedBy, HasKind, IsRowOf}
use Rattle.dsr_graph.specs.declared.graphs.Graph.{Graph}
use Rattle.dsr_graph.specs.declared.graphs.Node.{Node}
use Rattle.dsr_graph.specs.declared.kinds.First.{First}
use Rattle.dsr_graph.specs.declared.listings.Listing.{Listing}
use Rattle.dsr_ir.specs.declared.constraints.Conj.{Conj}
use Rattle.dsr_ir.specs.declared.constraints.Literal.{Literal}
use Rattle.dsr_ir.specs.declared.updates.Template.{Template}
use Rattle.dsr_graph_theory.specs.Lists.{AreListed, AreListedOf}
use Rattle.dsr_graph_theory.specs.Owners.{Owner}
use Rattle.dsr_update_theory.specs.Facts.{from}
use Rattle.dsr_update_theory.specs.Templates.{literal_at}

pub got : {T : Type 0} (P : T → Type 0) (o : Option T) → IsSomeAnd o P → (x : T) × (o ≡ Some x) × P x
got P None has = absurd has
got P (Some x) has = (x, refl, has)

-- the owner that the graph has under the number
pub owner_is : (graph : Graph) (number : ℕ) (owner : Owner) → IsOwnerIn graph number owner → owner_at owner.spec number owner.constraint ≡ owner
owner_is graph number owner in_graph = ap (λ n. owner_at owner.spec n owner.constraint) (sym in_graph.number_is)

-- its node
pub node_of : (graph : Graph) (number : ℕ) (owner : Owner) → IsOwnerIn graph number owner → (node : Node) × (slice_get graph.nodes.items number ≡ Some node) × IsNodeOf owner node
node_of graph number owner in_graph =
    let found = paired_got (λ n constraint node. IsNodeOf (owner_at owner.spec n constraint) node) owner.spec.constraints graph.nodes.items number owner.constraint in_graph.graph_is in_graph.constraint_is in
    (found.0, found.1, subst (λ o. IsNodeOf o found.0) (owner_is graph number owner in_graph) found.2)

-- the constraints on which it relies
pub from_told : (graph : Graph) (number : ℕ) (owner : Owner) → IsOwnerIn graph number owner → from_in graph number ≡ from owner.spec number
from_told graph number owner in_graph =
    let n = node_of graph number owner in_graph in
    ap (λ o. option_map_or (λ x. x.from) o []) n.1 ∙ (n.2.from_is ∙ ap (from owner.spec) in_graph.number_is)

-- ---- the literal's kind

module _ (owner : Owner) (node : Node) (is_node : IsNodeOf owner node) where
  row_is : (conj : ℕ) (its : Conj) → slice_get owner.constraint.conjs conj ≡ Some its → IsRowOf node.kinds.firsts.items its.literals (kinds_at node conj)
  row_is conj its here =
      let found = paired_got (λ n c r. IsRowOf node.kinds.firsts.items c.literals r.items) owner.constraint.conjs node.kinds.numbers.items conj its is_node.kinds.numbered here in
      subst (λ o. IsRowOf node.kinds.firsts.items its.literals (option_map_or (λ r. r.items) o [])) (sym found.1) found.2

  row : (conj : ℕ) (its : Conj) → slice_get owner.constraint.conjs conj ≡ Some its → AreNumberedBy node.kinds.firsts.items its.literals (kinds_at node conj)
  row conj its here = (row_is conj its here).numbered

  no_row : (conj : ℕ) → slice_get owner.constraint.conjs conj ≡ None → kinds_at node conj ≡ []
  no_row conj none =
      ap (λ o. option_map_or (λ r. r.items) o []) (paired_beyond (λ n c r. IsRowOf node.kinds.firsts.items c.literals r.items) owner.constraint.conjs node.kinds.numbers.items conj is_node.kinds.numbered none)

  kind_in : (conj place : ℕ) (its : Conj) (literal : Literal) → slice_get owner.constraint.conjs conj ≡ Some its → slice_get its.literals place ≡ Some literal → (kind : ℕ) × (slice_get (kinds_at node conj) place ≡ Some kind) × HasKind node.kinds.firsts.items kind literal
  kind_in conj place its literal here there =
      paired_got (λ n l k. HasKind node.kinds.firsts.items k l) its.literals (kinds_at node conj) place literal (row conj its here) there

  -- each literal has its kind
  pub kind_of : (conj place : ℕ) (literal : Literal) → literal_at owner.constraint conj place ≡ Some literal → (kind : ℕ) × (slice_get (kinds_at node conj) place ≡ Some kind) × HasKind node.kinds.firsts.items kind literal
  kind_of conj place literal is = within_conj (slice_get owner.constraint.conjs conj) refl where
    within_conj : (o : Option Conj) → slice_get owner.constraint.conjs conj ≡ o → (kind : ℕ) × (slice_get (kinds_at node conj) place ≡ Some kind) × HasKind node.kinds.firsts.items kind literal
    within_conj None none = absurd (let no = sym (ap (option_and_then (λ c. slice_get c.literals place)) none) ∙ is in cc)
    within_conj (Some its) here = kind_in conj place its literal here (sym (ap (option_and_then (λ c. slice_get c.literals place)) here) ∙ is)

  -- and each kind is that of a literal
  pub literal_of : (conj place kind : ℕ) → slice_get (kinds_at node conj) place ≡ Some kind → (literal : Literal) × (literal_at owner.constraint conj place ≡ Some literal) × HasKind node.kinds.firsts.items kind literal
  literal_of conj place kind is = within_conj (slice_get owner.constraint.conjs conj) refl where
    within_conj : (o : Option Conj) → slice_get owner.constraint.conjs conj ≡ o → (literal : Literal) × (literal_at owner.constraint conj place ≡ Some literal) × HasKind node.kinds.firsts.items kind literal
    within_conj None none = absurd (let no = sym (ap (λ ks. slice_get ks place) (no_row conj none)) ∙ is in cc)
    within_conj (Some its) here =
        let l = paired_back (λ n x k. HasKind node.kinds.firsts.items k x) its.literals (kinds_at node conj) place kind (row conj its here) is in
        (l.0, ap (option_and_then (λ c. slice_get c.literals place)) here ∙ l.1, l.2)

  -- a conjunction has few literals
  pub few_kinds : (conj place kind : ℕ) → slice_get (kinds_at node conj) place ≡ Some kind → place < 8
  few_kinds conj place kind is = within_conj (slice_get owner.constraint.conjs conj) refl where
    within_conj : (o : Option Conj) → slice_get owner.constraint.conjs conj ≡ o → place < 8
    within_conj None none = absurd (let no = sym (ap (λ ks. slice_get ks place) (no_row conj none)) ∙ is in cc)
    within_conj (Some its) here =
        let r = row_is conj its here in
        let few = r.few in
        let many = r.numbered.as_many in
        let less = slice_get_within (kinds_at node conj) place kind is in
        omega (arith, few, many, less)

  no_kind : (conj place : ℕ) → literal_at owner.constraint conj place ≡ None → slice_get (kinds_at node conj) place ≡ None
  no_kind conj place none = without (slice_get owner.constraint.conjs conj) refl where
    without : (o : Option Conj) → slice_get owner.constraint.conjs conj ≡ o → slice_get (kinds_at node conj) place ≡ None
    without None is = ap (λ ks. slice_get ks place) (no_row conj is)
    without (Some its) is =
        paired_beyond (λ n l k. HasKind node.kinds.firsts.items k l) its.literals (kinds_at node conj) place (row conj its is)
        (sym (ap (option_and_then (λ c. slice_get c.literals place)) is) ∙ none)

  pub no_listing : (conj place : ℕ) → literal_at owner.constraint conj place ≡ None → listing_at node conj place ≡ None
  no_listing conj place none = ap (option_and_then (slice_get node.listings.items)) (no_kind conj place none)

  -- what is listed for a literal, with the first one of its kind
  pub record IsFoundFor (conj place : ℕ) (literal : Literal) (listing : Listing) : Type 0 where
    pub kind : ℕ
    pub kind_is : slice_get (kinds_at node conj) place ≡ Some kind
    pub first : First
    pub first_is : slice_get node.kinds.firsts.items kind ≡ Some first
    pub alike : AreAlike first.literal literal
    pub listing_is : listing_at node conj place ≡ Some listing
    pub its : IsListingOf owner node.kinds.firsts.items first.literal listing

  pub found_for : (conj place : ℕ) (literal : Literal) → literal_at owner.constraint conj place ≡ Some literal → (listing : Listing) × IsFoundFor conj place literal listing
  found_for conj place literal is =
      let k = kind_of conj place literal is in
      let f = got (λ first. AreAlike first.literal literal) (slice_get node.kinds.firsts.items k.0) k.2 in
      let l = paired_got (λ n first listing. IsListingOf owner node.kinds.firsts.items first.literal listing) node.kinds.firsts.items node.listings.items k.0 f.0 is_node.listings f.1 in (
        l.0,
        record {
          kind = k.0;
          kind_is = k.1;
          first = f.0;
          first_is = f.1;
          alike = f.2;
          listing_is = ap (option_and_then (slice_get node.listings.items)) k.1 ∙ l.1;
          its = l.2;
        },
      )

-- ---- what is told of a constraint

module _ (graph : Graph) (number : ℕ) (owner : Owner) (in_graph : IsOwnerIn graph number owner) (conj place : ℕ) where
  abbrev Listed : List Template → Option Literal → Type 0
  Listed ts o = MatchOption o (ts ≡ []) (λ l. AreListed owner conj place l.atom ts)

  pub ways_if : (node : Node) (o : Option Listing) → slice_get graph.nodes.items number ≡ Some node → listing_at node conj place ≡ o → ways_of graph number conj place ≡ option_map_or (λ l. l.templates.items) o []
  ways_if node o node_is listing_is =
      ap (λ n. option_map_or (λ l. l.templates.items) (option_and_then (λ x. listing_at x conj place) n) []) node_is
      ∙ ap (λ l. option_map_or (λ x. x.templates.items) l []) listing_is

  pub ways_listed : AreListedOf owner conj place (ways_of graph number conj place)
  ways_listed = by (literal_at owner.constraint conj place) refl where
    by : (o : Option Literal) → literal_at owner.constraint conj place ≡ o → AreListedOf owner conj place (ways_of graph number conj place)
    by None none =
        let n = node_of graph number owner in_graph in
        subst (Listed (ways_of graph number conj place)) (sym none) (ways_if n.0 None n.1 (no_listing owner n.0 n.2 conj place none))
    by (Some l) is =
        let n = node_of graph number owner in_graph in
        let found = found_for owner n.0 n.2 conj place l is in
        subst (AreListedOf owner conj place) (sym (ways_if n.0 (Some found.0) n.1 found.1.listing_is)) (found.1.its.listed conj place l is found.1.alike)

  pub ways_only : (ts : List Template) → AreListedOf owner conj place ts → ts ≡ ways_of graph number conj place
  ways_only ts listed = by (literal_at owner.constraint conj place) refl where
    by : (o : Option Literal) → literal_at owner.constraint conj place ≡ o → ts ≡ ways_of graph number conj place
    by None none =
        let n = node_of graph number owner in_graph in
        subst (Listed ts) none listed ∙ sym (ways_if n.0 None n.1 (no_listing owner n.0 n.2 conj place none))
    by (Some l) is =
        let n = node_of graph number owner in_graph in
        let found = found_for owner n.0 n.2 conj place l is in
        found.1.its.only conj place l ts is found.1.alike listed ∙ sym (ways_if n.0 (Some found.0) n.1 found.1.listing_is)
