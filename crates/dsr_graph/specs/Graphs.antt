-- What a graph tells, as it is kept.
use Rattle.std.specs.Prelude.{◌≡◌, ◌&&◌, ◌↔◌, ℕ, suc, nat_eq, Bool, false, not, IsTrue, List, [], ◌∷◌, Option, None, Some, option_and_then, slice_get, slice_index_or, if◌then◌else◌}
use Rattle.std.specs.Option.{option_map_or}
use Rattle.dsr_graph_theory.specs.Breaks.{Breaks, MayFalsify}
use Rattle.dsr_graph_theory.specs.declared.causes.Reason.{Reason}
use Rattle.dsr_graph_theory.specs.declared.causes.Reason.TheVariants.{Gain, Loss}
use Rattle.dsr_ir.specs.declared.constraints.Constraint.{Constraint}
use Rattle.dsr_ir.specs.declared.constraints.Literal.{Literal}
use Rattle.dsr_ir.specs.declared.declarations.Spec.{Spec}
use Rattle.dsr_ir.specs.declared.updates.Symbol.TheVariants.{Set, Rel}
use Rattle.dsr_ir.specs.declared.updates.Template.{Template}
use Rattle.dsr_graph_theory.specs.Lists.{AreListedOf}
use Rattle.dsr_graph_theory.specs.Owners.{Owner}
use Rattle.dsr_update_theory.specs.Facts.{from}
use Rattle.dsr_update_theory.specs.Templates.{literal_at}
use Rattle.dsr_graph.specs.Kinds.{AreAlike, AreKindsOf}
use Rattle.dsr_graph.specs.Paired.{ArePaired}
use Rattle.dsr_graph.specs.declared.edges.Edge.{Edge}
use Rattle.dsr_graph.specs.declared.edges.Edge.TheVariants as edges
use Rattle.dsr_graph.specs.declared.graphs.Graph.{Graph}
use Rattle.dsr_graph.specs.declared.graphs.Node.{Node}
use Rattle.dsr_graph.specs.declared.kinds.First.{First}
use Rattle.dsr_graph.specs.declared.listings.Listing.{Listing}
use Rattle.dsr_graph.specs.declared.listings.Outcome.{Outcome}

-- the constraint of the specification with this number
abbrev pub owner_at : Spec → ℕ → Constraint → Owner
owner_at spec number constraint = record { spec = spec; number = number; constraint = constraint }

abbrev pub reason_of : Edge → Option Reason
reason_of edges.None = None
reason_of (edges.SetGains set) = Some (Gain (Set set))
reason_of (edges.SetLoses set) = Some (Loss (Set set))
reason_of (edges.RelGains rel) = Some (Gain (Rel rel))
reason_of (edges.RelLoses rel) = Some (Loss (Rel rel))

-- ---- what is kept is right

-- for each constraint why the template breaks it, if it does
abbrev pub AreBroken : Owner → Template → List Edge → Type 0
AreBroken owner template broken =
    ArePaired (λ n other edge. Breaks owner (owner_at owner.spec n other) template (reason_of edge))
    owner.spec.constraints broken

-- for each kind of literals whether the template may turn one false
abbrev pub AreFalsified : Owner → List First → Template → List Bool → Type 0
AreFalsified owner firsts template falsified =
    ArePaired (λ n first mark. IsTrue mark ↔ MayFalsify owner template first.literal) firsts falsified

pub record IsOutcomeOf (owner : Owner) (firsts : List First) (template : Template) (outcome : Outcome) : Type 0 where
  pub broken : AreBroken owner template outcome.broken
  pub falsified : AreFalsified owner firsts template outcome.falsified

abbrev pub AreOutcomesOf : Owner → List First → List Template → List Outcome → Type 0
AreOutcomesOf owner firsts templates outcomes =
    ArePaired (λ n template outcome. IsOutcomeOf owner firsts template outcome) templates outcomes

-- the templates are those that are listed for each literal of the kind, and no others are
pub record IsListingOf (owner : Owner) (firsts : List First) (literal : Literal) (listing : Listing) : Type 0 where
  pub listed :
      (conj place : ℕ) (its : Literal) → literal_at owner.constraint conj place ≡ Some its
      → AreAlike literal its → AreListedOf owner conj place listing.templates.items
  pub only :
      (conj place : ℕ) (its : Literal) (templates : List Template)
      → literal_at owner.constraint conj place ≡ Some its → AreAlike literal its
      → AreListedOf owner conj place templates → templates ≡ listing.templates.items
  pub outcomes : AreOutcomesOf owner firsts listing.templates.items listing.outcomes.items

abbrev pub AreListingsOf : Owner → List First → List Listing → Type 0
AreListingsOf owner firsts listings =
    ArePaired (λ n first listing. IsListingOf owner firsts first.literal listing) firsts listings

pub record IsNodeOf (owner : Owner) (node : Node) : Type 0 where
  pub kinds : AreKindsOf owner.constraint node.kinds
  pub listings : AreListingsOf owner node.kinds.firsts.items node.listings.items
  pub from_is : node.from ≡ from owner.spec owner.number

abbrev pub AreNodesOf : Spec → List Node → Type 0
AreNodesOf spec nodes =
    ArePaired (λ n constraint node. IsNodeOf (owner_at spec n constraint) node) spec.constraints nodes

-- the graph is that of the specification
abbrev pub IsGraphOf : Spec → Graph → Type 0
IsGraphOf spec graph = AreNodesOf spec graph.nodes.items

-- ---- what is told

-- the kinds of the literals of the conjunction with this number
abbrev pub kinds_at : Node → ℕ → List ℕ
kinds_at node conj = option_map_or (λ row. row.items) (slice_get node.kinds.numbers.items conj) []

-- what is listed for the literal with these numbers
abbrev pub listing_at : Node → ℕ → ℕ → Option Listing
listing_at node conj literal =
    option_and_then (slice_get node.listings.items) (slice_get (kinds_at node conj) literal)

abbrev pub listing_in : Graph → ℕ → ℕ → ℕ → Option Listing
listing_in graph constraint conj literal =
    option_and_then (λ node. listing_at node conj literal) (slice_get graph.nodes.items constraint)

abbrev pub templates_of : Option Listing → List Template
templates_of listing = option_map_or (λ l. l.templates.items) listing []

abbrev pub ways_of : Graph → ℕ → ℕ → ℕ → List Template
ways_of graph constraint conj literal = templates_of (listing_in graph constraint conj literal)

-- why the template breaks the constraint with this number
abbrev pub reason_at : Outcome → ℕ → Option Reason
reason_at outcome other = option_and_then reason_of (slice_get outcome.broken other)

abbrev pub is_marked : Outcome → ℕ → Bool
is_marked outcome kind = slice_index_or outcome.falsified kind false

-- a literal of the kind, with this place, isn't the template's own and may turn false
abbrev pub turns : Outcome → ℕ → ℕ → ℕ → Bool
turns outcome own n kind = not (nat_eq n own) && is_marked outcome kind

-- the first of the literals with these kinds, whose places count from n, that does
abbrev pub first_marked : Outcome → ℕ → ℕ → List ℕ → Option ℕ
first_marked outcome own n [] = None
first_marked outcome own n (kind ∷ rest) =
    if turns outcome own n kind then Some n else first_marked outcome own (suc n) rest

abbrev pub outcome_in : Graph → ℕ → ℕ → ℕ → ℕ → Option Outcome
outcome_in graph constraint conj literal way =
    option_and_then (λ listing. slice_get listing.outcomes.items way) (listing_in graph constraint conj literal)

abbrev pub broken_in : Graph → ℕ → ℕ → ℕ → ℕ → ℕ → Option Reason
broken_in graph constraint conj literal way other =
    option_and_then (λ outcome. reason_at outcome other) (outcome_in graph constraint conj literal way)

abbrev pub kinds_in : Graph → ℕ → ℕ → List ℕ
kinds_in graph constraint conj =
    option_map_or (λ node. kinds_at node conj) (slice_get graph.nodes.items constraint) []

abbrev pub falsified_in : Graph → ℕ → ℕ → ℕ → ℕ → Option ℕ
falsified_in graph constraint conj literal way =
    option_and_then (λ outcome. first_marked outcome literal 0 (kinds_in graph constraint conj))
    (outcome_in graph constraint conj literal way)

abbrev pub from_in : Graph → ℕ → List ℕ
from_in graph constraint = option_map_or (λ node. node.from) (slice_get graph.nodes.items constraint) []

-- a constraint of the specification whose graph it is
pub record IsOwnerIn (graph : Graph) (number : ℕ) (owner : Owner) : Type 0 where
  pub graph_is : IsGraphOf owner.spec graph
  pub number_is : owner.number ≡ number
  pub constraint_is : slice_get owner.spec.constraints number ≡ Some owner.constraint

-- the template has this number among those that are listed for the constraint's literal with these
-- numbers
pub record IsWayOf (graph : Graph) (constraint conj literal way : ℕ) (owner : Owner) (template : Template) : Type 0 where
  pub owner_in : IsOwnerIn graph constraint owner
  pub template_is : slice_get (ways_of graph constraint conj literal) way ≡ Some template
