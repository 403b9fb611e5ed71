-- The templates that are listed for a literal.
use Rattle.std.specs.Prelude.{◌≡◌, ◌<◌, ℕ, zero, suc, List, [], ◌∷◌, ◌++◌, map, Some, MatchOption, None, Option, slice_get}
use Rattle.std.specs.List.{flat_map}
use Rattle.dsr_ir.specs.declared.constraints.Atom.{Atom}
use Rattle.dsr_ir.specs.declared.constraints.Literal.{Literal}
use Rattle.dsr_ir.specs.declared.updates.Template.{Template}
use Rattle.dsr_ir.specs.declared.updates.Update.{Update}
use Rattle.dsr_ir.specs.declared.updates.Write.{Write}
use Rattle.dsr_meaning.specs.Counting.{IsIn}
use Rattle.dsr_update_theory.specs.Templates.{AreRawOf, literal_at}
use Rattle.dsr_graph_theory.specs.Candidates.{AreCompensations}
use Rattle.dsr_graph_theory.specs.Owners.{Owner}
use Rattle.dsr_graph_theory.specs.Sides.{IsKept}

-- the update with more writes behind its own
abbrev pub with_writes : List Write → Update → Update
with_writes more u =
    record { rule = u.rule; place = u.place; at = u.at; writes = u.writes ++ more; fresh = u.fresh }

abbrev pub compensated_by : Template → List Write → Template
compensated_by template more =
    record { goal = template.goal; updates = map (with_writes more) template.updates }

-- each of the list with each later one, the earlier varying slowest
abbrev pub two_of : List Write → List (List Write)
two_of [] = []
two_of (write ∷ rest) = map (λ later. write ∷ later ∷ []) rest ++ two_of rest

-- a template with the writes that may compensate it
abbrev pub Compensable : Type 0
Compensable = Template × List Write

abbrev pub with_one : Compensable → List Template
with_one c = map (λ write. compensated_by c.0 (write ∷ [])) c.1

abbrev pub with_two : Compensable → List Template
with_two c = map (compensated_by c.0) (two_of c.1)

-- all templates as they are, then each with each one of its compensations, and then with each two
abbrev pub all_of : List Compensable → List Template
all_of templates = map (λ c. c.0) templates ++ (flat_map with_one templates ++ flat_map with_two templates)

-- the templates with their compensations
pub data AreCompensable (owner : Owner) : List Template → List Compensable → Type 0 where
  done : AreCompensable owner [] []
  more :
      {rest : List Template} {pairs : List Compensable} → (template : Template) (writes : List Write)
      → AreCompensations owner template writes → AreCompensable owner rest pairs
      → AreCompensable owner (template ∷ rest) ((template, writes) ∷ pairs)

-- The first so many of the templates in a list that are kept, each once: those that were taken
-- before are not taken again, and those that are not kept are left out.
pub data AreTaken (owner : Owner) (atom : Atom) : ℕ → List Template → List Template → List Template → Type 0 where
  no_more : {n : ℕ} {before : List Template} → AreTaken owner atom n before [] []
  enough : {before all : List Template} → AreTaken owner atom zero before all []
  again :
      {n : ℕ} {before all rest : List Template} → (template : Template) → IsIn template before
      → AreTaken owner atom n before all rest → AreTaken owner atom n before (template ∷ all) rest
  left_out :
      {n : ℕ} {before all rest : List Template} → (template : Template) → (IsKept owner atom template → ⊥)
      → AreTaken owner atom n before all rest → AreTaken owner atom n before (template ∷ all) rest
  taken :
      {n : ℕ} {before all rest : List Template} → (template : Template) → (IsIn template before → ⊥)
      → IsKept owner atom template → AreTaken owner atom n (before ++ template ∷ []) all rest
      → AreTaken owner atom (suc n) before (template ∷ all) (template ∷ rest)

-- the list has the template at this place, and at none before
pub record StandsFirstAt (all : List Template) (template : Template) (n : ℕ) : Type 0 where
  pub there : slice_get all n ≡ Some template
  pub none_before : (m : ℕ) → m < n → slice_get all m ≡ Some template → ⊥

-- the first place of the one is before that of the other
pub record StandsBefore (all : List Template) (template other : Template) : Type 0 where
  pub place : ℕ
  pub other_place : ℕ
  pub first : StandsFirstAt all template place
  pub other_first : StandsFirstAt all other other_place
  pub before : place < other_place

-- The templates that are listed for the literal with these numbers: of those that are tried for it,
-- without and with compensations, the first 64 that are kept, of equal ones the first.
pub record AreListed (owner : Owner) (conj literal : ℕ) (atom : Atom) (templates : List Template) : Type 0 where
  pub tried : List Template
  pub are_tried : AreRawOf owner.spec owner.constraint conj literal tried
  pub compensable : List Compensable
  pub are_compensable : AreCompensable owner tried compensable
  pub are_taken : AreTaken owner atom 64 [] (all_of compensable) templates

-- none where there is no such literal
abbrev pub AreListedOf : Owner → ℕ → ℕ → List Template → Type 0
AreListedOf owner conj literal templates =
    MatchOption (literal_at owner.constraint conj literal) (templates ≡ [])
    (λ l. AreListed owner conj literal l.atom templates)
