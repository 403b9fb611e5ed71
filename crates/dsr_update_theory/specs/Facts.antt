-- What constraints say of each other's sets and relations.
use Rattle.std.specs.Prelude.{ℕ, nat_eq, Bool, true, false, ◌||◌, List, [], ◌∷◌, ◌++◌, take, Option, None, Some, slice_get, if◌then◌else◌}
use Rattle.std.specs.List.{flat_map}
use Rattle.std.specs.Option.{option_map_or}
use Rattle.dsr_ir.specs.declared.constraints.Atom.{Atom}
use Rattle.dsr_ir.specs.declared.constraints.Atom.TheVariants.{Member, Count}
use Rattle.dsr_ir.specs.declared.constraints.Conj.{Conj}
use Rattle.dsr_ir.specs.declared.constraints.Constraint.{Constraint}
use Rattle.dsr_ir.specs.declared.constraints.Literal.{Literal}
use Rattle.dsr_ir.specs.declared.constraints.Measure.TheVariants.{Into}
use Rattle.dsr_ir.specs.declared.constraints.Quant.{Quant}
use Rattle.dsr_ir.specs.declared.constraints.Quant.TheVariants.{Each, Pairs}
use Rattle.dsr_ir.specs.declared.constraints.Var.TheVariants.{First, Second}
use Rattle.dsr_ir.specs.declared.declarations.SetDecl.{SetDecl}
use Rattle.dsr_ir.specs.declared.declarations.Spec.{Spec}
use Rattle.dsr_ir.specs.declared.rules.Op.TheVariants.{Le}
use Rattle.dsr_meaning.specs.Lists.{each_at}

-- what a constraint says: each record has one source under a relation at most; two sets have no
-- member in common; what has a source under one relation has none under the other
pub data ConstraintFact : Type 0 where
  Injective : ℕ → ConstraintFact
  Exclusive : ℕ → ℕ → ConstraintFact
  Apart : ℕ → ℕ → ConstraintFact

-- one set is the complement of the other
abbrev pub is_complement : Spec → ℕ → ℕ → Bool
is_complement spec set base =
    option_map_or (λ s. option_map_or (nat_eq base) s.except false)
    (slice_get spec.base.sets set) false

abbrev pub are_complements : Spec → ℕ → ℕ → Bool
are_complements spec a b = is_complement spec a b || is_complement spec b a

-- of a set and its complement nothing needs to be said
abbrev pub exclusive_fact : Spec → ℕ → ℕ → Option ConstraintFact
exclusive_fact spec a b =
    if nat_eq a b || are_complements spec a b then None else Some (Exclusive a b)

-- `size(Q.y) <= 1` of the pairs of Q themselves, and `size(Q.y) <= 0` of those of another relation
abbrev pub bounded_fact : ℕ → ℕ → ℕ → Option ConstraintFact
bounded_fact rel counted k =
    if nat_eq rel counted then (if nat_eq k 1 then Some (Injective counted) else None)
    else (if nat_eq k 0 then Some (Apart rel counted) else None)

-- the fact of a constraint whose formula is this atom, negated or not
abbrev pub fact_by : Spec → Quant → Atom → Bool → Option ConstraintFact
fact_by spec (Each a) (Member First b) true = exclusive_fact spec a b
fact_by spec (Pairs rel) (Count (Into counted Second) Le k) false = bounded_fact rel counted k
fact_by spec quant atom negated = None

-- only a formula of one literal gives a fact, be it repaired or only tested
abbrev pub fact_of_literals : Spec → Quant → List Literal → Option ConstraintFact
fact_of_literals spec quant (literal ∷ []) = fact_by spec quant literal.atom literal.negated
fact_of_literals spec quant _ = None

abbrev pub fact_of_conjs : Spec → Quant → List Conj → Option ConstraintFact
fact_of_conjs spec quant (conj ∷ []) = fact_of_literals spec quant conj.literals
fact_of_conjs spec quant _ = None

-- the fact that a constraint gives
abbrev pub fact_of : Spec → Constraint → Option ConstraintFact
fact_of spec c = fact_of_conjs spec c.quant c.conjs

-- ---- the facts that a constraint uses: those of the constraints that are declared before it

abbrev pub injective_by : Option ConstraintFact → List ℕ
injective_by (Some (Injective rel)) = rel ∷ []
injective_by _ = []

-- both ways, since it is only asked whether a pair is among them
abbrev pub exclusive_by : Option ConstraintFact → List (ℕ × ℕ)
exclusive_by (Some (Exclusive a b)) = (a, b) ∷ (b, a) ∷ []
exclusive_by _ = []

abbrev pub apart_by : Option ConstraintFact → List (ℕ × ℕ)
apart_by (Some (Apart p q)) = (p, q) ∷ (q, p) ∷ []
apart_by _ = []

-- the number of the constraint, where it gives a fact
abbrev pub giver_by : ℕ → Option ConstraintFact → List ℕ
giver_by k (Some fact) = k ∷ []
giver_by k None = []

-- a set and its complement, both ways
abbrev pub complement_by : ℕ → SetDecl → List (ℕ × ℕ)
complement_by set d = option_map_or (λ base. (set, base) ∷ (base, set) ∷ []) d.except []

-- the constraints before the one with this number
abbrev pub earlier : Spec → ℕ → List Constraint
earlier spec constraint = take constraint spec.constraints

-- the relations under which each record has one source at most
abbrev pub injective : Spec → ℕ → List ℕ
injective spec constraint = flat_map (λ c. injective_by (fact_of spec c)) (earlier spec constraint)

-- pairs of sets that have no member in common: each set with its complement, and what constraints
-- say
abbrev pub exclusive : Spec → ℕ → List (ℕ × ℕ)
exclusive spec constraint =
    each_at complement_by 0 spec.base.sets
    ++ flat_map (λ c. exclusive_by (fact_of spec c)) (earlier spec constraint)

-- pairs of relations of which what has a source under one has none under the other
abbrev pub apart : Spec → ℕ → List (ℕ × ℕ)
apart spec constraint = flat_map (λ c. apart_by (fact_of spec c)) (earlier spec constraint)

-- the constraints that give these facts
abbrev pub from : Spec → ℕ → List ℕ
from spec constraint = each_at (λ k c. giver_by k (fact_of spec c)) 0 (earlier spec constraint)
