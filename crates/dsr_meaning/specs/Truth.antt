-- When a literal of a constraint is true, by what is a fact.
use Rattle.std.specs.Prelude.{◌≡◌, ℕ, Option, None, Some, IsSome, IsSomeAnd, MatchBool}
use Rattle.dsr_ir.specs.declared.constraints.Atom.{Atom}
use Rattle.dsr_ir.specs.declared.constraints.Atom.TheVariants as atoms
use Rattle.dsr_ir.specs.declared.constraints.Bound.{Bound}
use Rattle.dsr_ir.specs.declared.constraints.Bound.TheVariants as bounds
use Rattle.dsr_ir.specs.declared.constraints.Literal.{Literal}
use Rattle.dsr_ir.specs.declared.constraints.Measure.{Measure}
use Rattle.dsr_ir.specs.declared.constraints.Measure.TheVariants.{Whole, Out, Into}
use Rattle.dsr_ir.specs.declared.constraints.Var.{Var}
use Rattle.dsr_ir.specs.declared.constraints.Var.TheVariants.{Head, First, Second}
use Rattle.dsr_ir.specs.declared.tuples.Binding.{Binding}
use Rattle.dsr_ir.specs.declared.tuples.Binding.TheVariants as bindings
use Rattle.dsr_ir.specs.declared.tuples.Element.{Element}
use Rattle.dsr_ir.specs.declared.tuples.Fact.{Fact}
use Rattle.dsr_ir.specs.declared.tuples.Fact.TheVariants as facts
use Rattle.dsr_ir.specs.declared.tuples.Target.TheVariants.{Elem, Num}
use Rattle.dsr_meaning.specs.Counting.{AreMany}
use Rattle.dsr_meaning.specs.Instances.{Compares}

-- the record at byte 0
abbrev pub head : Element
head = record { pool = 0; slot = 0 }

-- The element that a variable names; none where the binding hasn't got the variable. Of a variable
-- that names nothing nothing holds: no membership, no size, no value. In a typed constraint no such
-- variable stands.
abbrev pub element_of : Binding → Var → Option Element
element_of b Head = Some head
element_of bindings.Once First = None
element_of (bindings.Each x) First = Some x
element_of (bindings.Pair x y) First = Some x
element_of bindings.Once Second = None
element_of (bindings.Each x) Second = None
element_of (bindings.Pair x y) Second = Some y

-- the binding has the variable of the measure; that of a set has none
abbrev pub HasVariable : Binding → Measure → Type 0
HasVariable b (Whole set) = Unit {0}
HasVariable b (Out v rel) = IsSome (element_of b v)
HasVariable b (Into rel v) = IsSome (element_of b v)

-- In what follows, `is_fact` says what a fact is: in the model of an image, or in any other set of
-- facts.

-- the size of a set is the number of its members, and that of a variable
-- under a relation the number of its different targets or sources
abbrev pub HasSize : (Fact → Type 0) → Binding → Measure → ℕ → Type 0
HasSize is_fact b (Whole set) n = AreMany (λ e. is_fact (facts.Member set e)) n
HasSize is_fact b (Out v rel) n =
    IsSomeAnd (element_of b v) (λ x. AreMany (λ t. is_fact (facts.Pair rel x t)) n)
HasSize is_fact b (Into rel v) n =
    IsSomeAnd (element_of b v) (λ y. AreMany (λ e. is_fact (facts.Pair rel e (Elem y))) n)

-- the number that values are compared with
abbrev pub HasBound : (Fact → Type 0) → Binding → Bound → ℕ → Type 0
HasBound is_fact b (bounds.Num k) n = n ≡ k
HasBound is_fact b (bounds.Size measure) n = HasSize is_fact b measure n

-- The atom is true. A value meets a bound where every value that the relation gives does; where it
-- gives none, every bound is met.
abbrev pub AtomHolds : (Fact → Type 0) → Binding → Atom → Type 0
AtomHolds is_fact b (atoms.Member v set) =
    IsSomeAnd (element_of b v) (λ x. is_fact (facts.Member set x))
AtomHolds is_fact b (atoms.Pair v w rel) =
    IsSomeAnd (element_of b v) (λ x. IsSomeAnd (element_of b w) (λ y. is_fact (facts.Pair rel x (Elem y))))
AtomHolds is_fact b (atoms.Count measure op k) =
    (n : ℕ) × HasSize is_fact b measure n × Compares op n k
AtomHolds is_fact b (atoms.Value v rel op bound) =
    IsSomeAnd (element_of b v)
    (λ x. (n : ℕ) × HasBound is_fact b bound n
    × ((value : ℕ) → is_fact (facts.Pair rel x (Num value)) → Compares op value n))

-- the literal is true; that it is only tested has no influence
abbrev pub LiteralHolds : (Fact → Type 0) → Binding → Literal → Type 0
LiteralHolds is_fact b literal =
    MatchBool literal.negated (AtomHolds is_fact b literal.atom → ⊥) (AtomHolds is_fact b literal.atom)
