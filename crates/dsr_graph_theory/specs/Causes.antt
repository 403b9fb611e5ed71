-- What may turn a literal false, and break a constraint.
use Rattle.std.specs.Prelude.{ℕ, Bool, true, false, ◌&&◌, List, [], ◌∷◌, ◌++◌, Option, None, Some, if◌then◌else◌}
use Rattle.std.specs.List.{flat_map}
use Rattle.dsr_ir.specs.declared.constraints.Atom.{Atom}
use Rattle.dsr_ir.specs.declared.constraints.Atom.TheVariants.{Member, Pair, Count, Value}
use Rattle.dsr_ir.specs.declared.constraints.Bound.{Bound}
use Rattle.dsr_ir.specs.declared.constraints.Bound.TheVariants.{Num, Size}
use Rattle.dsr_ir.specs.declared.constraints.Constraint.{Constraint}
use Rattle.dsr_ir.specs.declared.constraints.Literal.{Literal}
use Rattle.dsr_ir.specs.declared.constraints.Measure.{Measure}
use Rattle.dsr_ir.specs.declared.constraints.Measure.TheVariants.{Whole, Out, Into}
use Rattle.dsr_ir.specs.declared.constraints.Quant.{Quant}
use Rattle.dsr_ir.specs.declared.constraints.Quant.TheVariants.{Once, Each, Pairs}
use Rattle.dsr_ir.specs.declared.constraints.Var.{Var}
use Rattle.dsr_ir.specs.declared.rules.Op.{Op}
use Rattle.dsr_ir.specs.declared.rules.Op.TheVariants.{Le, Ge}
use Rattle.dsr_ir.specs.declared.updates.Symbol.{Symbol}
use Rattle.dsr_ir.specs.declared.updates.Symbol.TheVariants.{Set, Rel}
use Rattle.dsr_update_theory.specs.Templates.{counted_symbol}
use Rattle.dsr_update_theory.specs.declared.effects.Direction.{Direction}
use Rattle.dsr_update_theory.specs.declared.effects.Direction.TheVariants as directions
use Rattle.dsr_graph_theory.specs.declared.causes.Cause.{Cause}
use Rattle.dsr_graph_theory.specs.declared.causes.Reason.{Reason}
use Rattle.dsr_graph_theory.specs.declared.causes.Reason.TheVariants.{Gain, Loss}

abbrev pub direction_of : Reason → Direction
direction_of (Gain symbol) = directions.Gain
direction_of (Loss symbol) = directions.Loss

abbrev pub symbol_of : Reason → Symbol
symbol_of (Gain symbol) = symbol
symbol_of (Loss symbol) = symbol

-- a gain or a loss of the symbol, as it is read at a variable's record, or of all records
abbrev pub gain : Symbol → Option Var → Cause
gain symbol at = record { reason = Gain symbol; at = at }

abbrev pub loss : Symbol → Option Var → Cause
loss symbol at = record { reason = Loss symbol; at = at }

-- ---- sizes

-- the targets of a variable are read at its record; members, and the sources of a variable, are
-- counted of all records
abbrev pub read_at : Measure → Option Var
read_at (Whole set) = None
read_at (Out v rel) = Some v
read_at (Into rel v) = None

abbrev pub more_counted : Measure → Cause
more_counted measure = gain (counted_symbol measure) (read_at measure)

abbrev pub fewer_counted : Measure → Cause
fewer_counted measure = loss (counted_symbol measure) (read_at measure)

abbrev pub size_changes : Measure → List Cause
size_changes measure = more_counted measure ∷ fewer_counted measure ∷ []

-- more are too many, or fewer too few
abbrev pub size_causes : Measure → Op → List Cause
size_causes measure Le = more_counted measure ∷ []
size_causes measure Ge = fewer_counted measure ∷ []
size_causes measure op = size_changes measure

abbrev pub bound_causes : Bound → List Cause
bound_causes (Num k) = []
bound_causes (Size measure) = size_changes measure

-- ---- literals

-- a membership or a pair that is to be there goes, or one that isn't to be there comes
abbrev pub presence_cause : Bool → Symbol → Var → Cause
presence_cause false symbol v = loss symbol (Some v)
presence_cause true symbol v = gain symbol (Some v)

-- a value that comes may not meet its bound, and the bound may be another one
abbrev pub value_causes : Var → ℕ → Bound → List Cause
value_causes v rel bound = gain (Rel rel) (Some v) ∷ bound_causes bound

abbrev pub atom_causes : Bool → Atom → List Cause
atom_causes negated (Member v set) = presence_cause negated (Set set) v ∷ []
atom_causes negated (Pair v w rel) = presence_cause negated (Rel rel) v ∷ []
atom_causes negated (Count measure op k) = size_causes measure op
atom_causes negated (Value v rel op bound) = value_causes v rel bound

-- what may turn the literal false, in order
abbrev pub literal_causes : Literal → List Cause
literal_causes literal = atom_causes literal.negated literal.atom

-- ---- constraints

-- there are more bindings
abbrev pub quantifier_causes : Quant → List Cause
quantifier_causes Once = []
quantifier_causes (Each set) = gain (Set set) None ∷ []
quantifier_causes (Pairs rel) = gain (Rel rel) None ∷ []

abbrev pub literals_of : Constraint → List Literal
literals_of c = flat_map (λ conj. conj.literals) c.conjs

abbrev pub is_once : Quant → Bool
is_once Once = true
is_once _ = false

-- What may break the constraint, in order: more bindings, and then what may turn one of its
-- literals false. Its own updates are made where it is violated, so that without a quantifier,
-- where there is one binding, they break nothing.
abbrev pub constraint_causes : Bool → Constraint → List Cause
constraint_causes its_own c =
    quantifier_causes c.quant
    ++ (if its_own && is_once c.quant then [] else flat_map literal_causes (literals_of c))
