-- The disjunctive normal form of a formula: a list of conjunctions, each a list of literals.
use Rattle.std.specs.Prelude.{ℕ, Bool, true, false, not, ◌&&◌, ◌||◌, nat_eq, nat_lt, List, [], ◌∷◌, ◌++◌, length, map, max, Option, None, Some, if◌then◌else◌}
use Rattle.dsr_ir.specs.Formulas.{FormulaShape, AnyOf, EveryOf, NotOf, GivenOf, LeafOf, FormulaShapes, NoneOf, MoreOf}
use Rattle.dsr_ir.specs.declared.constraints.Atom.{Atom}
use Rattle.dsr_ir.specs.declared.constraints.Atom.TheVariants as atoms
use Rattle.dsr_ir.specs.declared.constraints.Bound.{Bound}
use Rattle.dsr_ir.specs.declared.constraints.Bound.TheVariants as bounds
use Rattle.dsr_ir.specs.declared.constraints.Conj.{Conj}
use Rattle.dsr_ir.specs.declared.constraints.Literal.{Literal}
use Rattle.dsr_ir.specs.declared.constraints.Measure.{Measure}
use Rattle.dsr_ir.specs.declared.constraints.Measure.TheVariants as measures
use Rattle.dsr_ir.specs.declared.constraints.Var.{Var}
use Rattle.dsr_ir.specs.declared.constraints.Var.TheVariants as vars
use Rattle.dsr_ir.specs.declared.rules.Op.{Op}
use Rattle.dsr_ir.specs.declared.rules.Op.TheVariants as ops

-- ---- plain distribution

-- each conjunction on the left joined with each on the right, the left one varying slowest
abbrev pub joined : List (List Literal) → List (List Literal) → List (List Literal)
joined [] right = []
joined (first ∷ left) right = map (λ d. first ++ d) right ++ joined left right

-- The conjunctions of a formula under an odd number of `not` or an even one, and under `given` or
-- not; nothing is removed. `not` turns `or` and `and` round on the way down, and `given` marks what
-- is below it, so one definition does it all. That this is the same as pushing both down first is a
-- law.
abbrev mutual
  pub distributed : (negated given : Bool) → FormulaShape → List (List Literal)
  distributed negated given (AnyOf parts) = if negated then every_row negated given parts
      else any_row negated given parts
  distributed negated given (EveryOf parts) = if negated then any_row negated given parts
      else every_row negated given parts
  distributed negated given (NotOf part) = distributed (not negated) given part
  distributed negated given (GivenOf part) = distributed negated true part
  distributed negated given (LeafOf atom) = (record { atom = atom; negated = negated; given = given } ∷ []) ∷ []

  -- those of each part, one list behind the other
  pub any_row : (negated given : Bool) → FormulaShapes → List (List Literal)
  any_row negated given NoneOf = []
  any_row negated given (MoreOf first rest) = distributed negated given first ++ any_row negated given rest

  -- one of each part, joined in every way
  pub every_row : (negated given : Bool) → FormulaShapes → List (List Literal)
  every_row negated given NoneOf = [] ∷ []
  every_row negated given (MoreOf first rest) =
      joined (distributed negated given first) (every_row negated given rest)

abbrev pub conj_of : List Literal → Conj
conj_of literals = record { literals = literals }

-- the normal form of a formula
abbrev pub normal_form : FormulaShape → List Conj
normal_form formula = map conj_of (distributed false false formula)

-- ---- truth, where it is known which atoms are true; `given` says nothing of it

abbrev mutual
  pub holds : (Atom → Bool) → FormulaShape → Bool
  holds truth (AnyOf parts) = some_part truth parts
  holds truth (EveryOf parts) = each_part truth parts
  holds truth (NotOf part) = not (holds truth part)
  holds truth (GivenOf part) = holds truth part
  holds truth (LeafOf atom) = truth atom

  pub some_part : (Atom → Bool) → FormulaShapes → Bool
  some_part truth NoneOf = false
  some_part truth (MoreOf first rest) = if holds truth first then true else some_part truth rest

  pub each_part : (Atom → Bool) → FormulaShapes → Bool
  each_part truth NoneOf = true
  each_part truth (MoreOf first rest) = if holds truth first then each_part truth rest else false

abbrev pub literal_holds : (Atom → Bool) → Literal → Bool
literal_holds truth literal =
    if literal.negated then not (truth literal.atom) else truth literal.atom

-- all literals are true
abbrev pub all_hold : (Atom → Bool) → List Literal → Bool
all_hold truth [] = true
all_hold truth (first ∷ rest) = if literal_holds truth first then all_hold truth rest else false

-- some conjunction has all its literals true
abbrev pub one_holds : (Atom → Bool) → List Conj → Bool
one_holds truth [] = false
one_holds truth (first ∷ rest) =
    if all_hold truth first.literals then true else one_holds truth rest

-- ---- atoms

abbrev pub is_same_var : Var → Var → Bool
is_same_var vars.Head vars.Head = true
is_same_var vars.First vars.First = true
is_same_var vars.Second vars.Second = true
is_same_var _ _ = false

abbrev pub is_same_op : Op → Op → Bool
is_same_op ops.Eq ops.Eq = true
is_same_op ops.Ne ops.Ne = true
is_same_op ops.Lt ops.Lt = true
is_same_op ops.Le ops.Le = true
is_same_op ops.Gt ops.Gt = true
is_same_op ops.Ge ops.Ge = true
is_same_op _ _ = false

abbrev pub is_same_measure : Measure → Measure → Bool
is_same_measure (measures.Whole s) (measures.Whole t) = nat_eq s t
is_same_measure (measures.Out v r) (measures.Out w q) = is_same_var v w && nat_eq r q
is_same_measure (measures.Into r v) (measures.Into q w) = nat_eq r q && is_same_var v w
is_same_measure _ _ = false

abbrev pub is_same_bound : Bound → Bound → Bool
is_same_bound (bounds.Num m) (bounds.Num n) = nat_eq m n
is_same_bound (bounds.Size m) (bounds.Size n) = is_same_measure m n
is_same_bound _ _ = false

-- two atoms are the same
abbrev pub is_same_atom : Atom → Atom → Bool
is_same_atom (atoms.Member v s) (atoms.Member w t) = is_same_var v w && nat_eq s t
is_same_atom (atoms.Pair a b r) (atoms.Pair c d q) =
    is_same_var a c && (is_same_var b d && nat_eq r q)
is_same_atom (atoms.Count m o k) (atoms.Count n p l) =
    is_same_measure m n && (is_same_op o p && nat_eq k l)
is_same_atom (atoms.Value v r o b) (atoms.Value w q p c) =
    is_same_var v w && (nat_eq r q && (is_same_op o p && is_same_bound b c))
is_same_atom _ _ = false

-- the atoms of a formula, in order, each as often as it stands there
abbrev mutual
  pub atoms_of : FormulaShape → List Atom
  atoms_of (AnyOf parts) = row_atoms parts
  atoms_of (EveryOf parts) = row_atoms parts
  atoms_of (NotOf part) = atoms_of part
  atoms_of (GivenOf part) = atoms_of part
  atoms_of (LeafOf atom) = atom ∷ []

  pub row_atoms : FormulaShapes → List Atom
  row_atoms NoneOf = []
  row_atoms (MoreOf first rest) = atoms_of first ++ row_atoms rest

-- the atom is in the list
abbrev pub has_atom : List Atom → Atom → Bool
has_atom [] atom = false
has_atom (first ∷ rest) atom = if is_same_atom first atom then true else has_atom rest atom

-- the different atoms of a list, in the order in which they first stand there, behind those that
-- were seen
abbrev pub different : (seen atoms : List Atom) → List Atom
different seen [] = seen
different seen (atom ∷ rest) =
    different (if has_atom seen atom then seen else seen ++ atom ∷ []) rest

-- ---- limits

-- the atom is a membership of one record, or of a pair
abbrev pub is_membership : Atom → Bool
is_membership (atoms.Member v set) = true
is_membership (atoms.Pair v w rel) = true
is_membership _ = false

-- `not` stands above an atom that is no membership, in the formula or around it
abbrev mutual
  pub negates : (under_not : Bool) → FormulaShape → Bool
  negates under_not (AnyOf parts) = row_negates under_not parts
  negates under_not (EveryOf parts) = row_negates under_not parts
  negates under_not (NotOf part) = negates true part
  negates under_not (GivenOf part) = negates under_not part
  negates under_not (LeafOf atom) = under_not && not (is_membership atom)

  pub row_negates : (under_not : Bool) → FormulaShapes → Bool
  row_negates under_not NoneOf = false
  row_negates under_not (MoreOf first rest) = negates under_not first || row_negates under_not rest

-- the number of literals of the longest conjunction
abbrev pub longest : List (List Literal) → ℕ
longest [] = 0
longest (first ∷ rest) = max (length first) (longest rest)

-- more than 16 conjunctions, or one of more than 8 literals
abbrev pub is_too_large : List (List Literal) → Bool
is_too_large conjs = nat_lt 16 (length conjs) || nat_lt 8 (longest conjs)

-- more than 8 different atoms
abbrev pub has_many_atoms : List Atom → Bool
has_many_atoms atoms = nat_lt 8 (length (different [] atoms))

-- why a formula has no normal form
pub data Refusal : Type 0 where
  negated_value : Refusal
  too_many_conjunctions : Refusal
  too_many_atoms : Refusal

-- the first of the three that holds
abbrev pub refusal_of : FormulaShape → Option Refusal
refusal_of formula =
    if negates false formula then Some negated_value
    else if is_too_large (distributed false false formula) then Some too_many_conjunctions
    else if has_many_atoms (atoms_of formula) then Some too_many_atoms
    else None
