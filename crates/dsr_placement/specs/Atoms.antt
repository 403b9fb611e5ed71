-- Truth values of a constraint's atoms, as a list.
use Rattle.std.specs.Prelude.{◌≡◌, ◌&&◌, not, ℕ, suc, Bool, false, IsTrue, List, [], ◌∷◌, Some, length, take, slice_get, slice_index_or, if◌then◌else◌}
use Rattle.dsr_ir.specs.contracts.constraints.AtomPartialEq.TheImpl as atom
use Rattle.dsr_ir.specs.declared.constraints.Atom.{Atom}
use Rattle.dsr_ir.specs.declared.constraints.Conj.{Conj}
use Rattle.dsr_ir.specs.declared.constraints.Constraint.{Constraint}
use Rattle.dsr_ir.specs.declared.constraints.Literal.{Literal}
use Rattle.dsr_meaning.specs.Counting.{IsIn}
use Rattle.dsr_plan_theory.specs.Plans.{SomeConjPasses, Truth, comes_out}

-- the first place of the atom; the number of atoms where it is none of them
abbrev pub place_of : List Atom → Atom → ℕ
place_of [] a = 0
place_of (x ∷ atoms) a = if atom.ghosts.eq x a then 0 else suc (place_of atoms a)

abbrev pub mark_at : List Bool → ℕ → Bool
mark_at marks place = slice_index_or marks place false

-- the atom's truth value
abbrev pub truth_by : List Atom → List Bool → Truth
truth_by atoms truths a = mark_at truths (place_of atoms a)

-- what is among the atoms still is
abbrev pub Keeps : List Atom → List Atom → Type 0
Keeps old new = (a : Atom) → IsIn a old → IsIn a new

-- all atoms of the conjunction are among these
abbrev pub HasAtoms : List Atom → Conj → Type 0
HasAtoms atoms conj = (n : ℕ) (l : Literal) → slice_get conj.literals n ≡ Some l → IsIn l.atom atoms

abbrev pub HasAtomsOf : List Atom → Constraint → Type 0
HasAtomsOf atoms c = (n : ℕ) (conj : Conj) → slice_get c.conjs n ≡ Some conj → HasAtoms atoms conj

-- ---- marks of what is tested

abbrev pub IsTestedIn : List Bool → ℕ → Type 0
IsTestedIn marks literal = IsTrue (mark_at marks literal)

abbrev pub fails : Truth → List Bool → ℕ → Literal → Bool
fails truth marks place l = mark_at marks place && not (comes_out truth l)

abbrev pub row_at : List (List Bool) → ℕ → List Bool
row_at tests conj = slice_index_or tests conj []

abbrev pub IsTested : List (List Bool) → ℕ → ℕ → Type 0
IsTested tests conj literal = IsTestedIn (row_at tests conj) literal

-- some conjunction passes its tests, whatever truth values stand from the place on
abbrev pub CoversFrom : List Atom → Constraint → List (List Bool) → List Bool → ℕ → Type 0
CoversFrom atoms c tests truths place =
    (all : List Bool) → length all ≡ length truths → take place all ≡ take place truths
    → SomeConjPasses c (IsTested tests) (truth_by atoms all)
