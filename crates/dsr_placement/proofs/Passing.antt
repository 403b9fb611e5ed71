-- Conjunctions that pass their tests, and truth values that differ nowhere.
use Rattle.std.proofs.Common.{◌≡◌, ◌&&◌, Bool, true, false, not, IsTrue, suc, List, [], ◌∷◌, map, length, refl, sym, ap, subst}
use Rattle.std.specs.Prelude.{if◌then◌else◌}
use Rattle.std.proofs.lemmas.Bool.{false≢true}
use Rattle.dsr_placement.proofs.Places.{given_back}
use Rattle.dsr_placement.specs.Atoms.{HasAtomsOf, IsTested, truth_by}
use Rattle.dsr_ir.specs.declared.constraints.Atom.{Atom}
use Rattle.dsr_ir.specs.declared.constraints.Constraint.{Constraint}
use Rattle.dsr_ir.specs.declared.constraints.Literal.{Literal}
use Rattle.dsr_plan_theory.specs.Plans.{Covers, SomeConjPasses, Truth, comes_out}

-- a literal that doesn't fail comes out true where it is marked
pub passes_if : (m t : Bool) → (m && not t) ≡ false → IsTrue m → IsTrue t
passes_if true true e m = refl
passes_if true false e m = absurd (false≢true (sym e))
passes_if false t e m = absurd (false≢true m)

pub fails_if : (m t : Bool) → (m && not t) ≡ true → IsTrue m × (IsTrue t → ⊥)
fails_if true true e = absurd (false≢true e)
fails_if true false e = (refl, λ t. false≢true t)
fails_if false t e = absurd (false≢true e)

-- with equal truth values a literal comes out the same
same_out : (one other : Truth) (l : Literal) → one l.atom ≡ other l.atom → comes_out one l ≡ comes_out other l
same_out one other l same = ap (λ t. if l.negated then not t else t) same

-- where all lists of truth values are covered, so is whatever is true
pub covers_all : (atoms : List Atom) (c : Constraint) (tests : List (List Bool)) → HasAtomsOf atoms c → ((all : List Bool) → length all ≡ length atoms → SomeConjPasses c (IsTested tests) (truth_by atoms all)) → Covers c (IsTested tests)
covers_all atoms c tests has each truth =
    let its = each (map truth atoms) (made_length truth atoms) in
    record {
      number = its.number;
      conj = its.conj;
      conj_is = its.conj_is;
      passes = λ n l here tested.
          subst IsTrue (same_out (truth_by atoms (map truth atoms)) truth l (given_back truth atoms l.atom (has its.number its.conj its.conj_is n l here)))
          (its.passes n l here tested);
    } where
      made_length : (truth : Truth) (xs : List Atom) → length (map truth xs) ≡ length xs
      made_length truth [] = refl
      made_length truth (x ∷ xs) = ap suc (made_length truth xs)
