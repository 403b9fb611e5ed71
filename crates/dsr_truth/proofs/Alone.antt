-- Constraints that have one literal alone, and bindings of a constraint's own quantifier.
use Rattle.std.proofs.Common.{◌≡◌, ◌↔◌, ℕ, Bool, true, false, List, [], ◌∷◌, Option, None, Some, All, IsTrue, refl, sym, ap, subst, inl}
use Rattle.std.specs.Prelude.{MatchBool}
use Rattle.std.proofs.lemmas.List.Elements.{All-cons, All-head, All-nil}
use Rattle.dsr_ir.specs.declared.constraints.Conj.{Conj}
use Rattle.dsr_ir.specs.declared.constraints.Constraint.{Constraint}
use Rattle.dsr_ir.specs.declared.constraints.Literal.{Literal}
use Rattle.dsr_ir.specs.declared.constraints.Quant.{Quant}
use Rattle.dsr_ir.specs.declared.constraints.Quant.TheVariants as quants
use Rattle.dsr_ir.specs.declared.tuples.Binding.{Binding}
use Rattle.dsr_ir.specs.declared.tuples.Binding.TheVariants as bindings
use Rattle.dsr_ir.specs.declared.tuples.Fact.{Fact}
use Rattle.dsr_meaning.specs.Consistency.{ConjHolds, IsBinding}
use Rattle.dsr_meaning.specs.Counting.{IsIn}
use Rattle.dsr_meaning.specs.Truth.{LiteralHolds}
use Rattle.dsr_truth.proofs.Satisfying.{some_or_none}
use Rattle.dsr_truth.specs.Only.{only_in, only_literal, only_of}
use Rattle.dsr_truth.specs.Walks.{FindsLeastBinding, HoldsForPairs, IsLaterBinding, IsSatisfied, IsUnsatisfied, IsViolatedAt}

same_literal : {l m : Literal} → Some l ≡ Some m → l ≡ m
same_literal e = cc

only_in_is : (ls : List Literal) (l : Literal) → only_in ls ≡ Some l → ls ≡ l ∷ []
only_in_is [] l e = absurd cc
only_in_is (m ∷ []) l e = ap (λ x. x ∷ []) (same_literal e)
only_in_is (m ∷ n ∷ ls) l e = absurd cc

module _ (is_fact : Fact → Type 0) (b : Binding) where
  met : (conjs : List Conj) (l : Literal) → only_of conjs ≡ Some l → LiteralHolds is_fact b l
      → (conj : Conj) × IsIn conj conjs × ConjHolds is_fact b conj
  met [] l e holds = absurd cc
  met (c ∷ []) l e holds =
      let all = All-cons (LiteralHolds is_fact b) l [] holds (All-nil (LiteralHolds is_fact b)) in
      (c, inl refl, subst (All (LiteralHolds is_fact b)) (sym (only_in_is c.literals l e)) all)
  met (c ∷ d ∷ cs) l e holds = absurd cc

  unmet : (conjs : List Conj) (l : Literal) → only_of conjs ≡ Some l → (LiteralHolds is_fact b l → ⊥)
      → All (λ conj. ConjHolds is_fact b conj → ⊥) conjs
  unmet [] l e fails = absurd cc
  unmet (c ∷ []) l e fails =
      All-cons (λ conj. ConjHolds is_fact b conj → ⊥) c []
      (λ holds. fails (All-head (LiteralHolds is_fact b) l [] (subst (All (LiteralHolds is_fact b)) (only_in_is c.literals l e) holds)))
      (All-nil (λ conj. ConjHolds is_fact b conj → ⊥))
  unmet (c ∷ d ∷ cs) l e fails = absurd cc

  -- the only literal tells whether the constraint is satisfied
  pub only_tells : (c : Constraint) (l : Literal) (answer : Bool) → only_literal c ≡ Some l
      → IsTrue answer ↔ LiteralHolds is_fact b l
      → MatchBool answer (IsSatisfied is_fact b c) (IsUnsatisfied is_fact b c)
  only_tells c l true e told = met c.conjs l e (told.0 refl)
  only_tells c l false e told = unmet c.conjs l e (λ holds. let yes : false ≡ true = told.1 holds in cc)

-- the next binding of a quantifier that is the constraint's
pub own_next : (is_fact : Fact → Type 0) (c : Constraint) (q : Quant) (last answer : Option Binding)
    → c.quant ≡ q → FindsLeastBinding (IsLaterBinding is_fact q last) answer
    → FindsLeastBinding (IsLaterBinding is_fact c.quant last) answer
own_next is_fact c q last answer same next =
    subst (λ k. FindsLeastBinding (IsLaterBinding is_fact k last) answer) (sym same) next

-- no pair violates a constraint over pairs whose only literal is true for any two records
pub pairs_hold : (is_fact : Fact → Type 0) (c : Constraint) (rel : ℕ) → c.quant ≡ quants.Pairs rel → HoldsForPairs is_fact (only_literal c)
    → (b : Binding) → IsViolatedAt is_fact c b → ⊥
pairs_hold is_fact c rel over holds b violated = by_literal (only_literal c) refl holds b
    (subst (λ q. IsBinding is_fact q b) over violated.0) violated.1
  where
    by_literal : (only : Option Literal) → only_literal c ≡ only → HoldsForPairs is_fact only → (b : Binding)
        → IsBinding is_fact (quants.Pairs rel) b → IsUnsatisfied is_fact b c → ⊥
    by_literal None is holds b bound unsatisfied = absurd holds
    by_literal (Some l) is holds bindings.Once bound unsatisfied = absurd bound
    by_literal (Some l) is holds (bindings.Each e) bound unsatisfied = absurd bound
    by_literal (Some l) is holds (bindings.Pair x y) bound unsatisfied =
        let satisfied = met is_fact (bindings.Pair x y) c.conjs l is (holds x y) in
        some_or_none (ConjHolds is_fact (bindings.Pair x y)) c.conjs satisfied unsatisfied
