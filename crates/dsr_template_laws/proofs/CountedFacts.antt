-- Sizes where a fresh record is counted, and where facts of a symbol stay.
use Rattle.std.proofs.Common.{◌≡◌, ◌≤◌, ℕ, List, [], ◌∷◌, length, Option, None, Some, IsSome, IsSomeAnd, IsTrue, inl, inr, refl, sym, subst, arith}
use Rattle.dsr_model_laws.proofs.Functional.{one_target}
use Rattle.dsr_model_laws.proofs.Models.{facts_listed}
use Rattle.dsr_model_laws.proofs.Truths.{only_size}
use Rattle.dsr_ir.specs.declared.constraints.Atom.TheVariants as atoms
use Rattle.dsr_ir.specs.declared.constraints.Measure.{Measure}
use Rattle.dsr_ir.specs.declared.constraints.Measure.TheVariants.{Whole, Out, Into}
use Rattle.dsr_ir.specs.declared.constraints.Var.{Var}
use Rattle.dsr_ir.specs.declared.declarations.Spec.{Spec}
use Rattle.dsr_ir.specs.declared.layouts.Layout.{Layout}
use Rattle.dsr_ir.specs.declared.rules.Op.TheVariants.{Eq, Ge}
use Rattle.dsr_ir.specs.declared.tuples.Binding.{Binding}
use Rattle.dsr_ir.specs.declared.tuples.Element.{Element}
use Rattle.dsr_ir.specs.declared.tuples.Fact.{Fact}
use Rattle.dsr_ir.specs.declared.tuples.Fact.TheVariants.{Member, Pair}
use Rattle.dsr_ir.specs.declared.tuples.Target.{Target as TargetOf}
use Rattle.dsr_ir.specs.declared.tuples.Target.TheVariants.{Elem}
use Rattle.dsr_meaning.specs.Counting.{AreMany, IsIn}
use Rattle.dsr_meaning.specs.Legal.{IsLegalLayout}
use Rattle.dsr_meaning.specs.Looking.{IsCounted, symbol_of}
use Rattle.dsr_meaning.specs.Models.{IsFact}
use Rattle.dsr_meaning.specs.Truth.{AtomHolds, HasSize, element_of}
use Rattle.dsr_update_theory.specs.Givers.{is_functional}
use Rattle.dsr_update_theory.specs.Templates.{counted_symbol}

some_length : {A : Type 0} (x : A) (xs : List A) → IsIn x xs → 1 ≤ length xs
some_length x [] i = absurd i
some_length x (y ∷ ys) i = omega arith

-- one thing alone
only_one : {A : Type 0} (P : A → Type 0) (x : A) → P x → ((y : A) → P y → y ≡ x) → AreMany P 1
only_one P x is only = record {
  things = x ∷ [];
  enumerated = record {
    distinct = (λ none. none, tt);
    all = λ y its. inl (only y its);
    only = λ y is_in. elim is_in as (λ _. P y) [ inl same ↦ subst P (sym same) is | inr none ↦ absurd none ];
  };
  counted = refl;
}

-- the same things
same_many : {A : Type 0} (P Q : A → Type 0) (n : ℕ) → ((x : A) → P x → Q x) → ((x : A) → Q x → P x) → AreMany P n → AreMany Q n
same_many P Q n there back many = record {
  things = many.things;
  enumerated = record {
    distinct = many.enumerated.distinct;
    all = λ x q. many.enumerated.all x (back x q);
    only = λ x i. there x (many.enumerated.only x i);
  };
  counted = many.counted;
}

-- a size stays, where the facts of its symbol do
pub same_size : (F G : Fact → Type 0) (b : Binding) (measure : Measure) (n : ℕ) → ((fact : Fact) → symbol_of fact ≡ counted_symbol measure → F fact → G fact) → ((fact : Fact) → symbol_of fact ≡ counted_symbol measure → G fact → F fact) → HasSize F b measure n → HasSize G b measure n
same_size F G b (Whole set) n there back size = same_many (λ e. F (Member set e)) (λ e. G (Member set e)) n (λ e. there (Member set e) refl) (λ e. back (Member set e) refl) size
same_size F G b (Out v rel) n there back size = of (element_of b v) size where
  of : (o : Option Element) → IsSomeAnd o (λ x. AreMany (λ t. F (Pair rel x t)) n) → IsSomeAnd o (λ x. AreMany (λ t. G (Pair rel x t)) n)
  of None is = is
  of (Some x) is = same_many (λ t. F (Pair rel x t)) (λ t. G (Pair rel x t)) n (λ t. there (Pair rel x t) refl) (λ t. back (Pair rel x t) refl) is
same_size F G b (Into rel v) n there back size = of (element_of b v) size where
  of : (o : Option Element) → IsSomeAnd o (λ y. AreMany (λ e. F (Pair rel e (Elem y))) n) → IsSomeAnd o (λ y. AreMany (λ e. G (Pair rel e (Elem y))) n)
  of None is = is
  of (Some y) is = same_many (λ e. F (Pair rel e (Elem y))) (λ e. G (Pair rel e (Elem y))) n (λ e. there (Pair rel e (Elem y)) refl) (λ e. back (Pair rel e (Elem y)) refl) is

module _ (spec : Spec) (layout : Layout) (bytes : List ℕ) (b : Binding) where
  abbrev is_fact : Fact → Type 0
  is_fact = IsFact spec layout bytes

  -- at least one
  pub some_member : (set : ℕ) (e : Element) → is_fact (Member set e) → AtomHolds is_fact b (atoms.Count (Whole set) Ge 1)
  some_member set e is =
      let size = only_size is_fact (facts_listed spec layout bytes) b (Whole set) tt in
      let many : AreMany (λ x. is_fact (Member set x)) size.0 = size.1.is_size in
      let least : 1 ≤ length many.things = some_length e many.things (many.enumerated.all e is) in
      (size.0, size.1.is_size, omega (arith, least, many.counted))

  pub some_target : (v : Var) (rel : ℕ) (x : Element) (t : TargetOf) → element_of b v ≡ Some x → is_fact (Pair rel x t) → AtomHolds is_fact b (atoms.Count (Out v rel) Ge 1)
  some_target v rel x t at is =
      let size = only_size is_fact (facts_listed spec layout bytes) b (Out v rel) (subst IsSome (sym at) refl) in
      let many : AreMany (λ u. is_fact (Pair rel x u)) size.0 = subst (λ o. IsSomeAnd o (λ y. AreMany (λ u. is_fact (Pair rel y u)) size.0)) at size.1.is_size in
      let least : 1 ≤ length many.things = some_length t many.things (many.enumerated.all t is) in
      (size.0, size.1.is_size, omega (arith, least, many.counted))

  pub some_source : (v : Var) (rel : ℕ) (x y : Element) → element_of b v ≡ Some y → is_fact (Pair rel x (Elem y)) → AtomHolds is_fact b (atoms.Count (Into rel v) Ge 1)
  some_source v rel x y at is =
      let size = only_size is_fact (facts_listed spec layout bytes) b (Into rel v) (subst IsSome (sym at) refl) in
      let many : AreMany (λ u. is_fact (Pair rel u (Elem y))) size.0 = subst (λ o. IsSomeAnd o (λ z. AreMany (λ u. is_fact (Pair rel u (Elem z))) size.0)) at size.1.is_size in
      let least : 1 ≤ length many.things = some_length x many.things (many.enumerated.all x is) in
      (size.0, size.1.is_size, omega (arith, least, many.counted))

  -- where a fact is counted, there is at least one
  pub counted_some : (measure : Measure) (fact : Fact) → IsCounted b measure fact → is_fact fact → AtomHolds is_fact b (atoms.Count measure Ge 1)
  counted_some (Whole set) (Member s e) same is = some_member set e (subst (λ n. is_fact (Member n e)) same is)
  counted_some (Whole set) (Pair r x t) counted is = absurd counted
  counted_some (Out v rel) (Member s e) counted is = absurd counted
  counted_some (Out v rel) (Pair r x t) same is = some_target v rel x t same.1 (subst (λ n. is_fact (Pair n x t)) same.0 is)
  counted_some (Into rel v) (Member s e) counted is = absurd counted
  counted_some (Into rel v) (Pair r x t) same is = some_source v rel x same.1 same.2 (subst (λ n. is_fact (Pair n x (Elem same.1))) same.0 (subst (λ u. is_fact (Pair r x u)) same.3 is))

  -- exactly one
  pub one_member : (set : ℕ) (e : Element) → is_fact (Member set e) → ((x : Element) → is_fact (Member set x) → x ≡ e) → AtomHolds is_fact b (atoms.Count (Whole set) Eq 1)
  one_member set e is only = (1, only_one (λ x. is_fact (Member set x)) e is only, refl)

  pub one_pair : (v : Var) (rel : ℕ) (x : Element) (t : TargetOf) → IsLegalLayout layout → IsTrue (is_functional spec rel) → element_of b v ≡ Some x → is_fact (Pair rel x t) → AtomHolds is_fact b (atoms.Count (Out v rel) Eq 1)
  one_pair v rel x t legal functional at is = (
    1,
    subst (λ o. IsSomeAnd o (λ y. AreMany (λ u. is_fact (Pair rel y u)) 1)) (sym at) (only_one (λ u. is_fact (Pair rel x u)) t is (λ u its. one_target spec layout bytes rel x u t legal functional its is)),
    refl,
  )
