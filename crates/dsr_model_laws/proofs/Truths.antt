-- Where facts are listed, sets and relations have sizes, and literals are decided.
use Rattle.std.proofs.lemmas.Bool.{false≢true}
use Rattle.std.proofs.Common.{◌≡◌, ℕ, true, false, Option, None, Some, IsSome, IsSomeAnd, MatchBool, inl, inr, refl, sym, subst}
use Rattle.dsr_ir.specs.declared.constraints.Atom.{Atom}
use Rattle.dsr_ir.specs.declared.constraints.Atom.TheVariants as atoms
use Rattle.dsr_ir.specs.declared.constraints.Bound.{Bound}
use Rattle.dsr_ir.specs.declared.constraints.Bound.TheVariants as bounds
use Rattle.dsr_ir.specs.declared.constraints.Literal.{Literal}
use Rattle.dsr_ir.specs.declared.constraints.Measure.{Measure}
use Rattle.dsr_ir.specs.declared.constraints.Measure.TheVariants.{Whole, Out, Into}
use Rattle.dsr_ir.specs.declared.rules.Op.{Op}
use Rattle.dsr_ir.specs.declared.tuples.Binding.{Binding}
use Rattle.dsr_ir.specs.declared.tuples.Element.{Element}
use Rattle.dsr_ir.specs.declared.tuples.Fact.{Fact}
use Rattle.dsr_ir.specs.declared.tuples.Fact.TheVariants.{Member, Pair}
use Rattle.dsr_ir.specs.declared.tuples.Target.{Target}
use Rattle.dsr_ir.specs.declared.tuples.Target.TheVariants.{Elem, Num}
use Rattle.dsr_meaning.specs.Instances.{Compares}
use Rattle.dsr_meaning.specs.Counting.{AreMany}
use Rattle.dsr_meaning.specs.Truth.{HasVariable, AtomHolds, HasBound, HasSize, LiteralHolds, element_of}
use Rattle.dsr_meaning.proofs.Sizes.{size_once, bound_once}
use Rattle.dsr_model_laws.specs.Deciding.{IsDecided}
use Rattle.dsr_model_laws.specs.Sizes.{IsOnlySize}
use Rattle.dsr_model_laws.proofs.Ways.{by_logic, both}
use Rattle.dsr_model_laws.proofs.Listed.{IsListed, alike, nothing, one, when, every, taken_to, listed_decided, many, opposite, numbers, some_and}
use Rattle.dsr_model_laws.proofs.Instances.{compared_facts, compares, elements, targets}

member_of : (set : ℕ) (fact : Fact) → IsListed (λ (e : Element). fact ≡ Member set e)
member_of set (Member s x) =
    alike (λ (e : Element). (s ≡ set) × (e ≡ x)) (λ (e : Element). Member s x ≡ Member set e) (λ e p. λ i. Member (p.0 i) (sym p.1 i)) (λ e (q : Member s x ≡ Member set e). let a : s ≡ set = cc in let b : e ≡ x = cc in (a, b))
    (when (s ≡ set) (λ (e : Element). e ≡ x) (numbers s set) (λ _. one x))
member_of set (Pair r x y) = nothing (λ (e : Element). Pair r x y ≡ Member set e) (λ e (q : Pair r x y ≡ Member set e). absurd cc)

reached_of : (rel : ℕ) (from : Element) (fact : Fact) → IsListed (λ (t : Target). fact ≡ Pair rel from t)
reached_of rel from (Pair r x y) =
    alike (λ (t : Target). ((r ≡ rel) × (x ≡ from)) × (t ≡ y)) (λ (t : Target). Pair r x y ≡ Pair rel from t) (λ t p. λ i. Pair (p.0.0 i) (p.0.1 i) (sym p.1 i)) (λ t (q : Pair r x y ≡ Pair rel from t). let a : r ≡ rel = cc in let b : x ≡ from = cc in let c : t ≡ y = cc in ((a, b), c))
    (when ((r ≡ rel) × (x ≡ from)) (λ (t : Target). t ≡ y) (both (numbers r rel) (elements x from)) (λ _. one y))
reached_of rel from (Member s x) = nothing (λ (t : Target). Member s x ≡ Pair rel from t) (λ t (q : Member s x ≡ Pair rel from t). absurd cc)

source_of : (rel : ℕ) (to : Target) (fact : Fact) → IsListed (λ (e : Element). fact ≡ Pair rel e to)
source_of rel to (Pair r x y) =
    alike (λ (e : Element). ((r ≡ rel) × (y ≡ to)) × (e ≡ x)) (λ (e : Element). Pair r x y ≡ Pair rel e to) (λ e p. λ i. Pair (p.0.0 i) (sym p.1 i) (p.0.1 i)) (λ e (q : Pair r x y ≡ Pair rel e to). let a : r ≡ rel = cc in let b : y ≡ to = cc in let c : e ≡ x = cc in ((a, b), c))
    (when ((r ≡ rel) × (y ≡ to)) (λ (e : Element). e ≡ x) (both (numbers r rel) (targets y to)) (λ _. one x))
source_of rel to (Member s x) = nothing (λ (e : Element). Member s x ≡ Pair rel e to) (λ e (q : Member s x ≡ Pair rel e to). absurd cc)

value_of : (target : Target) → IsListed (λ (n : ℕ). target ≡ Num n)
value_of (Elem e) = nothing (λ (n : ℕ). Elem e ≡ Num n) (λ n (q : Elem e ≡ Num n). absurd cc)
value_of (Num m) = alike (λ (n : ℕ). n ≡ m) (λ (n : ℕ). Num m ≡ Num n) (λ n e. λ i. Num (sym e i)) (λ n (q : Num m ≡ Num n). let e : n ≡ m = cc in e) (one m)

-- what a variable names has a number, where it names something
named : {A : Type 0} (P : Element → A → Type 0) → ((x : Element) → (n : ℕ) × AreMany (P x) n) → (o : Option Element) → IsSome o → (n : ℕ) × IsSomeAnd o (λ x. AreMany (P x) n)
named P size None h = absurd (false≢true h)
named P size (Some x) h = size x

-- what holds of the one number that there is, where there is one
of_one : (Q R : ℕ → Type 0) → IsDecided ((n : ℕ) × Q n) → ((m n : ℕ) → Q m → Q n → m ≡ n) → ((n : ℕ) → IsDecided (R n)) → IsDecided ((m : ℕ) × Q m × R m)
of_one Q R (inr none) once d = inr (λ h. none (h.0, h.1))
of_one Q R (inl some) once d = by_logic (λ r. (some.0, some.1, r)) (λ h. subst R (once h.0 some.0 h.1 some.1) h.2) (d some.0)

module _ (is_fact : Fact → Type 0) (listed : IsListed is_fact) where
  pub fact_decided : (fact : Fact) → IsDecided (is_fact fact)
  fact_decided fact = listed_decided is_fact compared_facts listed fact

  pub members : (set : ℕ) → IsListed (λ (e : Element). is_fact (Member set e))
  members set = taken_to is_fact (λ (e : Element). Member set e) listed (member_of set)

  outs : (rel : ℕ) (from : Element) → IsListed (λ (t : Target). is_fact (Pair rel from t))
  outs rel from = taken_to is_fact (λ (t : Target). Pair rel from t) listed (reached_of rel from)

  intos : (rel : ℕ) (to : Target) → IsListed (λ (e : Element). is_fact (Pair rel e to))
  intos rel to = taken_to is_fact (λ (e : Element). Pair rel e to) listed (source_of rel to)

  values : (rel : ℕ) (from : Element) → IsListed (λ (n : ℕ). is_fact (Pair rel from (Num n)))
  values rel from = taken_to (λ t. is_fact (Pair rel from t)) (λ (n : ℕ). Num n) (outs rel from) value_of

  size : (b : Binding) (measure : Measure) → HasVariable b measure → (n : ℕ) × HasSize is_fact b measure n
  size b (Whole set) has = many (λ e. is_fact (Member set e)) elements (members set)
  size b (Out v rel) has = named (λ x t. is_fact (Pair rel x t)) (λ x. many (λ t. is_fact (Pair rel x t)) targets (outs rel x)) (element_of b v) has
  size b (Into rel v) has = named (λ y e. is_fact (Pair rel e (Elem y))) (λ y. many (λ e. is_fact (Pair rel e (Elem y))) elements (intos rel (Elem y))) (element_of b v) has

  pub only_size : (b : Binding) (measure : Measure) → HasVariable b measure → (n : ℕ) × IsOnlySize is_fact b measure n
  only_size b measure has =
      let s = size b measure has in
      (s.0, record { is_size = s.1; only = λ m h. size_once is_fact b measure m s.0 h s.1 })

  -- a size has its variable, and is decided to be there
  named_decided : {A : Type 0} (P : Element → A → Type 0) → ((x : Element) → (n : ℕ) × AreMany (P x) n) → (o : Option Element) → IsDecided ((n : ℕ) × IsSomeAnd o (λ x. AreMany (P x) n))
  named_decided P size None = inr (λ h. h.1)
  named_decided P size (Some x) = inl (size x)

  size_decided : (b : Binding) (measure : Measure) → IsDecided ((n : ℕ) × HasSize is_fact b measure n)
  size_decided b (Whole set) = inl (size b (Whole set) tt)
  size_decided b (Out v rel) = named_decided (λ x t. is_fact (Pair rel x t)) (λ x. many (λ t. is_fact (Pair rel x t)) targets (outs rel x)) (element_of b v)
  size_decided b (Into rel v) = named_decided (λ y e. is_fact (Pair rel e (Elem y))) (λ y. many (λ e. is_fact (Pair rel e (Elem y))) elements (intos rel (Elem y))) (element_of b v)

  bound_decided : (b : Binding) (bound : Bound) → IsDecided ((n : ℕ) × HasBound is_fact b bound n)
  bound_decided b (bounds.Num k) = inl (k, refl)
  bound_decided b (bounds.Size measure) = size_decided b measure

  -- all values of a record compare so
  values_decided : (op : Op) (rel : ℕ) (x : Element) (n : ℕ) → IsDecided ((value : ℕ) → is_fact (Pair rel x (Num value)) → Compares op value n)
  values_decided op rel x n = every (λ (value : ℕ). is_fact (Pair rel x (Num value))) (λ value. Compares op value n) (values rel x) (λ value. compares op value n)

  atom_decided : (b : Binding) (atom : Atom) → IsDecided (AtomHolds is_fact b atom)
  atom_decided b (atoms.Member v set) = some_and (λ x. is_fact (Member set x)) (element_of b v) (λ x. fact_decided (Member set x))
  atom_decided b (atoms.Pair v w rel) =
      some_and (λ x. IsSomeAnd (element_of b w) (λ y. is_fact (Pair rel x (Elem y)))) (element_of b v)
      (λ x. some_and (λ y. is_fact (Pair rel x (Elem y))) (element_of b w) (λ y. fact_decided (Pair rel x (Elem y))))
  atom_decided b (atoms.Count measure op k) = of_one (HasSize is_fact b measure) (λ n. Compares op n k) (size_decided b measure) (size_once is_fact b measure) (λ n. compares op n k)
  atom_decided b (atoms.Value v rel op bound) =
      some_and (λ x. (n : ℕ) × HasBound is_fact b bound n × ((value : ℕ) → is_fact (Pair rel x (Num value)) → Compares op value n)) (element_of b v)
      (λ x. of_one (HasBound is_fact b bound) (λ n. (value : ℕ) → is_fact (Pair rel x (Num value)) → Compares op value n) (bound_decided b bound) (bound_once is_fact b bound) (values_decided op rel x))

  pub literal_decided : (b : Binding) (literal : Literal) → IsDecided (LiteralHolds is_fact b literal)
  literal_decided b literal = elim literal.negated as (λ t. IsDecided (MatchBool t (AtomHolds is_fact b literal.atom → ⊥) (AtomHolds is_fact b literal.atom))) [ true ↦ opposite (atom_decided b literal.atom) | false ↦ atom_decided b literal.atom ]
