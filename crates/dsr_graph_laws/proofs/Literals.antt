-- A literal that was true is true afterwards, where none of its causes happens.
use Rattle.std.proofs.Common.{◌≡◌, ◌≤◌, ℕ, Bool, true, false, List, Option, None, Some, IsSomeAnd, MatchBool, inl, inr, refl, sym, ap, subst, arith}
use Rattle.std.specs.Prelude.{IsTrue}
use Rattle.std.proofs.lemmas.Option.{same_Some}
use Rattle.dsr_graph_theory.specs.Causes.{atom_causes, bound_causes, fewer_counted, gain, literal_causes, loss, more_counted, size_causes, size_changes}
use Rattle.dsr_graph_theory.specs.declared.causes.Cause.{Cause}
use Rattle.dsr_graph_theory.specs.declared.causes.Reason.TheVariants.{Gain, Loss}
use Rattle.dsr_model_laws.proofs.Models.{facts_listed}
use Rattle.dsr_model_laws.proofs.Truths.{only_size}
use Rattle.dsr_ir.specs.declared.constraints.Atom.{Atom}
use Rattle.dsr_ir.specs.declared.constraints.Atom.TheVariants as atoms
use Rattle.dsr_ir.specs.declared.constraints.Bound.{Bound}
use Rattle.dsr_ir.specs.declared.constraints.Bound.TheVariants as bounds
use Rattle.dsr_ir.specs.declared.constraints.Literal.{Literal}
use Rattle.dsr_ir.specs.declared.constraints.Measure.{Measure}
use Rattle.dsr_ir.specs.declared.constraints.Var.{Var}
use Rattle.dsr_ir.specs.declared.declarations.Spec.{Spec}
use Rattle.dsr_ir.specs.declared.layouts.Layout.{Layout}
use Rattle.dsr_ir.specs.declared.rules.Op.{Op}
use Rattle.dsr_ir.specs.declared.rules.Op.TheVariants.{Eq, Ne, Lt, Le, Gt, Ge}
use Rattle.dsr_ir.specs.declared.tuples.Binding.{Binding}
use Rattle.dsr_ir.specs.declared.tuples.Element.{Element}
use Rattle.dsr_ir.specs.declared.tuples.Fact.{Fact}
use Rattle.dsr_ir.specs.declared.tuples.Fact.TheVariants.{Member, Pair}
use Rattle.dsr_ir.specs.declared.tuples.Target.TheVariants.{Elem, Num}
use Rattle.dsr_ir.specs.declared.updates.Symbol.TheVariants.{Set, Rel}
use Rattle.dsr_meaning.specs.Counting.{IsIn}
use Rattle.dsr_meaning.specs.Instances.{Compares}
use Rattle.dsr_meaning.specs.Looking.{symbol_of}
use Rattle.dsr_meaning.specs.Models.{IsFact}
use Rattle.dsr_meaning.specs.Truth.{AtomHolds, HasBound, HasSize, LiteralHolds, element_of}
use Rattle.dsr_meaning.specs.Typed.{MayBeNegated}
use Rattle.dsr_effect_laws.specs.Allowed.{subject_of}
use Rattle.dsr_graph_laws.proofs.Sizes.{IsReadAt, has_variable, size_le}

-- `Happens` says which causes there are
module _ (spec : Spec) (layout : Layout) (old new : List ℕ) (b : Binding) (Happens : Cause → Type 0)
    (no_gain : (cause : Cause) (fact : Fact) → (Happens cause → ⊥) → cause.reason ≡ Gain (symbol_of fact) → IsReadAt b cause.at fact → IsFact spec layout new fact → IsFact spec layout old fact)
    (no_loss : (cause : Cause) (fact : Fact) → (Happens cause → ⊥) → cause.reason ≡ Loss (symbol_of fact) → IsReadAt b cause.at fact → IsFact spec layout old fact → IsFact spec layout new fact) where
  abbrev F : Fact → Type 0
  F = IsFact spec layout old

  abbrev G : Fact → Type 0
  G = IsFact spec layout new

  abbrev None_of : List Cause → Type 0
  None_of causes = (cause : Cause) → IsIn cause causes → Happens cause → ⊥

  some_map : (o : Option Element) (P Q : Element → Type 0) → ((x : Element) → o ≡ Some x → P x → Q x) → IsSomeAnd o P → IsSomeAnd o Q
  some_map None P Q f h = absurd h
  some_map (Some x) P Q f h = f x refl h

  -- what is read at a variable's record
  read_there : (v : Var) (fact : Fact) → element_of b v ≡ Some (subject_of fact) → IsReadAt b (Some v) fact
  read_there v fact is w some = subst (λ u. element_of b u ≡ Some (subject_of fact)) (same_Some v w some) is

  -- what isn't lost is more, and what isn't gained is less
  no_less : (measure : Measure) (m n : ℕ) → (Happens (fewer_counted measure) → ⊥) → HasSize F b measure m → HasSize G b measure n → m ≤ n
  no_less measure m n none one two = size_le F G b measure m n (λ fact is read there. no_loss (fewer_counted measure) fact none (ap Loss (sym is)) read there) one two

  no_larger : (measure : Measure) (m n : ℕ) → (Happens (more_counted measure) → ⊥) → HasSize F b measure m → HasSize G b measure n → n ≤ m
  no_larger measure m n none one two = size_le G F b measure n m (λ fact is read there. no_gain (more_counted measure) fact none (ap Gain (sym is)) read there) two one

  new_size : (measure : Measure) (m : ℕ) → HasSize F b measure m → (n : ℕ) × HasSize G b measure n
  new_size measure m size = let s = only_size G (facts_listed spec layout new) b measure (has_variable F b measure m size) in (s.0, s.1.is_size)

  same_size : (measure : Measure) (m : ℕ) → None_of (size_changes measure) → HasSize F b measure m → HasSize G b measure m
  same_size measure m none size =
      let n = new_size measure m size in
      let most = no_larger measure m n.0 (none _ (inl refl)) size n.1 in
      let least = no_less measure m n.0 (none _ (inr (inl refl))) size n.1 in
      let same : n.0 ≡ m = omega (arith, most, least) in
      subst (HasSize G b measure) same n.1

  size_stays : (measure : Measure) (op : Op) (k : ℕ) → None_of (size_causes measure op) → AtomHolds F b (atoms.Count measure op k) → AtomHolds G b (atoms.Count measure op k)
  size_stays measure Le k none h =
      let n = new_size measure h.0 h.1 in
      let most = no_larger measure h.0 n.0 (none _ (inl refl)) h.1 n.1 in
      let was : h.0 ≤ k = h.2 in
      (n.0, n.1, omega (arith, most, was))
  size_stays measure Ge k none h =
      let n = new_size measure h.0 h.1 in
      let least = no_less measure h.0 n.0 (none _ (inl refl)) h.1 n.1 in
      let was : k ≤ h.0 = h.2 in
      (n.0, n.1, omega (arith, least, was))
  size_stays measure Eq k none h = (h.0, same_size measure h.0 none h.1, h.2)
  size_stays measure Ne k none h = (h.0, same_size measure h.0 none h.1, h.2)
  size_stays measure Lt k none h = (h.0, same_size measure h.0 none h.1, h.2)
  size_stays measure Gt k none h = (h.0, same_size measure h.0 none h.1, h.2)

  bound_stays : (bound : Bound) (n : ℕ) → None_of (bound_causes bound) → HasBound F b bound n → HasBound G b bound n
  bound_stays (bounds.Num k) n none h = h
  bound_stays (bounds.Size measure) n none h = same_size measure n none h

  pub atom_stays : (atom : Atom) (negated : Bool) → (IsTrue negated → MayBeNegated atom) → None_of (atom_causes negated atom) → MatchBool negated (AtomHolds F b atom → ⊥) (AtomHolds F b atom) → MatchBool negated (AtomHolds G b atom → ⊥) (AtomHolds G b atom)
  atom_stays (atoms.Member v set) false may none h = some_map (element_of b v) (λ x. F (Member set x)) (λ x. G (Member set x)) (λ x is. no_loss (loss (Set set) (Some v)) (Member set x) (none _ (inl refl)) refl (read_there v (Member set x) is)) h
  atom_stays (atoms.Member v set) true may none h = λ now. h (some_map (element_of b v) (λ x. G (Member set x)) (λ x. F (Member set x)) (λ x is. no_gain (gain (Set set) (Some v)) (Member set x) (none _ (inl refl)) refl (read_there v (Member set x) is)) now)
  atom_stays (atoms.Pair v w rel) false may none h =
      some_map (element_of b v) (λ x. IsSomeAnd (element_of b w) (λ y. F (Pair rel x (Elem y)))) (λ x. IsSomeAnd (element_of b w) (λ y. G (Pair rel x (Elem y))))
      (λ x is. some_map (element_of b w) (λ y. F (Pair rel x (Elem y))) (λ y. G (Pair rel x (Elem y))) (λ y at. no_loss (loss (Rel rel) (Some v)) (Pair rel x (Elem y)) (none _ (inl refl)) refl (read_there v (Pair rel x (Elem y)) is))) h
  atom_stays (atoms.Pair v w rel) true may none h = λ now. h
      (some_map (element_of b v) (λ x. IsSomeAnd (element_of b w) (λ y. G (Pair rel x (Elem y)))) (λ x. IsSomeAnd (element_of b w) (λ y. F (Pair rel x (Elem y))))
      (λ x is. some_map (element_of b w) (λ y. G (Pair rel x (Elem y))) (λ y. F (Pair rel x (Elem y))) (λ y at. no_gain (gain (Rel rel) (Some v)) (Pair rel x (Elem y)) (none _ (inl refl)) refl (read_there v (Pair rel x (Elem y)) is))) now)
  atom_stays (atoms.Count measure op k) false may none h = size_stays measure op k none h
  atom_stays (atoms.Count measure op k) true may none h = absurd (may refl)
  atom_stays (atoms.Value v rel op bound) true may none h = absurd (may refl)
  atom_stays (atoms.Value v rel op bound) false may none h =
      some_map (element_of b v)
      (λ x. (n : ℕ) × HasBound F b bound n × ((value : ℕ) → F (Pair rel x (Num value)) → Compares op value n))
      (λ x. (n : ℕ) × HasBound G b bound n × ((value : ℕ) → G (Pair rel x (Num value)) → Compares op value n))
      (λ x is s. (s.0, bound_stays bound s.0 (λ cause i. none cause (inr i)) s.1, λ value there. s.2 value (no_gain (gain (Rel rel) (Some v)) (Pair rel x (Num value)) (none _ (inl refl)) refl (read_there v (Pair rel x (Num value)) is) there))) h

  pub literal_stays : (literal : Literal) → (IsTrue literal.negated → MayBeNegated literal.atom) → None_of (literal_causes literal) → LiteralHolds F b literal → LiteralHolds G b literal
  literal_stays literal may none h = atom_stays literal.atom literal.negated may none h
