-- Sets and relations of which a typed constraint's causes speak are declared.
use Rattle.std.proofs.Common.{◌≡◌, ◌<◌, ◌+◌, ◌++◌, ℕ, Bool, true, false, All, List, [], ◌∷◌, length, take, get_or, append_assoc, refl, sym, ap, subst, ◌∙◌}
use Rattle.std.specs.List.{flat_map}
use Rattle.std.proofs.lemmas.List.Elements.{All-append, All-cons, All-head, All-nil, All-tail}
use Rattle.dsr_graph_theory.specs.Causes.{atom_causes, bound_causes, constraint_causes, fewer_counted, literal_causes, literals_of, more_counted, quantifier_causes, size_causes, size_changes}
use Rattle.dsr_graph_theory.specs.declared.causes.Cause.{Cause}
use Rattle.dsr_facts.proofs.Taking.{flat_more}
use Rattle.std.proofs.lemmas.List.{get_or_default}
use Rattle.dsr_graph.specs.Told.{IsOfDeclared}
use Rattle.dsr_ir.specs.declared.constraints.Atom.{Atom}
use Rattle.dsr_ir.specs.declared.constraints.Atom.TheVariants.{Member, Pair, Count, Value}
use Rattle.dsr_ir.specs.declared.constraints.Bound.{Bound}
use Rattle.dsr_ir.specs.declared.constraints.Bound.TheVariants.{Num, Size}
use Rattle.dsr_ir.specs.declared.constraints.Conj.{Conj}
use Rattle.dsr_ir.specs.declared.constraints.Constraint.{Constraint}
use Rattle.dsr_ir.specs.declared.constraints.Literal.{Literal}
use Rattle.dsr_ir.specs.declared.constraints.Measure.{Measure}
use Rattle.dsr_ir.specs.declared.constraints.Measure.TheVariants.{Whole, Out, Into}
use Rattle.dsr_ir.specs.declared.constraints.Quant.{Quant}
use Rattle.dsr_ir.specs.declared.constraints.Quant.TheVariants.{Once, Each, Pairs}
use Rattle.dsr_ir.specs.declared.declarations.Spec.{Spec}
use Rattle.dsr_ir.specs.declared.rules.Op.{Op}
use Rattle.dsr_ir.specs.declared.rules.Op.TheVariants as ops
use Rattle.dsr_meaning.specs.Typed.{IsTypedAtom, IsTypedBound, IsTypedConj, IsTypedConstraint, IsTypedLiteral, IsTypedMeasure, IsTypedQuant}
use Rattle.dsr_update_theory.specs.Effects.{IsDeclared}
use Rattle.dsr_update_theory.specs.Templates.{counted_symbol}
use Rattle.dsr_facts.proofs.Givers.{within}

module _ (spec : Spec) where
  abbrev pub Declared : Cause → Type 0
  Declared = IsOfDeclared spec.base

  measure_declared : (quant : Quant) (measure : Measure) → IsTypedMeasure spec.base quant measure → IsDeclared spec.base (counted_symbol measure)
  measure_declared quant (Whole set) typed = typed
  measure_declared quant (Out v rel) typed = within _ spec.base.rels rel typed
  measure_declared quant (Into rel v) typed = within _ spec.base.rels rel typed

  changes_declared : (quant : Quant) (measure : Measure) → IsTypedMeasure spec.base quant measure → All Declared (size_changes measure)
  changes_declared quant measure typed =
      All-cons Declared (more_counted measure) (fewer_counted measure ∷ []) (measure_declared quant measure typed)
      (All-cons Declared (fewer_counted measure) [] (measure_declared quant measure typed) (All-nil Declared))

  one_declared : (cause : Cause) → Declared cause → All Declared (cause ∷ [])
  one_declared cause its = All-cons Declared cause [] its (All-nil Declared)

  size_declared : (quant : Quant) (measure : Measure) (op : Op) → IsTypedMeasure spec.base quant measure → All Declared (size_causes measure op)
  size_declared quant measure ops.Le typed = one_declared (more_counted measure) (measure_declared quant measure typed)
  size_declared quant measure ops.Ge typed = one_declared (fewer_counted measure) (measure_declared quant measure typed)
  size_declared quant measure ops.Eq typed = changes_declared quant measure typed
  size_declared quant measure ops.Ne typed = changes_declared quant measure typed
  size_declared quant measure ops.Lt typed = changes_declared quant measure typed
  size_declared quant measure ops.Gt typed = changes_declared quant measure typed

  bound_declared : (quant : Quant) (rel : ℕ) (bound : Bound) → IsTypedBound spec quant rel bound → All Declared (bound_causes bound)
  bound_declared quant rel (Num k) typed = All-nil Declared
  bound_declared quant rel (Size measure) typed = changes_declared quant measure typed.0

  atom_declared : (quant : Quant) (negated : Bool) (atom : Atom) → IsTypedAtom spec quant atom → All Declared (atom_causes negated atom)
  atom_declared quant true (Member v set) typed = one_declared _ (within _ spec.base.sets set typed.2)
  atom_declared quant false (Member v set) typed = one_declared _ (within _ spec.base.sets set typed.2)
  atom_declared quant true (Pair v w rel) typed = one_declared _ (within _ spec.base.rels rel typed)
  atom_declared quant false (Pair v w rel) typed = one_declared _ (within _ spec.base.rels rel typed)
  atom_declared quant negated (Count measure op k) typed = size_declared quant measure op typed.0
  atom_declared quant negated (Value v rel op bound) typed =
      All-cons Declared _ (bound_causes bound) (within _ spec.base.rels rel typed.0) (bound_declared quant rel bound typed.1)

  pub literal_declared : (quant : Quant) (literal : Literal) → IsTypedLiteral spec quant literal → All Declared (literal_causes literal)
  literal_declared quant literal typed = atom_declared quant literal.negated literal.atom typed.atom

  literals_declared : (quant : Quant) (literals : List Literal) → All (IsTypedLiteral spec quant) literals → All Declared (flat_map literal_causes literals)
  literals_declared quant [] typed = All-nil Declared
  literals_declared quant (l ∷ rest) typed =
      All-append Declared (literal_causes l) (flat_map literal_causes rest) (literal_declared quant l (All-head (IsTypedLiteral spec quant) l rest typed))
      (literals_declared quant rest (All-tail (IsTypedLiteral spec quant) l rest typed))

  -- the literals of conjunctions one after the other, as the code goes over them
  pub conjs_declared : (quant : Quant) (conjs : List Conj) → All (IsTypedConj spec quant) conjs → All Declared (flat_map (λ conj. flat_map literal_causes conj.literals) conjs)
  conjs_declared quant [] typed = All-nil Declared
  conjs_declared quant (conj ∷ rest) typed =
      All-append Declared (flat_map literal_causes conj.literals) (flat_map (λ conj. flat_map literal_causes conj.literals) rest)
      (literals_declared quant conj.literals (All-head (IsTypedConj spec quant) conj rest typed).literals)
      (conjs_declared quant rest (All-tail (IsTypedConj spec quant) conj rest typed))

  pub quantifier_declared : (quant : Quant) → IsTypedQuant spec.base quant → All Declared (quantifier_causes quant)
  quantifier_declared Once typed = All-nil Declared
  quantifier_declared (Each set) typed = one_declared _ typed
  quantifier_declared (Pairs rel) typed = one_declared _ (within _ spec.base.rels rel typed)

-- the literals of conjunctions, one after the other
flat_append : {A B : Type 0} (f : A → List B) (xs ys : List A) → flat_map f (xs ++ ys) ≡ flat_map f xs ++ flat_map f ys
flat_append f [] ys = refl
flat_append f (x ∷ xs) ys = ap (λ zs. f x ++ zs) (flat_append f xs ys) ∙ sym (append_assoc (f x) (flat_map f xs) (flat_map f ys))

flat_flat : {A B C : Type 0} (f : B → List C) (g : A → List B) (xs : List A) → flat_map (λ x. flat_map f (g x)) xs ≡ flat_map f (flat_map g xs)
flat_flat f g [] = refl
flat_flat f g (x ∷ xs) = ap (λ zs. flat_map f (g x) ++ zs) (flat_flat f g xs) ∙ sym (flat_append f (g x) (flat_map g xs))

-- the causes as they are collected
pub collected : (c : Constraint) (all quantified none : List Cause) (conjs : List Conj) → all ≡ quantified ++ flat_map (λ conj. flat_map literal_causes conj.literals) conjs → quantified ≡ none ++ quantifier_causes c.quant → none ≡ [] → conjs ≡ c.conjs → all ≡ constraint_causes false c
collected c all quantified none conjs all_are quantified_are none_are conjs_are =
    all_are
    ∙ (ap (λ qs. qs ++ flat_map (λ conj. flat_map literal_causes conj.literals) conjs) (quantified_are ∙ ap (λ ns. ns ++ quantifier_causes c.quant) none_are)
    ∙ ap (λ rest. quantifier_causes c.quant ++ rest) (ap (flat_map (λ conj. flat_map literal_causes conj.literals)) conjs_are ∙ flat_flat literal_causes (λ conj. conj.literals) c.conjs))

pub constraint_declared : (spec : Spec) (c : Constraint) → IsTypedConstraint spec c → All (IsOfDeclared spec.base) (constraint_causes false c)
constraint_declared spec c typed =
    All-append (IsOfDeclared spec.base) (quantifier_causes c.quant) (flat_map literal_causes (literals_of c)) (quantifier_declared spec c.quant typed.quant)
    (subst (All (IsOfDeclared spec.base)) (flat_flat literal_causes (λ conj. conj.literals) c.conjs) (conjs_declared spec c.quant c.conjs typed.conjs))

-- what the next item of a list gives is put behind the others
pub more_listed : {S T : Type 0} (f : S → List T) (xs : List S) (i : ℕ) (d : S) → i < length xs → (old now new : List T) → now ≡ old ++ flat_map f (take i xs) → new ≡ now ++ f (get_or xs i d) → new ≡ old ++ flat_map f (take (i + 1) xs)
more_listed f xs i d less old now new now_is new_is =
    new_is ∙ ap (λ ys. ys ++ f (get_or xs i d)) now_is ∙ append_assoc old (flat_map f (take i xs)) (f (get_or xs i d))
    ∙ ap (λ ys. old ++ ys) (flat_more f xs i (get_or xs i d) less (get_or_default xs i d (get_or xs i d) less))
