-- The atoms of a constraint without fault are typed, once each complement has given way to its base.
use Rattle.std.proofs.Common.{◌≡◌, ℕ, true, false, ◌&&◌, List, [], Option, None, Some, IfSome, is_some, is_none, slice_get, option_map, option_and_then, refl, sym, ap, ◌∙◌, subst, true≢false}
use Rattle.std.specs.Prelude.{IsSome}
use Rattle.std.proofs.lemmas.Bool.{or_parts}
use Rattle.dsr_ir.specs.declared.constraints.Atom.{Atom}
use Rattle.dsr_ir.specs.declared.constraints.Atom.TheVariants as atoms
use Rattle.dsr_ir.specs.declared.constraints.Literal.{Literal}
use Rattle.dsr_ir.specs.declared.constraints.Var.{Var}
use Rattle.dsr_ir.specs.declared.declarations.SetDecl.{SetDecl}
use Rattle.dsr_ir.specs.declared.declarations.Structures.{Structures}
use Rattle.dsr_tree.specs.Trees.{ConstraintTree}
use Rattle.dsr_tree.specs.declared.faults.Condition.TheVariants as conditions
use Rattle.dsr_tree.specs.declared.tree.Atom.{Atom as AtomTree}
use Rattle.dsr_tree.specs.declared.tree.Atom.TheVariants as atom_trees
use Rattle.dsr_tree.specs.declared.tree.Bound.{Bound as BoundTree}
use Rattle.dsr_tree.specs.declared.tree.Bound.TheVariants as bound_trees
use Rattle.dsr_tree.specs.declared.tree.Measure.{Measure}
use Rattle.dsr_tree.specs.declared.tree.Measure.TheVariants as measures
use Rattle.dsr_tree.specs.declared.tree.Quantifier.{Quantifier}
use Rattle.dsr_tree.specs.declared.tree.Rule.{Rule}
use Rattle.dsr_meaning.specs.Typed.{AreTyped, IsTypedSet, IsPlainSetOf, pool_of_var, IsTypedBound, ComparesSizes, IsTypedAtom, MayBeNegated, IsTypedLiteral}
use Rattle.dsr_meaning.proofs.Empty.{both_empty}
use Rattle.dsr_meaning.proofs.Firing.{found_fits}
use Rattle.dsr_language_theory.specs.Declarations.{disagree}
use Rattle.dsr_language_theory.proofs.Absent.{when_absent}
use Rattle.dsr_language_theory.specs.Known.{known_in, is_nil, set_named, relation_named}
use Rattle.dsr_language_theory.specs.Constraints.{pool_of, variable_faults, has_other_source, has_other_target, has_other_targets, is_too_great, measure_names, measure_mismatches, measure_faults, atom_place, atom_names, values_others, atom_mismatches, atom_faults, size_mismatches, counts_numbers}
use Rattle.dsr_language_theory.specs.NormalForms.{is_membership}
use Rattle.dsr_language_theory.specs.RuleFaults.{rules_faults}
use Rattle.dsr_language_theory.specs.TypedConstraints.{variable_in, typed_bound, typed_measure, typed_atom, base_of, over_base, without_complement_at, without_complement, typed_quant}
use Rattle.dsr_language_theory.specs.TypedRules.{number_of}
use Rattle.dsr_language_laws.specs.Meant.{meant}
use Rattle.dsr_language_laws.proofs.BoundVariables.{Bound, variable_known, binding_in}
use Rattle.dsr_language_laws.proofs.Constants.{fits_values}
use Rattle.dsr_language_laws.proofs.FormulaLiterals.{IsFrom}
use Rattle.dsr_language_laws.proofs.FoundNames.{found_set, set_is, found_relation, relation_is}
use Rattle.dsr_language_laws.proofs.RulePaths.{second_fails, no_value, some_value}
use Rattle.dsr_language_laws.proofs.RuleScopes.{is_some_and}
use Rattle.dsr_language_laws.proofs.TypedInclusions.{agree_known}
use Rattle.dsr_language_laws.proofs.TypedSizes.{source_is, targets_are, number_at, size_is_typed}

-- ---- complements

-- a membership in the base of a complement, for one in the complement
abbrev over_atom : Var → ℕ → Option ℕ → Atom
over_atom v set None = atoms.Member v set
over_atom v set (Some other) = atoms.Member v other

abbrev pub base_atom : Structures → Atom → Atom
base_atom base (atoms.Member v set) = over_atom v set (base_of base set)
base_atom base (atoms.Pair v w rel) = atoms.Pair v w rel
base_atom base (atoms.Count measure op k) = atoms.Count measure op k
base_atom base (atoms.Value v rel op bound) = atoms.Value v rel op bound

over_base_atom : (l : Literal) (v : Var) (set : ℕ) (o : Option ℕ) → l.atom ≡ atoms.Member v set → (over_base l v o).atom ≡ over_atom v set o
over_base_atom l v set None e = e
over_base_atom l v set (Some other) e = refl

rewritten_at : (base : Structures) (l : Literal) (a : Atom) → l.atom ≡ a → (without_complement_at base l a).atom ≡ base_atom base a
rewritten_at base l (atoms.Member v set) e = over_base_atom l v set (base_of base set) e
rewritten_at base l (atoms.Pair v w rel) e = e
rewritten_at base l (atoms.Count measure op k) e = e
rewritten_at base l (atoms.Value v rel op bound) e = e

-- the atom of a literal whose complement has given way
pub rewritten : (base : Structures) (l : Literal) → (without_complement base l).atom ≡ base_atom base l.atom
rewritten base l = rewritten_at base l l.atom refl

over_base_negated : (l : Literal) (v : Var) (set : ℕ) (o : Option ℕ) → l.atom ≡ atoms.Member v set → MayBeNegated (over_base l v o).atom
over_base_negated l v set None e = subst MayBeNegated (sym e) tt
over_base_negated l v set (Some other) e = tt

negated_at : (base : Structures) (l : Literal) (a : Atom) → l.atom ≡ a → (l.negated ≡ true → is_membership a ≡ true) → (without_complement_at base l a).negated ≡ true → MayBeNegated (without_complement_at base l a).atom
negated_at base l (atoms.Member v set) e h negated = over_base_negated l v set (base_of base set) e
negated_at base l (atoms.Pair v w rel) e h negated = subst MayBeNegated (sym e) tt
negated_at base l (atoms.Count measure op k) e h negated = absurd (true≢false (sym (h negated)))
negated_at base l (atoms.Value v rel op bound) e h negated = absurd (true≢false (sym (h negated)))

-- ---- atoms

compares : (bound : BoundTree) → ComparesSizes (typed_bound bound)
compares bound_trees.AtMost = tt
compares bound_trees.AtLeast = tt
compares bound_trees.Equal = tt

module _ (base : Structures) (typed : AreTyped base) (rs : List Rule) (constraints : List ConstraintTree) (empty : rules_faults (known_in base) rs ≡ []) (quantifier : Option Quantifier) (b : Bound base quantifier) where
  -- a member of a set, or of the base of a complement
  member_typed : (v : Var) (pool n : ℕ) (set : SetDecl) → pool_of_var base (typed_quant (binding_in base quantifier)) v ≡ Some pool → slice_get base.sets n ≡ Some set → pool ≡ set.pool → IsTypedAtom (meant base rs constraints) (typed_quant (binding_in base quantifier)) (over_atom v n (base_of base n))
  member_typed v pool n set is at same = of set.except refl
    where
      of : (o : Option ℕ) → set.except ≡ o → IsTypedAtom (meant base rs constraints) (typed_quant (binding_in base quantifier)) (over_atom v n (base_of base n))
      of None e =
          let none : base_of base n ≡ None = ap (option_and_then (λ s. s.except)) at ∙ e in
          subst (λ o. IsTypedAtom (meant base rs constraints) (typed_quant (binding_in base quantifier)) (over_atom v n o)) (sym none) (pool, is, is_some_and (λ s. (s.pool ≡ pool) × (s.except ≡ None)) (slice_get base.sets n) set at (sym same, e))
      of (Some other) e =
          let some : base_of base n ≡ Some other = ap (option_and_then (λ s. s.except)) at ∙ e in
          let plain : IsPlainSetOf base set.pool other = subst (λ o. IfSome o (IsPlainSetOf base set.pool)) e (found_fits (IsTypedSet base) base.sets n set typed.sets at).except in
          subst (λ o. IsTypedAtom (meant base rs constraints) (typed_quant (binding_in base quantifier)) (over_atom v n o)) (sym some) (pool, is, subst (λ p. IsPlainSetOf base p other) (sym same) plain)

  -- what a value is compared with
  bound_typed : (measure : Measure) (rel : ℕ) (number : Option ℕ) → number ≡ Some rel → measure_names (binding_in base quantifier) measure ≡ [] → measure_mismatches (binding_in base quantifier) measure ≡ false → measure_faults (known_in base) rs number measure ≡ [] → IsTypedBound (meant base rs constraints) (typed_quant (binding_in base quantifier)) rel (typed_measure (binding_in base quantifier) measure)
  bound_typed (measures.Number k) rel number is names e constant =
      fits_values base rs constraints empty rel k.number (sym (ap (is_too_great (known_in base) rs k.number) is) ∙ when_absent (is_too_great (known_in base) rs k.number number) conditions.Width k.place constant)
  bound_typed (measures.Size size) rel number is names e constant =
      let scope = binding_in base quantifier in
      let both = or_parts (size_mismatches scope size.var size.part) (counts_numbers scope size.var size.part) e in
      let s = size_is_typed base quantifier b size.var size.part names both.0 in
      (s.typed, s.records both.1)

  atom_of : (tree : AtomTree) → atom_names (binding_in base quantifier) tree ≡ [] → atom_mismatches (binding_in base quantifier) tree ≡ false → atom_faults (binding_in base quantifier) rs tree ≡ [] → IsTypedAtom (meant base rs constraints) (typed_quant (binding_in base quantifier)) (base_atom base (typed_atom (binding_in base quantifier) tree))
  atom_of (atom_trees.Count size bound number) names e all = ((size_is_typed base quantifier b size.var size.part names e).typed, compares bound)
  atom_of (atom_trees.Pair place first second relation) names e all =
      let scope = binding_in base quantifier in
      let one = both_empty (variable_faults scope first) _ names in
      let rest = both_empty (variable_faults scope second) _ one.1 in
      let v = variable_known base quantifier b first one.0 in
      let w = variable_known base quantifier b second rest.0 in
      let number = (known_in base).relation relation.name in
      let f = found_relation base relation.name (when_absent (is_none number) conditions.UnknownName relation.place rest.1) in
      let r = relation_named (known_in base) relation.name in
      let is = relation_is base relation.name f in
      let kinds = or_parts (has_other_source r (pool_of scope first)) (has_other_target r (pool_of scope second)) e in
      let source = source_is r f.item (pool_of scope first) v.pool is v.asked kinds.0 in
      let sinks = or_parts (is_none f.item.target) (has_other_targets (Some f.item) (pool_of scope second)) (sym (ap (λ o. has_other_target o (pool_of scope second)) is) ∙ kinds.1) in
      let target = targets_are (Some f.item) f.item (pool_of scope second) w.pool refl w.asked sinks.1 in
      is_some_and (λ x. IsSome x.target × (pool_of_var base (typed_quant scope) (variable_in scope first) ≡ Some x.source) × (pool_of_var base (typed_quant scope) (variable_in scope second) ≡ x.target))
      (slice_get base.rels (number_of number)) f.item (number_at base number f)
      (some_value f.item.target sinks.0, v.typed ∙ ap Some source, w.typed ∙ target)
  atom_of (atom_trees.Member var set) names e all =
      let scope = binding_in base quantifier in
      let both = both_empty (variable_faults scope var) _ names in
      let v = variable_known base quantifier b var both.0 in
      let number = (known_in base).set set.name in
      let f = found_set base set.name (when_absent (is_none number) conditions.UnknownName set.place both.1) in
      let pool : option_map (λ s. s.pool) (set_named (known_in base) set.name) ≡ Some f.item.pool = ap (option_map (λ s. s.pool)) (set_is base set.name f) in
      let same = agree_known (pool_of scope var) (option_map (λ s. s.pool) (set_named (known_in base) set.name)) v.pool f.item.pool v.asked pool e in
      member_typed (variable_in scope var) v.pool (number_of number) f.item v.typed (ap (λ n. slice_get base.sets (number_of n)) f.found ∙ f.is) same
  atom_of (atom_trees.Value var relation compare measure) names e all =
      let scope = binding_in base quantifier in
      let one = both_empty (variable_faults scope var) _ names in
      let number = (known_in base).relation relation.name in
      let rest = both_empty _ (measure_names scope measure) one.1 in
      let v = variable_known base quantifier b var one.0 in
      let f = found_relation base relation.name (when_absent (is_none number) conditions.UnknownName relation.place rest.0) in
      let is = relation_is base relation.name f in
      let kinds = or_parts (values_others (relation_named (known_in base) relation.name) (pool_of scope var)) (measure_mismatches scope measure) e in
      let values = or_parts (is_some f.item.target) (disagree (pool_of scope var) (Some f.item.source)) (sym (ap (λ o. values_others o (pool_of scope var)) is) ∙ kinds.0) in
      let source = agree_known (pool_of scope var) (Some f.item.source) v.pool f.item.source v.asked refl values.1 in
      let constant = (both_empty _ _ (both_empty (atom_names scope (atom_trees.Value var relation compare measure)) _ all).1).1 in
      let known : number ≡ Some (number_of number) = f.found ∙ ap Some (sym (ap number_of f.found)) in (
        is_some_and (λ x. (x.target ≡ None) × (pool_of_var base (typed_quant scope) (variable_in scope var) ≡ Some x.source)) (slice_get base.rels (number_of number)) f.item (number_at base number f) (no_value f.item.target values.0, v.typed ∙ ap Some source),
        bound_typed measure (number_of number) number known rest.1 kinds.1 constant,
      )

  pub atom_is_typed : (tree : AtomTree) → atom_faults (binding_in base quantifier) rs tree ≡ [] → IsTypedAtom (meant base rs constraints) (typed_quant (binding_in base quantifier)) (base_atom base (typed_atom (binding_in base quantifier) tree))
  atom_is_typed tree e =
      let scope = binding_in base quantifier in
      let names = both_empty (atom_names scope tree) _ e in
      let rest = both_empty _ _ names.1 in
      let fails = second_fails (is_nil (atom_names scope tree)) (atom_mismatches scope tree) (ap is_nil names.0) (when_absent (is_nil (atom_names scope tree) && atom_mismatches scope tree) conditions.PoolMismatch (atom_place tree) rest.0) in
      atom_of tree names.0 fails e

  -- a literal of such an atom
  pub literal_is_typed : (l : Literal) (xs : List Atom) → IsFrom xs l → IsTypedAtom (meant base rs constraints) (typed_quant (binding_in base quantifier)) (base_atom base l.atom) → IsTypedLiteral (meant base rs constraints) (typed_quant (binding_in base quantifier)) (without_complement base l)
  literal_is_typed l xs from atom = record {
    atom = subst (IsTypedAtom (meant base rs constraints) (typed_quant (binding_in base quantifier))) (sym (rewritten base l)) atom;
    negated = λ h. negated_at base l l.atom refl from.negated h;
  }
