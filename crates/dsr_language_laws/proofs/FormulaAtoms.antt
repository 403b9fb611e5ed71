-- The atoms of a formula without faults have none, and no `not` stands above one that is no membership.
use Rattle.std.proofs.Common.{◌≡◌, Bool, true, false, not, List, [], ◌++◌, inl, inr, refl, true≢false}
use Rattle.std.proofs.lemmas.Bool.{or_parts, or_from, and_right}
use Rattle.dsr_ir.specs.declared.constraints.Atom.{Atom}
use Rattle.dsr_tree.specs.Trees.{FormulaTree, formula_tree, JoinTrees, no_joins, more_joins, JoinTree, join_tree, UnitTrees, no_units, more_units, UnitTree, not_tree, given_tree, parenthesized_tree, atom_tree}
use Rattle.dsr_tree.specs.declared.faults.Condition.TheVariants as conditions
use Rattle.dsr_tree.specs.declared.tree.Atom.{Atom as AtomTree}
use Rattle.dsr_tree.specs.declared.tree.Atom.TheVariants as atom_trees
use Rattle.dsr_tree.specs.declared.tree.Rule.{Rule}
use Rattle.dsr_meaning.specs.Counting.{IsIn}
use Rattle.dsr_meaning.proofs.Empty.{both_empty}
use Rattle.dsr_language_theory.proofs.Absent.{when_absent}
use Rattle.dsr_language_theory.specs.Constraints.{atom_faults, formula_faults, joins_faults, join_faults, units_faults, unit_faults, is_value, has_value, joins_have_value, join_has_value, units_have_value, unit_has_value, negations, joins_negations, join_negations, units_negations, unit_negations}
use Rattle.dsr_language_theory.specs.NormalForms.{atoms_of, row_atoms, is_membership, negates, row_negates}
use Rattle.dsr_language_theory.specs.TypedConstraints.{Scope, typed_atom, typed_formula, typed_joins, typed_join, typed_units, typed_unit}
use Rattle.dsr_meaning.proofs.Items.{in_either}

-- an atom that is made of one without faults
pub record IsSound (scope : Scope) (rs : List Rule) (a : Atom) : Type 0 where
  pub tree : AtomTree
  pub no_fault : atom_faults scope rs tree ≡ []
  pub made : a ≡ typed_atom scope tree

sound_either : (scope : Scope) (rs : List Rule) (xs ys : List Atom) → ((a : Atom) → IsIn a xs → IsSound scope rs a) → ((a : Atom) → IsIn a ys → IsSound scope rs a) → (a : Atom) → IsIn a (xs ++ ys) → IsSound scope rs a
sound_either scope rs xs ys one other a is = elim (in_either a xs ys is) as (λ _. IsSound scope rs a) [ inl l ↦ one a l | inr r ↦ other a r ]

module _ (scope : Scope) (rs : List Rule) where
  mutual
    pub sound_formula : (f : FormulaTree) → formula_faults scope rs f ≡ [] → (a : Atom) → IsIn a (atoms_of (typed_formula scope f)) → IsSound scope rs a
    sound_formula (formula_tree first rest) e =
        let both = both_empty (join_faults scope rs first) (joins_faults scope rs rest) e in
        sound_either scope rs (atoms_of (typed_join scope first)) (row_atoms (typed_joins scope rest)) (sound_join first both.0) (sound_joins rest both.1)

    sound_joins : (js : JoinTrees) → joins_faults scope rs js ≡ [] → (a : Atom) → IsIn a (row_atoms (typed_joins scope js)) → IsSound scope rs a
    sound_joins no_joins e = λ a is. absurd is
    sound_joins (more_joins join rest) e =
        let both = both_empty (join_faults scope rs join) (joins_faults scope rs rest) e in
        sound_either scope rs (atoms_of (typed_join scope join)) (row_atoms (typed_joins scope rest)) (sound_join join both.0) (sound_joins rest both.1)

    sound_join : (j : JoinTree) → join_faults scope rs j ≡ [] → (a : Atom) → IsIn a (atoms_of (typed_join scope j)) → IsSound scope rs a
    sound_join (join_tree first rest) e =
        let both = both_empty (unit_faults scope rs first) (units_faults scope rs rest) e in
        sound_either scope rs (atoms_of (typed_unit scope first)) (row_atoms (typed_units scope rest)) (sound_unit first both.0) (sound_units rest both.1)

    sound_units : (us : UnitTrees) → units_faults scope rs us ≡ [] → (a : Atom) → IsIn a (row_atoms (typed_units scope us)) → IsSound scope rs a
    sound_units no_units e = λ a is. absurd is
    sound_units (more_units unit rest) e =
        let both = both_empty (unit_faults scope rs unit) (units_faults scope rs rest) e in
        sound_either scope rs (atoms_of (typed_unit scope unit)) (row_atoms (typed_units scope rest)) (sound_unit unit both.0) (sound_units rest both.1)

    sound_unit : (u : UnitTree) → unit_faults scope rs u ≡ [] → (a : Atom) → IsIn a (atoms_of (typed_unit scope u)) → IsSound scope rs a
    sound_unit (not_tree place unit) e = sound_unit unit e
    sound_unit (given_tree place unit) e = sound_unit unit e
    sound_unit (parenthesized_tree place formula) e = sound_formula formula e
    sound_unit (atom_tree atom) e = λ a is. elim is as (λ _. IsSound scope rs a) [
      | inl same ↦ record { tree = atom; no_fault = e; made = same }
      | inr none ↦ absurd none
    ]

-- ---- negations

-- an atom that is no size and no value is a membership
is_member : (scope : Scope) (atom : AtomTree) → is_value atom ≡ false → is_membership (typed_atom scope atom) ≡ true
is_member scope (atom_trees.Count size bound number) e = absurd (true≢false e)
is_member scope (atom_trees.Pair place first second relation) e = refl
is_member scope (atom_trees.Member var set) e = refl
is_member scope (atom_trees.Value var relation compare measure) e = absurd (true≢false e)

module _ (scope : Scope) where
  mutual
    -- where no size or value stands, none is negated
    no_value_formula : (under : Bool) (f : FormulaTree) → has_value f ≡ false → negates under (typed_formula scope f) ≡ false
    no_value_formula under (formula_tree first rest) e =
        let both = or_parts (join_has_value first) (joins_have_value rest) e in
        or_from _ _ (no_value_join under first both.0) (no_value_joins under rest both.1)

    no_value_joins : (under : Bool) (js : JoinTrees) → joins_have_value js ≡ false → row_negates under (typed_joins scope js) ≡ false
    no_value_joins under no_joins e = refl
    no_value_joins under (more_joins join rest) e =
        let both = or_parts (join_has_value join) (joins_have_value rest) e in
        or_from _ _ (no_value_join under join both.0) (no_value_joins under rest both.1)

    no_value_join : (under : Bool) (j : JoinTree) → join_has_value j ≡ false → negates under (typed_join scope j) ≡ false
    no_value_join under (join_tree first rest) e =
        let both = or_parts (unit_has_value first) (units_have_value rest) e in
        or_from _ _ (no_value_unit under first both.0) (no_value_units under rest both.1)

    no_value_units : (under : Bool) (us : UnitTrees) → units_have_value us ≡ false → row_negates under (typed_units scope us) ≡ false
    no_value_units under no_units e = refl
    no_value_units under (more_units unit rest) e =
        let both = or_parts (unit_has_value unit) (units_have_value rest) e in
        or_from _ _ (no_value_unit under unit both.0) (no_value_units under rest both.1)

    no_value_unit : (under : Bool) (u : UnitTree) → unit_has_value u ≡ false → negates under (typed_unit scope u) ≡ false
    no_value_unit under (not_tree place unit) e = no_value_unit true unit e
    no_value_unit under (given_tree place unit) e = no_value_unit under unit e
    no_value_unit under (parenthesized_tree place formula) e = no_value_formula under formula e
    no_value_unit under (atom_tree atom) e = and_right under (not (is_membership (typed_atom scope atom))) (λ i. not (is_member scope atom e i))

  mutual
    -- where no `not` stands above one, none is negated
    pub not_negated : (f : FormulaTree) → negations f ≡ [] → negates false (typed_formula scope f) ≡ false
    not_negated (formula_tree first rest) e =
        let both = both_empty (join_negations first) (joins_negations rest) e in
        or_from _ _ (not_negated_join first both.0) (not_negated_joins rest both.1)

    not_negated_joins : (js : JoinTrees) → joins_negations js ≡ [] → row_negates false (typed_joins scope js) ≡ false
    not_negated_joins no_joins e = refl
    not_negated_joins (more_joins join rest) e =
        let both = both_empty (join_negations join) (joins_negations rest) e in
        or_from _ _ (not_negated_join join both.0) (not_negated_joins rest both.1)

    not_negated_join : (j : JoinTree) → join_negations j ≡ [] → negates false (typed_join scope j) ≡ false
    not_negated_join (join_tree first rest) e =
        let both = both_empty (unit_negations first) (units_negations rest) e in
        or_from _ _ (not_negated_unit first both.0) (not_negated_units rest both.1)

    not_negated_units : (us : UnitTrees) → units_negations us ≡ [] → row_negates false (typed_units scope us) ≡ false
    not_negated_units no_units e = refl
    not_negated_units (more_units unit rest) e =
        let both = both_empty (unit_negations unit) (units_negations rest) e in
        or_from _ _ (not_negated_unit unit both.0) (not_negated_units rest both.1)

    not_negated_unit : (u : UnitTree) → unit_negations u ≡ [] → negates false (typed_unit scope u) ≡ false
    not_negated_unit (not_tree place unit) e = no_value_unit true unit (when_absent (unit_has_value unit) conditions.NegatedValue place e)
    not_negated_unit (given_tree place unit) e = not_negated_unit unit e
    not_negated_unit (parenthesized_tree place formula) e = not_negated formula e
    not_negated_unit (atom_tree atom) e = refl
