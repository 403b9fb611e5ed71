-- The names of a tree of a text, and those of what it means.
use Rattle.std.proofs.Common.{ℕ, List, All, get_or, refl, sym, subst}
use Rattle.std.proofs.lemmas.List.Elements.{All-map}
use Rattle.dsr_ir.specs.declared.declarations.Spec.{Spec}
use Rattle.dsr_meaning.specs.Typed.{HasName}
use Rattle.dsr_tree.specs.Trees.{FieldTree, named, skipped, StructureTree, TreeShape}
use Rattle.dsr_language_theory.specs.Names.{Names, names_of}
use Rattle.dsr_syntax_theory.specs.Parsing.{IsTreeOf}
use Rattle.dsr_language_theory.specs.Tables.{typed_field, typed_structure, typed_pool, typed_set, typed_relation, tables}
use Rattle.dsr_syntax_theory.specs.TreeTexts.{constraint_text, field_text, pool_text, relation_text, set_text, structure_text, tree_text}
use Rattle.dsr_language_theory.specs.Known.{known_in}
use Rattle.dsr_language_theory.specs.Specifications.{IsSpecificationOf, specification}
use Rattle.dsr_language_theory.specs.TypedConstraints.{typed_constraint}
use Rattle.dsr_language_laws.specs.Spellings.{IsSpelled, AreFieldsSpelled, HasSpelledNames}
use Rattle.dsr_language_laws.proofs.SpelledPhrases.{IsNamedPhrase, all_named, well_cut, well_said}

-- each name that a tree declares
pub record IsNamedTree (t : TreeShape) : Type 0 where
  pub structures : All (λ s. IsNamedPhrase (structure_text s)) t.structures
  pub pools : All (λ p. IsSpelled p.name.name) t.pools
  pub sets : All (λ s. IsSpelled s.name.name) t.sets
  pub relations : All (λ r. IsSpelled r.name.name) t.relations
  pub constraints : All (λ c. IsSpelled c.name.name) t.constraints

named_tree : (t : TreeShape) → IsNamedPhrase (tree_text t) → IsNamedTree t
named_tree t are =
    let structures = are.1.1 in
    let pools = structures.1 in
    let sets = pools.1 in
    let relations = sets.1 in
    let rules = relations.1.1 in
    record {
      structures = all_named structure_text (λ s. IsNamedPhrase (structure_text s)) (λ s is. is) t.structures structures.0;
      pools = all_named pool_text (λ p. IsSpelled p.name.name) (λ p is. is.1.0) t.pools pools.0;
      sets = all_named set_text (λ s. IsSpelled s.name.name) (λ s is. is.1.0) t.sets sets.0;
      relations = all_named relation_text (λ r. IsSpelled r.name.name) (λ r is. is.1.0) t.relations relations.0;
      constraints = all_named constraint_text (λ c. IsSpelled c.name.name) (λ c is. is.1.0) t.constraints rules.1;
    }

pub tree_is_named : (text : List ℕ) (t : TreeShape) → IsTreeOf text t → IsNamedTree t
tree_is_named text t is = named_tree t (well_said is.says (well_cut is.lexed.cut)).phrase

-- a gap has no name
field_is_spelled : (names : Names) (f : FieldTree) → IsNamedPhrase (field_text f) → HasName (typed_field names f) → IsSpelled (typed_field names f).name
field_is_spelled names (named f) is has = is.1.1.0
field_is_spelled names (skipped place length) is has = absurd (has refl)

structure_is_spelled : (names : Names) (s : StructureTree) → IsNamedPhrase (structure_text s) → AreFieldsSpelled (typed_structure names s)
structure_is_spelled names s is =
    record {
      own = is.1.0;
      fields = All-map (λ f. HasName f → IsSpelled f.name) (typed_field names) s.fields (all_named field_text (λ f. HasName (typed_field names f) → IsSpelled (typed_field names f).name) (field_is_spelled names) s.fields is.1.1.1.1.0);
    }

meant_is_spelled : (t : TreeShape) → IsNamedTree t → HasSpelledNames (specification t)
meant_is_spelled t is =
    let names = names_of t in
    record {
      structures = All-map AreFieldsSpelled (typed_structure names) t.structures (λ k d below. structure_is_spelled names (get_or t.structures k d) (is.structures k d below));
      pools = All-map (λ p. IsSpelled p.name) (typed_pool names) t.pools is.pools;
      sets = All-map (λ s. IsSpelled s.name) (typed_set names) t.sets is.sets;
      relations = All-map (λ r. IsSpelled r.name) (typed_relation names) t.relations is.relations;
      constraints = All-map (λ c. IsSpelled c.name) (typed_constraint (known_in (tables t))) t.constraints is.constraints;
    }

pub names_spelled : (text : List ℕ) (spec : Spec) → IsSpecificationOf text spec → HasSpelledNames spec
names_spelled text spec is = subst HasSpelledNames (sym is.is) (meant_is_spelled is.tree (tree_is_named text is.tree is.is_tree))
