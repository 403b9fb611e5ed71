-- What the tables of a tree tell is what its names stand for, where each table is right.
use Rattle.std.proofs.Common.{◌≡◌, ℕ, List, map, take, Some, codes, sym, ap, ◌∙◌}
use Rattle.std.proofs.lemmas.List.{take-map}
use Rattle.std.proofs.lemmas.Simd.{map-map}
use Rattle.std.specs.List.{position_from}
use Rattle.std.specs.Str.{bytes_eq}
use Rattle.dsr_tree.specs.Trees.{pool_shape, structure_shape, tree_shape}
use Rattle.dsr_tree.specs.declared.tree.Tree.{Tree}
use Rattle.dsr_language_theory.specs.Names.{Names, all_ancestors, field_number, fixed_in, names_of}
use Rattle.dsr_names.specs.Tables.{is_named}
use Rattle.dsr_names.proofs.Numbering.{position_map}

-- each table as the contract of the function that makes it has it
pub record AreRight (tree : Tree) (told : Names) : Type 0 where
  pub tree_is : told.tree ≡ tree_shape tree
  pub structures : (q : List ℕ) → told.structure q ≡ position_from (λ s. is_named (Some s.name.name) q) 0 tree.structures
  pub fields : told.fields ≡ map (λ s. field_number (structure_shape s)) tree.structures
  pub ancestors : told.ancestors ≡ all_ancestors told.structure (map structure_shape (take 65 tree.structures))
  pub fixed : (q : List ℕ) → told.fixed q ≡ fixed_in (tree_shape tree) (told.structure (codes "Head")) q
  pub pools : (q : List ℕ) → told.pool q ≡ position_from (λ p. is_named (Some p.name.name) q) 0 tree.pools
  pub sets : (q : List ℕ) → told.set q ≡ position_from (λ s. is_named (Some s.name.name) q) 0 tree.sets
  pub relations : (q : List ℕ) → told.relation q ≡ position_from (λ r. is_named (Some r.name.name) q) 0 tree.relations
  pub supplies : (q : List ℕ) → told.supply q ≡ position_from (λ f. is_named (Some f.pool.name) q) 0 tree.supplies

module _ (tree : Tree) (told : Names) (right : AreRight tree told) where
  -- the structures' numbers, as the tree's shape has them
  structure_is : (q : List ℕ) → told.structure q ≡ (names_of (tree_shape tree)).structure q
  structure_is q = right.structures q ∙ sym (position_map (λ s. bytes_eq s.name.name q) structure_shape 0 tree.structures)

  -- the ancestors, by those numbers
  ancestors_are : told.ancestors ≡ (names_of (tree_shape tree)).ancestors
  ancestors_are =
      right.ancestors
      ∙ ap (all_ancestors told.structure) (sym (take-map structure_shape 65 tree.structures))
      ∙ ap (λ number. all_ancestors number (take 65 (map structure_shape tree.structures))) (λ i q. structure_is q i)

  -- so the tables tell what the tree's names stand for
  pub tables_tell : told ≡ names_of (tree_shape tree)
  tables_tell = λ i. record {
    tree = right.tree_is i;
    structure = λ q. structure_is q i;
    fields = (right.fields ∙ sym (map-map field_number structure_shape tree.structures)) i;
    ancestors = ancestors_are i;
    fixed = λ q. (right.fixed q ∙ ap (λ head. fixed_in (tree_shape tree) head q) (structure_is (codes "Head"))) i;
    pool = λ q. (right.pools q ∙ sym (position_map (λ p. bytes_eq p.name.name q) pool_shape 0 tree.pools)) i;
    set = λ q. right.sets q i;
    relation = λ q. right.relations q i;
    supply = λ q. right.supplies q i;
  }
