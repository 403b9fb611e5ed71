-- What the tables of names tell, as definitions and contracts see it.
use Rattle.std.specs.Prelude.{◌≡◌, ◌<◌, ◌-◌, ◌^◌, ℕ, List, [], Option, Some, IfSome, All, map, take, codes}
use Rattle.std.specs.List.{position_from}
use Rattle.std.specs.Str.{bytes_eq}
use Rattle.indexmap.specs.IndexMap.{get}
use Rattle.dsr_tree.specs.Trees.{FieldTree, named, skipped, StructureTree, structure_shape, tree_shape}
use Rattle.dsr_tree.specs.declared.tree.Tree.{Tree}
use Rattle.dsr_language_theory.specs.Declarations.{FieldPosition, width_faults}
use Rattle.dsr_language_theory.specs.Names.{Names, all_ancestors, field_number, fixed_in}
use Rattle.dsr_names.specs.Tables.{is_named}
use Rattle.dsr_struct.specs.declared.names.TreeNames.{TreeNames}
use Rattle.dsr_struct.specs.declared.names.StructureTables.{StructureTables}
use Rattle.dsr_struct.specs.declared.names.SymbolTables.{SymbolTables}
use Rattle.dsr_struct.specs.declared.lookups.Names.{Names as NamesOfTree}
use Rattle.dsr_struct.specs.declared.field_checks.Position.{Position}

-- what the tables tell of the names of a tree
abbrev pub told_by : Tree → TreeNames → Names
told_by tree tables = record {
  tree = tree_shape tree;
  structure = get bytes_eq tables.structures.numbers.structures;
  fields = map (get bytes_eq) tables.structures.rows.fields.items;
  ancestors = map (λ v. v.items) tables.structures.rows.ancestors.items;
  fixed = get bytes_eq tables.structures.numbers.fixed;
  pool = get bytes_eq tables.symbols.pools.pools;
  set = get bytes_eq tables.symbols.sets.sets;
  relation = get bytes_eq tables.symbols.sets.relations;
  supply = get bytes_eq tables.symbols.pools.supplies;
}

-- the tables of structures have the first number of each name, what each declares and what it
-- descends from
pub record HaveStructures (tree : Tree) (tables : StructureTables) : Type 0 where
  pub structures :
      (q : List ℕ)
      → get bytes_eq tables.numbers.structures q
      ≡ position_from (λ s. is_named (Some s.name.name) q) 0 tree.structures
  pub fixed :
      (q : List ℕ)
      → get bytes_eq tables.numbers.fixed q
      ≡ fixed_in (tree_shape tree) (get bytes_eq tables.numbers.structures (codes "Head")) q
  pub fields :
      map (get bytes_eq) tables.rows.fields.items
      ≡ map (λ s. field_number (structure_shape s)) tree.structures
  pub ancestors :
      map (λ v. v.items) tables.rows.ancestors.items
      ≡ all_ancestors (get bytes_eq tables.numbers.structures)
      (map structure_shape (take 65 tree.structures))

-- the tables of pools, sets, relations and supplies have the first number of each name
pub record HaveSymbols (tree : Tree) (tables : SymbolTables) : Type 0 where
  pub pools :
      (q : List ℕ)
      → get bytes_eq tables.pools.pools q ≡ position_from (λ p. is_named (Some p.name.name) q) 0 tree.pools
  pub sets :
      (q : List ℕ)
      → get bytes_eq tables.sets.sets q ≡ position_from (λ s. is_named (Some s.name.name) q) 0 tree.sets
  pub relations :
      (q : List ℕ)
      → get bytes_eq tables.sets.relations q ≡ position_from (λ r. is_named (Some r.name.name) q) 0 tree.relations
  pub supplies :
      (q : List ℕ)
      → get bytes_eq tables.pools.supplies q ≡ position_from (λ f. is_named (Some f.pool.name) q) 0 tree.supplies

abbrev pub known_of : NamesOfTree → Names
known_of names = told_by names.tree.now names.tables.now

-- where a field stands
abbrev pub place_of : Position → FieldPosition
place_of at =
    record {
      structure = at.structure;
      number = at.number;
      in_head = at.in_head;
      on_byte = at.on_byte;
      behind_open = at.behind_open;
    }

-- all numbers for which names stand, and the next ones, are numbers of 32 bits
abbrev pub Fit : (List ℕ → Option ℕ) → Type 0
Fit number = (q : List ℕ) → IfSome (number q) (λ n. n < 2 ^ 32 - 1)

pub record AllFit (names : Names) : Type 0 where
  pub structure : Fit names.structure
  pub fixed : Fit names.fixed
  pub pool : Fit names.pool
  pub set : Fit names.set

-- the field's width is a legal one
abbrev pub HasLegalWidth : FieldTree → Type 0
HasLegalWidth (named f) = width_faults f.width ≡ []
HasLegalWidth (skipped place length) = Unit {0}

abbrev pub HasLegalWidths : StructureTree → Type 0
HasLegalWidths s = All HasLegalWidth s.fields
