-- The tables that structures, pools, sets, relations and supplies mean, where they have no fault.
use Rattle.std.specs.Prelude.{ℕ, suc, false, nat_eq, List, [], ◌∷◌, map, codes, Option, None, Some, is_some, unwrap_or, slice_get, option_map, option_and_then, if◌then◌else◌}
use Rattle.dsr_ir.specs.Exprs.{ExprShape, NumOf, FixedOf, SumOf, LessOf, TimesOf, OverOf}
use Rattle.dsr_ir.specs.declared.declarations.Field.{Field}
use Rattle.dsr_ir.specs.declared.declarations.Structure.{Structure}
use Rattle.dsr_ir.specs.declared.declarations.Pool.{Pool}
use Rattle.dsr_ir.specs.declared.declarations.Structures.{Structures}
use Rattle.dsr_tree.specs.Trees.{ExprTree, expr_tree, MoreTermTrees, no_terms, more_terms, TermTree, term_tree, MoreFactorTrees, no_factors, more_factors, FactorTree, number_tree, name_tree, group_tree}
use Rattle.dsr_tree.specs.Trees.{FieldTree, named, skipped, StructureTree, PoolTree, TreeShape}
use Rattle.dsr_ir.specs.declared.declarations.Kind.{Kind}
use Rattle.dsr_ir.specs.declared.declarations.Kind.TheVariants as kinds
use Rattle.dsr_ir.specs.declared.declarations.Rel.{Rel}
use Rattle.dsr_ir.specs.declared.declarations.SetDecl.{SetDecl}
use Rattle.dsr_ir.specs.declared.declarations.Width.{Width}
use Rattle.dsr_ir.specs.declared.declarations.Width.TheVariants as widths
use Rattle.dsr_tree.specs.declared.tree.Content.{Content}
use Rattle.dsr_tree.specs.declared.tree.Content.TheVariants as contents
use Rattle.dsr_tree.specs.declared.tree.Fresh.{Fresh}
use Rattle.dsr_tree.specs.declared.tree.PlacedName.{PlacedName}
use Rattle.dsr_tree.specs.declared.tree.ProductSign.{ProductSign}
use Rattle.dsr_tree.specs.declared.tree.ProductSign.TheVariants as product_signs
use Rattle.dsr_tree.specs.declared.tree.Relation.{Relation}
use Rattle.dsr_tree.specs.declared.tree.Set.{Set}
use Rattle.dsr_tree.specs.declared.tree.SumSign.{SumSign}
use Rattle.dsr_tree.specs.declared.tree.SumSign.TheVariants as sum_signs
use Rattle.dsr_tree.specs.declared.tree.Target.{Target}
use Rattle.dsr_tree.specs.declared.tree.Target.TheVariants as targets
use Rattle.dsr_tree.specs.declared.tree.Var.{Var}
use Rattle.dsr_tree.specs.declared.tree.Var.TheVariants as vars
use Rattle.dsr_tree.specs.declared.tree.View.{View}
use Rattle.dsr_tree.specs.declared.tree.View.TheVariants as views
use Rattle.dsr_tree.specs.declared.tree.Width.{Width as WidthTree}
use Rattle.dsr_tree.specs.declared.tree.Width.TheVariants as width_trees
use Rattle.dsr_language_theory.specs.Names.{Names, names_of, used_structure, pool_structure}

-- The number that a name stands for. One that stands for nothing would get 0, so that tables are
-- total; they are given only where there is no such name.
abbrev pub number_in : (List ℕ → Option ℕ) → PlacedName → ℕ
number_in number q = unwrap_or (number q.name) 0

-- pools are counted from 1, since 0 is the head
abbrev pub pool_in : Names → PlacedName → ℕ
pool_in names q = suc (number_in names.pool q)

-- ---- expressions: operators of one rank bind to the left

abbrev pub sum_of : SumSign → ExprShape → ExprShape → ExprShape
sum_of sum_signs.Plus left right = SumOf left right
sum_of sum_signs.Minus left right = LessOf left right

abbrev pub product_of : ProductSign → ExprShape → ExprShape → ExprShape
product_of product_signs.Times left right = TimesOf left right
product_of product_signs.Over left right = OverOf left right

-- the tables have operators alone: parentheses that change nothing leave no trace
abbrev mutual
  pub typed_expr : (List ℕ → Option ℕ) → ExprTree → ExprShape
  typed_expr fixed (expr_tree first rest) = typed_sum fixed (typed_term fixed first) rest

  pub typed_sum : (List ℕ → Option ℕ) → ExprShape → MoreTermTrees → ExprShape
  typed_sum fixed left no_terms = left
  typed_sum fixed left (more_terms sign term rest) = typed_sum fixed (sum_of sign left (typed_term fixed term)) rest

  pub typed_term : (List ℕ → Option ℕ) → TermTree → ExprShape
  typed_term fixed (term_tree first rest) = typed_product fixed (typed_factor fixed first) rest

  pub typed_product : (List ℕ → Option ℕ) → ExprShape → MoreFactorTrees → ExprShape
  typed_product fixed left no_factors = left
  typed_product fixed left (more_factors sign factor rest) =
      typed_product fixed (product_of sign left (typed_factor fixed factor)) rest

  pub typed_factor : (List ℕ → Option ℕ) → FactorTree → ExprShape
  typed_factor fixed (number_tree number) = NumOf number.number
  typed_factor fixed (name_tree name) = FixedOf (number_in fixed name)
  typed_factor fixed (group_tree place inner) = typed_expr fixed inner

-- ---- structures

abbrev pub typed_width : WidthTree → Width
typed_width (width_trees.U8 place) = widths.U8
typed_width (width_trees.U16 place) = widths.U16
typed_width (width_trees.U32 place) = widths.U32
typed_width (width_trees.U64 place) = widths.U64
typed_width (width_trees.Bits place number) = widths.Bits number.number

-- a number whose reset value is 0 where none is said, or a reference
abbrev pub typed_content : Names → Option Content → Kind
typed_content names None = kinds.Number 0
typed_content names (Some (contents.Init place number)) = kinds.Number number.number
typed_content names (Some (contents.Refers place name)) = kinds.Refers (pool_in names name)

-- a gap of n bytes is an array of n bytes; its name is the empty one, which no text can spell
abbrev pub typed_field : Names → FieldTree → Field
typed_field names (named f) =
    record {
      name = f.name.name;
      fixed = is_some f.fixed;
      width = typed_width f.width;
      len = option_map (typed_expr names.fixed) f.length;
      kind = typed_content names f.content;
    }
typed_field names (skipped place length) =
    record {
      name = [];
      fixed = false;
      width = widths.U8;
      len = Some (typed_expr names.fixed length);
      kind = kinds.Gap;
    }

abbrev pub typed_structure : Names → StructureTree → Structure
typed_structure names s =
    record {
      name = s.name.name;
      parent = option_map (number_in (used_structure names)) s.parent;
      fields = map (typed_field names) s.fields;
    }

-- ---- pools, and the sets that their supplies avoid

abbrev pub avoided_by : Names → Fresh → List ℕ
avoided_by names f = map (number_in names.set) (f.first ∷ f.rest)

abbrev pub avoided : Names → List ℕ → Option (List ℕ)
avoided names pool =
    option_map (avoided_by names) (option_and_then (slice_get names.tree.supplies) (names.supply pool))

abbrev pub typed_pool : Names → PoolTree → Pool
typed_pool names p =
    record {
      name = p.name.name;
      structure = number_in (used_structure names) p.structure;
      count = typed_expr names.fixed p.count;
      slot = option_map (typed_expr names.fixed) p.slot;
      start = typed_expr names.fixed p.start;
      code = typed_expr names.fixed p.code;
      step = typed_expr names.fixed p.step;
      none = typed_expr names.fixed p.none;
      avoid = avoided names p.name.name;
    }

-- ---- sets and relations

-- the structure by which a set is read: its pool's, or one that is named
abbrev pub set_structure : Names → Set → Option View → ℕ
set_structure names s (Some (views.As place q)) = number_in (used_structure names) q
set_structure names s _ =
    unwrap_or (option_and_then (pool_structure names) (names.pool s.pool.name)) 0

-- the set of which a set is the complement
abbrev pub typed_except : Names → Option View → Option ℕ
typed_except names (Some (views.Except place q)) = Some (number_in names.set q)
typed_except names _ = None

abbrev pub typed_set : Names → Set → SetDecl
typed_set names s =
    record {
      name = s.name.name;
      pool = pool_in names s.pool;
      structure = set_structure names s s.view;
      except = typed_except names s.view;
    }

abbrev pub typed_source : Names → Var → ℕ
typed_source names (vars.Head place) = 0
typed_source names (vars.Name q) = pool_in names q

abbrev pub typed_target : Names → Target → Option ℕ
typed_target names (targets.Number place) = None
typed_target names (targets.Pool q) = Some (pool_in names q)

abbrev pub typed_relation : Names → Relation → Rel
typed_relation names r =
    record { name = r.name.name; source = typed_source names r.source; target = typed_target names r.target }

-- ---- all declarations before the rules

-- 2 in a text of version 2, and otherwise 1
abbrev pub version_of : ℕ → ℕ
version_of n = if nat_eq n 2 then 2 else 1

abbrev pub tables_with : Names → Structures
tables_with names =
    record {
      version = version_of names.tree.version.number;
      order = names.tree.order;
      head = unwrap_or (names.structure (codes "Head")) 0;
      structures = map (typed_structure names) names.tree.structures;
      pools = map (typed_pool names) names.tree.pools;
      sets = map (typed_set names) names.tree.sets;
      rels = map (typed_relation names) names.tree.relations;
    }

-- the tables of structures, pools, sets, relations and supplies
abbrev pub tables : TreeShape → Structures
tables t = tables_with (names_of t)
