-- A tree with every place 0.
use Rattle.std.specs.Prelude.{ℕ, map, option_map}
use Rattle.dsr_tree.specs.Trees.{ExprTree, expr_tree, MoreTermTrees, no_terms, more_terms, TermTree, term_tree, MoreFactorTrees, no_factors, more_factors, FactorTree, number_tree, name_tree, group_tree}
use Rattle.dsr_tree.specs.Trees.{FormulaTree, formula_tree, JoinTrees, no_joins, more_joins, JoinTree, join_tree, UnitTrees, no_units, more_units, UnitTree, not_tree, given_tree, parenthesized_tree, atom_tree}
use Rattle.dsr_tree.specs.Trees.{NamedFieldTree, FieldTree, named, skipped, StructureTree, PoolTree, ConstraintTree, TreeShape}
use Rattle.dsr_tree.specs.declared.tree.Atom.{Atom}
use Rattle.dsr_tree.specs.declared.tree.Atom.TheVariants as atoms
use Rattle.dsr_tree.specs.declared.tree.Binder.{Binder}
use Rattle.dsr_tree.specs.declared.tree.Binder.TheVariants as binders
use Rattle.dsr_tree.specs.declared.tree.Content.{Content}
use Rattle.dsr_tree.specs.declared.tree.Content.TheVariants as contents
use Rattle.dsr_tree.specs.declared.tree.Fresh.{Fresh}
use Rattle.dsr_tree.specs.declared.tree.Guard.{Guard}
use Rattle.dsr_tree.specs.declared.tree.Guard.TheVariants as guards
use Rattle.dsr_tree.specs.declared.tree.Guards.{Guards}
use Rattle.dsr_tree.specs.declared.tree.Inclusion.{Inclusion}
use Rattle.dsr_tree.specs.declared.tree.Inclusion.TheVariants as inclusions
use Rattle.dsr_tree.specs.declared.tree.Index.{Index}
use Rattle.dsr_tree.specs.declared.tree.Index.TheVariants as indexes
use Rattle.dsr_tree.specs.declared.tree.Measure.{Measure}
use Rattle.dsr_tree.specs.declared.tree.Measure.TheVariants as measures
use Rattle.dsr_tree.specs.declared.tree.Member.{Member}
use Rattle.dsr_tree.specs.declared.tree.MemberPart.{MemberPart}
use Rattle.dsr_tree.specs.declared.tree.MemberPart.TheVariants as member_parts
use Rattle.dsr_tree.specs.declared.tree.Path.{Path}
use Rattle.dsr_tree.specs.declared.tree.PlacedName.{PlacedName}
use Rattle.dsr_tree.specs.declared.tree.PlacedNumber.{PlacedNumber}
use Rattle.dsr_tree.specs.declared.tree.Premise.{Premise}
use Rattle.dsr_tree.specs.declared.tree.Premise.TheVariants as premises
use Rattle.dsr_tree.specs.declared.tree.Quantifier.{Quantifier}
use Rattle.dsr_tree.specs.declared.tree.Relation.{Relation}
use Rattle.dsr_tree.specs.declared.tree.Rule.{Rule}
use Rattle.dsr_tree.specs.declared.tree.Set.{Set}
use Rattle.dsr_tree.specs.declared.tree.Size.{Size}
use Rattle.dsr_tree.specs.declared.tree.Span.{Span}
use Rattle.dsr_tree.specs.declared.tree.Target.{Target}
use Rattle.dsr_tree.specs.declared.tree.Target.TheVariants as targets
use Rattle.dsr_tree.specs.declared.tree.Term.{Term}
use Rattle.dsr_tree.specs.declared.tree.Term.TheVariants as terms
use Rattle.dsr_tree.specs.declared.tree.Var.{Var}
use Rattle.dsr_tree.specs.declared.tree.Var.TheVariants as vars
use Rattle.dsr_tree.specs.declared.tree.View.{View}
use Rattle.dsr_tree.specs.declared.tree.View.TheVariants as views
use Rattle.dsr_tree.specs.declared.tree.Width.{Width}
use Rattle.dsr_tree.specs.declared.tree.Width.TheVariants as widths

-- names and numbers
abbrev pub bare_name : PlacedName → PlacedName
bare_name n = record { name = n.name; place = 0 }

abbrev pub bare_number : PlacedNumber → PlacedNumber
bare_number n = record { number = n.number; place = 0 }

-- expressions
abbrev mutual
  pub bare_expr : ExprTree → ExprTree
  bare_expr (expr_tree first rest) = expr_tree (bare_term2 first) (bare_more_terms rest)

  pub bare_more_terms : MoreTermTrees → MoreTermTrees
  bare_more_terms no_terms = no_terms
  bare_more_terms (more_terms sign term rest) = more_terms sign (bare_term2 term) (bare_more_terms rest)

  pub bare_term2 : TermTree → TermTree
  bare_term2 (term_tree first rest) = term_tree (bare_factor first) (bare_more_factors rest)

  pub bare_more_factors : MoreFactorTrees → MoreFactorTrees
  bare_more_factors no_factors = no_factors
  bare_more_factors (more_factors sign factor rest) = more_factors sign (bare_factor factor) (bare_more_factors rest)

  pub bare_factor : FactorTree → FactorTree
  bare_factor (number_tree number) = number_tree (bare_number number)
  bare_factor (name_tree name) = name_tree (bare_name name)
  bare_factor (group_tree place inner) = group_tree 0 (bare_expr inner)

-- atoms and their parts
abbrev pub bare_var : Var → Var
bare_var (vars.Head place) = vars.Head 0
bare_var (vars.Name name) = vars.Name (bare_name name)

abbrev pub bare_size : Size → Size
bare_size s = record { place = 0; var = bare_var s.var; part = option_map bare_name s.part }

abbrev pub bare_measure : Measure → Measure
bare_measure (measures.Number number) = measures.Number (bare_number number)
bare_measure (measures.Size size) = measures.Size (bare_size size)

abbrev pub bare_atom : Atom → Atom
bare_atom (atoms.Count size bound number) = atoms.Count (bare_size size) bound (bare_number number)
bare_atom (atoms.Pair place first second relation) =
    atoms.Pair 0 (bare_var first) (bare_var second) (bare_name relation)
bare_atom (atoms.Member var set) = atoms.Member (bare_var var) (bare_name set)
bare_atom (atoms.Value var relation compare measure) =
    atoms.Value (bare_var var) (bare_name relation) compare (bare_measure measure)

-- formulas
abbrev mutual
  pub bare_formula : FormulaTree → FormulaTree
  bare_formula (formula_tree first rest) = formula_tree (bare_join first) (bare_joins rest)

  pub bare_joins : JoinTrees → JoinTrees
  bare_joins no_joins = no_joins
  bare_joins (more_joins join rest) = more_joins (bare_join join) (bare_joins rest)

  pub bare_join : JoinTree → JoinTree
  bare_join (join_tree first rest) = join_tree (bare_unit first) (bare_units rest)

  pub bare_units : UnitTrees → UnitTrees
  bare_units no_units = no_units
  bare_units (more_units unit rest) = more_units (bare_unit unit) (bare_units rest)

  pub bare_unit : UnitTree → UnitTree
  bare_unit (not_tree place unit) = not_tree 0 (bare_unit unit)
  bare_unit (given_tree place unit) = given_tree 0 (bare_unit unit)
  bare_unit (parenthesized_tree place formula) = parenthesized_tree 0 (bare_formula formula)
  bare_unit (atom_tree atom) = atom_tree (bare_atom atom)

-- structures and their fields
abbrev pub bare_width : Width → Width
bare_width (widths.U8 place) = widths.U8 0
bare_width (widths.U16 place) = widths.U16 0
bare_width (widths.U32 place) = widths.U32 0
bare_width (widths.U64 place) = widths.U64 0
bare_width (widths.Bits place number) = widths.Bits 0 (bare_number number)

abbrev pub bare_content : Content → Content
bare_content (contents.Refers place pool) = contents.Refers 0 (bare_name pool)
bare_content (contents.Init place number) = contents.Init 0 (bare_number number)

abbrev pub bare_place : ℕ → ℕ
bare_place place = 0

abbrev pub bare_named_field : NamedFieldTree → NamedFieldTree
bare_named_field f =
    record {
      fixed = option_map bare_place f.fixed;
      width = bare_width f.width;
      name = bare_name f.name;
      length = option_map bare_expr f.length;
      content = option_map bare_content f.content;
    }

abbrev pub bare_field : FieldTree → FieldTree
bare_field (named field) = named (bare_named_field field)
bare_field (skipped place length) = skipped 0 (bare_expr length)

abbrev pub bare_structure : StructureTree → StructureTree
bare_structure s =
    record {
      place = 0;
      name = bare_name s.name;
      parent = option_map bare_name s.parent;
      fields = map bare_field s.fields;
    }

-- pools, sets, relations, supplies
abbrev pub bare_pool : PoolTree → PoolTree
bare_pool p =
    record {
      place = 0;
      name = bare_name p.name;
      structure = bare_name p.structure;
      count = bare_expr p.count;
      slot = option_map bare_expr p.slot;
      start = bare_expr p.start;
      code = bare_expr p.code;
      step = bare_expr p.step;
      none = bare_expr p.none;
    }

abbrev pub bare_view : View → View
bare_view (views.As place structure) = views.As 0 (bare_name structure)
bare_view (views.Except place set) = views.Except 0 (bare_name set)

abbrev pub bare_set : Set → Set
bare_set s =
    record { place = 0; name = bare_name s.name; pool = bare_name s.pool; view = option_map bare_view s.view }

abbrev pub bare_target : Target → Target
bare_target (targets.Number place) = targets.Number 0
bare_target (targets.Pool name) = targets.Pool (bare_name name)

abbrev pub bare_relation : Relation → Relation
bare_relation r =
    record { place = 0; name = bare_name r.name; source = bare_var r.source; target = bare_target r.target }

abbrev pub bare_fresh : Fresh → Fresh
bare_fresh f =
    record { place = 0; pool = bare_name f.pool; first = bare_name f.first; rest = map bare_name f.rest }

-- rules
abbrev pub bare_path : Path → Path
bare_path p =
    record { var = bare_var p.var; field = bare_name p.field; index = option_map bare_name p.index }

abbrev pub bare_premise : Premise → Premise
bare_premise (premises.Head place) = premises.Head 0
bare_premise (premises.Member name set) = premises.Member (bare_name name) (bare_name set)

abbrev pub bare_index : Index → Index
bare_index (indexes.Pool place pool) = indexes.Pool 0 (bare_name pool)
bare_index (indexes.Array field) = indexes.Array (bare_name field)

abbrev pub bare_span : Span → Span
bare_span s = record { name = bare_name s.name; index = bare_index s.index }

abbrev pub bare_guard : Guard → Guard
bare_guard (guards.Tested place test path) = guards.Tested 0 test (bare_path path)
bare_guard (guards.Compared path compare number) =
    guards.Compared (bare_path path) compare (bare_number number)

abbrev pub bare_guards : Guards → Guards
bare_guards g = record { first = bare_guard g.first; rest = map bare_guard g.rest }

abbrev pub bare_term : Term → Term
bare_term (terms.Head place) = terms.Head 0
bare_term (terms.Named name index) = terms.Named (bare_name name) (option_map bare_name index)

abbrev pub bare_member_part : MemberPart → MemberPart
bare_member_part (member_parts.Field field index) =
    member_parts.Field (bare_name field) (option_map bare_name index)
bare_member_part (member_parts.Slot index) = member_parts.Slot (bare_name index)

abbrev pub bare_member : Member → Member
bare_member m = record { var = bare_var m.var; part = option_map bare_member_part m.part }

abbrev pub bare_inclusion : Inclusion → Inclusion
bare_inclusion (inclusions.Pair place term path relation) =
    inclusions.Pair 0 (bare_term term) (bare_path path) (bare_name relation)
bare_inclusion (inclusions.Member member set) =
    inclusions.Member (bare_member member) (bare_name set)

abbrev pub bare_rule : Rule → Rule
bare_rule r =
    record {
      place = 0;
      premise = bare_premise r.premise;
      span = option_map bare_span r.span;
      guards = option_map bare_guards r.guards;
      inclusion = bare_inclusion r.inclusion;
    }

-- constraints
abbrev pub bare_binder : Binder → Binder
bare_binder (binders.One name) = binders.One (bare_name name)
bare_binder (binders.Pair place first second) = binders.Pair 0 (bare_name first) (bare_name second)

abbrev pub bare_quantifier : Quantifier → Quantifier
bare_quantifier q = record { place = 0; binder = bare_binder q.binder; symbol = bare_name q.symbol }

abbrev pub bare_constraint : ConstraintTree → ConstraintTree
bare_constraint c =
    record {
      place = 0;
      name = bare_name c.name;
      quantifier = option_map bare_quantifier c.quantifier;
      formula = bare_formula c.formula;
    }

-- a whole tree
abbrev pub bare_tree : TreeShape → TreeShape
bare_tree t =
    record {
      place = 0;
      version = bare_number t.version;
      order = t.order;
      structures = map bare_structure t.structures;
      pools = map bare_pool t.pools;
      sets = map bare_set t.sets;
      relations = map bare_relation t.relations;
      supplies = map bare_fresh t.supplies;
      rules = map bare_rule t.rules;
      constraints = map bare_constraint t.constraints;
    }
