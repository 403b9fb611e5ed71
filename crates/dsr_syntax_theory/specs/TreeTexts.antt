-- The phrase of each part of a tree: its text's tokens in order.
use Rattle.std.specs.Prelude.{ℕ, Option, Some, None}
use Rattle.dsr_tree.specs.Trees.{ExprTree, expr_tree, MoreTermTrees, no_terms, more_terms, MoreTermTree, TermTree, term_tree, MoreFactorTrees, no_factors, more_factors, MoreFactorTree, FactorTree, number_tree, name_tree, group_tree}
use Rattle.dsr_tree.specs.Trees.{FormulaTree, formula_tree, JoinTrees, no_joins, more_joins, JoinTree, join_tree, UnitTrees, no_units, more_units, UnitTree, not_tree, given_tree, parenthesized_tree, atom_tree}
use Rattle.dsr_tree.specs.Trees.{NamedFieldTree, FieldTree, named, skipped, StructureTree, PoolTree, ConstraintTree, TreeShape}
use Rattle.dsr_ir.specs.declared.declarations.Order.{Order}
use Rattle.dsr_ir.specs.declared.declarations.Order.TheVariants.{Little, Big}
use Rattle.dsr_tree.specs.declared.tokens.Keyword.{Keyword}
use Rattle.dsr_tree.specs.declared.tokens.Keyword.TheVariants as keyword
use Rattle.dsr_tree.specs.declared.tokens.Sign.{Sign}
use Rattle.dsr_tree.specs.declared.tokens.Sign.TheVariants as sign
use Rattle.dsr_tree.specs.declared.tokens.Token.TheVariants as token
use Rattle.dsr_tree.specs.declared.tree.Atom.{Atom}
use Rattle.dsr_tree.specs.declared.tree.Atom.TheVariants as atoms
use Rattle.dsr_tree.specs.declared.tree.Binder.{Binder}
use Rattle.dsr_tree.specs.declared.tree.Binder.TheVariants as binders
use Rattle.dsr_tree.specs.declared.tree.Bound.{Bound}
use Rattle.dsr_tree.specs.declared.tree.Bound.TheVariants as bounds
use Rattle.dsr_tree.specs.declared.tree.Compare.{Compare}
use Rattle.dsr_tree.specs.declared.tree.Compare.TheVariants as compares
use Rattle.dsr_tree.specs.declared.tree.Content.{Content}
use Rattle.dsr_tree.specs.declared.tree.Content.TheVariants as contents
use Rattle.dsr_tree.specs.declared.tree.Fresh.{Fresh}
use Rattle.dsr_tree.specs.declared.tree.Guard.{Guard}
use Rattle.dsr_tree.specs.declared.tree.Guard.TheVariants as guards
use Rattle.dsr_tree.specs.declared.tree.Guards.{Guards}
use Rattle.dsr_tree.specs.declared.tree.Inclusion.{Inclusion}
use Rattle.dsr_tree.specs.declared.tree.Inclusion.TheVariants as inclusions
use Rattle.dsr_tree.specs.declared.tree.Index.{Index}
use Rattle.dsr_tree.specs.declared.tree.Index.TheVariants as indexes
use Rattle.dsr_tree.specs.declared.tree.Measure.{Measure}
use Rattle.dsr_tree.specs.declared.tree.Measure.TheVariants as measures
use Rattle.dsr_tree.specs.declared.tree.Member.{Member}
use Rattle.dsr_tree.specs.declared.tree.MemberPart.{MemberPart}
use Rattle.dsr_tree.specs.declared.tree.MemberPart.TheVariants as member_parts
use Rattle.dsr_tree.specs.declared.tree.Path.{Path}
use Rattle.dsr_tree.specs.declared.tree.PlacedName.{PlacedName}
use Rattle.dsr_tree.specs.declared.tree.PlacedNumber.{PlacedNumber}
use Rattle.dsr_tree.specs.declared.tree.Premise.{Premise}
use Rattle.dsr_tree.specs.declared.tree.Premise.TheVariants as premises
use Rattle.dsr_tree.specs.declared.tree.ProductSign.{ProductSign}
use Rattle.dsr_tree.specs.declared.tree.ProductSign.TheVariants as products
use Rattle.dsr_tree.specs.declared.tree.Quantifier.{Quantifier}
use Rattle.dsr_tree.specs.declared.tree.RefTest.{RefTest}
use Rattle.dsr_tree.specs.declared.tree.RefTest.TheVariants as tests
use Rattle.dsr_tree.specs.declared.tree.Relation.{Relation}
use Rattle.dsr_tree.specs.declared.tree.Rule.{Rule}
use Rattle.dsr_tree.specs.declared.tree.Set.{Set}
use Rattle.dsr_tree.specs.declared.tree.Size.{Size}
use Rattle.dsr_tree.specs.declared.tree.Span.{Span}
use Rattle.dsr_tree.specs.declared.tree.SumSign.{SumSign}
use Rattle.dsr_tree.specs.declared.tree.SumSign.TheVariants as sums
use Rattle.dsr_tree.specs.declared.tree.Target.{Target}
use Rattle.dsr_tree.specs.declared.tree.Target.TheVariants as targets
use Rattle.dsr_tree.specs.declared.tree.Term.{Term}
use Rattle.dsr_tree.specs.declared.tree.Term.TheVariants as terms
use Rattle.dsr_tree.specs.declared.tree.Var.{Var}
use Rattle.dsr_tree.specs.declared.tree.Var.TheVariants as vars
use Rattle.dsr_tree.specs.declared.tree.View.{View}
use Rattle.dsr_tree.specs.declared.tree.View.TheVariants as views
use Rattle.dsr_tree.specs.declared.tree.Width.{Width}
use Rattle.dsr_tree.specs.declared.tree.Width.TheVariants as widths
use Rattle.dsr_syntax_theory.specs.Phrases.{Phrase, silent, said, said_at, ◌▸◌, in_turn}

-- ---- tokens

abbrev pub word : Keyword → Phrase
word k = said (token.Keyword k)

abbrev pub word_at : Keyword → ℕ → Phrase
word_at k place = said_at (token.Keyword k) place

abbrev pub mark : Sign → Phrase
mark s = said (token.Sign s)

abbrev pub mark_at : Sign → ℕ → Phrase
mark_at s place = said_at (token.Sign s) place

abbrev pub name_text : PlacedName → Phrase
name_text n = said_at (token.Name n.name) n.place

abbrev pub number_text : PlacedNumber → Phrase
number_text n = said_at (token.Number n.number) n.place

-- the phrase of what there may be
abbrev pub maybe_text : {X : Type 0} → (X → Phrase) → Option X → Phrase
maybe_text phrase None = silent
maybe_text phrase (Some x) = phrase x

-- ---- expressions

abbrev pub sum_text : SumSign → Phrase
sum_text sums.Plus = mark sign.Plus
sum_text sums.Minus = mark sign.Minus

abbrev pub product_text : ProductSign → Phrase
product_text products.Times = mark sign.Times
product_text products.Over = mark sign.Over

abbrev mutual
  pub expr_text : ExprTree → Phrase
  expr_text (expr_tree first rest) = term2_text first ▸ more_terms_text rest

  pub more_terms_text : MoreTermTrees → Phrase
  more_terms_text no_terms = silent
  more_terms_text (more_terms sign term rest) = (sum_text sign ▸ term2_text term) ▸ more_terms_text rest

  pub term2_text : TermTree → Phrase
  term2_text (term_tree first rest) = factor_text first ▸ more_factors_text rest

  pub more_factors_text : MoreFactorTrees → Phrase
  more_factors_text no_factors = silent
  more_factors_text (more_factors sign factor rest) = (product_text sign ▸ factor_text factor)
      ▸ more_factors_text rest

  pub factor_text : FactorTree → Phrase
  factor_text (number_tree number) = number_text number
  factor_text (name_tree name) = name_text name
  factor_text (group_tree place inner) = mark_at sign.OpenParenthesis place ▸ expr_text inner
      ▸ mark sign.CloseParenthesis

abbrev pub more_term_text : MoreTermTree → Phrase
more_term_text more = sum_text more.sign ▸ term2_text more.term

abbrev pub more_factor_text : MoreFactorTree → Phrase
more_factor_text more = product_text more.sign ▸ factor_text more.factor

-- ---- formulas

abbrev pub var_text : Var → Phrase
var_text (vars.Head place) = word_at keyword.Head place
var_text (vars.Name name) = name_text name

abbrev pub bound_text : Bound → Phrase
bound_text bounds.AtMost = mark sign.AtMost
bound_text bounds.AtLeast = mark sign.AtLeast
bound_text bounds.Equal = mark sign.Equal

abbrev pub compare_text : Compare → Phrase
compare_text compares.Equal = mark sign.Equal
compare_text compares.Differs = mark sign.Differs
compare_text compares.Less = mark sign.Less
compare_text compares.AtMost = mark sign.AtMost
compare_text compares.Greater = mark sign.Greater
compare_text compares.AtLeast = mark sign.AtLeast

abbrev pub size_part_text : PlacedName → Phrase
size_part_text name = mark sign.Dot ▸ name_text name

-- what stands behind `size`
abbrev pub size_tail_text : Size → Phrase
size_tail_text s =
    mark sign.OpenParenthesis ▸ var_text s.var ▸ maybe_text size_part_text s.part ▸ mark sign.CloseParenthesis

abbrev pub size_text : Size → Phrase
size_text s = word_at keyword.Size s.place ▸ size_tail_text s

abbrev pub measure_text : Measure → Phrase
measure_text (measures.Number number) = number_text number
measure_text (measures.Size size) = size_text size

abbrev pub atom_text : Atom → Phrase
atom_text (atoms.Count size bound number) = size_text size ▸ bound_text bound ▸ number_text number
atom_text (atoms.Pair place first second relation) =
    mark_at sign.Less place ▸ var_text first ▸ mark sign.Comma ▸ var_text second
    ▸ mark sign.Greater ▸ word keyword.In ▸ name_text relation
atom_text (atoms.Member var set) = var_text var ▸ word keyword.In ▸ name_text set
atom_text (atoms.Value var relation compare measure) =
    var_text var ▸ mark sign.Dot ▸ name_text relation ▸ compare_text compare ▸ measure_text measure

abbrev mutual
  pub formula_text : FormulaTree → Phrase
  formula_text (formula_tree first rest) = join_text first ▸ joins_text rest

  pub joins_text : JoinTrees → Phrase
  joins_text no_joins = silent
  joins_text (more_joins join rest) = (word keyword.Or ▸ join_text join) ▸ joins_text rest

  pub join_text : JoinTree → Phrase
  join_text (join_tree first rest) = unit_text first ▸ units_text rest

  pub units_text : UnitTrees → Phrase
  units_text no_units = silent
  units_text (more_units unit rest) = (word keyword.And ▸ unit_text unit) ▸ units_text rest

  pub unit_text : UnitTree → Phrase
  unit_text (not_tree place unit) = word_at keyword.Not place ▸ unit_text unit
  unit_text (given_tree place unit) = word_at keyword.Given place ▸ unit_text unit
  unit_text (parenthesized_tree place formula) = mark_at sign.OpenParenthesis place
      ▸ formula_text formula ▸ mark sign.CloseParenthesis
  unit_text (atom_tree atom) = atom_text atom

-- a join behind `or`
abbrev pub more_join_text : JoinTree → Phrase
more_join_text join = word keyword.Or ▸ join_text join

-- a unit behind `and`
abbrev pub more_unit_text : UnitTree → Phrase
more_unit_text unit = word keyword.And ▸ unit_text unit

-- ---- structures

abbrev pub width_text : Width → Phrase
width_text (widths.U8 place) = word_at keyword.U8 place
width_text (widths.U16 place) = word_at keyword.U16 place
width_text (widths.U32 place) = word_at keyword.U32 place
width_text (widths.U64 place) = word_at keyword.U64 place
width_text (widths.Bits place number) = word_at keyword.Bits place ▸ number_text number

abbrev pub brackets_text : ExprTree → Phrase
brackets_text length = (mark sign.OpenBracket ▸ expr_text length) ▸ mark sign.CloseBracket

abbrev pub content_text : Content → Phrase
content_text (contents.Refers place pool) = mark_at sign.Arrow place ▸ name_text pool
content_text (contents.Init place number) = word_at keyword.Init place ▸ number_text number

abbrev pub fixed_text : ℕ → Phrase
fixed_text place = word_at keyword.Fixed place

abbrev pub named_field_text : NamedFieldTree → Phrase
named_field_text f =
    maybe_text fixed_text f.fixed ▸ width_text f.width ▸ name_text f.name
    ▸ maybe_text brackets_text f.length ▸ maybe_text content_text f.content
    ▸ mark sign.Semicolon

abbrev pub field_text : FieldTree → Phrase
field_text (named field) = named_field_text field
field_text (skipped place length) =
    (word_at keyword.Skip place ▸ expr_text length) ▸ mark sign.Semicolon

abbrev pub parent_text : PlacedName → Phrase
parent_text parent = word keyword.Extends ▸ name_text parent

abbrev pub structure_text : StructureTree → Phrase
structure_text s =
    word_at keyword.Structure s.place ▸ name_text s.name ▸ maybe_text parent_text s.parent
    ▸ mark sign.OpenBrace ▸ in_turn field_text s.fields ▸ mark sign.CloseBrace

-- ---- pools, sets, relations, supplies

-- an expression behind a keyword
abbrev pub behind_text : Keyword → ExprTree → Phrase
behind_text k e = word k ▸ expr_text e

abbrev pub pool_text : PoolTree → Phrase
pool_text p =
    word_at keyword.Pool p.place ▸ name_text p.name ▸ mark sign.Colon ▸ name_text p.structure
    ▸ brackets_text p.count ▸ maybe_text (behind_text keyword.Slot) p.slot
    ▸ behind_text keyword.At p.start ▸ behind_text keyword.Codes p.code
    ▸ behind_text keyword.Step p.step ▸ behind_text keyword.None p.none ▸ mark sign.Semicolon

abbrev pub view_text : View → Phrase
view_text (views.As place structure) = word_at keyword.As place ▸ name_text structure
view_text (views.Except place set) = word_at keyword.Except place ▸ name_text set

abbrev pub set_text : Set → Phrase
set_text s =
    word_at keyword.Set s.place ▸ name_text s.name ▸ word keyword.Of ▸ name_text s.pool
    ▸ maybe_text view_text s.view ▸ mark sign.Semicolon

abbrev pub target_text : Target → Phrase
target_text (targets.Number place) = word_at keyword.Number place
target_text (targets.Pool name) = name_text name

abbrev pub relation_text : Relation → Phrase
relation_text r =
    word_at keyword.Relation r.place ▸ name_text r.name ▸ mark sign.Colon ▸ var_text r.source
    ▸ mark sign.Arrow ▸ target_text r.target ▸ mark sign.Semicolon

abbrev pub more_name_text : PlacedName → Phrase
more_name_text name = mark sign.Comma ▸ name_text name

abbrev pub fresh_text : Fresh → Phrase
fresh_text f =
    word_at keyword.Fresh f.place ▸ name_text f.pool ▸ word keyword.Avoid ▸ name_text f.first
    ▸ in_turn more_name_text f.rest ▸ mark sign.Semicolon

-- ---- rules

abbrev pub index_text : PlacedName → Phrase
index_text name = mark sign.OpenBracket ▸ name_text name ▸ mark sign.CloseBracket

abbrev pub path_text : Path → Phrase
path_text p = var_text p.var ▸ mark sign.Dot ▸ name_text p.field ▸ maybe_text index_text p.index

abbrev pub premise_text : Premise → Phrase
premise_text (premises.Head place) = word_at keyword.Head place
premise_text (premises.Member name set) = name_text name ▸ word keyword.In ▸ name_text set

abbrev pub index_source_text : Index → Phrase
index_source_text (indexes.Pool place pool) = word_at keyword.Pool place ▸ name_text pool
index_source_text (indexes.Array field) = name_text field

abbrev pub span_text : Span → Phrase
span_text s = mark sign.Comma ▸ name_text s.name ▸ word keyword.In ▸ index_source_text s.index

-- the keyword of a test
abbrev pub test_word : RefTest → Keyword
test_word tests.Legal = keyword.Legal
test_word tests.Illegal = keyword.Illegal
test_word tests.None = keyword.None
test_word tests.Some = keyword.Some

abbrev pub test_text : RefTest × ℕ → Phrase
test_text test = word_at (test_word test.0) test.1

abbrev pub guard_text : Guard → Phrase
guard_text (guards.Tested place test path) =
    test_text (test, place) ▸ mark sign.OpenParenthesis ▸ path_text path ▸ mark sign.CloseParenthesis
guard_text (guards.Compared path compare number) =
    path_text path ▸ compare_text compare ▸ number_text number

abbrev pub more_guard_text : Guard → Phrase
more_guard_text guard = word keyword.And ▸ guard_text guard

abbrev pub guards_text : Guards → Phrase
guards_text g = word keyword.When ▸ guard_text g.first ▸ in_turn more_guard_text g.rest

abbrev pub term_text : Term → Phrase
term_text (terms.Head place) = word_at keyword.Head place
term_text (terms.Named name index) = name_text name ▸ maybe_text index_text index

abbrev pub member_part_text : MemberPart → Phrase
member_part_text (member_parts.Field field index) =
    mark sign.Dot ▸ name_text field ▸ maybe_text index_text index
member_part_text (member_parts.Slot index) =
    mark sign.OpenBracket ▸ name_text index ▸ mark sign.CloseBracket

abbrev pub member_text : Member → Phrase
member_text m = var_text m.var ▸ maybe_text member_part_text m.part

abbrev pub inclusion_text : Inclusion → Phrase
inclusion_text (inclusions.Pair place term path relation) =
    mark_at sign.Less place ▸ term_text term ▸ mark sign.Comma ▸ path_text path
    ▸ mark sign.Greater ▸ word keyword.In ▸ name_text relation
inclusion_text (inclusions.Member member set) = member_text member ▸ word keyword.In ▸ name_text set

abbrev pub rule_text : Rule → Phrase
rule_text r =
    word_at keyword.Rule r.place ▸ premise_text r.premise ▸ maybe_text span_text r.span
    ▸ maybe_text guards_text r.guards ▸ mark sign.Gives ▸ inclusion_text r.inclusion
    ▸ mark sign.Semicolon

-- ---- constraints

abbrev pub binder_text : Binder → Phrase
binder_text (binders.One name) = name_text name
binder_text (binders.Pair place first second) =
    mark_at sign.Less place ▸ name_text first ▸ mark sign.Comma ▸ name_text second ▸ mark sign.Greater

abbrev pub quantifier_text : Quantifier → Phrase
quantifier_text q =
    word_at keyword.Forall q.place ▸ binder_text q.binder ▸ word keyword.In ▸ name_text q.symbol ▸ mark sign.Colon

abbrev pub constraint_text : ConstraintTree → Phrase
constraint_text c =
    word_at keyword.Constraint c.place ▸ name_text c.name ▸ mark sign.Colon
    ▸ maybe_text quantifier_text c.quantifier ▸ formula_text c.formula ▸ mark sign.Semicolon

-- ---- a whole tree

abbrev pub version_line : ℕ → PlacedNumber → Phrase
version_line place version =
    word_at keyword.Version place ▸ number_text version ▸ mark sign.Semicolon

abbrev pub version_text : TreeShape → Phrase
version_text t = version_line t.place t.version

abbrev pub endian_text : Order → Phrase
endian_text Little = word keyword.Little
endian_text Big = word keyword.Big

abbrev pub order_text : Order → Phrase
order_text order = word keyword.Order ▸ endian_text order ▸ mark sign.Semicolon

abbrev pub tree_text : TreeShape → Phrase
tree_text t =
    version_text t ▸ order_text t.order ▸ in_turn structure_text t.structures
    ▸ in_turn pool_text t.pools ▸ in_turn set_text t.sets ▸ in_turn relation_text t.relations
    ▸ in_turn fresh_text t.supplies ▸ in_turn rule_text t.rules
    ▸ in_turn constraint_text t.constraints
