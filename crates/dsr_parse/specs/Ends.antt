-- Parts of productions that a reader's functions read.
use Rattle.std.specs.Prelude.{ℕ, suc, [], ◌∷◌, Option, option_map, map}
use Rattle.dsr_tree.specs.Trees.{expr_shape, formula_shape, constraint_shape}
use Rattle.dsr_tree.specs.declared.tokens.Keyword.TheVariants as keyword
use Rattle.dsr_tree.specs.declared.tokens.Sign.TheVariants as sign
use Rattle.dsr_tree.specs.declared.tree.Compare.{Compare}
use Rattle.dsr_tree.specs.declared.tree.Content.{Content}
use Rattle.dsr_tree.specs.declared.tree.Expr.{Expr}
use Rattle.dsr_tree.specs.declared.tree.Field.{Field}
use Rattle.dsr_tree.specs.declared.tree.Formula.{Formula}
use Rattle.dsr_tree.specs.declared.tree.Guards.{Guards}
use Rattle.dsr_tree.specs.declared.tree.Inclusion.{Inclusion}
use Rattle.dsr_tree.specs.declared.tree.Measure.{Measure}
use Rattle.dsr_tree.specs.declared.tree.Path.{Path}
use Rattle.dsr_tree.specs.declared.tree.PlacedName.{PlacedName}
use Rattle.dsr_tree.specs.declared.tree.Quantifier.{Quantifier}
use Rattle.dsr_syntax_theory.specs.Grammar.{row, maybe, word, mark, name, nesting, expr_behind, brackets, content, field, set, relation, fresh, rule, constraint, compare, measure, path, guards, inclusion, quantifier}
use Rattle.dsr_syntax_theory.specs.Phrases.{Phrase, ◌▸◌, in_turn}
use Rattle.dsr_syntax_theory.specs.Syntax.{a_word, a_mark, a_formula, a_unit, Syntax, Then, Many, The}
use Rattle.dsr_syntax_theory.specs.TreeTexts.{word as word_of, mark as mark_of, name_text, maybe_text, formula_text, behind_text, brackets_text, content_text, set_text, relation_text, fresh_text, rule_text, constraint_text, compare_text, measure_text, path_text, guards_text, inclusion_text, quantifier_text}
use Rattle.dsr_parse.specs.Reading.{said_field}
use Rattle.dsr_parse.specs.declared.reader.constraints.RulesEnd.{RulesEnd}
use Rattle.dsr_parse.specs.declared.reader.constraints.TreeEnd.{TreeEnd}
use Rattle.dsr_parse.specs.declared.reader.declarations.PoolCodes.{PoolCodes}
use Rattle.dsr_parse.specs.declared.reader.declarations.PoolEnd.{PoolEnd}

-- the fields of a structure, in braces
abbrev pub braced_fields : Syntax
braced_fields = row (mark sign.OpenBrace ∷ Many field ∷ mark sign.CloseBrace ∷ [])

abbrev pub braced_text : Phrase → Phrase
braced_text fields = mark_of sign.OpenBrace ▸ fields ▸ mark_of sign.CloseBrace

-- what stands behind the name of a field
abbrev pub field_end : Syntax
field_end = row (maybe brackets ∷ maybe content ∷ mark sign.Semicolon ∷ [])

abbrev pub field_end_text : Option Expr → Option Content → Phrase
field_end_text length c =
    maybe_text brackets_text (option_map expr_shape length) ▸ maybe_text content_text c ▸ mark_of sign.Semicolon

-- what stands behind the count of a pool
abbrev pub pool_end : Syntax
pool_end =
    row
    (maybe (expr_behind (a_word keyword.Slot))
    ∷ expr_behind (a_word keyword.At)
    ∷ expr_behind (a_word keyword.Codes)
    ∷ expr_behind (a_word keyword.Step)
    ∷ expr_behind (a_word keyword.None)
    ∷ mark sign.Semicolon
    ∷ [])

abbrev pub pool_end_text : PoolEnd → Phrase
pool_end_text p =
    maybe_text (behind_text keyword.Slot) (option_map expr_shape p.slot)
    ▸ behind_text keyword.At (expr_shape p.start)
    ▸ behind_text keyword.Codes (expr_shape p.code)
    ▸ behind_text keyword.Step (expr_shape p.step)
    ▸ behind_text keyword.None (expr_shape p.none)
    ▸ mark_of sign.Semicolon

-- how the references of a pool are coded, to the pool's end
abbrev pub pool_codes : Syntax
pool_codes =
    row
    (expr_behind (a_word keyword.Codes)
    ∷ expr_behind (a_word keyword.Step)
    ∷ expr_behind (a_word keyword.None)
    ∷ mark sign.Semicolon
    ∷ [])

abbrev pub pool_codes_text : PoolCodes → Phrase
pool_codes_text p =
    behind_text keyword.Codes (expr_shape p.code)
    ▸ behind_text keyword.Step (expr_shape p.step)
    ▸ behind_text keyword.None (expr_shape p.none)
    ▸ mark_of sign.Semicolon

-- what stands behind the index of a rule
abbrev pub rule_end : Syntax
rule_end = row (maybe guards ∷ mark sign.Gives ∷ inclusion ∷ mark sign.Semicolon ∷ [])

abbrev pub rule_end_text : Option Guards → Inclusion → Phrase
rule_end_text g i =
    maybe_text guards_text g ▸ mark_of sign.Gives ▸ inclusion_text i ▸ mark_of sign.Semicolon

-- what a rule gives, to the rule's end
abbrev pub conclusion : Syntax
conclusion = row (mark sign.Gives ∷ inclusion ∷ mark sign.Semicolon ∷ [])

abbrev pub conclusion_text : Inclusion → Phrase
conclusion_text i = mark_of sign.Gives ▸ inclusion_text i ▸ mark_of sign.Semicolon

-- what stands behind the comma of a pair
abbrev pub pair_end : Syntax
pair_end = row (path ∷ mark sign.Greater ∷ word keyword.In ∷ name ∷ [])

abbrev pub pair_end_text : Path → PlacedName → Phrase
pair_end_text p relation =
    path_text p ▸ mark_of sign.Greater ▸ word_of keyword.In ▸ name_text relation

-- what stands behind the colon of a constraint
abbrev pub constraint_end : Syntax
constraint_end = row (maybe quantifier ∷ The (a_formula 0) ∷ mark sign.Semicolon ∷ [])

abbrev pub constraint_end_text : Option Quantifier → Formula → Phrase
constraint_end_text q f =
    maybe_text quantifier_text q ▸ formula_text (formula_shape f) ▸ mark_of sign.Semicolon

-- what stands behind the variable of a value
abbrev pub value_end : Syntax
value_end = row (mark sign.Dot ∷ name ∷ compare ∷ measure ∷ [])

abbrev pub value_end_text : PlacedName → Compare → Measure → Phrase
value_end_text relation c m =
    mark_of sign.Dot ▸ name_text relation ▸ compare_text c ▸ measure_text m

-- what stands behind the relations of a specification
abbrev pub rules_end : Syntax
rules_end = row (Many fresh ∷ Many rule ∷ Many constraint ∷ [])

abbrev pub rules_end_text : RulesEnd → Phrase
rules_end_text r =
    in_turn fresh_text r.supplies ▸ in_turn rule_text r.rules
    ▸ in_turn constraint_text (map constraint_shape r.constraints)

-- what stands behind the pools of a specification
abbrev pub tree_end : Syntax
tree_end =
    row (Many set ∷ Many relation ∷ Many fresh ∷ Many rule ∷ Many constraint ∷ [])

abbrev pub tree_end_text : TreeEnd → Phrase
tree_end_text t =
    in_turn set_text t.sets ▸ in_turn relation_text t.relations ▸ rules_end_text t.rules

-- the units that open a construct
abbrev pub not_unit : ℕ → Syntax
not_unit depth = Then (nesting depth (a_word keyword.Not)) (The (a_unit (suc depth)))

abbrev pub given_unit : ℕ → Syntax
given_unit depth = Then (nesting depth (a_word keyword.Given)) (The (a_unit (suc depth)))

abbrev pub group : ℕ → Syntax
group depth =
    row (nesting depth (a_mark sign.OpenParenthesis) ∷ The (a_formula (suc depth)) ∷ mark sign.CloseParenthesis ∷ [])
