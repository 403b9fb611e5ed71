-- The grammar of a specification, a definition for each production.
use Rattle.std.specs.Prelude.{ℕ, suc, List, [], ◌∷◌}
use Rattle.dsr_tree.specs.declared.tokens.Keyword.{Keyword}
use Rattle.dsr_tree.specs.declared.tokens.Keyword.TheVariants as keyword
use Rattle.dsr_tree.specs.declared.tokens.Sign.{Sign}
use Rattle.dsr_tree.specs.declared.tokens.Sign.TheVariants as sign
use Rattle.dsr_syntax_theory.specs.Syntax.{Class, a_word, a_mark, a_name, a_number, a_version, Charge, free, starts, counted, opening, Part, an_expression, a_formula, a_unit, Syntax, One, Empty, Then, Either, Many, The}

-- one after the other
abbrev pub row : List Syntax → Syntax
row [] = Empty
row (a ∷ []) = a
row (a ∷ b ∷ more) = Then a (row (b ∷ more))

-- one of these
abbrev pub choice : Syntax → List Syntax → Syntax
choice a [] = a
choice a (b ∷ more) = Either a (choice b more)

-- once or not at all
abbrev pub maybe : Syntax → Syntax
maybe a = Either a Empty

abbrev pub word : Keyword → Syntax
word k = One free (a_word k)

abbrev pub mark : Sign → Syntax
mark s = One free (a_mark s)

abbrev pub name : Syntax
name = One free a_name

abbrev pub number : Syntax
number = One free a_number

-- ---- expressions

-- an operator: an expression has at most 32
abbrev pub operator : Sign → Syntax
operator s = One (counted 32) (a_mark s)

-- parentheses in an expression, at most 32 deep
abbrev pub factor : ℕ → Syntax
factor depth =
    choice number (name ∷ row
    (One (opening depth 32) (a_mark sign.OpenParenthesis) ∷ The (an_expression (suc depth))
    ∷ mark sign.CloseParenthesis ∷ []) ∷ [])

abbrev pub product_sign : Syntax
product_sign = Either (operator sign.Times) (operator sign.Over)

abbrev pub more_factor : ℕ → Syntax
more_factor depth = Then product_sign (factor depth)

abbrev pub term2 : ℕ → Syntax
term2 depth = Then (factor depth) (Many (more_factor depth))

abbrev pub sum_sign : Syntax
sum_sign = Either (operator sign.Plus) (operator sign.Minus)

abbrev pub more_term : ℕ → Syntax
more_term depth = Then sum_sign (term2 depth)

abbrev pub expression : ℕ → Syntax
expression depth = Then (term2 depth) (Many (more_term depth))

-- a whole expression, behind a token at which its count starts
abbrev pub expr_behind : Class → Syntax
expr_behind before = Then (One starts before) (The (an_expression 0))

-- ---- formulas

abbrev pub var_by : Charge → Syntax
var_by charge = Either (One charge (a_word keyword.Head)) (One charge a_name)

abbrev pub var : Syntax
var = var_by free

abbrev pub size_part : Syntax
size_part = Then (mark sign.Dot) name

abbrev pub size_tail : Syntax
size_tail =
    row (mark sign.OpenParenthesis ∷ var ∷ maybe size_part ∷ mark sign.CloseParenthesis ∷ [])

abbrev pub size_by : Charge → Syntax
size_by charge = Then (One charge (a_word keyword.Size)) size_tail

abbrev pub bound : Syntax
bound = choice (mark sign.AtMost) (mark sign.AtLeast ∷ mark sign.Equal ∷ [])

abbrev pub compare : Syntax
compare =
    choice (mark sign.Equal)
    (mark sign.Differs ∷ mark sign.Less ∷ mark sign.AtMost ∷ mark sign.Greater
    ∷ mark sign.AtLeast ∷ [])

-- An atom is counted at its first token: a formula has at most 128. So the 129th is refused there,
-- and not at the `and` before it: what stands before that token begins a text of the grammar.
abbrev pub literal : Charge
literal = counted 128

abbrev pub count_atom : Syntax
count_atom = row (size_by literal ∷ bound ∷ number ∷ [])

abbrev pub pair_atom : Syntax
pair_atom =
    row (One literal (a_mark sign.Less) ∷ var ∷ mark sign.Comma ∷ var ∷ mark sign.Greater
    ∷ word keyword.In ∷ name ∷ [])

abbrev pub measure : Syntax
measure = Either number (size_by free)

abbrev pub atom_tail : Syntax
atom_tail =
    Either (row (word keyword.In ∷ name ∷ [])) (row (mark sign.Dot ∷ name ∷ compare ∷ measure ∷ []))

abbrev pub var_atom : Syntax
var_atom = Then (var_by literal) atom_tail

abbrev pub atom : Syntax
atom = choice count_atom (pair_atom ∷ var_atom ∷ [])

-- `not`, `given` and parentheses in a formula, together at most 32 deep
abbrev pub nesting : ℕ → Class → Syntax
nesting depth class = One (opening depth 32) class

abbrev pub unit : ℕ → Syntax
unit depth = choice (Then (nesting depth (a_word keyword.Not)) (The (a_unit (suc depth))))
    (Then (nesting depth (a_word keyword.Given)) (The (a_unit (suc depth)))
    ∷ row (nesting depth (a_mark sign.OpenParenthesis) ∷ The (a_formula (suc depth))
    ∷ mark sign.CloseParenthesis ∷ [])
    ∷ atom ∷ [])

abbrev pub more_unit : ℕ → Syntax
more_unit depth = Then (word keyword.And) (unit depth)

abbrev pub join : ℕ → Syntax
join depth = Then (unit depth) (Many (more_unit depth))

abbrev pub more_join : ℕ → Syntax
more_join depth = Then (word keyword.Or) (join depth)

abbrev pub formula : ℕ → Syntax
formula depth = Then (join depth) (Many (more_join depth))

-- the production of each part that holds itself
abbrev pub rule_of : Part → Syntax
rule_of (an_expression depth) = expression depth
rule_of (a_formula depth) = formula depth
rule_of (a_unit depth) = unit depth

-- ---- structures

abbrev pub width : Syntax
width =
    choice (word keyword.U8)
    (word keyword.U16 ∷ word keyword.U32 ∷ word keyword.U64
    ∷ row (word keyword.Bits ∷ number ∷ []) ∷ [])

abbrev pub brackets : Syntax
brackets = Then (expr_behind (a_mark sign.OpenBracket)) (mark sign.CloseBracket)

abbrev pub content : Syntax
content = Either (row (mark sign.Arrow ∷ name ∷ [])) (row (word keyword.Init ∷ number ∷ []))

abbrev pub named_field : Syntax
named_field =
    row (maybe (word keyword.Fixed) ∷ width ∷ name ∷ maybe brackets ∷ maybe content ∷ mark sign.Semicolon ∷ [])

abbrev pub skip : Syntax
skip = Then (expr_behind (a_word keyword.Skip)) (mark sign.Semicolon)

abbrev pub field : Syntax
field = Either skip named_field

abbrev pub parent : Syntax
parent = Then (word keyword.Extends) name

abbrev pub structure : Syntax
structure =
    row (word keyword.Structure ∷ name ∷ maybe parent ∷ mark sign.OpenBrace ∷ Many field ∷ mark sign.CloseBrace ∷ [])

-- ---- pools, sets, relations, supplies

abbrev pub pool : Syntax
pool =
    row (word keyword.Pool ∷ name ∷ mark sign.Colon ∷ name ∷ brackets ∷ maybe (expr_behind (a_word keyword.Slot))
    ∷ expr_behind (a_word keyword.At) ∷ expr_behind (a_word keyword.Codes)
    ∷ expr_behind (a_word keyword.Step) ∷ expr_behind (a_word keyword.None)
    ∷ mark sign.Semicolon ∷ [])

abbrev pub view : Syntax
view = Either (row (word keyword.As ∷ name ∷ [])) (row (word keyword.Except ∷ name ∷ []))

abbrev pub set : Syntax
set = row (word keyword.Set ∷ name ∷ word keyword.Of ∷ name ∷ maybe view ∷ mark sign.Semicolon ∷ [])

abbrev pub target : Syntax
target = Either (word keyword.Number) name

abbrev pub relation : Syntax
relation =
    row (word keyword.Relation ∷ name ∷ mark sign.Colon ∷ var ∷ mark sign.Arrow ∷ target ∷ mark sign.Semicolon ∷ [])

abbrev pub more_name : Syntax
more_name = row (mark sign.Comma ∷ name ∷ [])

abbrev pub fresh : Syntax
fresh =
    row (word keyword.Fresh ∷ name ∷ word keyword.Avoid ∷ name ∷ Many more_name ∷ mark sign.Semicolon ∷ [])

-- ---- rules

abbrev pub index : Syntax
index = maybe (row (mark sign.OpenBracket ∷ name ∷ mark sign.CloseBracket ∷ []))

abbrev pub path : Syntax
path = row (var ∷ mark sign.Dot ∷ name ∷ index ∷ [])

abbrev pub premise : Syntax
premise = Either (word keyword.Head) (row (name ∷ word keyword.In ∷ name ∷ []))

abbrev pub index_source : Syntax
index_source = Either (row (word keyword.Pool ∷ name ∷ [])) name

abbrev pub span : Syntax
span = row (mark sign.Comma ∷ name ∷ word keyword.In ∷ index_source ∷ [])

abbrev pub ref_test : Syntax
ref_test =
    choice (word keyword.Legal) (word keyword.Illegal ∷ word keyword.None ∷ word keyword.Some ∷ [])

abbrev pub guard : Syntax
guard =
    Either (row (ref_test ∷ mark sign.OpenParenthesis ∷ path ∷ mark sign.CloseParenthesis ∷ []))
    (row (path ∷ compare ∷ number ∷ []))

abbrev pub more_guard : Syntax
more_guard = Then (word keyword.And) guard

abbrev pub guards : Syntax
guards = row (word keyword.When ∷ guard ∷ Many more_guard ∷ [])

abbrev pub term : Syntax
term = Either (word keyword.Head) (Then name index)

abbrev pub member_part : Syntax
member_part =
    Either (row (mark sign.Dot ∷ name ∷ index ∷ []))
    (row (mark sign.OpenBracket ∷ name ∷ mark sign.CloseBracket ∷ []))

abbrev pub member : Syntax
member = Then var (maybe member_part)

abbrev pub pair_inclusion : Syntax
pair_inclusion =
    row (mark sign.Less ∷ term ∷ mark sign.Comma ∷ path ∷ mark sign.Greater ∷ word keyword.In ∷ name ∷ [])

abbrev pub member_inclusion : Syntax
member_inclusion = row (member ∷ word keyword.In ∷ name ∷ [])

abbrev pub inclusion : Syntax
inclusion = Either pair_inclusion member_inclusion

abbrev pub rule : Syntax
rule =
    row (word keyword.Rule ∷ premise ∷ maybe span ∷ maybe guards ∷ mark sign.Gives ∷ inclusion
    ∷ mark sign.Semicolon ∷ [])

-- ---- constraints

abbrev pub binder : Syntax
binder = Either name (row (mark sign.Less ∷ name ∷ mark sign.Comma ∷ name ∷ mark sign.Greater ∷ []))

-- the colon at which the count of a formula's atoms starts
abbrev pub colon : Syntax
colon = One starts (a_mark sign.Colon)

abbrev pub quantifier : Syntax
quantifier = row (word keyword.Forall ∷ binder ∷ word keyword.In ∷ name ∷ colon ∷ [])

abbrev pub constraint : Syntax
constraint =
    row (word keyword.Constraint ∷ name ∷ colon ∷ maybe quantifier ∷ The (a_formula 0) ∷ mark sign.Semicolon ∷ [])

-- ---- a whole text

abbrev pub version : Syntax
version = row (word keyword.Version ∷ One free a_version ∷ mark sign.Semicolon ∷ [])

abbrev pub endian : Syntax
endian = Either (word keyword.Little) (word keyword.Big)

abbrev pub order : Syntax
order = row (word keyword.Order ∷ endian ∷ mark sign.Semicolon ∷ [])

abbrev pub spec : Syntax
spec =
    row (version ∷ order ∷ Many structure ∷ Many pool ∷ Many set ∷ Many relation ∷ Many fresh
    ∷ Many rule ∷ Many constraint ∷ [])
