-- What readers of a text's tokens say.
use Rattle.std.specs.Prelude.{◌≡◌, ℕ, List, [], ◌∷◌, ◌++◌, Bool, true, false, Option, Some, None}
use Rattle.dsr_tree.specs.Trees.{more_term_shape, more_factor_shape, join_shape, unit_shape, field_shape, expr_shape, structure_shape, pool_shape, constraint_shape}
use Rattle.dsr_tree.specs.declared.tokens.Keyword.TheVariants.{Slot}
use Rattle.dsr_tree.specs.declared.tree.Constraint.{Constraint}
use Rattle.dsr_tree.specs.declared.tree.Expr.{Expr}
use Rattle.dsr_tree.specs.declared.tree.Field.{Field}
use Rattle.dsr_tree.specs.declared.tree.Join.{Join}
use Rattle.dsr_tree.specs.declared.tree.Pool.{Pool}
use Rattle.dsr_tree.specs.declared.tree.Structure.{Structure}
use Rattle.dsr_tree.specs.declared.tree.MoreFactor.{MoreFactor}
use Rattle.dsr_tree.specs.declared.tree.MoreTerm.{MoreTerm}
use Rattle.dsr_tree.specs.declared.tree.Unit.{Unit as UnitOf}
use Rattle.dsr_tree.specs.declared.tokens.Lexeme.{Lexeme}
use Rattle.dsr_syntax_theory.specs.Phrases.{Phrase, Says, in_turn}
use Rattle.dsr_syntax_theory.specs.Syntax.{Syntax, Many}
use Rattle.dsr_syntax_theory.specs.TreeTexts.{more_term_text, more_factor_text, more_join_text, more_unit_text, field_text, brackets_text, structure_text, behind_text, pool_text, constraint_text}
use Rattle.dsr_parse.specs.Machine.{run, Progress, StopsAt, Exceeds, may_begin}
use Rattle.dsr_parse.specs.declared.reader.Stop.{Stop}
use Rattle.dsr_parse.specs.declared.reader.Stop.TheVariants.{NoMemory, Expected, Limit}

-- where a reader stands: the tokens that are left, and what is counted
pub record Standing : Type 0 where
  pub rest : List Lexeme
  pub counted : ℕ

-- from one place to the other the machine goes from what had to
-- come before to what has to come after, whatever follows
pub record Goes (before after : List Syntax) (x y : Standing) : Type 0 where
  pub passes :
      (k : List Syntax) → run x.rest x.counted (before ++ k) ≡ run y.rest y.counted (after ++ k)

-- how the machine ends where a reader stops
abbrev pub EndsBy : Stop → Progress → Type 0
EndsBy NoMemory o = Unit {0}
EndsBy (Expected left) o = o ≡ StopsAt left
EndsBy (Limit left) o = o ≡ Exceeds left

-- from the place on the machine stops so, whatever follows
pub record Halts (before : List Syntax) (x : Standing) (e : Stop) : Type 0 where
  pub halts : (k : List Syntax) → EndsBy e (run x.rest x.counted (before ++ k))

-- a text of the right side stands between the two places, and is the phrase
pub record Reads (s : Syntax) (p : Phrase) (x y : Standing) : Type 0 where
  pub goes : Goes (s ∷ []) [] x y
  pub says : Says p x.rest y.rest

-- texts of the items stand between the two places, one after the other, and more may follow
pub record ReadsItems {X : Type 0} (a : Syntax) (phrase : X → Phrase) (items : List X) (x y : Standing) : Type 0 where
  pub goes : Goes (Many a ∷ []) (Many a ∷ []) x y
  pub says : Says (in_turn phrase items) x.rest y.rest

-- whether a text of the right side can begin with the token that comes next
abbrev pub is_next : Syntax → List Lexeme → Bool
is_next s [] = false
is_next s (l ∷ ls) = may_begin s l.token

-- it can
pub record Next (s : Syntax) (ls : List Lexeme) : Type 0 where
  pub is : is_next s ls ≡ true

-- it can't
pub record Other (s : Syntax) (ls : List Lexeme) : Type 0 where
  pub is : is_next s ls ≡ false

-- a text of the right side stands between the two places, or none is next and nothing is read
abbrev pub Found : {X : Type 0} → Syntax → (X → Phrase) → Standing → Standing → Option X → Type 0
Found s phrase x y (Some v) = Reads s (phrase v) x y × Next s x.rest
Found s phrase x y None = Other s x.rest × (y ≡ x)

-- the phrase of a term behind its sign
abbrev pub said_term : MoreTerm → Phrase
said_term more = more_term_text (more_term_shape more)

-- the phrase of a factor behind its sign
abbrev pub said_factor : MoreFactor → Phrase
said_factor more = more_factor_text (more_factor_shape more)

-- the phrase of a join behind `or`
abbrev pub said_join : Join → Phrase
said_join join = more_join_text (join_shape join)

-- the phrase of a unit behind `and`
abbrev pub said_unit : UnitOf → Phrase
said_unit unit = more_unit_text (unit_shape unit)

-- the phrases of the parts that have expressions or formulas in them
abbrev pub said_field : Field → Phrase
said_field field = field_text (field_shape field)

abbrev pub said_length : Expr → Phrase
said_length length = brackets_text (expr_shape length)

abbrev pub said_structure : Structure → Phrase
said_structure structure = structure_text (structure_shape structure)

abbrev pub said_slot : Expr → Phrase
said_slot slot = behind_text Slot (expr_shape slot)

abbrev pub said_pool : Pool → Phrase
said_pool pool = pool_text (pool_shape pool)

abbrev pub said_constraint : Constraint → Phrase
said_constraint constraint = constraint_text (constraint_shape constraint)
