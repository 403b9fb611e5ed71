-- How a text is read.
use Rattle.std.specs.Prelude.{◌≡◌, ◌≢◌, ℕ, ◌+◌, ◌<◌, ◌≤◌, List, [], ◌++◌, length, take, drop, Bool, Option, Some, None, Result, Ok, Err, Vec}
use Rattle.std.specs.declared.alloc.Global.{Global}
use Rattle.dsr_tree.specs.declared.tokens.Lexeme.{Lexeme}
use Rattle.dsr_ir.specs.declared.memory.NoMemory.{NoMemory}
use Rattle.dsr_syntax_theory.specs.Tokens.{Begins, is_second_version, IsLexed, HasTokenFault}
use Rattle.dsr_lexer.specs.declared.lexer.TokenFault.{TokenFault}
use Rattle.dsr_lexer.specs.declared.lexer.TokenFault.TheVariants as fault

-- a blank or a comment of this length comes first
pub record IsGap (text : List ℕ) (len : ℕ) : Type 0 where
  pub some : 0 < len
  pub fits : len ≤ length text
  pub begins : (second : Bool) (place : ℕ) → Begins second place (take len text) (drop len text) []

-- a blank or a comment of this length comes first, or none does
abbrev pub FindsGap : List ℕ → Option ℕ → Type 0
FindsGap text (Some len) = IsGap text len
FindsGap text None =
    (second : Bool) (place : ℕ) (bytes rest : List ℕ) → Begins second place bytes rest []
    → text ≢ bytes ++ rest

-- a step from a place to a later one
pub record Steps (old new : List Lexeme) (text : List ℕ) (place next : ℕ) : Type 0 where
  pub len : ℕ
  pub found : List Lexeme
  pub begins : Begins (is_second_version old) place (take len (drop place text)) (drop len (drop place text)) found
  pub added : new ≡ old ++ found
  pub is : next ≡ place + len
  pub further : place < next
  pub fits : next ≤ length text

-- a step, or that none can be made
abbrev pub StepsOn : List Lexeme → List Lexeme → List ℕ → ℕ → Result (Option ℕ) NoMemory → Type 0
StepsOn old new text place (Ok (Some next)) = Steps old new text place next
StepsOn old new text place (Ok None) =
    (new ≡ old)
    × ((bytes rest : List ℕ) (found : List Lexeme)
    → Begins (is_second_version old) place bytes rest found → drop place text ≢ bytes ++ rest)
StepsOn old new text place (Err _) = Unit {0}

-- the tokens of a text, or those before the place of its first bytes that are none
abbrev pub AreFrontTokens : List ℕ → List Lexeme → Option ℕ → Type 0
AreFrontTokens text lexemes None = IsLexed text lexemes
AreFrontTokens text lexemes (Some place) =
    (fault : HasTokenFault text place) × (fault.before ≡ lexemes)

-- the tokens of a text, or the place where it has none
abbrev pub Lexes : List ℕ → Result (Vec Lexeme Global) TokenFault → Type 0
Lexes text (Ok lexemes) = IsLexed text lexemes.items
Lexes text (Err fault.NoMemory) = Unit {0}
Lexes text (Err (fault.Token place)) = HasTokenFault text place
