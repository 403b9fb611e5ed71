-- The token at the front of a text.
use Rattle.std.specs.Prelude.{◌≢◌, ℕ, ◌<◌, ◌≤◌, List, [], ◌∷◌, ◌++◌, length, take, drop, Bool, false, ◌&&◌, nat_eq, Option, Some, None, Result, Ok, Err, nat_lt, if◌then◌else◌}
use Rattle.dsr_tree.specs.declared.tokens.Token.{Token}
use Rattle.dsr_ir.specs.declared.memory.NoMemory.{NoMemory}
use Rattle.dsr_syntax_theory.specs.Tokens.{is_hexadecimal_digit, Stands}
use Rattle.dsr_lexer.specs.declared.words.Found.{Found}

-- whether the first byte passes
abbrev pub begins : (ℕ → Bool) → List ℕ → Bool
begins passes [] = false
begins passes (b ∷ bytes) = passes b

-- whether `0x` and a hexadecimal digit come first
abbrev pub begins_hexadecimal : List ℕ → Bool
begins_hexadecimal (a ∷ b ∷ d ∷ _) = nat_eq a 48 && nat_eq b 120 && is_hexadecimal_digit d
begins_hexadecimal _ = false

-- a number below a limit
abbrev pub number_below : ℕ → ℕ → Option ℕ
number_below limit n = if nat_lt n limit then Some n else None

-- the token with so many bytes stands at the front
pub record StandsAt (second : Bool) (text : List ℕ) (found : Token) (len : ℕ) : Type 0 where
  pub some : 0 < len
  pub fits : len ≤ length text
  pub stands : Stands second (take len text) found (drop len text)

-- no token stands at the front
abbrev pub NoneStands : Bool → List ℕ → Type 0
NoneStands second text =
    (found : Token) (bytes rest : List ℕ) → Stands second bytes found rest → text ≢ bytes ++ rest

-- the token at the front, or that none stands there
abbrev pub FindsFront : Bool → List ℕ → Option Found → Type 0
FindsFront second text (Some f) = StandsAt second text f.token f.len
FindsFront second text None = NoneStands second text

-- the same, where there is memory for it
abbrev pub FindsToken : Bool → List ℕ → Result (Option Found) NoMemory → Type 0
FindsToken second text (Ok found) = FindsFront second text found
FindsToken second text (Err _) = Unit {0}
