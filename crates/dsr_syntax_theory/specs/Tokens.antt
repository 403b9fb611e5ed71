-- What the tokens of a text are.
use Rattle.std.specs.Prelude.{◌≡◌, ◌≢◌, ℕ, ◌+◌, ◌*◌, ◌-◌, ◌^◌, ◌≤◌, ◌<◌, List, [], ◌∷◌, ◌++◌, length, codes, Bool, true, false, ◌&&◌, ◌||◌, nat_eq, nat_le, IsTrue, not, if◌then◌else◌}
use Rattle.dsr_tree.specs.declared.tokens.Keyword.{Keyword}
use Rattle.dsr_tree.specs.declared.tokens.Keyword.TheVariants as keyword
use Rattle.dsr_tree.specs.declared.tokens.Sign.{Sign}
use Rattle.dsr_tree.specs.declared.tokens.Sign.TheVariants as sign
use Rattle.dsr_tree.specs.declared.tokens.Token.{Token}
use Rattle.dsr_tree.specs.declared.tokens.Token.TheVariants as token
use Rattle.dsr_tree.specs.declared.tokens.Lexeme.{Lexeme}

-- `a` to `z` and `A` to `Z`
abbrev pub is_letter : ℕ → Bool
is_letter b = (nat_le 97 b && nat_le b 122) || (nat_le 65 b && nat_le b 90)

-- `0` to `9`
abbrev pub is_digit : ℕ → Bool
is_digit b = nat_le 48 b && nat_le b 57

-- a digit, `a` to `f` or `A` to `F`
abbrev pub is_hexadecimal_digit : ℕ → Bool
is_hexadecimal_digit b = is_digit b || (nat_le 97 b && nat_le b 102) || (nat_le 65 b && nat_le b 70)

-- a letter, a digit or `_`
abbrev pub is_in_word : ℕ → Bool
is_in_word b = is_letter b || is_digit b || nat_eq b 95

-- a space, a tab, a line feed or a carriage return
abbrev pub is_blank : ℕ → Bool
is_blank b = nat_eq b 32 || nat_eq b 9 || nat_eq b 10 || nat_eq b 13

-- any byte but a line feed
abbrev pub is_in_line : ℕ → Bool
is_in_line b = not (nat_eq b 10)

-- whether each byte passes
abbrev pub every : (ℕ → Bool) → List ℕ → Bool
every passes [] = true
every passes (b ∷ bytes) = passes b && every passes bytes

-- the spelling of each keyword
abbrev pub keyword_spelling : Keyword → List ℕ
keyword_spelling keyword.Version = codes "version"
keyword_spelling keyword.Order = codes "order"
keyword_spelling keyword.Little = codes "little"
keyword_spelling keyword.Big = codes "big"
keyword_spelling keyword.Structure = codes "structure"
keyword_spelling keyword.Extends = codes "extends"
keyword_spelling keyword.Fixed = codes "fixed"
keyword_spelling keyword.U8 = codes "u8"
keyword_spelling keyword.U16 = codes "u16"
keyword_spelling keyword.U32 = codes "u32"
keyword_spelling keyword.U64 = codes "u64"
keyword_spelling keyword.Bits = codes "bits"
keyword_spelling keyword.Init = codes "init"
keyword_spelling keyword.Skip = codes "skip"
keyword_spelling keyword.Pool = codes "pool"
keyword_spelling keyword.Slot = codes "slot"
keyword_spelling keyword.At = codes "at"
keyword_spelling keyword.Codes = codes "codes"
keyword_spelling keyword.Step = codes "step"
keyword_spelling keyword.None = codes "none"
keyword_spelling keyword.Set = codes "set"
keyword_spelling keyword.Of = codes "of"
keyword_spelling keyword.As = codes "as"
keyword_spelling keyword.Except = codes "except"
keyword_spelling keyword.Relation = codes "relation"
keyword_spelling keyword.Head = codes "head"
keyword_spelling keyword.Number = codes "number"
keyword_spelling keyword.Fresh = codes "fresh"
keyword_spelling keyword.Avoid = codes "avoid"
keyword_spelling keyword.Rule = codes "rule"
keyword_spelling keyword.In = codes "in"
keyword_spelling keyword.When = codes "when"
keyword_spelling keyword.And = codes "and"
keyword_spelling keyword.Legal = codes "legal"
keyword_spelling keyword.Illegal = codes "illegal"
keyword_spelling keyword.Some = codes "some"
keyword_spelling keyword.Constraint = codes "constraint"
keyword_spelling keyword.Forall = codes "forall"
keyword_spelling keyword.Or = codes "or"
keyword_spelling keyword.Not = codes "not"
keyword_spelling keyword.Given = codes "given"
keyword_spelling keyword.Size = codes "size"

-- the spelling of each sign
abbrev pub sign_spelling : Sign → List ℕ
sign_spelling sign.Semicolon = codes ";"
sign_spelling sign.Colon = codes ":"
sign_spelling sign.Comma = codes ","
sign_spelling sign.Dot = codes "."
sign_spelling sign.OpenBrace = codes "{"
sign_spelling sign.CloseBrace = codes "}"
sign_spelling sign.OpenBracket = codes "["
sign_spelling sign.CloseBracket = codes "]"
sign_spelling sign.OpenParenthesis = codes "("
sign_spelling sign.CloseParenthesis = codes ")"
sign_spelling sign.Arrow = codes "->"
sign_spelling sign.Gives = codes "=>"
sign_spelling sign.Plus = codes "+"
sign_spelling sign.Minus = codes "-"
sign_spelling sign.Times = codes "*"
sign_spelling sign.Over = codes "/"
sign_spelling sign.Equal = codes "="
sign_spelling sign.Differs = codes "!="
sign_spelling sign.Less = codes "<"
sign_spelling sign.AtMost = codes "<="
sign_spelling sign.Greater = codes ">"
sign_spelling sign.AtLeast = codes ">="

-- what a digit of either base counts
abbrev pub digit_value : ℕ → ℕ
digit_value d = if is_digit d then d - 48 else (if nat_le 97 d then d - 87 else d - 55)

-- the number that digits write after a number that stands before them
abbrev pub value_after : ℕ → ℕ → List ℕ → ℕ
value_after base before [] = before
value_after base before (d ∷ digits) = value_after base (before * base + digit_value d) digits

-- all keywords but `except`, which is one in the second version alone
abbrev pub is_keyword : Bool → Keyword → Bool
is_keyword second keyword.Except = second
is_keyword second _ = true

-- how each token is spelled, whatever its size; `second` says whether the text is of version 2
pub data Spells (second : Bool) : List ℕ → Token → Type 0 where
  a_keyword :
      (k : Keyword) → IsTrue (is_keyword second k)
      → Spells second (keyword_spelling k) (token.Keyword k)
  a_name :
      (b : ℕ) (bytes : List ℕ) → IsTrue (is_letter b) → IsTrue (every is_in_word bytes)
      → ((k : Keyword) → IsTrue (is_keyword second k) → b ∷ bytes ≢ keyword_spelling k)
      → Spells second (b ∷ bytes) (token.Name (b ∷ bytes))
  a_decimal :
      (d : ℕ) (digits : List ℕ) → IsTrue (every is_digit (d ∷ digits))
      → Spells second (d ∷ digits) (token.Number (value_after 10 0 (d ∷ digits)))
  -- only a small `x` begins a hexadecimal number: `0X1` is the number 0 and the name `X1`
  a_hexadecimal :
      (d : ℕ) (digits : List ℕ) → IsTrue (every is_hexadecimal_digit (d ∷ digits))
      → Spells second (codes "0x" ++ d ∷ digits) (token.Number (value_after 16 0 (d ∷ digits)))
  a_sign : (s : Sign) → Spells second (sign_spelling s) (token.Sign s)

-- Names of at most 32 bytes, and numbers of 64 bits. What is longer or greater is no token, at its
-- first byte, also where neither could stand.
abbrev pub IsWithinLimits : Token → Type 0
IsWithinLimits (token.Name bytes) = length bytes ≤ 32
IsWithinLimits (token.Number n) = n < 2 ^ 64
IsWithinLimits _ = Unit {0}

-- a token before the rest of a text: its spelling is the longest that fits there, and it is within
-- the limits
pub record Stands (second : Bool) (bytes : List ℕ) (found : Token) (rest : List ℕ) : Type 0 where
  pub spelled : Spells second bytes found
  pub longest :
      (other : Token) (longer after : List ℕ) → Spells second longer other
      → bytes ++ rest ≡ longer ++ after → length longer ≤ length bytes
  pub limits : IsWithinLimits found

-- nothing, or what begins with a line feed
abbrev pub EndsLine : List ℕ → Type 0
EndsLine [] = Unit {0}
EndsLine (b ∷ rest) = b ≡ 10

-- what stands at a place before the rest of a text, with its tokens: a
-- blank, a comment from `#` to the end of its line, or a token
pub data Begins (second : Bool) (place : ℕ) : List ℕ → List ℕ → List Lexeme → Type 0 where
  a_blank : (b : ℕ) (rest : List ℕ) → IsTrue (is_blank b) → Begins second place (b ∷ []) rest []
  a_comment :
      (bytes rest : List ℕ) → IsTrue (every is_in_line bytes) → EndsLine rest
      → Begins second place (35 ∷ bytes) rest []
  a_token :
      (bytes rest : List ℕ) (found : Token) → Stands second bytes found rest
      → Begins second place bytes rest (record { token = found; place = place } ∷ [])

-- a text at a place, cut into the tokens of its front and what is left at a later place
pub data IsCut (second : Bool) : ℕ → List ℕ → List Lexeme → ℕ → List ℕ → Type 0 where
  here : {place : ℕ} {text : List ℕ} → IsCut second place text [] place text
  further :
      {place : ℕ} {bytes rest : List ℕ} {found : List Lexeme} {more : List Lexeme} {to : ℕ} {left : List ℕ}
      → Begins second place bytes rest found → IsCut second (place + length bytes) rest more to left
      → IsCut second place (bytes ++ rest) (found ++ more) to left

-- `version`
abbrev pub is_version : Token → Bool
is_version (token.Keyword keyword.Version) = true
is_version _ = false

-- the number 2, however it is written
abbrev pub is_two : Token → Bool
is_two (token.Number n) = nat_eq n 2
is_two _ = false

-- whether tokens begin with `version` and `2`: their text is of version 2
abbrev pub is_second_version : List Lexeme → Bool
is_second_version (a ∷ b ∷ _) = is_version a.token && is_two b.token
is_second_version _ = false

-- the tokens of a text, with their places
pub record IsLexed (text : List ℕ) (lexemes : List Lexeme) : Type 0 where
  pub cut : IsCut (is_second_version lexemes) 0 text lexemes (length text) []

-- the place of the first bytes of a text that are no token, blank or comment, behind the tokens
-- before it
pub record HasTokenFault (text : List ℕ) (place : ℕ) : Type 0 where
  pub before : List Lexeme
  pub left : List ℕ
  pub cut : IsCut (is_second_version before) 0 text before place left
  pub some : left ≢ []
  pub none :
      (bytes rest : List ℕ) (found : List Lexeme)
      → Begins (is_second_version before) place bytes rest found → left ≢ bytes ++ rest
