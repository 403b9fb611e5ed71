-- Keywords and signs, looked up by their spellings.
use Rattle.std.specs.Prelude.{◌≡◌, ◌≢◌, ℕ, ◌≤◌, List, [], ◌∷◌, ◌++◌, length, Bool, Option, Some, None, nat_eq, IsTrue, if◌then◌else◌}
use Rattle.std.specs.List.{starts_with}
use Rattle.std.specs.Str.{bytes_eq}
use Rattle.dsr_tree.specs.declared.tokens.Keyword.{Keyword}
use Rattle.dsr_tree.specs.declared.tokens.Keyword.TheVariants as keyword
use Rattle.dsr_tree.specs.declared.tokens.Sign.{Sign}
use Rattle.dsr_syntax_theory.specs.Tokens.{keyword_spelling, sign_spelling, is_keyword}

-- the keywords that begin with this letter
abbrev pub keywords_from : ℕ → List Keyword
keywords_from letter =
    if nat_eq letter 97 then keyword.At ∷ keyword.As ∷ keyword.Avoid ∷ keyword.And ∷ [] else
    if nat_eq letter 98 then keyword.Big ∷ keyword.Bits ∷ [] else
    if nat_eq letter 99 then keyword.Codes ∷ keyword.Constraint ∷ [] else
    if nat_eq letter 101 then keyword.Extends ∷ keyword.Except ∷ [] else
    if nat_eq letter 102 then keyword.Fixed ∷ keyword.Fresh ∷ keyword.Forall ∷ [] else
    if nat_eq letter 103 then keyword.Given ∷ [] else
    if nat_eq letter 104 then keyword.Head ∷ [] else
    if nat_eq letter 105 then keyword.Init ∷ keyword.In ∷ keyword.Illegal ∷ [] else
    if nat_eq letter 108 then keyword.Little ∷ keyword.Legal ∷ [] else
    if nat_eq letter 110 then keyword.None ∷ keyword.Number ∷ keyword.Not ∷ [] else
    if nat_eq letter 111 then keyword.Order ∷ keyword.Of ∷ keyword.Or ∷ [] else
    if nat_eq letter 112 then keyword.Pool ∷ [] else
    if nat_eq letter 114 then keyword.Relation ∷ keyword.Rule ∷ [] else
    if nat_eq letter 115 then keyword.Structure ∷ keyword.Skip ∷ keyword.Slot ∷ keyword.Step ∷ keyword.Set ∷ keyword.Some ∷ keyword.Size ∷ [] else
    if nat_eq letter 117 then keyword.U8 ∷ keyword.U16 ∷ keyword.U32 ∷ keyword.U64 ∷ [] else
    if nat_eq letter 118 then keyword.Version ∷ [] else
    if nat_eq letter 119 then keyword.When ∷ [] else
    []

-- the keywords that begin as the word does
abbrev pub candidates : List ℕ → List Keyword
candidates [] = []
candidates (letter ∷ rest) = keywords_from letter

-- the first of these keywords that is spelled so
abbrev pub keyword_among : List Keyword → List ℕ → Option Keyword
keyword_among [] bytes = None
keyword_among (k ∷ ks) bytes =
    if bytes_eq (keyword_spelling k) bytes then Some k else keyword_among ks bytes

-- the keyword that is spelled so, or that none is
abbrev pub FindsKeyword : Bool → List ℕ → Option Keyword → Type 0
FindsKeyword second bytes (Some k) = IsTrue (is_keyword second k) × (bytes ≡ keyword_spelling k)
FindsKeyword second bytes None =
    (k : Keyword) → IsTrue (is_keyword second k) → bytes ≢ keyword_spelling k

-- the first of these signs with which the bytes begin
abbrev pub sign_among : List Sign → List ℕ → Option Sign
sign_among [] bytes = None
sign_among (s ∷ ss) bytes =
    if starts_with nat_eq bytes (sign_spelling s) then Some s else sign_among ss bytes

-- the bytes begin with this sign, and with no longer one
pub record BeginsWithSign (bytes : List ℕ) (s : Sign) : Type 0 where
  pub rest : List ℕ
  pub cut : bytes ≡ sign_spelling s ++ rest
  pub longest :
      (other : Sign) (after : List ℕ) → bytes ≡ sign_spelling other ++ after
      → length (sign_spelling other) ≤ length (sign_spelling s)

-- the longest sign with which the bytes begin, or that none is
abbrev pub FindsSign : List ℕ → Option Sign → Type 0
FindsSign bytes (Some s) = BeginsWithSign bytes s
FindsSign bytes None = (other : Sign) (after : List ℕ) → bytes ≢ sign_spelling other ++ after
