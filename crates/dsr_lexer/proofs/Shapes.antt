-- How far a token reaches, by its first byte.
use Rattle.std.proofs.Common.{◌≡◌, ℕ, suc, ◌+◌, ◌≤◌, List, [], ◌∷◌, ◌++◌, length, take, drop, Bool, true, false, not, ◌&&◌, ◌||◌, refl, ap, ◌∙◌, sym, subst, cond, inl, inr, Some, nat_eq, arith}
use Rattle.std.specs.List.{prefix_len}
use Rattle.std.proofs.lemmas.Bool.Decides.{nat_tests}
use Rattle.dsr_tree.specs.declared.tokens.Keyword.{Keyword}
use Rattle.dsr_tree.specs.declared.tokens.Keyword.TheVariants as keyword
use Rattle.dsr_tree.specs.declared.tokens.Sign.{Sign}
use Rattle.dsr_tree.specs.declared.tokens.Sign.TheVariants as sign
use Rattle.dsr_tree.specs.declared.tokens.Token.{Token}
use Rattle.dsr_tree.specs.declared.tokens.Token.TheVariants as token
use Rattle.dsr_syntax_theory.specs.Tokens.{is_letter, is_digit, is_hexadecimal_digit, is_in_word, is_blank, every, keyword_spelling, sign_spelling, value_after, Spells, a_keyword, a_name, a_decimal, a_hexadecimal, a_sign}
use Rattle.dsr_lexer.specs.Front.{begins}
use Rattle.dsr_lexer.specs.declared.spellings.TheConstants.{LONG_SIGNS, SHORT_SIGNS}
use Rattle.dsr_lexer.specs.Spelled.{candidates, keyword_among, sign_among}
use Rattle.dsr_lexer.proofs.Lookups.{finds_each_keyword, finds_each_sign}

pub both : (a b : Bool) → (a && b) ≡ true → (a ≡ true) × (b ≡ true)
both true true e = (refl, refl)
both true false e = absurd cc
both false b e = absurd cc

pub every_front : (passes : ℕ → Bool) (bytes : List ℕ) → every passes (take (prefix_len passes bytes) bytes) ≡ true
every_front passes [] = refl
every_front passes (b ∷ bytes) = elim (passes b) as (λ x. passes b ≡ x → every passes (take (cond x (1 + prefix_len passes bytes) 0) (b ∷ bytes)) ≡ true) [
  | true ↦ λ e. (
      let more : suc (prefix_len passes bytes) ≡ 1 + prefix_len passes bytes = omega arith in
      let front : (passes b && every passes (take (prefix_len passes bytes) bytes)) ≡ true = rw e (every_front passes bytes) in
      subst (λ n. every passes (take n (b ∷ bytes)) ≡ true) more front)
  | false ↦ λ e. refl
] refl

pub every_reaches : (passes : ℕ → Bool) (bytes after : List ℕ) → every passes bytes ≡ true → length bytes ≤ prefix_len passes (bytes ++ after)
every_reaches passes [] after h = omega arith
every_reaches passes (b ∷ bytes) after h =
    let parts = both (passes b) (every passes bytes) h in
    rw parts.0 (omega (arith, every_reaches passes bytes after parts.1))

pub every_as : (f g : ℕ → Bool) → ((b : ℕ) → f b ≡ true → g b ≡ true) → (bytes : List ℕ) → every f bytes ≡ true → every g bytes ≡ true
every_as f g also [] h = refl
every_as f g also (b ∷ bytes) h =
    let parts = both (f b) (every f bytes) h in
    rw (also b parts.0) (every_as f g also bytes parts.1)

-- a byte that begins a sign
abbrev pub is_mark : ℕ → Bool
is_mark b = not (is_letter b || is_digit b || is_blank b || nat_eq b 35)

-- what a token's first byte is
abbrev pub first_byte : Token → ℕ → Bool
first_byte (token.Keyword _) = is_letter
first_byte (token.Name _) = is_letter
first_byte (token.Number _) = is_digit
first_byte (token.Sign _) = is_mark

pub keyword_begins : (k : Keyword) → (begins is_letter (keyword_spelling k) ≡ true) × (every is_in_word (keyword_spelling k) ≡ true)
keyword_begins keyword.Version = (refl, refl)
keyword_begins keyword.Order = (refl, refl)
keyword_begins keyword.Little = (refl, refl)
keyword_begins keyword.Big = (refl, refl)
keyword_begins keyword.Structure = (refl, refl)
keyword_begins keyword.Extends = (refl, refl)
keyword_begins keyword.Fixed = (refl, refl)
keyword_begins keyword.U8 = (refl, refl)
keyword_begins keyword.U16 = (refl, refl)
keyword_begins keyword.U32 = (refl, refl)
keyword_begins keyword.U64 = (refl, refl)
keyword_begins keyword.Bits = (refl, refl)
keyword_begins keyword.Init = (refl, refl)
keyword_begins keyword.Skip = (refl, refl)
keyword_begins keyword.Pool = (refl, refl)
keyword_begins keyword.Slot = (refl, refl)
keyword_begins keyword.At = (refl, refl)
keyword_begins keyword.Codes = (refl, refl)
keyword_begins keyword.Step = (refl, refl)
keyword_begins keyword.None = (refl, refl)
keyword_begins keyword.Set = (refl, refl)
keyword_begins keyword.Of = (refl, refl)
keyword_begins keyword.As = (refl, refl)
keyword_begins keyword.Except = (refl, refl)
keyword_begins keyword.Relation = (refl, refl)
keyword_begins keyword.Head = (refl, refl)
keyword_begins keyword.Number = (refl, refl)
keyword_begins keyword.Fresh = (refl, refl)
keyword_begins keyword.Avoid = (refl, refl)
keyword_begins keyword.Rule = (refl, refl)
keyword_begins keyword.In = (refl, refl)
keyword_begins keyword.When = (refl, refl)
keyword_begins keyword.And = (refl, refl)
keyword_begins keyword.Legal = (refl, refl)
keyword_begins keyword.Illegal = (refl, refl)
keyword_begins keyword.Some = (refl, refl)
keyword_begins keyword.Constraint = (refl, refl)
keyword_begins keyword.Forall = (refl, refl)
keyword_begins keyword.Or = (refl, refl)
keyword_begins keyword.Not = (refl, refl)
keyword_begins keyword.Given = (refl, refl)
keyword_begins keyword.Size = (refl, refl)

pub sign_begins : (s : Sign) → begins is_mark (sign_spelling s) ≡ true
sign_begins sign.Semicolon = refl
sign_begins sign.Colon = refl
sign_begins sign.Comma = refl
sign_begins sign.Dot = refl
sign_begins sign.OpenBrace = refl
sign_begins sign.CloseBrace = refl
sign_begins sign.OpenBracket = refl
sign_begins sign.CloseBracket = refl
sign_begins sign.OpenParenthesis = refl
sign_begins sign.CloseParenthesis = refl
sign_begins sign.Arrow = refl
sign_begins sign.Gives = refl
sign_begins sign.Plus = refl
sign_begins sign.Minus = refl
sign_begins sign.Times = refl
sign_begins sign.Over = refl
sign_begins sign.Equal = refl
sign_begins sign.Differs = refl
sign_begins sign.Less = refl
sign_begins sign.AtMost = refl
sign_begins sign.Greater = refl
sign_begins sign.AtLeast = refl

pub letter_no_digit : (b : ℕ) → is_letter b ≡ true → is_digit b ≡ true → ⊥
letter_no_digit b l d = grind (arith, nat_tests)

pub letter_no_mark : (b : ℕ) → is_letter b ≡ true → is_mark b ≡ true → ⊥
letter_no_mark b l m = grind (arith, nat_tests)

pub digit_no_mark : (b : ℕ) → is_digit b ≡ true → is_mark b ≡ true → ⊥
digit_no_mark b d m = grind (arith, nat_tests)

pub digit_is_hexadecimal : (b : ℕ) → is_digit b ≡ true → is_hexadecimal_digit b ≡ true
digit_is_hexadecimal b d = grind (arith, nat_tests)

pub spelled_begins : {second : Bool} {bytes : List ℕ} {t : Token} → Spells second bytes t → begins (first_byte t) bytes ≡ true
spelled_begins (a_keyword k _) = (keyword_begins k).0
spelled_begins (a_name b bytes l _ _) = l
spelled_begins (a_decimal d digits h) = (both (is_digit d) (every is_digit digits) h).0
spelled_begins (a_hexadecimal d digits h) = refl
spelled_begins (a_sign s) = sign_begins s

pub apart : (f g : ℕ → Bool) → ((b : ℕ) → f b ≡ true → g b ≡ true → ⊥) → {bytes others : List ℕ} → begins f bytes ≡ true → begins g others ≡ true → bytes ≡ others → ⊥
apart f g differ {bytes = []} fs gs q = absurd cc
apart f g differ {bytes = b ∷ bytes} fs gs q = differ b fs (subst (λ bytes. begins g bytes ≡ true) (sym q) gs)

pub same_keyword : (j k : Keyword) → keyword_spelling j ≡ keyword_spelling k → j ≡ k
same_keyword j k q = let found : Some j ≡ Some k = sym (finds_each_keyword j) ∙ (ap (λ word. keyword_among (candidates word) word) q ∙ finds_each_keyword k) in cc

same_sign : (s t : Sign) → sign_spelling s ≡ sign_spelling t → s ≡ t
same_sign s t q = elim (finds_each_sign s []) as (λ _. s ≡ t) [
  | inl x ↦ elim (finds_each_sign t []) as (λ _. s ≡ t) [
    | inl y ↦ (let found : Some s ≡ Some t = sym x.1 ∙ (ap (λ bytes. sign_among LONG_SIGNS (bytes ++ [])) q ∙ y.1) in cc)
    | inr y ↦ absurd (omega (arith, x.0, y.0, ap length q))
  ]
  | inr x ↦ elim (finds_each_sign t []) as (λ _. s ≡ t) [
    | inl y ↦ absurd (omega (arith, x.0, y.0, ap length q))
    | inr y ↦ (let found : Some s ≡ Some t = sym x.1 ∙ (ap (λ bytes. sign_among SHORT_SIGNS (bytes ++ [])) q ∙ y.1) in cc)
  ]
]

decimal_no_hexadecimal : (d : ℕ) (digits : List ℕ) (e : ℕ) (others : List ℕ) → every is_digit (d ∷ digits) ≡ true → d ∷ digits ≡ 48 ∷ 120 ∷ e ∷ others → ⊥
decimal_no_hexadecimal d digits e others h q = let clash : false ≡ true = subst (λ bytes. every is_digit bytes ≡ true) q h in absurd cc

-- bytes spell one token
pub spelled_once : (second : Bool) {bytes others : List ℕ} {t u : Token} → Spells second bytes t → Spells second others u → bytes ≡ others → t ≡ u
spelled_once second (a_keyword j _) (a_keyword k _) q = ap token.Keyword (same_keyword j k q)
spelled_once second (a_keyword k one) (a_name _ _ _ _ none) q = absurd (none k one (sym q))
spelled_once second (a_keyword k _) (a_decimal d ds h) q = absurd (apart is_letter is_digit letter_no_digit (keyword_begins k).0 (both (is_digit d) (every is_digit ds) h).0 q)
spelled_once second (a_keyword k _) (a_hexadecimal _ _ _) q = absurd (apart is_letter is_digit letter_no_digit (keyword_begins k).0 refl q)
spelled_once second (a_keyword k _) (a_sign s) q = absurd (apart is_letter is_mark letter_no_mark (keyword_begins k).0 (sign_begins s) q)
spelled_once second (a_name _ _ _ _ none) (a_keyword k one) q = absurd (none k one q)
spelled_once second (a_name _ _ _ _ _) (a_name _ _ _ _ _) q = ap token.Name q
spelled_once second (a_name _ _ l _ _) (a_decimal d ds h) q = absurd (apart is_letter is_digit letter_no_digit l (both (is_digit d) (every is_digit ds) h).0 q)
spelled_once second (a_name _ _ l _ _) (a_hexadecimal _ _ _) q = absurd (apart is_letter is_digit letter_no_digit l refl q)
spelled_once second (a_name _ _ l _ _) (a_sign s) q = absurd (apart is_letter is_mark letter_no_mark l (sign_begins s) q)
spelled_once second (a_decimal d ds h) (a_keyword k _) q = absurd (apart is_letter is_digit letter_no_digit (keyword_begins k).0 (both (is_digit d) (every is_digit ds) h).0 (sym q))
spelled_once second (a_decimal d ds h) (a_name _ _ l _ _) q = absurd (apart is_letter is_digit letter_no_digit l (both (is_digit d) (every is_digit ds) h).0 (sym q))
spelled_once second (a_decimal _ _ _) (a_decimal _ _ _) q = ap (λ digits. token.Number (value_after 10 0 digits)) q
spelled_once second (a_decimal d ds h) (a_hexadecimal e es _) q = absurd (decimal_no_hexadecimal d ds e es h q)
spelled_once second (a_decimal d ds h) (a_sign s) q = absurd (apart is_digit is_mark digit_no_mark (both (is_digit d) (every is_digit ds) h).0 (sign_begins s) q)
spelled_once second (a_hexadecimal _ _ _) (a_keyword k _) q = absurd (apart is_letter is_digit letter_no_digit (keyword_begins k).0 refl (sym q))
spelled_once second (a_hexadecimal _ _ _) (a_name _ _ l _ _) q = absurd (apart is_letter is_digit letter_no_digit l refl (sym q))
spelled_once second (a_hexadecimal e es _) (a_decimal d ds h) q = absurd (decimal_no_hexadecimal d ds e es h (sym q))
spelled_once second (a_hexadecimal _ _ _) (a_hexadecimal _ _ _) q = ap (λ bytes. token.Number (value_after 16 0 (drop 2 bytes))) q
spelled_once second (a_hexadecimal _ _ _) (a_sign s) q = absurd (apart is_digit is_mark digit_no_mark refl (sign_begins s) q)
spelled_once second (a_sign s) (a_keyword k _) q = absurd (apart is_letter is_mark letter_no_mark (keyword_begins k).0 (sign_begins s) (sym q))
spelled_once second (a_sign s) (a_name _ _ l _ _) q = absurd (apart is_letter is_mark letter_no_mark l (sign_begins s) (sym q))
spelled_once second (a_sign s) (a_decimal d ds h) q = absurd (apart is_digit is_mark digit_no_mark (both (is_digit d) (every is_digit ds) h).0 (sign_begins s) (sym q))
spelled_once second (a_sign s) (a_hexadecimal _ _ _) q = absurd (apart is_digit is_mark digit_no_mark refl (sign_begins s) (sym q))
spelled_once second (a_sign s) (a_sign t) q = ap token.Sign (same_sign s t q)
