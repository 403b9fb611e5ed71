-- What is found by its spelling.
use Rattle.std.proofs.Common.{◌≡◌, ◌≢◌, ◌⊎◌, inl, inr, ℕ, ◌<◌, ◌≤◌, List, [], ◌∷◌, ◌++◌, length, take, drop, Bool, true, false, Option, Some, None, refl, ap, ◌∙◌, sym, cond, ◌&&◌, nat_eq, subst, IsTrue, arith}
use Rattle.std.proofs.lemmas.Bool.Decides.{nat_tests}
use Rattle.std.specs.List.{starts_with}
use Rattle.std.specs.Str.{bytes_eq}
use Rattle.std.proofs.lemmas.List.{take-append-drop}
use Rattle.std.proofs.lemmas.Slice.Eq.{bytes_eq-Decides}
use Rattle.dsr_tree.specs.declared.tokens.Keyword.{Keyword}
use Rattle.dsr_tree.specs.declared.tokens.Keyword.TheVariants as keyword
use Rattle.dsr_tree.specs.declared.tokens.Sign.{Sign}
use Rattle.dsr_tree.specs.declared.tokens.Sign.TheVariants as sign
use Rattle.dsr_syntax_theory.specs.Tokens.{keyword_spelling, sign_spelling, is_keyword}
use Rattle.dsr_lexer.specs.Spelled.{candidates, keyword_among, sign_among, BeginsWithSign, FindsSign}
use Rattle.dsr_lexer.specs.declared.spellings.TheConstants.{LONG_SIGNS, SHORT_SIGNS}

-- a keyword is found by its own spelling
pub finds_each_keyword : (k : Keyword) → keyword_among (candidates (keyword_spelling k)) (keyword_spelling k) ≡ Some k
finds_each_keyword keyword.Version = refl
finds_each_keyword keyword.Order = refl
finds_each_keyword keyword.Little = refl
finds_each_keyword keyword.Big = refl
finds_each_keyword keyword.Structure = refl
finds_each_keyword keyword.Extends = refl
finds_each_keyword keyword.Fixed = refl
finds_each_keyword keyword.U8 = refl
finds_each_keyword keyword.U16 = refl
finds_each_keyword keyword.U32 = refl
finds_each_keyword keyword.U64 = refl
finds_each_keyword keyword.Bits = refl
finds_each_keyword keyword.Init = refl
finds_each_keyword keyword.Skip = refl
finds_each_keyword keyword.Pool = refl
finds_each_keyword keyword.Slot = refl
finds_each_keyword keyword.At = refl
finds_each_keyword keyword.Codes = refl
finds_each_keyword keyword.Step = refl
finds_each_keyword keyword.None = refl
finds_each_keyword keyword.Set = refl
finds_each_keyword keyword.Of = refl
finds_each_keyword keyword.As = refl
finds_each_keyword keyword.Except = refl
finds_each_keyword keyword.Relation = refl
finds_each_keyword keyword.Head = refl
finds_each_keyword keyword.Number = refl
finds_each_keyword keyword.Fresh = refl
finds_each_keyword keyword.Avoid = refl
finds_each_keyword keyword.Rule = refl
finds_each_keyword keyword.In = refl
finds_each_keyword keyword.When = refl
finds_each_keyword keyword.And = refl
finds_each_keyword keyword.Legal = refl
finds_each_keyword keyword.Illegal = refl
finds_each_keyword keyword.Some = refl
finds_each_keyword keyword.Constraint = refl
finds_each_keyword keyword.Forall = refl
finds_each_keyword keyword.Or = refl
finds_each_keyword keyword.Not = refl
finds_each_keyword keyword.Given = refl
finds_each_keyword keyword.Size = refl

-- what is found among those that begin as the word does
pub among_candidates : (bytes : List ℕ) (ks : List Keyword) (found : Option Keyword) → ks ≡ candidates bytes → found ≡ keyword_among ks bytes → keyword_among (candidates bytes) bytes ≡ found
among_candidates bytes ks found these e = sym (e ∙ ap (λ ks. keyword_among ks bytes) these)

pub is_keyword_found : (ks : List Keyword) (bytes : List ℕ) (k : Keyword) → keyword_among ks bytes ≡ Some k → bytes ≡ keyword_spelling k
is_keyword_found [] bytes k = λ e. absurd cc
is_keyword_found (j ∷ js) bytes k = elim (bytes_eq (keyword_spelling j) bytes) as (λ b. bytes_eq (keyword_spelling j) bytes ≡ b → cond b (Some j) (keyword_among js bytes) ≡ Some k → bytes ≡ keyword_spelling k) [
  | true ↦ λ same e. let q : j ≡ k = cc in sym ((bytes_eq-Decides (keyword_spelling j) bytes).0 same) ∙ ap keyword_spelling q
  | false ↦ λ _ e. is_keyword_found js bytes k e
] refl

pub no_keyword_found : (bytes : List ℕ) → keyword_among (candidates bytes) bytes ≡ None → (k : Keyword) → bytes ≢ keyword_spelling k
no_keyword_found bytes e k q = let found : keyword_among (candidates bytes) bytes ≡ Some k = ap (λ word. keyword_among (candidates word) word) q ∙ finds_each_keyword k in absurd cc

-- a word that is a keyword in the other version alone is none
pub other_keyword_found : (second : Bool) (bytes : List ℕ) (j : Keyword) → keyword_among (candidates bytes) bytes ≡ Some j → is_keyword second j ≡ false → (k : Keyword) → IsTrue (is_keyword second k) → bytes ≢ keyword_spelling k
other_keyword_found second bytes j e not_one k one q =
    let found : keyword_among (candidates bytes) bytes ≡ Some k = ap (λ word. keyword_among (candidates word) word) q ∙ finds_each_keyword k in
    let same : j ≡ k = cc in
    absurd cc

pub starts : (s : Sign) (bytes : List ℕ) → starts_with nat_eq bytes (sign_spelling s) ≡ true → bytes ≡ sign_spelling s ++ drop (length (sign_spelling s)) bytes
starts s bytes e =
    let front : sign_spelling s ≡ take (length (sign_spelling s)) bytes = (bytes_eq-Decides (sign_spelling s) (take (length (sign_spelling s)) bytes)).0 e in
    sym (take-append-drop (length (sign_spelling s)) bytes) ∙ ap (λ front. front ++ drop (length (sign_spelling s)) bytes) (sym front)

pub is_sign_found : (ss : List Sign) (bytes : List ℕ) (s : Sign) → sign_among ss bytes ≡ Some s → bytes ≡ sign_spelling s ++ drop (length (sign_spelling s)) bytes
is_sign_found [] bytes s = λ e. absurd cc
is_sign_found (t ∷ ts) bytes s = elim (starts_with nat_eq bytes (sign_spelling t)) as (λ b. starts_with nat_eq bytes (sign_spelling t) ≡ b → cond b (Some t) (sign_among ts bytes) ≡ Some s → bytes ≡ sign_spelling s ++ drop (length (sign_spelling s)) bytes) [
  | true ↦ λ same e. let q : t ≡ s = cc in subst (λ s. bytes ≡ sign_spelling s ++ drop (length (sign_spelling s)) bytes) q (starts t bytes same)
  | false ↦ λ _ e. is_sign_found ts bytes s e
] refl

-- whether each of these signs has so many bytes
abbrev has_lengths : ℕ → List Sign → Bool
has_lengths n [] = true
has_lengths n (s ∷ ss) = nat_eq (length (sign_spelling s)) n && has_lengths n ss

found_length : (n : ℕ) (ss : List Sign) (bytes : List ℕ) (s : Sign) → has_lengths n ss ≡ true → sign_among ss bytes ≡ Some s → length (sign_spelling s) ≡ n
found_length n [] bytes s h = λ e. absurd cc
found_length n (t ∷ ts) bytes s h = elim (starts_with nat_eq bytes (sign_spelling t)) as (λ b. cond b (Some t) (sign_among ts bytes) ≡ Some s → length (sign_spelling s) ≡ n) [
  | true ↦ λ e. let q : t ≡ s = cc in subst (λ s. length (sign_spelling s) ≡ n) q (grind (arith, nat_tests, h))
  | false ↦ λ e. found_length n ts bytes s (grind (arith, nat_tests, h)) e
]

-- a long sign is found before any short one
pub finds_each_sign : (s : Sign) (rest : List ℕ) → ((length (sign_spelling s) ≡ 2) × (sign_among LONG_SIGNS (sign_spelling s ++ rest) ≡ Some s)) ⊎ ((length (sign_spelling s) ≡ 1) × (sign_among SHORT_SIGNS (sign_spelling s ++ rest) ≡ Some s))
finds_each_sign sign.Semicolon rest = inr (refl, refl)
finds_each_sign sign.Colon rest = inr (refl, refl)
finds_each_sign sign.Comma rest = inr (refl, refl)
finds_each_sign sign.Dot rest = inr (refl, refl)
finds_each_sign sign.OpenBrace rest = inr (refl, refl)
finds_each_sign sign.CloseBrace rest = inr (refl, refl)
finds_each_sign sign.OpenBracket rest = inr (refl, refl)
finds_each_sign sign.CloseBracket rest = inr (refl, refl)
finds_each_sign sign.OpenParenthesis rest = inr (refl, refl)
finds_each_sign sign.CloseParenthesis rest = inr (refl, refl)
finds_each_sign sign.Arrow rest = inl (refl, refl)
finds_each_sign sign.Gives rest = inl (refl, refl)
finds_each_sign sign.Plus rest = inr (refl, refl)
finds_each_sign sign.Minus rest = inr (refl, refl)
finds_each_sign sign.Times rest = inr (refl, refl)
finds_each_sign sign.Over rest = inr (refl, refl)
finds_each_sign sign.Equal rest = inr (refl, refl)
finds_each_sign sign.Differs rest = inl (refl, refl)
finds_each_sign sign.Less rest = inr (refl, refl)
finds_each_sign sign.AtMost rest = inl (refl, refl)
finds_each_sign sign.Greater rest = inr (refl, refl)
finds_each_sign sign.AtLeast rest = inl (refl, refl)

sign_length : (s : Sign) → (1 ≤ length (sign_spelling s)) × (length (sign_spelling s) ≤ 2)
sign_length s = elim (finds_each_sign s []) as (λ _. (1 ≤ length (sign_spelling s)) × (length (sign_spelling s) ≤ 2)) [ inl x ↦ (omega (arith, x.0), omega (arith, x.0)) | inr x ↦ (omega (arith, x.0), omega (arith, x.0)) ]

pub long_sign_found : (bytes : List ℕ) (s : Sign) → sign_among LONG_SIGNS bytes ≡ Some s → BeginsWithSign bytes s
long_sign_found bytes s e =
    let long : length (sign_spelling s) ≡ 2 = found_length 2 LONG_SIGNS bytes s refl e in
    record { rest = drop (length (sign_spelling s)) bytes; cut = is_sign_found LONG_SIGNS bytes s e; longest = λ other after q. omega (arith, (sign_length other).1, long) }

pub short_sign_found : (bytes : List ℕ) (s : Sign) → sign_among LONG_SIGNS bytes ≡ None → sign_among SHORT_SIGNS bytes ≡ Some s → BeginsWithSign bytes s
short_sign_found bytes s none e =
    record { rest = drop (length (sign_spelling s)) bytes; cut = is_sign_found SHORT_SIGNS bytes s e; longest = longest }
  where
    longest : (other : Sign) (after : List ℕ) → bytes ≡ sign_spelling other ++ after → length (sign_spelling other) ≤ length (sign_spelling s)
    longest other after q = elim (finds_each_sign other after) as (λ _. length (sign_spelling other) ≤ length (sign_spelling s)) [
      | inl x ↦ (let found : sign_among LONG_SIGNS bytes ≡ Some other = ap (sign_among LONG_SIGNS) q ∙ x.1 in absurd cc)
      | inr x ↦ omega (arith, x.0, (sign_length s).0)
    ]

pub no_sign_found : (bytes : List ℕ) → sign_among LONG_SIGNS bytes ≡ None → sign_among SHORT_SIGNS bytes ≡ None → (other : Sign) (after : List ℕ) → bytes ≢ sign_spelling other ++ after
no_sign_found bytes long short other after q = elim (finds_each_sign other after) as (λ _. ⊥) [
  | inl x ↦ (let found : sign_among LONG_SIGNS bytes ≡ Some other = ap (sign_among LONG_SIGNS) q ∙ x.1 in absurd cc)
  | inr x ↦ (let found : sign_among SHORT_SIGNS bytes ≡ Some other = ap (sign_among SHORT_SIGNS) q ∙ x.1 in absurd cc)
]

pub short_signs_searched : (bytes : List ℕ) (found : Option Sign) → sign_among LONG_SIGNS bytes ≡ None → found ≡ sign_among SHORT_SIGNS bytes → FindsSign bytes found
short_signs_searched bytes (Some s) long e = short_sign_found bytes s long (sym e)
short_signs_searched bytes None long e = no_sign_found bytes long (sym e)

pub sign_some : (s : Sign) → 0 < length (sign_spelling s)
sign_some s = omega (arith, (sign_length s).0)
