-- A text of version 2 is cut as one of version 1, but that `except` is a keyword there.
use Rattle.std.proofs.Common.{◌≡◌, ◌≢◌, ◌⊎◌, inl, inr, ℕ, List, [], ◌∷◌, ◌++◌, true, false, cond, refl, ap, ◌∙◌, sym, subst, IsTrue, arith, map, codes}
use Rattle.std.specs.Str.{bytes_eq}
use Rattle.std.proofs.lemmas.Slice.Eq.{bytes_eq-Decides}
use Rattle.std.proofs.lemmas.List.{map-append}
use Rattle.dsr_tree.specs.declared.tokens.Keyword.{Keyword}
use Rattle.dsr_tree.specs.declared.tokens.Keyword.TheVariants as keyword
use Rattle.dsr_tree.specs.declared.tokens.Token.{Token}
use Rattle.dsr_tree.specs.declared.tokens.Token.TheVariants as token
use Rattle.dsr_tree.specs.declared.tokens.Lexeme.{Lexeme}
use Rattle.dsr_syntax_theory.specs.Tokens.{is_letter, is_in_word, every, keyword_spelling, is_keyword, is_version, is_two, is_second_version, Spells, a_keyword, a_name, a_decimal, a_hexadecimal, a_sign, IsWithinLimits, Stands, Begins, a_blank, a_comment, a_token, IsCut, here, further}
use Rattle.dsr_lexer.proofs.Shapes.{same_keyword}
use Rattle.dsr_lexer.proofs.Cuts.{Stops}

-- a token of the first version as one of the second
abbrev pub marked : Token → Token
marked (token.Name word) = cond (bytes_eq word (codes "except")) (token.Keyword keyword.Except) (token.Name word)
marked t = t

abbrev pub marked_lexeme : Lexeme → Lexeme
marked_lexeme lexeme = record { token = marked lexeme.token; place = lexeme.place }

second_keyword : (k : Keyword) → is_keyword true k ≡ true
second_keyword keyword.Except = refl
second_keyword _ = refl

first_keyword : (k : Keyword) → (is_keyword false k ≡ true) ⊎ (k ≡ keyword.Except)
first_keyword keyword.Except = inr refl
first_keyword _ = inl refl

spells_marked_name : (b : ℕ) (bytes : List ℕ) → is_letter b ≡ true → every is_in_word bytes ≡ true → ((k : Keyword) → IsTrue (is_keyword false k) → b ∷ bytes ≢ keyword_spelling k) → Spells true (b ∷ bytes) (marked (token.Name (b ∷ bytes)))
spells_marked_name b bytes l w none = elim (bytes_eq (b ∷ bytes) (codes "except")) as (λ same. bytes_eq (b ∷ bytes) (codes "except") ≡ same → Spells true (b ∷ bytes) (cond same (token.Keyword keyword.Except) (token.Name (b ∷ bytes)))) [
  | true ↦ λ same. subst (λ word. Spells true word (token.Keyword keyword.Except)) (sym ((bytes_eq-Decides (b ∷ bytes) (codes "except")).0 same)) (a_keyword keyword.Except refl)
  | false ↦ λ differs. a_name b bytes l w (λ k _ q. elim (first_keyword k) as (λ _. ⊥) [
    | inl one ↦ none k one q
    | inr is ↦ (let same : bytes_eq (b ∷ bytes) (codes "except") ≡ true = (bytes_eq-Decides (b ∷ bytes) (codes "except")).1 (q ∙ ap keyword_spelling is) in absurd cc)
  ])
] refl

pub spells_marked : {bytes : List ℕ} {t : Token} → Spells false bytes t → Spells true bytes (marked t)
spells_marked (a_keyword k _) = a_keyword k (second_keyword k)
spells_marked (a_name b bytes l w none) = spells_marked_name b bytes l w none
spells_marked (a_decimal d digits h) = a_decimal d digits h
spells_marked (a_hexadecimal d digits h) = a_hexadecimal d digits h
spells_marked (a_sign s) = a_sign s

marked_limits : (t : Token) → IsWithinLimits t → IsWithinLimits (marked t)
marked_limits (token.Keyword k) h = tt
marked_limits (token.Name word) h = elim (bytes_eq word (codes "except")) as (λ same. IsWithinLimits (cond same (token.Keyword keyword.Except) (token.Name word))) [ true ↦ tt | false ↦ h ]
marked_limits (token.Number n) h = h
marked_limits (token.Sign s) h = tt

-- what the same bytes spell in a text of version 1
record SpellsFirst (bytes : List ℕ) (t : Token) : Type 0 where
  pub other : Token
  pub spelled : Spells false bytes other
  pub limits : IsWithinLimits t → IsWithinLimits other

except_name : Spells false (codes "except") (token.Name (codes "except"))
except_name = a_name 101 (codes "xcept") refl refl (λ k one q.
    let is : keyword.Except ≡ k = same_keyword keyword.Except k q in
    let other : is_keyword false keyword.Except ≡ true = subst (λ k. is_keyword false k ≡ true) (sym is) one in
    absurd cc)

spells_first : {bytes : List ℕ} {t : Token} → Spells true bytes t → SpellsFirst bytes t
spells_first (a_keyword k one) = elim (first_keyword k) as (λ _. SpellsFirst (keyword_spelling k) (token.Keyword k)) [
  | inl first ↦ record { other = token.Keyword k; spelled = a_keyword k first; limits = λ h. h }
  | inr is ↦ record { other = token.Name (codes "except"); spelled = subst (λ k. Spells false (keyword_spelling k) (token.Name (codes "except"))) (sym is) except_name; limits = λ _. omega arith }
]
spells_first (a_name b bytes l w none) = record { other = token.Name (b ∷ bytes); spelled = a_name b bytes l w (λ k _. none k (second_keyword k)); limits = λ h. h }
spells_first (a_decimal d digits h) = record { other = _; spelled = a_decimal d digits h; limits = λ h. h }
spells_first (a_hexadecimal d digits h) = record { other = _; spelled = a_hexadecimal d digits h; limits = λ h. h }
spells_first (a_sign s) = record { other = token.Sign s; spelled = a_sign s; limits = λ h. h }

stands_marked : (bytes rest : List ℕ) (t : Token) → Stands false bytes t rest → Stands true bytes (marked t) rest
stands_marked bytes rest t stands = record {
  spelled = spells_marked stands.spelled;
  longest = λ other longer after spelled q. let first = spells_first spelled in stands.longest first.other longer after first.spelled q;
  limits = marked_limits t stands.limits;
}

begins_marked : {place : ℕ} {bytes rest : List ℕ} {found : List Lexeme} → Begins false place bytes rest found → Begins true place bytes rest (map marked_lexeme found)
begins_marked (a_blank b rest h) = a_blank b rest h
begins_marked (a_comment bytes rest w ends) = a_comment bytes rest w ends
begins_marked (a_token bytes rest t stands) = a_token bytes rest (marked t) (stands_marked bytes rest t stands)

pub cut_marked : {place to : ℕ} {text left : List ℕ} {lexemes : List Lexeme} → IsCut false place text lexemes to left → IsCut true place text (map marked_lexeme lexemes) to left
cut_marked here = here
cut_marked {to = to} {left = left} (further {place = place} {bytes = bytes} {rest = rest} {found = found} {more = more} begins cut) =
    subst (λ lexemes. IsCut true place (bytes ++ rest) lexemes to left) (sym (map-append marked_lexeme found more)) (further (begins_marked begins) (cut_marked cut))

-- where nothing stands in a text of version 1, nothing does in one of version 2
pub stops_marked : (place : ℕ) (left : List ℕ) → Stops false place left → Stops true place left
stops_marked place left stops bytes rest found begins q = go begins q
  where
    go : {bytes rest : List ℕ} {found : List Lexeme} → Begins true place bytes rest found → left ≡ bytes ++ rest → ⊥
    go (a_blank b rest h) q = stops (b ∷ []) rest [] (a_blank b rest h) q
    go (a_comment bytes rest w ends) q = stops (35 ∷ bytes) rest [] (a_comment bytes rest w ends) q
    go (a_token bytes rest t stands) q = (
        let first = spells_first stands.spelled in
        stops bytes rest (record { token = first.other; place = place } ∷ []) (a_token bytes rest first.other (record {
          spelled = first.spelled;
          longest = λ other longer after spelled q. stands.longest (marked other) longer after (spells_marked spelled) q;
          limits = first.limits stands.limits;
        })) q)

pub marked_version : (t : Token) → is_version (marked t) ≡ is_version t
marked_version (token.Keyword k) = refl
marked_version (token.Name word) = elim (bytes_eq word (codes "except")) as (λ same. is_version (cond same (token.Keyword keyword.Except) (token.Name word)) ≡ false) [ true ↦ refl | false ↦ refl ]
marked_version (token.Number n) = refl
marked_version (token.Sign s) = refl

marked_two : (t : Token) → is_two (marked t) ≡ is_two t
marked_two (token.Keyword k) = refl
marked_two (token.Name word) = elim (bytes_eq word (codes "except")) as (λ same. is_two (cond same (token.Keyword keyword.Except) (token.Name word)) ≡ false) [ true ↦ refl | false ↦ refl ]
marked_two (token.Number n) = refl
marked_two (token.Sign s) = refl

pub marked_second : (lexemes : List Lexeme) → is_second_version (map marked_lexeme lexemes) ≡ is_second_version lexemes
marked_second [] = refl
marked_second (a ∷ []) = refl
marked_second (a ∷ b ∷ lexemes) = rw (marked_version a.token, marked_two b.token) refl
