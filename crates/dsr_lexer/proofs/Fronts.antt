-- Tokens that stand first in a text, and how two such lists compare.
use Rattle.std.proofs.Common.{◌≡◌, ℕ, ◌+◌, List, [], ◌∷◌, ◌++◌, length, Bool, true, false, Option, Some, None, refl, ap, ◌∙◌, sym, subst, map, ◌⊎◌, inl, inr, append_assoc, arith}
use Rattle.dsr_tree.specs.declared.tokens.Keyword.{Keyword}
use Rattle.dsr_tree.specs.declared.tokens.Keyword.TheVariants as keyword
use Rattle.dsr_tree.specs.declared.tokens.Token.{Token}
use Rattle.dsr_tree.specs.declared.tokens.Token.TheVariants as token
use Rattle.dsr_tree.specs.declared.tokens.Lexeme.{Lexeme}
use Rattle.dsr_syntax_theory.specs.Tokens.{is_keyword, is_version, is_two, is_second_version, Spells, a_keyword, a_name, a_decimal, a_hexadecimal, a_sign, Stands, Begins, a_blank, a_comment, a_token, IsCut, here, further}
use Rattle.dsr_syntax_theory.specs.Sentences.{StandFirst}
use Rattle.dsr_lexer.specs.Lexing.{AreFrontTokens}
use Rattle.dsr_lexer.proofs.Shapes.{both}
use Rattle.dsr_lexer.proofs.Steps.{begins_once}
use Rattle.dsr_lexer.proofs.Cuts.{Stops}
use Rattle.dsr_lexer.proofs.Versions.{marked, marked_lexeme, spells_marked, cut_marked, stops_marked, marked_version, marked_second}
use Rattle.dsr_lexer.proofs.Laws.{IsRead, read_lexed, read_fault, version_unmarked}

-- the tokens before a text's fault, or before its end, stand first
pub front_stands : (text : List ℕ) (lexemes : List Lexeme) (fault : Option ℕ) → AreFrontTokens text lexemes fault → StandFirst text lexemes
front_stands text lexemes None lexed = record { to = length text; left = []; cut = lexed.cut }
front_stands text lexemes (Some place) (fault, same) = subst (StandFirst text) same (record { to = place; left = fault.left; cut = fault.cut })

-- ---- tokens of the first version

-- each token is `version`
abbrev AreVersions : List Lexeme → Type 0
AreVersions [] = Unit {0}
AreVersions (l ∷ ls) = (is_version l.token ≡ true) × AreVersions ls

version_keyword : (k : Keyword) → is_version (token.Keyword k) ≡ true → is_keyword false k ≡ true
version_keyword keyword.Except v = absurd cc
version_keyword _ v = refl

-- `version` is spelled so in both versions
version_spelled : {bytes : List ℕ} {t : Token} → Spells true bytes t → is_version t ≡ true → Spells false bytes t
version_spelled (a_keyword k _) v = a_keyword k (version_keyword k v)
version_spelled (a_name b bytes l w none) v = absurd cc
version_spelled (a_decimal d digits h) v = absurd cc
version_spelled (a_hexadecimal d digits h) v = absurd cc
version_spelled (a_sign s) v = absurd cc

version_stands : (bytes rest : List ℕ) (t : Token) → Stands true bytes t rest → is_version t ≡ true → Stands false bytes t rest
version_stands bytes rest t stands v = record {
  spelled = version_spelled stands.spelled v;
  longest = λ other longer after spelled q. stands.longest (marked other) longer after (spells_marked spelled) q;
  limits = stands.limits;
}

version_begins : {place : ℕ} {bytes rest : List ℕ} {found : List Lexeme} → Begins true place bytes rest found → AreVersions found → Begins false place bytes rest found
version_begins (a_blank b rest h) v = a_blank b rest h
version_begins (a_comment bytes rest w ends) v = a_comment bytes rest w ends
version_begins (a_token bytes rest t stands) v = a_token bytes rest t (version_stands bytes rest t stands v.0)

versions_split : (found more : List Lexeme) → AreVersions (found ++ more) → AreVersions found × AreVersions more
versions_split [] more v = (tt, v)
versions_split (l ∷ found) more v = let parts = versions_split found more v.1 in ((v.0, parts.0), parts.1)

version_cut : {place to : ℕ} {text left : List ℕ} {lexemes : List Lexeme} → IsCut true place text lexemes to left → AreVersions lexemes → IsCut false place text lexemes to left
version_cut here v = here
version_cut (further {found = found} {more = more} begins cut) v =
    let parts = versions_split found more v in
    further (version_begins begins parts.0) (version_cut cut parts.1)

-- ---- the front of a front

-- tokens cut from a text, whatever is behind them
record CutsTo (second : Bool) (place : ℕ) (text : List ℕ) (lexemes : List Lexeme) : Type 0 where
  to : ℕ
  left : List ℕ
  cut : IsCut second place text lexemes to left

cut_further : (second : Bool) (place : ℕ) (bytes rest : List ℕ) (found lexemes : List Lexeme) → Begins second place bytes rest found → CutsTo second (place + length bytes) rest lexemes → CutsTo second place (bytes ++ rest) (found ++ lexemes)
cut_further second place bytes rest found lexemes begins next = record { to = next.to; left = next.left; cut = further begins next.cut }

-- what stands at the front has a token at most, so the cut goes before it or behind it
record Taken (found more lexemes after : List Lexeme) : Type 0 where
  next : List Lexeme
  is : more ≡ next ++ after
  whole : found ++ next ≡ lexemes

taken : {second : Bool} {place : ℕ} {bytes rest : List ℕ} {found : List Lexeme} → Begins second place bytes rest found → (more : List Lexeme) (l : Lexeme) (before after : List Lexeme) → found ++ more ≡ l ∷ (before ++ after) → Taken found more (l ∷ before) after
taken (a_blank b rest h) more l before after q = record { next = l ∷ before; is = q; whole = refl }
taken (a_comment bytes rest w ends) more l before after q = record { next = l ∷ before; is = q; whole = refl }
taken (a_token bytes rest t stands) more l before after q = record { next = before; is = cc; whole = cc }

cut_front : (second : Bool) {place to : ℕ} {text left : List ℕ} {lexemes : List Lexeme} → IsCut second place text lexemes to left → (before after : List Lexeme) → lexemes ≡ before ++ after → CutsTo second place text before
cut_front second {place = place} {text = text} _ [] after q = record { to = place; left = text; cut = here }
cut_front second here (l ∷ before) after q = absurd cc
cut_front second (further {place = place} {bytes = bytes} {rest = rest} {found = found} {more = more} begins cut) (l ∷ before) after q =
    let parts = taken begins more l before after q in
    subst (CutsTo second place (bytes ++ rest)) parts.whole (cut_further second place bytes rest found parts.next begins (cut_front second cut parts.next after parts.is))

first_version : (a : Lexeme) (after : List Lexeme) → is_second_version (a ∷ after) ≡ true → is_version a.token ≡ true
first_version a [] v = absurd cc
first_version a (b ∷ after) v = (both (is_version a.token) (is_two b.token) v).0

-- the front of tokens that stand first stands first
pub fewer_stand : (text : List ℕ) (before after : List Lexeme) → StandFirst text (before ++ after) → StandFirst text before
fewer_stand text [] after s = record { to = 0; left = text; cut = here }
fewer_stand text (a ∷ []) after s = elim (is_second_version (a ∷ after)) as (λ v. is_second_version (a ∷ after) ≡ v → StandFirst text (a ∷ [])) [
  | true ↦ λ v. (
      let part = cut_front true (subst (λ second. IsCut second 0 text (a ∷ after) s.to s.left) v s.cut) (a ∷ []) after refl in
      record { to = part.to; left = part.left; cut = version_cut part.cut (first_version a after v, tt) })
  | false ↦ λ v. (
      let part = cut_front false (subst (λ second. IsCut second 0 text (a ∷ after) s.to s.left) v s.cut) (a ∷ []) after refl in
      record { to = part.to; left = part.left; cut = part.cut })
] refl
fewer_stand text (a ∷ b ∷ before) after s =
    let part = cut_front (is_second_version (a ∷ b ∷ before)) s.cut (a ∷ b ∷ before) after refl in
    record { to = part.to; left = part.left; cut = part.cut }

-- ---- two fronts of a text

-- the first tokens are the front of the others
pub record Leads (a b : List Lexeme) : Type 0 where
  pub more : List Lexeme
  pub is : b ≡ a ++ more

leads_further : (found others a b : List Lexeme) → found ≡ others → Leads a b → Leads (found ++ a) (others ++ b)
leads_further found others a b same leads = record { more = leads.more; is = ap (λ found. found ++ b) (sym same) ∙ (ap (λ rest. found ++ rest) leads.is ∙ sym (append_assoc found a leads.more)) }

-- one of two cuts of a text is the front of the other
compare : (second : Bool) {place at to by : ℕ} {text other left rest : List ℕ} {a b : List Lexeme} → IsCut second place text a to left → IsCut second at other b by rest → place ≡ at → text ≡ other → Leads a b ⊎ Leads b a
compare second {b = b} here _ _ _ = inl (record { more = b; is = refl })
compare second {a = a} _ here _ _ = inr (record { more = a; is = refl })
compare second (further {bytes = bytes} {found = found} {more = middle} begins cut) (further {found = others} {more = end} begun other) p q =
    let step = begins_once second begins begun p q in
    elim (compare second cut other (omega (arith, p, ap length step.bytes_same)) step.rest_same) as (λ _. Leads (found ++ middle) (others ++ end) ⊎ Leads (others ++ end) (found ++ middle)) [
      | inl leads ↦ inl (leads_further found others middle end step.found_same leads)
      | inr leads ↦ inr (leads_further others found end middle (sym step.found_same) leads)
    ]

two_first : (before after : List Lexeme) → is_second_version before ≡ true → is_second_version (before ++ after) ≡ true
two_first [] after v = absurd cc
two_first (a ∷ []) after v = absurd cc
two_first (a ∷ b ∷ before) after v = v

-- tokens that begin a text of version 2, but are themselves of none, are less than two
unmarked_leads : (a b more : List Lexeme) → a ≡ map marked_lexeme b ++ more → is_second_version a ≡ true → is_second_version b ≡ false → Leads b a
unmarked_leads a [] more q v w = record { more = a; is = refl }
unmarked_leads a (x ∷ []) more q v w =
    let first : is_version (marked x.token) ≡ true = first_version (marked_lexeme x) more (sym (ap is_second_version q) ∙ v) in
    let same : marked x.token ≡ x.token = version_unmarked x.token (sym (marked_version x.token) ∙ first) in
    record { more = more; is = q ∙ ap (λ (t : Token). record { token = t; place = x.place } ∷ more) same }
unmarked_leads a (x ∷ y ∷ b) more q v w =
    let clash : true ≡ false = sym v ∙ (ap is_second_version q ∙ (marked_second (x ∷ y ∷ b) ∙ w)) in
    absurd cc

other_leads : (text : List ℕ) (a b : List Lexeme) → StandFirst text a → StandFirst text b → is_second_version a ≡ true → is_second_version b ≡ false → Leads b a
other_leads text a b one other v w =
    let second : IsCut true 0 text a one.to one.left = subst (λ second. IsCut second 0 text a one.to one.left) v one.cut in
    let first : IsCut false 0 text b other.to other.left = subst (λ second. IsCut second 0 text b other.to other.left) w other.cut in
    elim (compare true second (cut_marked first) refl refl) as (λ _. Leads b a) [
      | inl leads ↦ (
          let clash : true ≡ false = sym (two_first a leads.more v) ∙ (sym (ap is_second_version leads.is) ∙ (marked_second b ∙ w)) in
          absurd cc)
      | inr leads ↦ unmarked_leads a b leads.more leads.is v w
    ]

-- of two lists of tokens that stand first in a text, one is the front of the other
pub fronts_compare : (text : List ℕ) (a b : List Lexeme) → StandFirst text a → StandFirst text b → Leads a b ⊎ Leads b a
fronts_compare text a b one other =
    elim (is_second_version a) as (λ v. is_second_version a ≡ v → Leads a b ⊎ Leads b a) [
      | true ↦ λ v. elim (is_second_version b) as (λ w. is_second_version b ≡ w → Leads a b ⊎ Leads b a) [
        | true ↦ λ w. agree (v ∙ sym w)
        | false ↦ λ w. inr (other_leads text a b one other v w)
      ] refl
      | false ↦ λ v. elim (is_second_version b) as (λ w. is_second_version b ≡ w → Leads a b ⊎ Leads b a) [
        | true ↦ λ w. inl (other_leads text b a other one w v)
        | false ↦ λ w. agree (v ∙ sym w)
      ] refl
    ] refl
  where
    agree : is_second_version a ≡ is_second_version b → Leads a b ⊎ Leads b a
    agree same = compare (is_second_version b) (subst (λ second. IsCut second 0 text a one.to one.left) same one.cut) other.cut refl refl

-- ---- a front of a whole reading

-- a cut that ends where nothing stands is the longest
longest_cut : (second : Bool) {place at to by : ℕ} {text other left rest : List ℕ} {a b : List Lexeme} → IsCut second place text a to left → IsCut second at other b by rest → place ≡ at → text ≡ other → Stops second by rest → Leads a b
longest_cut second {b = b} here _ _ _ _ = record { more = b; is = refl }
longest_cut second (further {bytes = bytes} {rest = rest} {found = found} begins _) here p q stops =
    absurd (stops bytes rest found (subst (λ place. Begins second place bytes rest found) p begins) (sym q))
longest_cut second (further {bytes = bytes} {found = found} {more = middle} begins cut) (further {found = others} {more = end} begun other) p q stops =
    let step = begins_once second begins begun p q in
    leads_further found others middle end step.found_same (longest_cut second cut other (omega (arith, p, ap length step.bytes_same)) step.rest_same stops)

-- what stands first in a text is the front of what is read of it
read_leads : (text : List ℕ) (a b : List Lexeme) (to : ℕ) (left : List ℕ) → IsRead text b to left → StandFirst text a → Leads a b
read_leads text a b to left read front =
    elim (is_second_version b) as (λ v. is_second_version b ≡ v → Leads a b) [
      | true ↦ λ v. elim (is_second_version a) as (λ w. is_second_version a ≡ w → Leads a b) [
        | true ↦ λ w. agree (w ∙ sym v)
        | false ↦ λ w. (
            let cut : IsCut true 0 text b to left = subst (λ second. IsCut second 0 text b to left) v read.cut in
            let stops : Stops true to left = subst (λ second. Stops second to left) v read.stops in
            let first : IsCut false 0 text a front.to front.left = subst (λ second. IsCut second 0 text a front.to front.left) w front.cut in
            let leads = longest_cut true (cut_marked first) cut refl refl stops in
            unmarked_leads b a leads.more leads.is v w)
      ] refl
      | false ↦ λ v. elim (is_second_version a) as (λ w. is_second_version a ≡ w → Leads a b) [
        | true ↦ λ w. (
            let cut : IsCut false 0 text b to left = subst (λ second. IsCut second 0 text b to left) v read.cut in
            let stops : Stops false to left = subst (λ second. Stops second to left) v read.stops in
            let second : IsCut true 0 text a front.to front.left = subst (λ second. IsCut second 0 text a front.to front.left) w front.cut in
            let leads = longest_cut true second (cut_marked cut) refl refl (stops_marked to left stops) in
            let clash : true ≡ false = sym (two_first a leads.more w) ∙ (sym (ap is_second_version leads.is) ∙ (marked_second b ∙ v)) in
            absurd cc)
        | false ↦ λ w. agree (w ∙ sym v)
      ] refl
    ] refl
  where
    agree : is_second_version a ≡ is_second_version b → Leads a b
    agree same = longest_cut (is_second_version b) (subst (λ second. IsCut second 0 text a front.to front.left) same front.cut) read.cut refl refl read.stops

-- tokens that stand first are the front of those before a text's fault, or before its end
pub front_leads : (text : List ℕ) (a lexemes : List Lexeme) (fault : Option ℕ) → AreFrontTokens text lexemes fault → StandFirst text a → Leads a lexemes
front_leads text a lexemes None lexed front = read_leads text a lexemes (length text) [] (read_lexed text lexemes lexed) front
front_leads text a lexemes (Some place) (fault, same) front = subst (Leads a) same (read_leads text a fault.before place fault.left (read_fault text place fault) front)
