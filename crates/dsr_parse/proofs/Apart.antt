-- Kinds of tokens: what is accepted is of the kind, and when two lists of kinds have no token in common.
use Rattle.std.proofs.Common.{◌≡◌, List, [], ◌∷◌, ◌++◌, Bool, true, false, ◌&&◌, ◌||◌, not, nat_eq, refl, sym, ap, ◌∙◌, ◌⊎◌, inl, inr}
use Rattle.std.proofs.lemmas.Bool.{eqb-true, eq-eqb, and_parts, or_cases, or_left, or_right}
use denote.Enum.Bare.{same_true, true_same}
use Rattle.dsr_tree.specs.declared.tokens.Token.{Token}
use Rattle.dsr_tree.specs.declared.tokens.Token.TheVariants as token
use Rattle.dsr_tree.specs.contracts.tokens.Keyword as keyword
use Rattle.dsr_tree.specs.contracts.tokens.Sign as sign
use Rattle.dsr_tree.specs.contracts.tokens.KeywordPartialEq.TheImpl as same_keyword
use Rattle.dsr_tree.specs.contracts.tokens.SignPartialEq.TheImpl as same_sign
use Rattle.dsr_syntax_theory.specs.Syntax.{Class, a_word, a_mark, a_name, a_number, a_version, IsOf}
use Rattle.dsr_parse.specs.Machine.{accepts, among}

-- a token that is accepted is of the kind
pub is_of : (c : Class) (t : Token) → accepts c t ≡ true → IsOf c t
is_of (a_word k) (token.Keyword j) e = same_true keyword.the_type tt j k e
is_of (a_mark s) (token.Sign r) e = same_true sign.the_type tt r s e
is_of a_name (token.Name n) e = tt
is_of a_number (token.Number n) e = tt
is_of a_version (token.Number n) e = elim (or_cases (nat_eq n 1) (nat_eq n 2) e) as (λ _. (n ≡ 1) ⊎ (n ≡ 2)) [
  | inl a ↦ inl (eqb-true n 1 a)
  | inr b ↦ inr (eqb-true n 2 b)
]
is_of _ _ e = absurd cc

-- a token of the kind is accepted
pub accepts_it : (c : Class) (t : Token) → IsOf c t → accepts c t ≡ true
accepts_it (a_word k) (token.Keyword j) e = true_same keyword.the_type j k e
accepts_it (a_mark s) (token.Sign r) e = true_same sign.the_type r s e
accepts_it a_name (token.Name n) e = refl
accepts_it a_number (token.Number n) e = refl
accepts_it a_version (token.Number n) e = elim e as (λ _. (nat_eq n 1 || nat_eq n 2) ≡ true) [
  | inl a ↦ or_left (nat_eq n 1) (nat_eq n 2) (eq-eqb n 1 a)
  | inr b ↦ or_right (nat_eq n 1) (nat_eq n 2) (eq-eqb n 2 b)
]
accepts_it _ _ e = absurd e

-- a token of the first kinds is one of all
pub among_left : (xs ys : List Class) (t : Token) → among xs t ≡ true → among (xs ++ ys) t ≡ true
among_left [] ys t e = absurd cc
among_left (x ∷ xs) ys t e = elim (or_cases (accepts x t) (among xs t) e) as (λ _. among (x ∷ xs ++ ys) t ≡ true) [
  | inl a ↦ or_left (accepts x t) (among (xs ++ ys) t) a
  | inr b ↦ or_right (accepts x t) (among (xs ++ ys) t) (among_left xs ys t b)
]

-- a token of the last kinds is one of all
pub among_right : (xs ys : List Class) (t : Token) → among ys t ≡ true → among (xs ++ ys) t ≡ true
among_right [] ys t e = e
among_right (x ∷ xs) ys t e = or_right (accepts x t) (among (xs ++ ys) t) (among_right xs ys t e)

-- whether some token is of both kinds
abbrev pub overlaps : Class → Class → Bool
overlaps (a_word k) (a_word j) = same_keyword.ghosts.eq k j
overlaps (a_mark s) (a_mark r) = same_sign.ghosts.eq s r
overlaps a_name a_name = true
overlaps a_number a_number = true
overlaps a_number a_version = true
overlaps a_version a_number = true
overlaps a_version a_version = true
overlaps _ _ = false

-- a token is of two kinds only where they overlap
meets : (c d : Class) (t : Token) → IsOf c t → IsOf d t → overlaps c d ≡ true
meets (a_word k) (a_word j) (token.Keyword i) e f = true_same keyword.the_type k j (sym e ∙ f)
meets (a_mark s) (a_mark r) (token.Sign i) e f = true_same sign.the_type s r (sym e ∙ f)
meets a_name a_name t e f = refl
meets a_number a_number t e f = refl
meets a_number a_version t e f = refl
meets a_version a_number t e f = refl
meets a_version a_version t e f = refl
meets (a_word k) d (token.Name _) e f = absurd e
meets (a_word k) d (token.Number _) e f = absurd e
meets (a_word k) d (token.Sign _) e f = absurd e
meets (a_word k) _ (token.Keyword _) e f = absurd f
meets (a_mark s) d (token.Name _) e f = absurd e
meets (a_mark s) d (token.Number _) e f = absurd e
meets (a_mark s) d (token.Keyword _) e f = absurd e
meets (a_mark s) _ (token.Sign _) e f = absurd f
meets a_name d (token.Keyword _) e f = absurd e
meets a_name d (token.Number _) e f = absurd e
meets a_name d (token.Sign _) e f = absurd e
meets a_name _ (token.Name _) e f = absurd f
meets a_number d (token.Keyword _) e f = absurd e
meets a_number d (token.Name _) e f = absurd e
meets a_number d (token.Sign _) e f = absurd e
meets a_number _ (token.Number _) e f = absurd f
meets a_version d (token.Keyword _) e f = absurd e
meets a_version d (token.Name _) e f = absurd e
meets a_version d (token.Sign _) e f = absurd e
meets a_version _ (token.Number _) e f = absurd f

-- whether the kind overlaps none of these
abbrev pub is_clear : Class → List Class → Bool
is_clear c [] = true
is_clear c (d ∷ ds) = not (overlaps c d) && is_clear c ds

-- whether none of the first kinds overlaps one of the others
abbrev pub disjoint : List Class → List Class → Bool
disjoint [] ds = true
disjoint (c ∷ cs) ds = is_clear c ds && disjoint cs ds

-- no token is of the kind and of one of these
clear_so : (c : Class) (ds : List Class) (t : Token) → is_clear c ds ≡ true → accepts c t ≡ true → among ds t ≡ true → ⊥
clear_so c [] t e a b = absurd cc
clear_so c (d ∷ ds) t e a b =
    let parts = and_parts (not (overlaps c d)) (is_clear c ds) e in
    elim (or_cases (accepts d t) (among ds t) b) as (λ _. ⊥) [
      | inl f ↦ (let both : overlaps c d ≡ true = meets c d t (is_of c t a) (is_of d t f) in
          let clash : not true ≡ true = ap not (sym both) ∙ parts.0 in absurd cc)
      | inr f ↦ clear_so c ds t parts.1 a f
    ]

-- no token is of disjoint kinds
pub disjoint_so : (cs ds : List Class) (t : Token) → disjoint cs ds ≡ true → among cs t ≡ true → among ds t ≡ true → ⊥
disjoint_so [] ds t e a b = absurd cc
disjoint_so (c ∷ cs) ds t e a b =
    let parts = and_parts (is_clear c ds) (disjoint cs ds) e in
    elim (or_cases (accepts c t) (among cs t) a) as (λ _. ⊥) [
      | inl f ↦ clear_so c ds t parts.0 f b
      | inr f ↦ disjoint_so cs ds t parts.1 f b
    ]
