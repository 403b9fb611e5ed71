-- A machine that reads the tokens of a text one at a time, and keeps a stack of what has to come.
use Rattle.std.specs.Prelude.{ℕ, suc, List, [], ◌∷◌, ◌++◌, length, Bool, true, false, ◌&&◌, ◌||◌, nat_eq, Option, Some, None, if◌then◌else◌}
use Rattle.dsr_tree.specs.declared.tokens.Keyword.TheVariants as keyword
use Rattle.dsr_tree.specs.declared.tokens.Sign.TheVariants as sign
use Rattle.dsr_tree.specs.contracts.tokens.KeywordPartialEq.TheImpl as same_keyword
use Rattle.dsr_tree.specs.contracts.tokens.SignPartialEq.TheImpl as same_sign
use Rattle.dsr_tree.specs.declared.tokens.Lexeme.{Lexeme}
use Rattle.dsr_tree.specs.declared.tokens.Token.{Token}
use Rattle.dsr_tree.specs.declared.tokens.Token.TheVariants as token
use Rattle.dsr_syntax_theory.specs.Syntax.{Class, a_word, a_mark, a_name, a_number, a_version, count_after, is_over, Part, an_expression, Syntax, One, Empty, Then, Either, Many, The}
use Rattle.dsr_syntax_theory.specs.Grammar.{rule_of}

-- whether the token is of the kind
abbrev pub accepts : Class → Token → Bool
accepts (a_word k) (token.Keyword j) = same_keyword.ghosts.eq j k
accepts (a_mark s) (token.Sign r) = same_sign.ghosts.eq r s
accepts a_name (token.Name n) = true
accepts a_number (token.Number n) = true
accepts a_version (token.Number n) = nat_eq n 1 || nat_eq n 2
accepts _ _ = false

-- whether the token is of one of the kinds
abbrev pub among : List Class → Token → Bool
among [] t = false
among (c ∷ cs) t = accepts c t || among cs t

-- whether nothing is a text of the right side
abbrev pub nullable : Syntax → Bool
nullable (One charge class) = false
nullable Empty = true
nullable (Then a b) = nullable a && nullable b
nullable (Either a b) = nullable a || nullable b
nullable (Many a) = true
nullable (The p) = false

-- the kinds with which the texts of a part begin
abbrev pub first_of : Part → List Class
first_of (an_expression depth) = a_number ∷ a_name ∷ a_mark sign.OpenParenthesis ∷ []
first_of _ =
    a_word keyword.Not ∷ a_word keyword.Given ∷ a_mark sign.OpenParenthesis ∷ a_word keyword.Size
    ∷ a_mark sign.Less ∷ a_word keyword.Head ∷ a_name ∷ []

-- the kinds with which the texts of a right side begin
abbrev pub first : Syntax → List Class
first (One charge class) = class ∷ []
first Empty = []
first (Then a b) = if nullable a then first a ++ first b else first a
first (Either a b) = first a ++ first b
first (Many a) = first a
first (The p) = first_of p

-- whether a text of the right side can begin with the token
abbrev pub may_begin : Syntax → Token → Bool
may_begin a t = among (first a) t

-- where the machine goes: whether the token goes over a limit, what is counted behind it, and what
-- has to come then
pub record Move : Type 0 where
  pub over : Bool
  pub count : ℕ
  pub stack : List Syntax

-- how the machine enters a right side with a token, where `into` says how it enters a part
abbrev pub enter :
    (Part → Token → ℕ → List Syntax → Option Move) → Syntax → Token → ℕ → List Syntax → Option Move
enter into (One charge class) t n k =
    if accepts class t
    then Some (record { over = is_over charge n; count = count_after charge n; stack = k })
    else None
enter into Empty t n k = None
enter into (Then a b) t n k =
    if may_begin a t then enter into a t n (b ∷ k) else (if nullable a then enter into b t n k else None)
enter into (Either a b) t n k = if may_begin a t then enter into a t n k else enter into b t n k
enter into (Many a) t n k = enter into a t n (Many a ∷ k)
enter into (The p) t n k = into p t n k

-- no part that holds itself begins with another such part
abbrev pub not_into : Part → Token → ℕ → List Syntax → Option Move
not_into p t n k = None

abbrev pub into_part : Part → Token → ℕ → List Syntax → Option Move
into_part p t n k = enter not_into (rule_of p) t n k

-- a step of the machine
abbrev pub step : List Syntax → Token → ℕ → Option Move
step [] t n = None
step (s ∷ k) t n =
    if may_begin s t then enter into_part s t n k else (if nullable s then step k t n else None)

-- nothing more has to come
abbrev pub is_done : List Syntax → Bool
is_done [] = true
is_done (s ∷ k) = nullable s && is_done k

-- how the machine ends: it accepts, or stops with so many
-- tokens left, at one that isn't expected or goes over a limit
pub data Progress : Type 0 where
  Accepts : Progress
  StopsAt : (left : ℕ) → Progress
  Exceeds : (left : ℕ) → Progress

abbrev pub go_on : Option Move → (ℕ → List Syntax → Progress) → ℕ → Progress
go_on None next left = StopsAt left
go_on (Some move) next left = if move.over then Exceeds left else next move.count move.stack

-- the whole run over tokens, from what is counted and what has to come
abbrev pub run : List Lexeme → ℕ → List Syntax → Progress
run [] n k = if is_done k then Accepts else StopsAt 0
run (l ∷ ls) n k = go_on (step k l.token n) (run ls) (suc (length ls))
