-- The texts of a stack of what has to come, and what a step of the machine does to them.
use Rattle.std.proofs.Common.{◌≡◌, ℕ, List, [], ◌∷◌, ◌++◌, Bool, true, false, Option, Some, refl, sym, ap, subst, ◌∙◌, inl, inr, append_assoc, if◌then◌else◌}
use Rattle.std.proofs.lemmas.Bool.{and_parts, and_from, or_cases, or_left, or_right}
use Rattle.dsr_tree.specs.declared.tokens.Token.{Token}
use Rattle.dsr_tree.specs.declared.tokens.Token.TheVariants as token
use Rattle.dsr_tree.specs.declared.tokens.Keyword.TheVariants as keyword
use Rattle.dsr_syntax_theory.specs.Syntax.{Class, a_word, a_mark, a_name, a_number, a_version, IsOf, Charge, free, count_after, is_over, Part, an_expression, a_formula, a_unit, Syntax, One, Empty, Then, Either, Many, The, Marked, Derives, one, empty, both, left, right, no_more, more, part}
use Rattle.dsr_syntax_theory.specs.Grammar.{rule_of, unit, literal}
use Rattle.dsr_parse.specs.Machine.{accepts, among, nullable, first, may_begin, Move, enter, not_into, into_part, step, is_done}
use Rattle.dsr_parse.proofs.Apart.{is_of, accepts_it, among_left, among_right}
use Rattle.dsr_parse.proofs.Checked.{first_rule, nullable_rule}

-- which of two answers a test gives
pub choose : {A P : Type 0} (b : Bool) (x y z : A) → (if b then x else y) ≡ z → (b ≡ true → x ≡ z → P) → (b ≡ false → y ≡ z → P) → P
choose {A} {P} b x y z e yes_so no_so = elim b as (λ c. b ≡ c → (if c then x else y) ≡ z → P) [ true ↦ λ c e. yes_so c e | false ↦ λ c e. no_so c e ] refl e

-- a text of each right side that has to come, in order
abbrev pub Lang : List Syntax → ℕ → List Marked → Type 0
Lang [] n ts = ts ≡ []
Lang (s ∷ k) n ts = (m : ℕ) × (a : List Marked) × (b : List Marked) × (ts ≡ a ++ b) × Derives rule_of s n m a × Lang k m b

-- ---- texts that are empty, and first tokens

-- where two texts together are empty, both are
first_empty : (a b : List Marked) → a ++ b ≡ [] → a ≡ []
first_empty [] b e = refl
first_empty (x ∷ a) b e = absurd cc

-- ..and so is the second
rest_empty : (a b : List Marked) → a ++ b ≡ [] → b ≡ []
rest_empty [] b e = e
rest_empty (x ∷ a) b e = absurd cc

-- nothing is a text only of what is nullable, and nothing is counted then
pub null_sound : (s : Syntax) (n m : ℕ) (ts : List Marked) → Derives rule_of s n m ts → ts ≡ [] → (nullable s ≡ true) × (n ≡ m)
null_sound s n m _ (one charge class _ t is) e = absurd cc
null_sound s n m _ (empty _) e = (refl, refl)
null_sound s n m _ (both {a} {b} {k} {x} {y} p q) e =
    let u = null_sound a n k x p (first_empty x y e) in
    let v = null_sound b k m y q (rest_empty x y e) in
    (and_from (nullable a) (nullable b) u.0 v.0, u.1 ∙ v.1)
null_sound s n m ts (left {a} {b} p) e = let u = null_sound a n m ts p e in (or_left (nullable a) (nullable b) u.0, u.1)
null_sound s n m ts (right {a} {b} p) e = let u = null_sound b n m ts p e in (or_right (nullable a) (nullable b) u.0, u.1)
null_sound s n m _ (no_more _) e = (refl, refl)
null_sound s n m _ (more {a} {k} {x} {y} p q) e =
    let u = null_sound a n k x p (first_empty x y e) in
    let v = null_sound (Many a) k m y q (rest_empty x y e) in
    (refl, u.1 ∙ v.1)
null_sound s n m ts (part {p} d) e =
    let u = null_sound (rule_of p) n m ts d e in
    let clash : false ≡ true = sym (nullable_rule p) ∙ u.0 in absurd cc

-- nothing is a text of what is nullable
pub null_complete : (s : Syntax) (n : ℕ) → nullable s ≡ true → Derives rule_of s n n []
null_complete (One charge class) n e = absurd cc
null_complete Empty n e = empty n
null_complete (Then a b) n e = let u = and_parts (nullable a) (nullable b) e in both (null_complete a n u.0) (null_complete b n u.1)
null_complete (Either a b) n e = elim (or_cases (nullable a) (nullable b) e) as (λ _. Derives rule_of (Either a b) n n []) [
  | inl u ↦ left (null_complete a n u)
  | inr u ↦ right (null_complete b n u)
]
null_complete (Many a) n e = no_more n
null_complete (The p) n e = absurd cc

-- what begins the first of two begins both
pub first_left : (a b : Syntax) (t : Token) → may_begin a t ≡ true → may_begin (Then a b) t ≡ true
first_left a b t e = elim (nullable a) as (λ c. among (if c then first a ++ first b else first a) t ≡ true) [ true ↦ among_left (first a) (first b) t e | false ↦ e ]

-- what begins the second begins both, where the first may be empty
pub first_right : (a b : Syntax) (t : Token) → nullable a ≡ true → may_begin b t ≡ true → may_begin (Then a b) t ≡ true
first_right a b t c e = rw c (among_right (first a) (first b) t e)

-- the first token of a text, or the given one
abbrev token_of : Token → List Marked → Token
token_of t [] = t
token_of t (x ∷ xs) = x.token

-- the first token of a text is of a kind with which texts begin
pub first_sound : (s : Syntax) (n m : ℕ) (ts : List Marked) → Derives rule_of s n m ts → (x : Marked) (xs : List Marked) → ts ≡ x ∷ xs → may_begin s x.token ≡ true
first_sound s n m _ (one charge class _ t is) x xs e =
    let same : t ≡ x.token = ap (λ ts. token_of t ts) e in
    or_left (accepts class x.token) false (accepts_it class x.token (subst (IsOf class) same is))
first_sound s n m _ (empty _) x xs e = absurd cc
first_sound s n m _ (both {a} {b} {k} {x = []} {y} p q) x xs e = first_right a b x.token (null_sound a n k [] p refl).0 (first_sound b k m y q x xs e)
first_sound s n m _ (both {a} {b} {k} {x = z ∷ zs} {y} p q) x xs e = let same : z ≡ x = cc in first_left a b x.token (first_sound a n k (z ∷ zs) p x zs (ap (λ w. w ∷ zs) same))
first_sound s n m ts (left {a} {b} p) x xs e = among_left (first a) (first b) x.token (first_sound a n m ts p x xs e)
first_sound s n m ts (right {a} {b} p) x xs e = among_right (first a) (first b) x.token (first_sound b n m ts p x xs e)
first_sound s n m _ (no_more _) x xs e = absurd cc
first_sound s n m _ (more {a} {k} {x = []} {y} p q) x xs e = first_sound (Many a) k m y q x xs e
first_sound s n m _ (more {a} {k} {x = z ∷ zs} {y} p q) x xs e = let same : z ≡ x = cc in first_sound a n k (z ∷ zs) p x zs (ap (λ w. w ∷ zs) same)
first_sound s n m ts (part {p} d) x xs e = subst (λ cs. among cs x.token ≡ true) (first_rule p) (first_sound (rule_of p) n m ts d x xs e)

-- ---- a step undone

-- texts of two right sides, one after the other, are a text of both in order
join : (a b s : Syntax) (k : List Syntax) (n : ℕ) (ts : List Marked) → ((h m : ℕ) (x y : List Marked) → Derives rule_of a n h x → Derives rule_of b h m y → Derives rule_of s n m (x ++ y)) → Lang (a ∷ b ∷ k) n ts → Lang (s ∷ k) n ts
join a b s k n ts make (h, x, r, e, p, (m, y, z, e', q, l)) = (m, x ++ y, z, e ∙ ap (λ w. x ++ w) e' ∙ sym (append_assoc x y z), make h m x y p q, l)

-- a text of one right side is one of another
change : (a s : Syntax) (k : List Syntax) (n : ℕ) (ts : List Marked) → ((m : ℕ) (x : List Marked) → Derives rule_of a n m x → Derives rule_of s n m x) → Lang (a ∷ k) n ts → Lang (s ∷ k) n ts
change a s k n ts make (m, x, y, e, p, l) = (m, x, y, e, make m x p, l)

-- what is nullable may be left out
pub skip : (s : Syntax) (k : List Syntax) (n : ℕ) (ts : List Marked) → nullable s ≡ true → Lang k n ts → Lang (s ∷ k) n ts
skip s k n ts e l = (n, [], ts, refl, null_complete s n e, l)

-- where the machine enters a right side, the token before a text of the new stack is a text of the old one
abbrev Undoes : (Part → Token → ℕ → List Syntax → Option Move) → Syntax → Type 0
Undoes into s = (t : Token) (n : ℕ) (k : List Syntax) (move : Move) (ts : List Marked) → enter into s t n k ≡ Some move → Lang move.stack move.count ts → Lang (s ∷ k) n (record { token = t; over = move.over } ∷ ts)

-- a token is a text of its kind
back_one : (charge : Charge) (class : Class) (t : Token) (n : ℕ) (k : List Syntax) (move : Move) (ts : List Marked) → accepts class t ≡ true → Some (record { over = is_over charge n; count = count_after charge n; stack = k }) ≡ Some move → Lang move.stack move.count ts → Lang (One charge class ∷ k) n (record { token = t; over = move.over } ∷ ts)
back_one charge class t n k move ts is e l =
    let same : record { over = is_over charge n; count = count_after charge n; stack = k } ≡ move = cc in
    subst (λ (move : Move). Lang move.stack move.count ts → Lang (One charge class ∷ k) n (record { token = t; over = move.over } ∷ ts)) same
    (λ l. (count_after charge n, record { token = t; over = is_over charge n } ∷ [], ts, refl, one charge class n t (is_of class t is), l)) l

-- entering a right side is undone on texts
back_enter : (into : Part → Token → ℕ → List Syntax → Option Move) → ((p : Part) → Undoes into (The p)) → (s : Syntax) → Undoes into s
back_enter into parts (One charge class) t n k move ts e l = choose (accepts class t) _ _ _ e (λ is e. back_one charge class t n k move ts is e l) (λ is e. absurd cc)
back_enter into parts Empty t n k move ts e l = absurd cc
back_enter into parts (Then a b) t n k move ts e l = choose (may_begin a t) _ _ _ e
    (λ is e. join a b (Then a b) k n _ (λ h m x y p q. both p q) (back_enter into parts a t n (b ∷ k) move ts e l))
    (λ is e. choose (nullable a) _ _ _ e
    (λ none e. join a b (Then a b) k n _ (λ h m x y p q. both p q) (skip a (b ∷ k) n _ none (back_enter into parts b t n k move ts e l)))
    (λ some e. absurd cc))
back_enter into parts (Either a b) t n k move ts e l = choose (may_begin a t) _ _ _ e
    (λ is e. change a (Either a b) k n _ (λ m x p. left p) (back_enter into parts a t n k move ts e l))
    (λ is e. change b (Either a b) k n _ (λ m x p. right p) (back_enter into parts b t n k move ts e l))
back_enter into parts (Many a) t n k move ts e l = join a (Many a) (Many a) k n _ (λ h m x y p q. more p q) (back_enter into parts a t n (Many a ∷ k) move ts e l)
back_enter into parts (The p) t n k move ts e l = parts p t n k move ts e l

-- what a step goes over is a text
pub back : (k : List Syntax) (t : Token) (n : ℕ) (move : Move) (ts : List Marked) → step k t n ≡ Some move → Lang move.stack move.count ts → Lang k n (record { token = t; over = move.over } ∷ ts)
back [] t n move ts e l = absurd cc
back (s ∷ k) t n move ts e l = choose (may_begin s t) _ _ _ e
    (λ is e. back_enter into_part
    (λ p t n k move ts e l. change (rule_of p) (The p) k n _ (λ m x d. part d) (back_enter not_into (λ q t n k move ts e l. absurd cc) (rule_of p) t n k move ts e l))
    s t n k move ts e l)
    (λ is e. choose (nullable s) _ _ _ e (λ none e. skip s k n _ none (back k t n move ts e l)) (λ some e. absurd cc))

-- ---- some text of each stack

-- a text of a right side
pub record Text (s : Syntax) (n : ℕ) : Type 0 where
  pub count : ℕ
  pub items : List Marked
  pub derived : Derives rule_of s n count items

-- a text of one token
a_token : (charge : Charge) (class : Class) (n : ℕ) (t : Token) → IsOf class t → Text (One charge class) n
a_token charge class n t is = record { count = count_after charge n; items = record { token = t; over = is_over charge n } ∷ []; derived = one charge class n t is }

-- `head in` with an empty name is a unit
some_unit : (depth n : ℕ) → Text (unit depth) n
some_unit depth n = record {
  count = count_after literal n;
  items = record { token = token.Keyword keyword.Head; over = is_over literal n } ∷ (record { token = token.Keyword keyword.In; over = false } ∷ record { token = token.Name []; over = false } ∷ []);
  derived = right (right (right (right (right (both (left (one literal (a_word keyword.Head) n (token.Keyword keyword.Head) refl))
      (left (both (one free (a_word keyword.In) _ (token.Keyword keyword.In) refl) (one free a_name _ (token.Name []) tt))))))));
}

-- some text of each part
some_part : (p : Part) (n : ℕ) → Text (The p) n
some_part (an_expression depth) n = record {
  count = n;
  items = record { token = token.Number 0; over = false } ∷ [];
  derived = part (both (both (left (one free a_number n (token.Number 0) tt)) (no_more n)) (no_more n));
}
some_part (a_formula depth) n =
    let u = some_unit depth n in record { count = u.count; items = (u.items ++ []) ++ []; derived = part (both (both u.derived (no_more u.count)) (no_more u.count)) }
some_part (a_unit depth) n = let u = some_unit depth n in record { count = u.count; items = u.items; derived = part u.derived }

-- some text of each right side
some_text : (s : Syntax) (n : ℕ) → Text s n
some_text (One charge (a_word k)) n = a_token charge (a_word k) n (token.Keyword k) refl
some_text (One charge (a_mark s)) n = a_token charge (a_mark s) n (token.Sign s) refl
some_text (One charge a_name) n = a_token charge a_name n (token.Name []) tt
some_text (One charge a_number) n = a_token charge a_number n (token.Number 0) tt
some_text (One charge a_version) n = a_token charge a_version n (token.Number 1) (inl refl)
some_text Empty n = record { count = n; items = []; derived = empty n }
some_text (Then a b) n =
    let u = some_text a n in
    let v = some_text b u.count in
    record { count = v.count; items = u.items ++ v.items; derived = both u.derived v.derived }
some_text (Either a b) n = let u = some_text a n in record { count = u.count; items = u.items; derived = left u.derived }
some_text (Many a) n = record { count = n; items = []; derived = no_more n }
some_text (The p) n = some_part p n

-- every stack has some text
pub ending : (k : List Syntax) (n : ℕ) → (ts : List Marked) × Lang k n ts
ending [] n = ([], refl)
ending (s ∷ k) n = let u = some_text s n in let l = ending k u.count in (u.items ++ l.0, (u.count, u.items, l.0, refl, u.derived, l.1))

-- what needs nothing more has the empty text
pub done_sound : (k : List Syntax) (n : ℕ) → is_done k ≡ true → Lang k n []
done_sound [] n e = refl
done_sound (s ∷ k) n e = let u = and_parts (nullable s) (is_done k) e in skip s k n [] u.0 (done_sound k n u.1)

-- what has the empty text needs nothing more
pub done_complete : (k : List Syntax) (n : ℕ) → Lang k n [] → is_done k ≡ true
done_complete [] n l = refl
done_complete (s ∷ k) n (m, a, b, e, d, l) =
    let none : b ≡ [] = rest_empty a b (sym e) in
    and_from (nullable s) (is_done k) (null_sound s n m a d (first_empty a b (sym e))).0 (done_complete k m (subst (Lang k m) none l))
