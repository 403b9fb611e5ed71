-- One token tells how a stack goes on: the machine makes each step that some text makes.
use Rattle.std.proofs.Common.{◌≡◌, ℕ, List, [], ◌∷◌, ◌++◌, Bool, true, false, ◌&&◌, ◌||◌, not, Option, Some, None, refl, sym, ap, subst, ◌⊎◌, inl, inr, append_assoc, if◌then◌else◌}
use Rattle.std.proofs.lemmas.Bool.{and_parts, and_from, or_right, false_from_ne_true}
use Rattle.dsr_tree.specs.declared.tokens.Token.{Token}
use Rattle.dsr_syntax_theory.specs.Syntax.{Class, IsOf, Charge, count_after, is_over, Part, Syntax, One, Empty, Then, Either, Many, The, Marked, Derives, one, empty, both, left, right, no_more, more, part}
use Rattle.dsr_syntax_theory.specs.Grammar.{rule_of, spec}
use Rattle.dsr_parse.specs.Machine.{accepts, among, nullable, first, may_begin, Move, enter, not_into, into_part, step}
use Rattle.dsr_parse.proofs.Apart.{accepts_it, among_left, among_right, disjoint, disjoint_so}
use Rattle.dsr_parse.proofs.Checked.{tail, tail_rule, is_good, fronts, rule_good, rule_fronts, spec_good}
use Rattle.dsr_parse.proofs.Stacks.{choose, Lang, null_sound, first_sound}

-- a text of the stack can begin with the token
abbrev pub CanStart : List Syntax → Token → Type 0
CanStart [] t = ⊥
CanStart (s ∷ k) t = (may_begin s t ≡ true) ⊎ ((nullable s ≡ true) × CanStart k t)

-- a whole text of the right side goes on with no token with which the stack begins
abbrev Ends : Syntax → List Syntax → Type 0
Ends s k = (t : Token) → among (tail s) t ≡ true → CanStart k t → ⊥

-- one token tells how the texts of the right side go on, also where the stack follows
pub record Fits (s : Syntax) (k : List Syntax) : Type 0 where
  pub good : is_good s ≡ true
  pub ends : Ends s k
  pub apart : nullable s ≡ true → (t : Token) → may_begin s t ≡ true → CanStart k t → ⊥

-- one token tells how the texts of the stack go on
abbrev pub Good : List Syntax → Type 0
Good [] = Unit {0}
Good (s ∷ k) = Fits s k × Good k

-- one token tells how a specification goes on
pub good_spec : Good (spec ∷ [])
good_spec = (record { good = spec_good; ends = λ t a b. b; apart = λ e t a b. b }, tt)

-- ---- the parts of the check

-- the check of one right side after another
record GoodThen (a b : Syntax) : Type 0 where
  first_good : is_good a ≡ true
  second_good : is_good b ≡ true
  ends : disjoint (tail a) (first b) ≡ true
  apart : nullable a ≡ true → disjoint (first a) (first b) ≡ true

-- one or the other, where not the one
not_or : (x y : Bool) → (not x || y) ≡ true → x ≡ true → y ≡ true
not_or true y e f = e
not_or false y e f = absurd cc

-- its parts
good_then : (a b : Syntax) → is_good (Then a b) ≡ true → GoodThen a b
good_then a b e =
    let u = and_parts (is_good a && is_good b) (disjoint (tail a) (first b) && (not (nullable a) || disjoint (first a) (first b))) e in
    let v = and_parts (is_good a) (is_good b) u.0 in
    let w = and_parts (disjoint (tail a) (first b)) (not (nullable a) || disjoint (first a) (first b)) u.1 in
    record { first_good = v.0; second_good = v.1; ends = w.0; apart = not_or (nullable a) (disjoint (first a) (first b)) w.1 }

-- the check of one right side or another
record GoodEither (a b : Syntax) : Type 0 where
  left_good : is_good a ≡ true
  right_good : is_good b ≡ true
  apart : disjoint (first a) (first b) ≡ true

-- its parts
good_either : (a b : Syntax) → is_good (Either a b) ≡ true → GoodEither a b
good_either a b e =
    let u = and_parts (is_good a && is_good b) (disjoint (first a) (first b)) e in
    let v = and_parts (is_good a) (is_good b) u.0 in
    record { left_good = v.0; right_good = v.1; apart = u.1 }

-- the check of a repeated right side
record GoodMany (a : Syntax) : Type 0 where
  item_good : is_good a ≡ true
  some : nullable a ≡ true → ⊥
  ends : disjoint (tail a) (first a) ≡ true

-- a test is not both
not_not : (x : Bool) → not x ≡ true → x ≡ true → ⊥
not_not true e f = absurd cc
not_not false e f = absurd cc

-- its parts
good_many : (a : Syntax) → is_good (Many a) ≡ true → GoodMany a
good_many a e =
    let u = and_parts (is_good a) (not (nullable a) && disjoint (tail a) (first a)) e in
    let v = and_parts (not (nullable a)) (disjoint (tail a) (first a)) u.1 in
    record { item_good = u.0; some = not_not (nullable a) v.0; ends = v.1 }

-- where the second may be empty, what follows the first follows both
tail_more : (a b : Syntax) (t : Token) → nullable b ≡ true → among (first b ++ tail a) t ≡ true → among (tail (Then a b)) t ≡ true
tail_more a b t c e = among_right (tail b) (if nullable b then first b ++ tail a else []) t (rw c e)

-- ---- a step keeps this

-- the stack of a move, if any
abbrev stack_of : Option Move → List Syntax
stack_of None = []
stack_of (Some move) = move.stack

-- entering a right side keeps it
abbrev Keeps : (Part → Token → ℕ → List Syntax → Option Move) → Syntax → Type 0
Keeps into s = (t : Token) (n : ℕ) (k : List Syntax) (move : Move) → enter into s t n k ≡ Some move → Ends s k → Good k → Good move.stack

-- entering each right side keeps it
kept_enter : (into : Part → Token → ℕ → List Syntax → Option Move) → ((p : Part) → Keeps into (The p)) → (s : Syntax) → is_good s ≡ true → Keeps into s
kept_enter into parts (One charge class) good t n k move e ends kept = choose (accepts class t) _ _ _ e
    (λ is e. let same : k ≡ move.stack = ap (λ o. stack_of o) e in subst Good same kept)
    (λ is e. absurd cc)
kept_enter into parts Empty good t n k move e ends kept = absurd cc
kept_enter into parts (Then a b) good t n k move e ends kept =
    let g = good_then a b good in
    let second : Ends b k = λ t e f. ends t (among_left (tail b) (if nullable b then first b ++ tail a else []) t e) f in
    choose (may_begin a t) _ _ _ e
    (λ is e. kept_enter into parts a g.first_good t n (b ∷ k) move e
    (λ t e f. elim f as (λ _. ⊥) [
      | inl f ↦ disjoint_so (tail a) (first b) t g.ends e f
      | inr f ↦ ends t (tail_more a b t f.0 (among_right (first b) (tail a) t e)) f.1
    ])
    (record { good = g.second_good; ends = second; apart = λ c t e f. ends t (tail_more a b t c (among_left (first b) (tail a) t e)) f }, kept))
    (λ is e. choose (nullable a) _ _ _ e (λ none e. kept_enter into parts b g.second_good t n k move e second kept) (λ some e. absurd cc))
kept_enter into parts (Either a b) good t n k move e ends kept =
    let g = good_either a b good in
    choose (may_begin a t) _ _ _ e
    (λ is e. kept_enter into parts a g.left_good t n k move e (λ t e f. ends t (among_left (tail a) (tail b) t e) f) kept)
    (λ is e. kept_enter into parts b g.right_good t n k move e (λ t e f. ends t (among_right (tail a) (tail b) t e) f) kept)
kept_enter into parts (Many a) good t n k move e ends kept =
    let g = good_many a good in
    kept_enter into parts a g.item_good t n (Many a ∷ k) move e
    (λ t e f. elim f as (λ _. ⊥) [
      | inl f ↦ disjoint_so (tail a) (first a) t g.ends e f
      | inr f ↦ ends t (among_right (first a) (tail a) t e) f.1
    ])
    (record { good = good; ends = ends; apart = λ c t e f. ends t (among_left (first a) (tail a) t e) f }, kept)
kept_enter into parts (The p) good t n k move e ends kept = parts p t n k move e ends kept

-- entering a part keeps it
kept_part : (p : Part) → Keeps into_part (The p)
kept_part p t n k move e ends kept = kept_enter not_into (λ q t n k move e ends kept. absurd cc) (rule_of p) (rule_good p) t n k move e (λ t e f. ends t (subst (λ cs. among cs t ≡ true) (tail_rule p) e) f) kept

-- a step keeps it
pub kept : (k : List Syntax) (t : Token) (n : ℕ) (move : Move) → step k t n ≡ Some move → Good k → Good move.stack
kept [] t n move e good = absurd cc
kept (s ∷ k) t n move e (fits, good) = choose (may_begin s t) _ _ _ e
    (λ is e. kept_enter into_part kept_part s fits.good t n k move e fits.ends good)
    (λ is e. choose (nullable s) _ _ _ e (λ none e. kept k t n move e good) (λ some e. absurd cc))

-- ---- each step of a text is made

-- the move over this token, and then the rest of the text
pub record Moves (o : Option Move) (x : Marked) (lead : List Syntax → ℕ → Type 0) : Type 0 where
  pub count : ℕ
  pub stack : List Syntax
  pub is : o ≡ Some (record { over = x.over; count = count; stack = stack })
  pub leads : lead stack count

-- a move where the test holds
taken : {x : Marked} {lead : List Syntax → ℕ → Type 0} (b : Bool) (o other : Option Move) → b ≡ true → Moves o x lead → Moves (if b then o else other) x lead
taken {x} {lead} b o other e moves = subst (λ b. Moves (if b then o else other) x lead) (sym e) moves

-- a move where the test doesn't hold
passed : {x : Marked} {lead : List Syntax → ℕ → Type 0} (b : Bool) (other o : Option Move) → b ≡ false → Moves o x lead → Moves (if b then other else o) x lead
passed {x} {lead} b other o e moves = subst (λ b. Moves (if b then other else o) x lead) (sym e) moves

-- what follows a move into a right side, where a text of it is behind its first token
abbrev Leads : List Syntax → ℕ → List Marked → List Syntax → ℕ → Type 0
Leads k m xs stack count = (ys : List Marked) → Lang k m ys → Lang stack count (xs ++ ys)

-- the machine enters a right side with the first token of each text
abbrev Enters : (Part → Token → ℕ → List Syntax → Option Move) → Part → Type 0
Enters into p = (n m : ℕ) (x : Marked) (xs : List Marked) → Derives rule_of (rule_of p) n m (x ∷ xs) → (k : List Syntax) → Moves (into p x.token n k) x (Leads k m xs)

-- the rest of the first text, and then the second one
leads_on : (a b : Syntax) (k : List Syntax) (h m : ℕ) (xs y : List Marked) (stack : List Syntax) (count : ℕ) → Derives rule_of b h m y → Leads (b ∷ k) h xs stack count → Leads k m (xs ++ y) stack count
leads_on a b k h m xs y stack count q leads ys l = subst (Lang stack count) (sym (append_assoc xs y ys)) (leads (y ++ ys) (m, y, ys, refl, q, l))

-- a move into the first of two, seen as one into both
moved_on : (a b : Syntax) (k : List Syntax) (h m : ℕ) (x : Marked) (xs y : List Marked) (o : Option Move) → Derives rule_of b h m y → Moves o x (Leads (b ∷ k) h xs) → Moves o x (Leads k m (xs ++ y))
moved_on a b k h m x xs y o q moves = record { count = moves.count; stack = moves.stack; is = moves.is; leads = leads_on a b k h m xs y moves.stack moves.count q moves.leads }

-- the move over a token of the kind
forward_one : (charge : Charge) (class : Class) (n : ℕ) (x : Marked) (k : List Syntax) → IsOf class x.token → x.over ≡ is_over charge n → (o : Option Move) → Moves (if accepts class x.token then Some (record { over = is_over charge n; count = count_after charge n; stack = k }) else o) x (Leads k (count_after charge n) [])
forward_one charge class n x k is over o = taken (accepts class x.token) _ o (accepts_it class x.token is)
    (record { count = count_after charge n; stack = k; is = ap (λ (b : Bool). Some (record { over = b; count = count_after charge n; stack = k })) (sym over); leads = λ ys l. l })

-- the machine enters each right side with the first token of its texts
forward : (into : Part → Token → ℕ → List Syntax → Option Move) (parts : Bool) → (parts ≡ true → (p : Part) → Enters into p) →
    (s : Syntax) (n m : ℕ) (ts : List Marked) → Derives rule_of s n m ts → fronts parts s ≡ true → is_good s ≡ true → (x : Marked) (xs : List Marked) → ts ≡ x ∷ xs → (k : List Syntax) → Moves (enter into s x.token n k) x (Leads k m xs)
forward into parts given s n m _ (one charge class _ t is) front good x xs e k =
    let same : record { token = t; over = is_over charge n } ≡ x = cc in
    let rest : [] ≡ xs = cc in
    subst (λ xs. Moves (enter into (One charge class) x.token n k) x (Leads k (count_after charge n) xs)) rest
    (subst (λ (x : Marked). Moves (enter into (One charge class) x.token n k) x (Leads k (count_after charge n) [])) same (forward_one charge class n (record { token = t; over = is_over charge n }) k is refl None))
forward into parts given s n m _ (empty _) front good x xs e k = absurd cc
forward into parts given s n m _ (both {a} {b} {k = h} {x = []} {y} p q) front good x xs e k =
    let g = good_then a b good in
    let u = null_sound a n h [] p refl in
    let f = and_parts (fronts parts a) (not (nullable a) || fronts parts b) front in
    let starts = first_sound b h m y q x xs e in
    passed (may_begin a x.token) _ _ (false_from_ne_true (may_begin a x.token) (λ w. disjoint_so (first a) (first b) x.token (g.apart u.0) w starts))
    (taken (nullable a) _ None u.0 (subst (λ c. Moves (enter into b x.token c k) x (Leads k m xs)) (sym u.1) (forward into parts given b h m y q (not_or (nullable a) (fronts parts b) f.1 u.0) g.second_good x xs e k)))
forward into parts given s n m _ (both {a} {b} {k = h} {x = z ∷ zs} {y} p q) front good x xs e k =
    let g = good_then a b good in
    let f = and_parts (fronts parts a) (not (nullable a) || fronts parts b) front in
    let same : z ∷ zs ≡ x ∷ zs = cc in
    let rest : zs ++ y ≡ xs = cc in
    taken (may_begin a x.token) _ _ (first_sound a n h (z ∷ zs) p x zs same)
    (subst (λ xs. Moves (enter into a x.token n (b ∷ k)) x (Leads k m xs)) rest (moved_on a b k h m x zs y _ q (forward into parts given a n h (z ∷ zs) p f.0 g.first_good x zs same (b ∷ k))))
forward into parts given s n m ts (left {a} {b} p) front good x xs e k =
    let g = good_either a b good in
    let f = and_parts (fronts parts a) (fronts parts b) front in
    taken (may_begin a x.token) _ _ (first_sound a n m ts p x xs e) (forward into parts given a n m ts p f.0 g.left_good x xs e k)
forward into parts given s n m ts (right {a} {b} p) front good x xs e k =
    let g = good_either a b good in
    let f = and_parts (fronts parts a) (fronts parts b) front in
    let starts = first_sound b n m ts p x xs e in
    passed (may_begin a x.token) _ _ (false_from_ne_true (may_begin a x.token) (λ w. disjoint_so (first a) (first b) x.token g.apart w starts)) (forward into parts given b n m ts p f.1 g.right_good x xs e k)
forward into parts given s n m _ (no_more _) front good x xs e k = absurd cc
forward into parts given s n m _ (more {a} {k = h} {x = []} {y} p q) front good x xs e k = absurd ((good_many a good).some (null_sound a n h [] p refl).0)
forward into parts given s n m _ (more {a} {k = h} {x = z ∷ zs} {y} p q) front good x xs e k =
    let g = good_many a good in
    let same : z ∷ zs ≡ x ∷ zs = cc in
    let rest : zs ++ y ≡ xs = cc in
    subst (λ xs. Moves (enter into a x.token n (Many a ∷ k)) x (Leads k m xs)) rest (moved_on a (Many a) k h m x zs y _ q (forward into parts given a n h (z ∷ zs) p front g.item_good x zs same (Many a ∷ k)))
forward into parts given s n m ts (part {p} d) front good x xs e k = given front p n m x xs (subst (Derives rule_of (rule_of p) n m) e d) k

-- parts are allowed anywhere in a stack
any_fronts : (s : Syntax) → fronts true s ≡ true
any_fronts (One charge class) = refl
any_fronts Empty = refl
any_fronts (Then a b) = and_from (fronts true a) (not (nullable a) || fronts true b) (any_fronts a) (or_right (not (nullable a)) (fronts true b) (any_fronts b))
any_fronts (Either a b) = and_from (fronts true a) (fronts true b) (any_fronts a) (any_fronts b)
any_fronts (Many a) = any_fronts a
any_fronts (The p) = refl

-- the machine enters each part with the first token of its texts
enters_part : (p : Part) → Enters into_part p
enters_part p n m x xs d k = forward not_into false (λ e. absurd cc) (rule_of p) n m (x ∷ xs) d (rule_fronts p) (rule_good p) x xs refl k

-- a stack can begin with the first token of its texts
starts : (k : List Syntax) (n : ℕ) (x : Marked) (xs : List Marked) → Lang k n (x ∷ xs) → CanStart k x.token
starts [] n x xs l = absurd cc
starts (s ∷ k) n x xs (m, [], b, e, d, l) = inr ((null_sound s n m [] d refl).0, starts k m x xs (subst (Lang k m) (sym e) l))
starts (s ∷ k) n x xs (m, z ∷ zs, b, e, d, l) = let same : z ∷ zs ≡ x ∷ zs = cc in inl (first_sound s n m (z ∷ zs) d x zs same)

-- the machine steps over the first token of each text of the stack
pub steps : (k : List Syntax) (n : ℕ) (x : Marked) (xs : List Marked) → Good k → Lang k n (x ∷ xs) → Moves (step k x.token n) x (λ stack count. Lang stack count xs)
steps [] n x xs good l = absurd cc
steps (s ∷ k) n x xs (fits, good) (m, [], b, e, d, l) =
    let u = null_sound s n m [] d refl in
    let rest : Lang k n (x ∷ xs) = subst (λ n. Lang k n (x ∷ xs)) (sym u.1) (subst (Lang k m) (sym e) l) in
    passed (may_begin s x.token) _ _ (false_from_ne_true (may_begin s x.token) (λ w. fits.apart u.0 x.token w (starts k n x xs rest)))
    (taken (nullable s) _ None u.0 (steps k n x xs good rest))
steps (s ∷ k) n x xs (fits, good) (m, z ∷ zs, b, e, d, l) =
    let same : z ∷ zs ≡ x ∷ zs = cc in
    let rest : zs ++ b ≡ xs = cc in
    let moves = forward into_part true (λ _. enters_part) s n m (z ∷ zs) d (any_fronts s) fits.good x zs same k in
    taken (may_begin s x.token) _ _ (first_sound s n m (z ∷ zs) d x zs same)
    (record { count = moves.count; stack = moves.stack; is = moves.is; leads = subst (Lang moves.stack moves.count) rest (moves.leads b l) })
