-- How the machine goes over parts that follow each other.
use Rattle.std.specs.Prelude.{Result, Err, Ok, IsErrAnd, IfErr}
use Rattle.std.proofs.Common.{◌≡◌, ◌<◌, ◌≤◌, ◌+◌, ℕ, suc, List, [], ◌∷◌, ◌++◌, length, Some, None, Bool, true, false, cond, ◌&&◌, ◌||◌, refl, sym, ap, subst, ◌∙◌, arith}
use Rattle.dsr_tree.specs.declared.tokens.Lexeme.{Lexeme}
use Rattle.dsr_tree.specs.declared.tokens.Token.{Token}
use Rattle.dsr_syntax_theory.specs.Grammar.{rule_of, expression, formula, unit}
use Rattle.dsr_syntax_theory.specs.TreeTexts.{sum_text, product_text}
use Rattle.dsr_tree.specs.declared.tree.SumSign.{SumSign}
use Rattle.dsr_tree.specs.declared.tree.SumSign.TheVariants.{Plus, Minus}
use Rattle.dsr_tree.specs.declared.tree.ProductSign.{ProductSign}
use Rattle.dsr_tree.specs.declared.tree.ProductSign.TheVariants.{Times, Over}
use Rattle.dsr_syntax_theory.specs.Phrases.{Phrase, silent, said, said_at, ◌▸◌, Says, says_nothing, says, says_at, says_both, in_turn}
use Rattle.dsr_syntax_theory.specs.Syntax.{Class, Charge, free, starts, counted, opening, count_after, is_over, Part, an_expression, a_formula, a_unit, Syntax, One, Empty, Then, Either, Many, The}
use Rattle.std.proofs.lemmas.Bool.{lt-leb, le-leb}
use Rattle.dsr_parse.specs.Machine.{accepts, among, may_begin, first, nullable, enter, into_part, step, is_done, run, go_on, Progress, Accepts, StopsAt, Exceeds}
use Rattle.dsr_parse.specs.Reading.{Standing, Halts, EndsBy, Reads, ReadsItems, Next, Other, is_next}
use Rattle.dsr_parse.specs.declared.reader.Stop.{Stop}
use Rattle.dsr_parse.specs.declared.reader.Stop.TheVariants.{Expected, Limit}

one_more : (n : ℕ) → n + 1 ≡ suc n
one_more n = omega arith

or_false : (b : Bool) → (b || false) ≡ b
or_false true = refl
or_false false = refl

-- a token is among the kinds of two lists where it is among those of one
among_both : (cs ds : List Class) (t : Token) → among (cs ++ ds) t ≡ (among cs t || among ds t)
among_both [] ds t = refl
among_both (c ∷ cs) ds t = elim (accepts c t) as (λ b. (b || among (cs ++ ds) t) ≡ ((b || among cs t) || among ds t)) [ true ↦ refl | false ↦ among_both cs ds t ]

among_first : (u : Bool) (cs ds : List Class) (t : Token) → among (cond u (cs ++ ds) cs) t ≡ cond u (among cs t || among ds t) (among cs t)
among_first true cs ds t = among_both cs ds t
among_first false cs ds t = refl

-- the tests of one after the other, in either order
two_tests : {X : Type 0} (u v p q : Bool) (d e f none : X) → cond (cond u (p || q) p) (cond p d (cond u e none)) (cond (u && v) f none) ≡ cond p d (cond u (cond q e (cond v f none)) none)
two_tests true true true q d e f none = refl
two_tests true true false true d e f none = refl
two_tests true true false false d e f none = refl
two_tests true false true q d e f none = refl
two_tests true false false true d e f none = refl
two_tests true false false false d e f none = refl
two_tests false v true q d e f none = refl
two_tests false v false q d e f none = refl

then_step : (a b : Syntax) (k : List Syntax) (t : Token) (n : ℕ) → step (Then a b ∷ k) t n ≡ step (a ∷ b ∷ k) t n
then_step a b k t n =
    ap (λ p. cond p (cond (may_begin a t) (enter into_part a t n (b ∷ k)) (cond (nullable a) (enter into_part b t n k) None)) (cond (nullable a && nullable b) (step k t n) None)) (among_first (nullable a) (first a) (first b) t)
    ∙ two_tests (nullable a) (nullable b) (may_begin a t) (may_begin b t) (enter into_part a t n (b ∷ k)) (enter into_part b t n k) (step k t n) None

both_done : (u v w : Bool) → ((u && v) && w) ≡ (u && (v && w))
both_done true v w = refl
both_done false v w = refl

-- one after the other has to come
pub then_run : (a b : Syntax) (k : List Syntax) (ls : List Lexeme) (n : ℕ) → run ls n (Then a b ∷ k) ≡ run ls n (a ∷ b ∷ k)
then_run a b k [] n = ap (λ d. cond d Accepts (StopsAt 0)) (both_done (nullable a) (nullable b) (is_done k))
then_run a b k (l ∷ ls) n = ap (λ move. go_on move (run ls) (suc (length ls))) (then_step a b k l.token n)

-- one after the other is read
pub reads_then : {a b : Syntax} {p q : Phrase} {x y z : Standing} → Reads a p x y → Reads b q y z → Reads (Then a b) (p ▸ q) x z
reads_then {a} {b} {p} {q} {x} {y} {z} r s = record {
  goes = record { passes = λ k. then_run a b k x.rest x.counted ∙ r.goes.passes (b ∷ k) ∙ s.goes.passes k };
  says = says_both r.says s.says;
}

-- the place of a token isn't kept
pub reads_unkept : {a : Syntax} {t : Token} {place : ℕ} {x y : Standing} → Reads a (said_at t place) x y → Reads a (said t) x y
reads_unkept {a} {t} {place} {x} {y} r = record { goes = r.goes; says = unkept t place x.rest y.rest r.says }
  where
    unkept : (t : Token) (place : ℕ) (ls ms : List Lexeme) → Says (said_at t place) ls ms → Says (said t) ls ms
    unkept _ _ _ _ (says_at u at left) = says u at left

-- how the machine ends doesn't depend on how that is known
pub ends_so : (e : Stop) (o u : Progress) → o ≡ u → EndsBy e u → EndsBy e o
ends_so e o u same ends = subst (EndsBy e) (sym same) ends

-- it stops at the first of two
pub halts_first : {a b : Syntax} {x : Standing} {e : Stop} → Halts (a ∷ []) x e → Halts (Then a b ∷ []) x e
halts_first {a} {b} {x} {e} h = record { halts = λ k. ends_so e (run x.rest x.counted (Then a b ∷ k)) (run x.rest x.counted (a ∷ b ∷ k)) (then_run a b k x.rest x.counted) (h.halts (b ∷ k)) }

-- it stops behind the first of two
pub halts_rest : {a b : Syntax} {p : Phrase} {x y : Standing} {e : Stop} → Reads a p x y → Halts (b ∷ []) y e → Halts (Then a b ∷ []) x e
halts_rest {a} {b} {p} {x} {y} {e} r h = record { halts = λ k. ends_so e (run x.rest x.counted (Then a b ∷ k)) (run y.rest y.counted (b ∷ k)) (then_run a b k x.rest x.counted ∙ r.goes.passes (b ∷ k)) (h.halts k) }

-- the reason to stop is passed on
pub passed_on : {T : Type 0} {before : List Syntax} {x : Standing} (r : Result T Stop) {e : Stop} → IsErrAnd r (λ f. f ≡ e) → Halts before x e → IfErr r (λ f. Halts before x f)
passed_on (Ok v) is h = absurd is
passed_on {before = before} {x = x} (Err f) is h = subst (Halts before x) (sym is) h

-- ---- what is next

-- a test tells it
pub next_is : {a : Syntax} {ls : List Lexeme} → is_next a ls ≡ true → Next a ls
next_is e = record { is = e }

pub other_is : {a : Syntax} {ls : List Lexeme} → is_next a ls ≡ false → Other a ls
other_is e = record { is = e }

-- ---- one token

one_step : (charge : Charge) (class : Class) (t : Token) (n : ℕ) (k : List Syntax) → accepts class t ≡ true → step (One charge class ∷ k) t n ≡ Some (record { over = is_over charge n; count = count_after charge n; stack = k })
one_step charge class t n k is = ap (λ b. cond (b || false) (cond b (Some (record { over = is_over charge n; count = count_after charge n; stack = k })) None) None) is

-- a token that doesn't bear on the limits is read
pub one_reads : {class : Class} {t : Token} {x y : Standing} (l : Lexeme) → x.rest ≡ l ∷ y.rest → y.counted ≡ x.counted → l.token ≡ t → accepts class t ≡ true → Reads (One free class) (said_at t l.place) x y
one_reads {class} {t} {x} {y} l is count same fits = record {
  goes = record { passes = λ k. ap (λ ls. run ls x.counted (One free class ∷ k)) is ∙ ap (λ move. go_on move (run y.rest) (suc (length y.rest))) (one_step free class l.token x.counted k (ap (accepts class) same ∙ fits)) ∙ ap (λ n. run y.rest n k) (sym count) };
  says = subst (λ u. Says (said_at u l.place) x.rest y.rest) same (subst (λ ls. Says (said_at l.token l.place) ls y.rest) (sym is) (says_at l.token l.place y.rest));
}

-- the first of the tokens is taken
pub taken : {class : Class} {t : Token} {x y w : Standing} (l : Lexeme) → w ≡ x → w.rest ≡ l ∷ y.rest → y.counted ≡ w.counted → l.token ≡ t → accepts class t ≡ true → Reads (One free class) (said_at t l.place) x y
taken {class} {t} {x} {y} {w} l same is count token fits = subst (λ v. Reads (One free class) (said_at t l.place) v y) same (one_reads l is count token fits)

-- the same, where the token was tested before it was known
pub taken_tested : {class : Class} {t : Token} {x y w : Standing} (l : Lexeme) → w ≡ x → w.rest ≡ l ∷ y.rest → y.counted ≡ w.counted → l.token ≡ t → accepts class l.token ≡ true → Reads (One free class) (said_at t l.place) x y
taken_tested {class} {t} {x} {y} {w} l same is count token fits = taken l same is count token (ap (accepts class) (sym token) ∙ fits)

-- a counted token passes as one that isn't counted, with one more counted, where its limit isn't reached
counted_run : {limit : ℕ} (class : Class) {x y : Standing} → x.counted < limit → y.rest ≡ x.rest → y.counted ≡ x.counted + 1 → is_next (One free class) x.rest ≡ true → (k : List Syntax) → run x.rest x.counted (One (counted limit) class ∷ k) ≡ run y.rest y.counted (One free class ∷ k)
counted_run {limit} class {x} {y} below same count next k = passed x.rest next ∙ ap (λ n. run x.rest n (One free class ∷ k)) (sym (count ∙ one_more x.counted)) ∙ ap (λ ls. run ls y.counted (One free class ∷ k)) (sym same)
  where
    passed : (ls : List Lexeme) → is_next (One free class) ls ≡ true → run ls x.counted (One (counted limit) class ∷ k) ≡ run ls (suc x.counted) (One free class ∷ k)
    passed [] n = absurd cc
    passed (l ∷ ls) n =
        let fits : accepts class l.token ≡ true = sym (or_false (accepts class l.token)) ∙ n in
        ap (λ move. go_on move (run ls) (suc (length ls))) (one_step (counted limit) class l.token x.counted k fits)
        ∙ ap (λ b. cond b (Exceeds (suc (length ls))) (run ls (suc x.counted) k)) (lt-leb limit x.counted below)
        ∙ sym (ap (λ move. go_on move (run ls) (suc (length ls))) (one_step free class l.token (suc x.counted) k fits))

-- the next token is counted
pub counted_reads : {limit : ℕ} {class : Class} {p : Phrase} {x y z : Standing} → x.counted < limit → y.rest ≡ x.rest → y.counted ≡ x.counted + 1 → is_next (One free class) x.rest ≡ true → Reads (One free class) p y z → Reads (One (counted limit) class) p x z
counted_reads {limit} {class} {p} {x} {y} {z} below same count next r = record {
  goes = record { passes = λ k. counted_run class below same count next k ∙ r.goes.passes k };
  says = subst (λ ls. Says p ls z.rest) same r.says;
}

pub counted_after : {limit : ℕ} {class : Class} {x y : Standing} {e : Stop} → x.counted < limit → y.rest ≡ x.rest → y.counted ≡ x.counted + 1 → is_next (One free class) x.rest ≡ true → Halts (One free class ∷ []) y e → Halts (One (counted limit) class ∷ []) x e
counted_after {limit} {class} {x} {y} {e} below same count next h = record { halts = λ k. ends_so e (run x.rest x.counted (One (counted limit) class ∷ k)) (run y.rest y.counted (One free class ∷ k)) (counted_run class below same count next k) (h.halts k) }

-- the next token is past its limit
pub counted_halts : {limit : ℕ} {class : Class} {x : Standing} {left : ℕ} → limit ≤ x.counted → left ≡ length x.rest → is_next (One free class) x.rest ≡ true → Halts (One (counted limit) class ∷ []) x (Limit left)
counted_halts {limit} {class} {x} {left} past is next = record { halts = λ k. stopped x.rest next k ∙ ap Exceeds (sym is) }
  where
    stopped : (ls : List Lexeme) → is_next (One free class) ls ≡ true → (k : List Syntax) → run ls x.counted (One (counted limit) class ∷ k) ≡ Exceeds (length ls)
    stopped [] n k = absurd cc
    stopped (l ∷ ls) n k =
        ap (λ move. go_on move (run ls) (suc (length ls))) (one_step (counted limit) class l.token x.counted k (sym (or_false (accepts class l.token)) ∙ n))
        ∙ ap (λ b. cond b (Exceeds (suc (length ls))) (run ls (suc x.counted) k)) (le-leb limit x.counted past)

-- a token that opens a construct passes as any other, where the limit of its depth isn't reached
opening_run : {depth limit : ℕ} (class : Class) (x : Standing) → depth < limit → is_next (One free class) x.rest ≡ true → (k : List Syntax) → run x.rest x.counted (One (opening depth limit) class ∷ k) ≡ run x.rest x.counted (One free class ∷ k)
opening_run {depth} {limit} class x below next k = passed x.rest next
  where
    passed : (ls : List Lexeme) → is_next (One free class) ls ≡ true → run ls x.counted (One (opening depth limit) class ∷ k) ≡ run ls x.counted (One free class ∷ k)
    passed [] n = absurd cc
    passed (l ∷ ls) n =
        let fits : accepts class l.token ≡ true = sym (or_false (accepts class l.token)) ∙ n in
        ap (λ move. go_on move (run ls) (suc (length ls))) (one_step (opening depth limit) class l.token x.counted k fits)
        ∙ ap (λ b. cond b (Exceeds (suc (length ls))) (run ls x.counted k)) (lt-leb limit depth below)
        ∙ sym (ap (λ move. go_on move (run ls) (suc (length ls))) (one_step free class l.token x.counted k fits))

-- the next token opens a construct
pub opening_reads : {depth limit : ℕ} {class : Class} {p : Phrase} {x y : Standing} → depth < limit → is_next (One free class) x.rest ≡ true → Reads (One free class) p x y → Reads (One (opening depth limit) class) p x y
opening_reads {depth} {limit} {class} {p} {x} {y} below next r = record { goes = record { passes = λ k. opening_run class x below next k ∙ r.goes.passes k }; says = r.says }

pub opening_after : {depth limit : ℕ} {class : Class} {x : Standing} {e : Stop} → depth < limit → is_next (One free class) x.rest ≡ true → Halts (One free class ∷ []) x e → Halts (One (opening depth limit) class ∷ []) x e
opening_after {depth} {limit} {class} {x} {e} below next h = record { halts = λ k. ends_so e (run x.rest x.counted (One (opening depth limit) class ∷ k)) (run x.rest x.counted (One free class ∷ k)) (opening_run class x below next k) (h.halts k) }

-- the next token opens a construct too deep
pub opening_halts : {depth limit : ℕ} {class : Class} {x : Standing} {left : ℕ} → limit ≤ depth → left ≡ length x.rest → is_next (One free class) x.rest ≡ true → Halts (One (opening depth limit) class ∷ []) x (Limit left)
opening_halts {depth} {limit} {class} {x} {left} past is next = record { halts = λ k. stopped x.rest next k ∙ ap Exceeds (sym is) }
  where
    stopped : (ls : List Lexeme) → is_next (One free class) ls ≡ true → (k : List Syntax) → run ls x.counted (One (opening depth limit) class ∷ k) ≡ Exceeds (length ls)
    stopped [] n k = absurd cc
    stopped (l ∷ ls) n k =
        ap (λ move. go_on move (run ls) (suc (length ls))) (one_step (opening depth limit) class l.token x.counted k (sym (or_false (accepts class l.token)) ∙ n))
        ∙ ap (λ b. cond b (Exceeds (suc (length ls))) (run ls x.counted k)) (le-leb limit depth past)

-- the machine stops where the next token doesn't fit, whatever its charge
pub one_halts : {charge : Charge} {class : Class} {x : Standing} {e : Stop} → Halts (One free class ∷ []) x e → is_next (One free class) x.rest ≡ false → Halts (One charge class ∷ []) x e
one_halts {charge} {class} {x} {e} h next = record { halts = λ k. ends_so e (run x.rest x.counted (One charge class ∷ k)) (run x.rest x.counted (One free class ∷ k)) (same x.rest next k) (h.halts k) }
  where
    same : (ls : List Lexeme) → is_next (One free class) ls ≡ false → (k : List Syntax) → run ls x.counted (One charge class ∷ k) ≡ run ls x.counted (One free class ∷ k)
    same [] n k = refl
    same (l ∷ ls) n k = ap (λ b. go_on (cond b (cond (accepts class l.token) (Some (record { over = is_over charge x.counted; count = count_after charge x.counted; stack = k })) None) None) (run ls) (suc (length ls))) n
        ∙ sym (ap (λ b. go_on (cond b (cond (accepts class l.token) (Some (record { over = false; count = x.counted; stack = k })) None) None) (run ls) (suc (length ls))) n)

-- the machine stops at a token that doesn't fit
pub expected_halts : {charge : Charge} {class : Class} {x : Standing} {e : Stop} → e ≡ Expected (length x.rest) → is_next (One free class) x.rest ≡ false → Halts (One charge class ∷ []) x e
expected_halts {charge} {class} {x} {e} same next = record { halts = λ k. subst (λ f. EndsBy f (run x.rest x.counted (One charge class ∷ k))) (sym same) (stops x.rest next k) }
  where
    stops : (ls : List Lexeme) → is_next (One free class) ls ≡ false → (k : List Syntax) → run ls x.counted (One charge class ∷ k) ≡ StopsAt (length ls)
    stops [] next k = refl
    stops (l ∷ ls) next k = ap (λ b. go_on (cond b (cond (accepts class l.token) (Some (record { over = is_over charge x.counted; count = count_after charge x.counted; stack = k })) None) None) (run ls) (suc (length ls))) next

-- a counted token past its limit, or one that opens a construct too deep
pub counted_stops : {limit : ℕ} {class : Class} {x : Standing} {e : Stop} → (limit ≤ x.counted) × (e ≡ Limit (length x.rest)) → is_next (One free class) x.rest ≡ true → Halts (One (counted limit) class ∷ []) x e
counted_stops {limit} {class} {x} {e} (past, same) next = subst (λ f. Halts (One (counted limit) class ∷ []) x f) (sym same) (counted_halts past refl next)

-- the only token of a phrase
said_is : {t : Token} {place : ℕ} {ls ms : List Lexeme} → Says (said_at t place) ls ms → ls ≡ record { token = t; place = place } ∷ ms
said_is (says_at t place ms) = refl

-- a token behind which the count starts
pub starts_reads : {class : Class} {t : Token} {place : ℕ} {x y z : Standing} → z.rest ≡ y.rest → z.counted ≡ 0 → accepts class t ≡ true → Reads (One free class) (said_at t place) x y → Reads (One starts class) (said_at t place) x z
starts_reads {class} {t} {place} {x} {y} {z} same zero fits r = record {
  goes = record { passes = λ k. ap (λ ls. run ls x.counted (One starts class ∷ k)) (said_is r.says) ∙ ap (λ move. go_on move (run y.rest) (suc (length y.rest))) (one_step starts class t x.counted k fits) ∙ ap (λ ls. run ls 0 k) (sym same) ∙ ap (λ n. run z.rest n k) (sym zero) };
  says = subst (λ ls. Says (said_at t place) x.rest ls) (sym same) r.says;
}

-- the same, where it is known to be next
pub starts_next : {class : Class} {t : Token} {place : ℕ} {x y z : Standing} → z.rest ≡ y.rest → z.counted ≡ 0 → is_next (One free class) x.rest ≡ true → Reads (One free class) (said_at t place) x y → Reads (One starts class) (said_at t place) x z
starts_next {class} {t} {place} {x} {y} {z} same zero next r = starts_reads same zero (sym (or_false (accepts class t)) ∙ subst (λ ls. is_next (One free class) ls ≡ true) (said_is r.says) next) r

-- ---- one or the other

either_tests : {X : Type 0} (u v p q : Bool) (d e f none : X) → u ≡ false → p ≡ false → cond (p || q) (cond p d e) (cond (u || v) f none) ≡ cond q e (cond v f none)
either_tests u v p q d e f none un pn = ap (λ b. cond (b || q) (cond b d e) (cond (u || v) f none)) pn ∙ ap (λ b. cond q e (cond (b || v) f none)) un

left_tests : {X : Type 0} (p q : Bool) (d e f g : X) → p ≡ true → cond (p || q) (cond p d e) f ≡ cond p d g
left_tests p q d e f g is = ap (λ b. cond (b || q) (cond b d e) f) is ∙ sym (ap (λ b. cond b d g) is)

either_step : (a b : Syntax) (k : List Syntax) (t : Token) (n : ℕ) → step (Either a b ∷ k) t n ≡ cond (may_begin a t || may_begin b t) (cond (may_begin a t) (enter into_part a t n k) (enter into_part b t n k)) (cond (nullable a || nullable b) (step k t n) None)
either_step a b k t n = ap (λ p. cond p (cond (may_begin a t) (enter into_part a t n k) (enter into_part b t n k)) (cond (nullable a || nullable b) (step k t n) None)) (among_both (first a) (first b) t)

left_run : (a b : Syntax) (ls : List Lexeme) (n : ℕ) (k : List Syntax) → is_next a ls ≡ true → run ls n (Either a b ∷ k) ≡ run ls n (a ∷ k)
left_run a b [] n k next = absurd cc
left_run a b (l ∷ ls) n k next = ap (λ move. go_on move (run ls) (suc (length ls))) (either_step a b k l.token n ∙ left_tests (may_begin a l.token) (may_begin b l.token) (enter into_part a l.token n k) (enter into_part b l.token n k) (cond (nullable a || nullable b) (step k l.token n) None) (cond (nullable a) (step k l.token n) None) next)

right_run : (a b : Syntax) (ls : List Lexeme) (n : ℕ) (k : List Syntax) → nullable a ≡ false → is_next a ls ≡ false → run ls n (Either a b ∷ k) ≡ run ls n (b ∷ k)
right_run a b [] n k null next = ap (λ u. cond ((u || nullable b) && is_done k) Accepts (StopsAt 0)) null
right_run a b (l ∷ ls) n k null next = ap (λ move. go_on move (run ls) (suc (length ls))) (either_step a b k l.token n ∙ either_tests (nullable a) (nullable b) (may_begin a l.token) (may_begin b l.token) (enter into_part a l.token n k) (enter into_part b l.token n k) (step k l.token n) None null next)

-- the left one is read, where it is next
pub reads_left : {a b : Syntax} {p : Phrase} {x y : Standing} → Next a x.rest → Reads a p x y → Reads (Either a b) p x y
reads_left {a} {b} {p} {x} {y} next r = record { goes = record { passes = λ k. left_run a b x.rest x.counted k next.is ∙ r.goes.passes k }; says = r.says }

-- the right one is read, where the left one isn't next
pub reads_right : {a b : Syntax} {p : Phrase} {x y : Standing} → nullable a ≡ false → Other a x.rest → Reads b p x y → Reads (Either a b) p x y
reads_right {a} {b} {p} {x} {y} null next r = record { goes = record { passes = λ k. right_run a b x.rest x.counted k null next.is ∙ r.goes.passes k }; says = r.says }

pub halts_left : {a b : Syntax} {x : Standing} {e : Stop} → Next a x.rest → Halts (a ∷ []) x e → Halts (Either a b ∷ []) x e
halts_left {a} {b} {x} {e} next h = record { halts = λ k. ends_so e (run x.rest x.counted (Either a b ∷ k)) (run x.rest x.counted (a ∷ k)) (left_run a b x.rest x.counted k next.is) (h.halts k) }

pub halts_right : {a b : Syntax} {x : Standing} {e : Stop} → nullable a ≡ false → Other a x.rest → Halts (b ∷ []) x e → Halts (Either a b ∷ []) x e
halts_right {a} {b} {x} {e} null next h = record { halts = λ k. ends_so e (run x.rest x.counted (Either a b ∷ k)) (run x.rest x.counted (b ∷ k)) (right_run a b x.rest x.counted k null next.is) (h.halts k) }

empty_run : (ls : List Lexeme) (n : ℕ) (k : List Syntax) → run ls n (Empty ∷ k) ≡ run ls n k
empty_run [] n k = refl
empty_run (l ∷ ls) n k = refl

-- nothing is read, where what there may be isn't next
pub reads_none : {a : Syntax} {x : Standing} → nullable a ≡ false → Other a x.rest → Reads (Either a Empty) silent x x
reads_none {a} {x} null next = reads_right null next (record { goes = record { passes = λ k. empty_run x.rest x.counted k }; says = says_nothing x.rest })

-- ---- any number of times

many_run : (a : Syntax) (ls : List Lexeme) (n : ℕ) (k : List Syntax) → is_next a ls ≡ true → run ls n (Many a ∷ k) ≡ run ls n (a ∷ Many a ∷ k)
many_run a [] n k next = absurd cc
many_run a (l ∷ ls) n k next = ap (λ move. go_on move (run ls) (suc (length ls))) (ap (λ b. cond b (enter into_part a l.token n (Many a ∷ k)) (step k l.token n)) next ∙ sym (ap (λ b. cond b (enter into_part a l.token n (Many a ∷ k)) (cond (nullable a) (step (Many a ∷ k) l.token n) None)) next))

done_run : (a : Syntax) (ls : List Lexeme) (n : ℕ) (k : List Syntax) → is_next a ls ≡ false → run ls n (Many a ∷ k) ≡ run ls n k
done_run a [] n k next = refl
done_run a (l ∷ ls) n k next = ap (λ move. go_on move (run ls) (suc (length ls))) (ap (λ b. cond b (enter into_part a l.token n (Many a ∷ k)) (step k l.token n)) next)

-- no item is read yet
pub items_none : {X : Type 0} {phrase : X → Phrase} {a : Syntax} {x : Standing} {items : List X} → items ≡ [] → ReadsItems a phrase items x x
items_none {X} {phrase} {a} {x} {items} is = record { goes = record { passes = λ k. refl }; says = subst (λ xs. Says (in_turn phrase xs) x.rest x.rest) (sym is) (says_nothing x.rest) }

says_last : {X : Type 0} (phrase : X → Phrase) (items : List X) (item : X) (ls ms ns : List Lexeme) → Says (in_turn phrase items) ls ms → Says (phrase item) ms ns → Says (in_turn phrase (items ++ item ∷ [])) ls ns
says_last phrase [] item _ _ ns (says_nothing ms) here = says_both here (says_nothing ns)
says_last phrase (first ∷ items) item ls ms ns (says_both before after) here = says_both before (says_last phrase items item _ ms ns after here)

-- one item more is read
pub items_more : {X : Type 0} {phrase : X → Phrase} {a : Syntax} {x y z : Standing} {items more : List X} {item : X} → Next a y.rest → more ≡ items ++ item ∷ [] → ReadsItems a phrase items x y → Reads a (phrase item) y z → ReadsItems a phrase more x z
items_more {X} {phrase} {a} {x} {y} {z} {items} {more} {item} next is before here = record {
  goes = record { passes = λ k. before.goes.passes k ∙ many_run a y.rest y.counted k next.is ∙ here.goes.passes (Many a ∷ k) };
  says = subst (λ xs. Says (in_turn phrase xs) x.rest z.rest) (sym is) (says_last phrase items item x.rest y.rest z.rest before.says here.says);
}

-- no more items are next
pub items_done : {X : Type 0} {phrase : X → Phrase} {a : Syntax} {x y : Standing} {items : List X} → Other a y.rest → ReadsItems a phrase items x y → Reads (Many a) (in_turn phrase items) x y
items_done {X} {phrase} {a} {x} {y} {items} next before = record { goes = record { passes = λ k. before.goes.passes k ∙ done_run a y.rest y.counted k next.is }; says = before.says }

-- the machine stops in an item
pub items_halt : {X : Type 0} {phrase : X → Phrase} {a : Syntax} {x y : Standing} {items : List X} {e : Stop} → Next a y.rest → ReadsItems a phrase items x y → Halts (a ∷ []) y e → Halts (Many a ∷ []) x e
items_halt {X} {phrase} {a} {x} {y} {items} {e} next before h = record { halts = λ k. ends_so e (run x.rest x.counted (Many a ∷ k)) (run y.rest y.counted (a ∷ Many a ∷ k)) (before.goes.passes k ∙ many_run a y.rest y.counted k next.is) (h.halts (Many a ∷ k)) }

-- ---- parts that hold themselves

part_run : (p : Part) (ls : List Lexeme) (n : ℕ) (k : List Syntax) → run ls n (The p ∷ k) ≡ run ls n (rule_of p ∷ k)
part_run (an_expression depth) [] n k = refl
part_run (a_formula depth) [] n k = refl
part_run (a_unit depth) [] n k = refl
part_run (an_expression depth) (l ∷ ls) n k = refl
part_run (a_formula depth) (l ∷ ls) n k = refl
part_run (a_unit depth) (l ∷ ls) n k = refl

pub reads_part : {p : Part} {q : Phrase} {x y : Standing} → Reads (rule_of p) q x y → Reads (The p) q x y
reads_part {p} {q} {x} {y} r = record { goes = record { passes = λ k. part_run p x.rest x.counted k ∙ r.goes.passes k }; says = r.says }

pub halts_part : {p : Part} {x : Standing} {e : Stop} → Halts (rule_of p ∷ []) x e → Halts (The p ∷ []) x e
halts_part {p} {x} {e} h = record { halts = λ k. ends_so e (run x.rest x.counted (The p ∷ k)) (run x.rest x.counted (rule_of p ∷ k)) (part_run p x.rest x.counted k) (h.halts k) }

-- ---- how much is read

pub says_within : {p : Phrase} {ls ms : List Lexeme} → Says p ls ms → length ms ≤ length ls
says_within (says_nothing rest) = omega arith
says_within (says t place rest) = omega arith
says_within (says_at t place rest) = omega arith
says_within (says_both a b) = let m = says_within a in let n = says_within b in omega arith

pub reads_within : {a : Syntax} {p : Phrase} {x y : Standing} → Reads a p x y → length y.rest ≤ length x.rest
reads_within r = says_within r.says

pub said_shorter : {a : Syntax} {t : Token} {place : ℕ} {x y : Standing} → Reads a (said_at t place) x y → length y.rest < length x.rest
said_shorter {a} {t} {place} {x} {y} r = let e = ap length (said_is r.says) in omega (arith, e)

-- a reason to stop there is one to stop here
pub err_from : {T : Type 0} {before after : List Syntax} {x y : Standing} (r : Result T Stop) → ((e : Stop) → Halts after y e → Halts before x e) → IfErr r (λ e. Halts after y e) → IfErr r (λ e. Halts before x e)
err_from (Ok v) from h = h
err_from (Err e) from h = from e h

-- ---- what is next

next_both : (a b : Syntax) (ls : List Lexeme) → is_next (Either a b) ls ≡ (is_next a ls || is_next b ls)
next_both a b [] = refl
next_both a b (l ∷ ls) = among_both (first a) (first b) l.token

pub next_left : {a b : Syntax} {ls : List Lexeme} → Next a ls → Next (Either a b) ls
next_left {a} {b} {ls} next = record { is = next_both a b ls ∙ ap (λ c. c || is_next b ls) next.is }

or_true : (b : Bool) → (b || true) ≡ true
or_true true = refl
or_true false = refl

pub next_right : {a b : Syntax} {ls : List Lexeme} → Next b ls → Next (Either a b) ls
next_right {a} {b} {ls} next = record { is = next_both a b ls ∙ ap (λ c. is_next a ls || c) next.is ∙ or_true (is_next a ls) }

pub next_neither : {a b : Syntax} {ls : List Lexeme} → Other a ls → Other b ls → Other (Either a b) ls
next_neither {a} {b} {ls} no_left no_right = record { is = next_both a b ls ∙ ap (λ c. c || is_next b ls) no_left.is ∙ no_right.is }

-- ---- a part inside one construct more

pub expression_inside : {n : ℕ} {p : Phrase} {x y : Standing} → Reads (expression (n + 1)) p x y → Reads (The (an_expression (suc n))) p x y
expression_inside {n} {p} {x} {y} r = reads_part {p = an_expression (suc n)} (subst (λ m. Reads (expression m) p x y) (one_more n) r)

pub expression_halts : {n : ℕ} {x : Standing} {e : Stop} → Halts (expression (n + 1) ∷ []) x e → Halts (The (an_expression (suc n)) ∷ []) x e
expression_halts {n} {x} {e} h = halts_part {p = an_expression (suc n)} (subst (λ m. Halts (expression m ∷ []) x e) (one_more n) h)

pub formula_inside : {n : ℕ} {p : Phrase} {x y : Standing} → Reads (formula (n + 1)) p x y → Reads (The (a_formula (suc n))) p x y
formula_inside {n} {p} {x} {y} r = reads_part {p = a_formula (suc n)} (subst (λ m. Reads (formula m) p x y) (one_more n) r)

pub formula_halts : {n : ℕ} {x : Standing} {e : Stop} → Halts (formula (n + 1) ∷ []) x e → Halts (The (a_formula (suc n)) ∷ []) x e
formula_halts {n} {x} {e} h = halts_part {p = a_formula (suc n)} (subst (λ m. Halts (formula m ∷ []) x e) (one_more n) h)

pub unit_inside : {n : ℕ} {p : Phrase} {x y : Standing} → Reads (unit (n + 1)) p x y → Reads (The (a_unit (suc n))) p x y
unit_inside {n} {p} {x} {y} r = reads_part {p = a_unit (suc n)} (subst (λ m. Reads (unit m) p x y) (one_more n) r)

pub unit_halts : {n : ℕ} {x : Standing} {e : Stop} → Halts (unit (n + 1) ∷ []) x e → Halts (The (a_unit (suc n)) ∷ []) x e
unit_halts {n} {x} {e} h = halts_part {p = a_unit (suc n)} (subst (λ m. Halts (unit m ∷ []) x e) (one_more n) h)

-- a whole expression behind the token at which its count starts
pub expression_whole : {p : Phrase} {x y : Standing} → Reads (expression 0) p x y → Reads (The (an_expression 0)) p x y
expression_whole r = reads_part {p = an_expression 0} r

pub expression_stops : {x : Standing} {e : Stop} → Halts (expression 0 ∷ []) x e → Halts (The (an_expression 0) ∷ []) x e
expression_stops h = halts_part {p = an_expression 0} h

pub formula_whole : {p : Phrase} {x y : Standing} → Reads (formula 0) p x y → Reads (The (a_formula 0)) p x y
formula_whole r = reads_part {p = a_formula 0} r

pub formula_stops : {x : Standing} {e : Stop} → Halts (formula 0 ∷ []) x e → Halts (The (a_formula 0) ∷ []) x e
formula_stops h = halts_part {p = a_formula 0} h

-- the phrase may be written in another way
pub reads_as : {a : Syntax} {p q : Phrase} {x y : Standing} → q ≡ p → Reads a p x y → Reads a q x y
reads_as {a} {p} {q} {x} {y} same r = subst (λ s. Reads a s x y) (sym same) r

-- ---- one token makes what is left shorter

pub unkept_shorter : {t : Token} {ls ms : List Lexeme} → Says (said t) ls ms → length ms < length ls
unkept_shorter (says t place rest) = omega arith

pub sum_shorter : {a : Syntax} {x y : Standing} (sign : SumSign) → Reads a (sum_text sign) x y → length y.rest < length x.rest
sum_shorter Plus r = unkept_shorter r.says
sum_shorter Minus r = unkept_shorter r.says

pub product_shorter : {a : Syntax} {x y : Standing} (sign : ProductSign) → Reads a (product_text sign) x y → length y.rest < length x.rest
product_shorter Times r = unkept_shorter r.says
product_shorter Over r = unkept_shorter r.says
