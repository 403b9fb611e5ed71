-- Two parts of a row that one function reads.
use Rattle.std.specs.Prelude.{Result, Ok, Err, IfOk, IfErr, OnOk}
use Rattle.std.proofs.Common.{◌≡◌, ℕ, suc, List, [], ◌∷◌, ◌++◌, length, Option, Some, None, Bool, true, false, cond, ◌&&◌, refl, sym, ap, subst, ◌∙◌}
use Rattle.dsr_tree.specs.declared.tokens.Lexeme.{Lexeme}
use Rattle.dsr_tree.specs.declared.tokens.Token.{Token}
use Rattle.dsr_syntax_theory.specs.Grammar.{rule_of}
use Rattle.dsr_syntax_theory.specs.Phrases.{Phrase, ◌▸◌, Says, says_both}
use Rattle.dsr_syntax_theory.specs.Syntax.{Part, Syntax, One, Empty, Then, Either, Many, The, is_over, count_after}
use Rattle.dsr_parse.specs.Machine.{accepts, may_begin, nullable, Move, enter, not_into, into_part, step, is_done, run, go_on, Accepts, StopsAt, Exceeds}
use Rattle.dsr_parse.specs.Reading.{Standing, Halts, Reads}
use Rattle.dsr_parse.specs.declared.reader.Stop.{Stop}
use Rattle.dsr_parse.proofs.Passing.{then_run, ends_so}

-- the move with more under its stack
abbrev onto : List Syntax → Option Move → Option Move
onto k None = None
onto k (Some move) = Some (record { over = move.over; count = move.count; stack = move.stack ++ k })

-- one of two moves
tested : (k : List Syntax) (b : Bool) (u v : Option Move) {x y : Option Move} → x ≡ onto k u → y ≡ onto k v → cond b x y ≡ onto k (cond b u v)
tested k true u v e f = e
tested k false u v e f = f

-- what lies under the stack doesn't bear on how a right side is entered
enter_onto : (into : Part → Token → ℕ → List Syntax → Option Move) → ((p : Part) (t : Token) (n : ℕ) (j k : List Syntax) → into p t n (j ++ k) ≡ onto k (into p t n j)) → (s : Syntax) (t : Token) (n : ℕ) (j k : List Syntax) → enter into s t n (j ++ k) ≡ onto k (enter into s t n j)
enter_onto into parts (One charge class) t n j k = tested k (accepts class t) (Some (record { over = is_over charge n; count = count_after charge n; stack = j })) None refl refl
enter_onto into parts Empty t n j k = refl
enter_onto into parts (Then a b) t n j k = tested k (may_begin a t) (enter into a t n (b ∷ j)) _ (enter_onto into parts a t n (b ∷ j) k) (tested k (nullable a) (enter into b t n j) None (enter_onto into parts b t n j k) refl)
enter_onto into parts (Either a b) t n j k = tested k (may_begin a t) (enter into a t n j) (enter into b t n j) (enter_onto into parts a t n j k) (enter_onto into parts b t n j k)
enter_onto into parts (Many a) t n j k = enter_onto into parts a t n (Many a ∷ j) k
enter_onto into parts (The p) t n j k = parts p t n j k

part_onto : (p : Part) (t : Token) (n : ℕ) (j k : List Syntax) → into_part p t n (j ++ k) ≡ onto k (into_part p t n j)
part_onto p t n j k = enter_onto not_into (λ p t n j k. refl) (rule_of p) t n j k

-- so the machine goes the same way over two stacks, where it does over what lies under both
ends_under : (k m : List Syntax) → cond (is_done k) Accepts (StopsAt 0) ≡ cond (is_done m) Accepts (StopsAt 0) → (j : List Syntax) → cond (is_done (j ++ k)) Accepts (StopsAt 0) ≡ cond (is_done (j ++ m)) Accepts (StopsAt 0)
ends_under k m same [] = same
ends_under k m same (s ∷ j) = elim (nullable s) as (λ b. cond (b && is_done (j ++ k)) Accepts (StopsAt 0) ≡ cond (b && is_done (j ++ m)) Accepts (StopsAt 0)) [ true ↦ ends_under k m same j | false ↦ refl ]

moved_under : (k m : List Syntax) (ls : List Lexeme) (left : ℕ) → ((n : ℕ) (j : List Syntax) → run ls n (j ++ k) ≡ run ls n (j ++ m)) → (o : Option Move) → go_on (onto k o) (run ls) left ≡ go_on (onto m o) (run ls) left
moved_under k m ls left next None = refl
moved_under k m ls left next (Some move) = ap (λ o. cond move.over (Exceeds left) o) (next move.count move.stack)

goes_under : (k m : List Syntax) (l : Lexeme) (ls : List Lexeme) (n : ℕ) → ((n : ℕ) (j : List Syntax) → run ls n (j ++ k) ≡ run ls n (j ++ m)) → run (l ∷ ls) n k ≡ run (l ∷ ls) n m → (j : List Syntax) → run (l ∷ ls) n (j ++ k) ≡ run (l ∷ ls) n (j ++ m)
goes_under k m l ls n next same [] = same
goes_under k m l ls n next same (s ∷ j) =
    elim (may_begin s l.token) as (λ b. go_on (cond b (enter into_part s l.token n (j ++ k)) (cond (nullable s) (step (j ++ k) l.token n) None)) (run ls) (suc (length ls)) ≡ go_on (cond b (enter into_part s l.token n (j ++ m)) (cond (nullable s) (step (j ++ m) l.token n) None)) (run ls) (suc (length ls))) [
      | true ↦ ap (λ o. go_on o (run ls) (suc (length ls))) (enter_onto into_part part_onto s l.token n j k) ∙ moved_under k m ls (suc (length ls)) next (enter into_part s l.token n j) ∙ sym (ap (λ o. go_on o (run ls) (suc (length ls))) (enter_onto into_part part_onto s l.token n j m))
      | false ↦ elim (nullable s) as (λ b. go_on (cond b (step (j ++ k) l.token n) None) (run ls) (suc (length ls)) ≡ go_on (cond b (step (j ++ m) l.token n) None) (run ls) (suc (length ls))) [ true ↦ goes_under k m l ls n next same j | false ↦ refl ]
    ]

run_under : (k m : List Syntax) → ((ls : List Lexeme) (n : ℕ) → run ls n k ≡ run ls n m) → (ls : List Lexeme) (n : ℕ) (j : List Syntax) → run ls n (j ++ k) ≡ run ls n (j ++ m)
run_under k m same [] n j = ends_under k m (same [] n) j
run_under k m same (l ∷ ls) n j = goes_under k m l ls n (run_under k m same ls) (same (l ∷ ls) n) j

-- the first two of three
group_run : (a b c : Syntax) (k : List Syntax) (ls : List Lexeme) (n : ℕ) → run ls n (Then a (Then b c) ∷ k) ≡ run ls n (Then a b ∷ c ∷ k)
group_run a b c k ls n =
    then_run a (Then b c) k ls n
    ∙ run_under (Then b c ∷ k) (b ∷ c ∷ k) (λ ls n. then_run b c k ls n) ls n (a ∷ [])
    ∙ sym (then_run a b (c ∷ k) ls n)

says_group : {p q r : Phrase} {ls ms ns : List Lexeme} → Says (p ▸ q) ls ms → Says r ms ns → Says (p ▸ q ▸ r) ls ns
says_group (says_both a b) c = says_both a (says_both b c)

-- two parts are read by one function, and then the rest
pub reads_group : {a b c : Syntax} {p q r : Phrase} {x y z : Standing} → Reads (Then a b) (p ▸ q) x y → Reads c r y z → Reads (Then a (Then b c)) (p ▸ q ▸ r) x z
reads_group {a} {b} {c} {p} {q} {r} {x} {y} {z} h rest = record {
  goes = record { passes = λ k. group_run a b c k x.rest x.counted ∙ h.goes.passes (c ∷ k) ∙ rest.goes.passes k };
  says = says_group h.says rest.says;
}

-- it stops in the two
pub halts_group : {a b c : Syntax} {x : Standing} {e : Stop} → Halts (Then a b ∷ []) x e → Halts (Then a (Then b c) ∷ []) x e
halts_group {a} {b} {c} {x} {e} h = record { halts = λ k. ends_so e (run x.rest x.counted (Then a (Then b c) ∷ k)) (run x.rest x.counted (Then a b ∷ c ∷ k)) (group_run a b c k x.rest x.counted) (h.halts (c ∷ k)) }

-- it stops behind the two
pub halts_behind : {a b c : Syntax} {p : Phrase} {x y : Standing} {e : Stop} → Reads (Then a b) p x y → Halts (c ∷ []) y e → Halts (Then a (Then b c) ∷ []) x e
halts_behind {a} {b} {c} {p} {x} {y} {e} r h = record { halts = λ k. ends_so e (run x.rest x.counted (Then a (Then b c) ∷ k)) (run y.rest y.counted (c ∷ k)) (group_run a b c k x.rest x.counted ∙ r.goes.passes (c ∷ k)) (h.halts k) }

-- what a result is, it is said of
ok_is : {B : Type 0} (Q : B → Type 0) (n : Result B Stop) {b : B} → n ≡ Ok b → IfOk n Q → Q b
ok_is Q n is h = rw is at h

-- what was read before, with what is read behind it
pub behind_is : {A B : Type 0} (Q : B → Type 0) (n : Result B Stop) {a x : A} {b : B} → (x ≡ a) × (n ≡ Ok b) → IfOk n Q → Q b
behind_is Q n (same, is) h = ok_is Q n is h

pub both_read : {A B : Type 0} (P : A × B → Type 0) (Q : B → Type 0) (r : Result (A × B) Stop) (n : Result B Stop) {a : A} → IfOk r (λ p. (p.0 ≡ a) × (n ≡ Ok p.1)) → IfOk n Q → ((b : B) → Q b → P (a, b)) → IfOk r P
both_read P Q (Ok (x, y)) n (same, is) h from = subst (λ z. P (z, y)) (sym same) (from y (ok_is Q n is h))
both_read P Q (Err e) n ok h from = ok

-- the function behind stops
pub behind_stops : {B : Type 0} (Q : Stop → Type 0) (n : Result B Stop) {e : Stop} → n ≡ Err e → IfErr n Q → Q e
behind_stops Q n is h = rw is at h

pub both_halt : {A B : Type 0} (P Q : Stop → Type 0) (r : Result (A × B) Stop) (n : Result B Stop) → IfErr r (λ e. n ≡ Err e) → IfErr n Q → ((e : Stop) → Q e → P e) → IfErr r P
both_halt P Q (Ok v) n err h from = err
both_halt P Q (Err e) n is h from = from e (behind_stops Q n is h)

-- what was read before is handed on
pub handed : {T : Type 0} {R : Type 0} {v : T} (P : T → Type 0) (r : Result T Stop) → IfOk r (λ w. w ≡ v) → OnOk r R → (R → P v) → IfOk r P
handed P (Ok w) same read from = subst P (sym same) (from read)
handed P (Err e) same read from = same
