-- The machine accepts exactly the texts of the grammar, and stops at the first token that continues none within the limits.
use Rattle.std.proofs.Common.{◌≡◌, ◌≤◌, ◌<◌, ℕ, suc, List, [], ◌∷◌, ◌++◌, length, Bool, true, false, Option, Some, None, refl, sym, ap, subst, ◌∙◌, arith, append-nil, length-append, if◌then◌else◌}
use Rattle.dsr_tree.specs.declared.tokens.Lexeme.{Lexeme}
use Rattle.dsr_tree.specs.declared.tokens.Token.{Token}
use Rattle.dsr_syntax_theory.specs.Syntax.{Syntax, Marked, Derives}
use Rattle.dsr_syntax_theory.specs.Grammar.{rule_of, spec}
use Rattle.dsr_syntax_theory.specs.Sentences.{within, IsSentence, IsFront, LeadsOn}
use Rattle.dsr_parse.specs.Machine.{Move, step, is_done, Progress, Accepts, StopsAt, Exceeds, go_on, run}
use Rattle.dsr_parse.proofs.Stacks.{choose, Lang, back, ending, done_sound, done_complete}
use Rattle.dsr_parse.proofs.Goes.{Good, good_spec, kept, steps}

-- how a step turns out
on_move : {P : Type 0} (o : Option Move) (next : ℕ → List Syntax → Progress) (left : ℕ) (z : Progress) → go_on o next left ≡ z →
    (o ≡ None → StopsAt left ≡ z → P) → ((move : Move) → o ≡ Some move → move.over ≡ true → Exceeds left ≡ z → P) → ((move : Move) → o ≡ Some move → move.over ≡ false → next move.count move.stack ≡ z → P) → P
on_move {P} o next left z e stops exceeds goes = elim o as (λ q. o ≡ q → go_on q next left ≡ z → P) [
  | None ↦ λ i e. stops i e
  | Some move ↦ λ i e. choose move.over _ _ _ e (λ v e. exceeds move i v e) (λ v e. goes move i v e)
] refl e

-- ---- what is left

-- it stops with no more tokens left than there were
pub stops_within : (ls : List Lexeme) (n left : ℕ) (k : List Syntax) → run ls n k ≡ StopsAt left → left ≤ length ls
stops_within [] n left k e = choose (is_done k) _ _ _ e (λ d e. absurd cc) (λ d e. let same : left ≡ 0 = cc in omega (arith, same))
stops_within (l ∷ ls) n left k e = on_move (step k l.token n) (run ls) (suc (length ls)) _ e
    (λ i e. let same : left ≡ suc (length ls) = cc in omega (arith, same))
    (λ move i v e. absurd cc)
    (λ move i v e. let le = stops_within ls move.count left move.stack e in omega (arith, le))

-- ..and so it does over a limit
pub exceeds_within : (ls : List Lexeme) (n left : ℕ) (k : List Syntax) → run ls n k ≡ Exceeds left → left ≤ length ls
exceeds_within [] n left k e = choose (is_done k) _ _ _ e (λ d e. absurd cc) (λ d e. absurd cc)
exceeds_within (l ∷ ls) n left k e = on_move (step k l.token n) (run ls) (suc (length ls)) _ e
    (λ i e. absurd cc)
    (λ move i v e. let same : left ≡ suc (length ls) = cc in omega (arith, same))
    (λ move i v e. let le = exceeds_within ls move.count left move.stack e in omega (arith, le))

-- over a limit, the token that goes over it is left
pub exceeds_some : (ls : List Lexeme) (n left : ℕ) (k : List Syntax) → run ls n k ≡ Exceeds left → 0 < left
exceeds_some [] n left k e = choose (is_done k) _ _ _ e (λ d e. absurd cc) (λ d e. absurd cc)
exceeds_some (l ∷ ls) n left k e = on_move (step k l.token n) (run ls) (suc (length ls)) _ e
    (λ i e. absurd cc)
    (λ move i v e. let same : left ≡ suc (length ls) = cc in omega (arith, same))
    (λ move i v e. exceeds_some ls move.count left move.stack e)

-- ---- the machine behind some tokens

-- the step over a token of some text is the one that the text makes
stepped : (k : List Syntax) (t : Token) (n : ℕ) (over : Bool) (ts : List Marked) (move : Move) → Good k → step k t n ≡ Some move → Lang k n (record { token = t; over = over } ∷ ts) → (move.over ≡ over) × Lang move.stack move.count ts
stepped k t n over ts move good e l =
    let moves = steps k n (record { token = t; over = over }) ts good l in
    let is : step k t n ≡ Some (record { over = over; count = moves.count; stack = moves.stack }) = moves.is in
    let same : record { over = over; count = moves.count; stack = moves.stack } ≡ move = cc in
    subst (λ (move : Move). (move.over ≡ over) × Lang move.stack move.count ts) same (refl, moves.leads)

-- what has to come behind the tokens is what can follow them
record Leaves (before : List Lexeme) (n : ℕ) (k : List Syntax) (count : ℕ) (stack : List Syntax) : Type 0 where
  back : (ts : List Marked) → Lang stack count ts → Lang k n (within before ++ ts)
  forth : Good k → (ts : List Marked) → Lang k n (within before ++ ts) → Lang stack count ts
  good : Good k → Good stack

-- the machine behind the tokens
record Behind (before after : List Lexeme) (n : ℕ) (k : List Syntax) (z : Progress) : Type 0 where
  count : ℕ
  stack : List Syntax
  is : run after count stack ≡ z
  leaves : Leaves before n k count stack

-- a step before the rest
one_more : (l : Lexeme) (before : List Lexeme) (n : ℕ) (k : List Syntax) (move : Move) (count : ℕ) (stack : List Syntax) → step k l.token n ≡ Some move → move.over ≡ false → Leaves before move.count move.stack count stack → Leaves (l ∷ before) n k count stack
one_more l before n k move count stack i v leaves = record {
  back = λ ts x. subst (λ over. Lang k n (record { token = l.token; over = over } ∷ (within before ++ ts))) v (back k l.token n move (within before ++ ts) i (leaves.back ts x));
  forth = λ good ts x. leaves.forth (kept k l.token n move i good) ts (stepped k l.token n false (within before ++ ts) move good i x).1;
  good = λ good. leaves.good (kept k l.token n move i good);
}

-- no more is left than so many
abbrev LeavesIn : Progress → ℕ → Type 0
LeavesIn Accepts n = Unit {0}
LeavesIn (StopsAt left) n = left ≤ n
LeavesIn (Exceeds left) n = left ≤ n

-- what is behind the tokens is less than all
too_many : (before after : List Lexeme) → suc (length (before ++ after)) ≤ length after → ⊥
too_many before after le = omega (arith, length-append before after)

-- what is left is behind the tokens, so the machine goes over them
behind : (before after : List Lexeme) (n : ℕ) (k : List Syntax) (z : Progress) → run (before ++ after) n k ≡ z → LeavesIn z (length after) → Behind before after n k z
behind [] after n k z e le = record { count = n; stack = k; is = e; leaves = record { back = λ ts x. x; forth = λ good ts x. x; good = λ good. good } }
behind (l ∷ before) after n k z e le = on_move (step k l.token n) (run (before ++ after)) (suc (length (before ++ after))) z e
    (λ i e. absurd (too_many before after (subst (λ z. LeavesIn z (length after)) (sym e) le)))
    (λ move i v e. absurd (too_many before after (subst (λ z. LeavesIn z (length after)) (sym e) le)))
    (λ move i v e.
    let b = behind before after move.count move.stack z e le in
    record { count = b.count; stack = b.stack; is = b.is; leaves = one_more l before n k move b.count b.stack i v b.leaves })

-- ---- a whole text

-- a specification is a text of the first stack
to_stack : (m : ℕ) (ts : List Marked) → Derives rule_of spec 0 m ts → Lang (spec ∷ []) 0 ts
to_stack m ts d = (m, ts, [], sym (append-nil ts), d, refl)

-- a whole specification
record Whole (ts : List Marked) : Type 0 where
  count : ℕ
  derived : Derives rule_of spec 0 count ts

-- a text of the first stack is a specification
from_stack : (ts : List Marked) → Lang (spec ∷ []) 0 ts → Whole ts
from_stack ts (m, a, b, e, d, l) = record { count = m; derived = subst (Derives rule_of spec 0 m) (sym (e ∙ ap (λ c. a ++ c) l ∙ append-nil a)) d }

-- a text of the stack within the limits is accepted
complete : (ls : List Lexeme) (n : ℕ) (k : List Syntax) → Good k → Lang k n (within ls) → run ls n k ≡ Accepts
complete [] n k good l = ap (λ b. if b then Accepts else StopsAt 0) (done_complete k n l)
complete (x ∷ ls) n k good l =
    let moves = steps k n (record { token = x.token; over = false }) (within ls) good l in
    let next : Move = record { over = false; count = moves.count; stack = moves.stack } in
    ap (λ o. go_on o (run ls) (suc (length ls))) moves.is ∙ complete ls moves.count moves.stack (kept k x.token n next moves.is good) moves.leads

-- a specification is accepted
pub sentence_accepted : (ls : List Lexeme) → IsSentence ls → run ls 0 (spec ∷ []) ≡ Accepts
sentence_accepted ls s = complete ls 0 (spec ∷ []) good_spec (to_stack s.count (within ls) s.derived)

-- what is accepted is a specification
pub accepted : (ls : List Lexeme) → run ls 0 (spec ∷ []) ≡ Accepts → IsSentence ls
accepted ls e =
    let b = behind ls [] 0 (spec ∷ []) Accepts (ap (λ w. run w 0 (spec ∷ [])) (append-nil ls) ∙ e) tt in
    let done : is_done b.stack ≡ true = choose (is_done b.stack) _ _ _ b.is (λ d e. d) (λ d e. absurd cc) in
    let whole = from_stack (within ls) (subst (Lang (spec ∷ []) 0) (append-nil (within ls)) (b.leaves.back [] (done_sound b.stack b.count done))) in
    record { count = whole.count; derived = whole.derived }

-- a specification begins one
pub sentence_front : (ls : List Lexeme) → IsSentence ls → IsFront ls
sentence_front ls s = record { count = s.count; more = []; derived = subst (Derives rule_of spec 0 s.count) (sym (append-nil (within ls))) s.derived }

-- ---- where it stops

-- tokens that the machine goes over begin some specification
front : (before after : List Lexeme) (z : Progress) → Behind before after 0 (spec ∷ []) z → IsFront before
front before after z b =
    let end = ending b.stack b.count in
    let whole = from_stack (within before ++ end.0) (b.leaves.back end.0 end.1) in
    record { count = whole.count; more = end.0; derived = whole.derived }

-- the tokens before the one at which it stops begin some specification
pub stopped_front : (before after : List Lexeme) → run (before ++ after) 0 (spec ∷ []) ≡ StopsAt (length after) → IsFront before
stopped_front before after e = front before after _ (behind before after 0 (spec ∷ []) (StopsAt (length after)) e (omega arith))

-- ..and so do those before one that goes over a limit
pub exceeds_front : (before after : List Lexeme) → run (before ++ after) 0 (spec ∷ []) ≡ Exceeds (length after) → IsFront before
exceeds_front before after e = front before after _ (behind before after 0 (spec ∷ []) (Exceeds (length after)) e (omega arith))

-- the machine behind the tokens can go on as the text does
led : (before after : List Lexeme) (t : Token) (over : Bool) (z : Progress) (b : Behind before after 0 (spec ∷ []) z) (on : LeadsOn before t over) → Lang b.stack b.count (record { token = t; over = over } ∷ on.more)
led before after t over z b on = b.leaves.forth good_spec (record { token = t; over = over } ∷ on.more) (to_stack on.count _ on.derived)

-- no specification goes on with the token at which it stops
pub stopped_none : (before : List Lexeme) (found : Lexeme) (after : List Lexeme) → run (before ++ found ∷ after) 0 (spec ∷ []) ≡ StopsAt (suc (length after)) → (over : Bool) → LeadsOn before found.token over → ⊥
stopped_none before found after e over on =
    let b = behind before (found ∷ after) 0 (spec ∷ []) (StopsAt (suc (length after))) e (omega arith) in
    let moves = steps b.stack b.count (record { token = found.token; over = over }) on.more (b.leaves.good good_spec) (led before (found ∷ after) found.token over _ b on) in
    on_move (step b.stack found.token b.count) (run after) (suc (length after)) _ b.is
    (λ i e. let is = moves.is in cc)
    (λ move i v e. cc)
    (λ move i v e. let le = stops_within after move.count (suc (length after)) move.stack e in omega (arith, le))

-- some goes on with the token that goes over a limit
pub exceeds_leads : (before : List Lexeme) (found : Lexeme) (after : List Lexeme) → run (before ++ found ∷ after) 0 (spec ∷ []) ≡ Exceeds (suc (length after)) → LeadsOn before found.token true
exceeds_leads before found after e =
    let b = behind before (found ∷ after) 0 (spec ∷ []) (Exceeds (suc (length after))) e (omega arith) in
    on_move (step b.stack found.token b.count) (run after) (suc (length after)) _ b.is
    (λ i e. absurd cc)
    (λ move i v e.
    let end = ending move.stack move.count in
    let next = subst (λ over. Lang b.stack b.count (record { token = found.token; over = over } ∷ end.0)) v (back b.stack found.token b.count move end.0 i end.1) in
    let whole = from_stack _ (b.leaves.back (record { token = found.token; over = true } ∷ end.0) next) in
    record { count = whole.count; more = end.0; derived = whole.derived })
    (λ move i v e. let le = exceeds_within after move.count (suc (length after)) move.stack e in absurd (omega (arith, le)))

-- ..but none within the limits
pub exceeds_only : (before : List Lexeme) (found : Lexeme) (after : List Lexeme) → run (before ++ found ∷ after) 0 (spec ∷ []) ≡ Exceeds (suc (length after)) → LeadsOn before found.token false → ⊥
exceeds_only before found after e on =
    let b = behind before (found ∷ after) 0 (spec ∷ []) (Exceeds (suc (length after))) e (omega arith) in
    on_move (step b.stack found.token b.count) (run after) (suc (length after)) _ b.is
    (λ i e. cc)
    (λ move i v e.
    let same = (stepped b.stack found.token b.count false on.more move (b.leaves.good good_spec) i (led before (found ∷ after) found.token false _ b on)).0 in
    let clash : true ≡ false = sym v ∙ same in cc)
    (λ move i v e. let le = exceeds_within after move.count (suc (length after)) move.stack e in omega (arith, le))
