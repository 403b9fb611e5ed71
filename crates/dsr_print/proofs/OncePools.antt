-- The tokens of a pool, a set, a relation and a supply determine it but for places.
use Rattle.std.proofs.Common.{◌≡◌, List, ◌∷◌, Bool, true, false, refl, ap}
use Rattle.dsr_tree.specs.declared.tokens.Keyword.TheVariants as keyword
use Rattle.dsr_tree.specs.declared.tokens.Sign.TheVariants as sign
use Rattle.dsr_tree.specs.declared.tokens.Token.{Token}
use Rattle.dsr_tree.specs.declared.tokens.Token.TheVariants as token
use Rattle.dsr_tree.specs.Trees.{PoolTree}
use Rattle.dsr_tree.specs.declared.tree.Target.TheVariants as targets
use Rattle.dsr_tree.specs.declared.tree.View.{View}
use Rattle.dsr_tree.specs.declared.tree.View.TheVariants as views
use Rattle.dsr_syntax_theory.specs.Bare.{bare_name, bare_expr, bare_pool, bare_view, bare_set, bare_target, bare_relation, bare_fresh}
use Rattle.dsr_syntax_theory.specs.TreeTexts.{maybe_text, expr_text, brackets_text, behind_text, pool_text, view_text, set_text, target_text, relation_text, more_name_text, fresh_text}
use Rattle.dsr_print.proofs.After.{after, begins, Once, OnceBefore, maybe_once, maybe_once_open, in_turn_once, either, not_first, rest, past_four}
use Rattle.dsr_print.proofs.OnceAtoms.{var_once}
use Rattle.dsr_print.proofs.OnceExprs.{name_once, is_operator, expr_once, expr_then}
use Rattle.dsr_print.proofs.OnceStructures.{brackets_once}

abbrev is_slot : Token → Bool
is_slot (token.Keyword keyword.Slot) = true
is_slot _ = false

slot_once : OnceBefore (behind_text keyword.Slot) bare_expr is_operator
slot_once a b r s f g e = expr_once a b r s f g (rest e)

-- what follows each keyword in front of an expression of a pool
abbrev from_none : PoolTree → List Token → List Token
from_none p r = after (expr_text p.none) (token.Sign sign.Semicolon ∷ r)

abbrev from_step : PoolTree → List Token → List Token
from_step p r = after (expr_text p.step) (token.Keyword keyword.None ∷ from_none p r)

abbrev from_code : PoolTree → List Token → List Token
from_code p r = after (expr_text p.code) (token.Keyword keyword.Step ∷ from_step p r)

abbrev from_start : PoolTree → List Token → List Token
from_start p r = after (expr_text p.start) (token.Keyword keyword.Codes ∷ from_code p r)

abbrev from_count : PoolTree → List Token → List Token
from_count p r = after (brackets_text p.count) (after (maybe_text (behind_text keyword.Slot) p.slot) (token.Keyword keyword.At ∷ from_start p r))

pub pool_once : Once pool_text bare_pool
pool_once a b r s e =
    let n : a.name.name ≡ b.name.name = cc in
    let m : a.structure.name ≡ b.structure.name = cc in
    let c = brackets_once a.count b.count _ _ (past_four (from_count a r) (from_count b s) e) in
    let o = maybe_once_open (behind_text keyword.Slot) bare_expr is_operator (either is_operator is_slot) slot_once (not_first is_operator is_slot) (λ z t. refl) a.slot b.slot
    (token.Keyword keyword.At ∷ from_start a r) (token.Keyword keyword.At ∷ from_start b s) refl refl c.1 in
    let p = expr_then (token.Keyword keyword.Codes) refl a.start b.start (from_code a r) (from_code b s) (rest {r = from_start a r} {s = from_start b s} o.1) in
    let q = expr_then (token.Keyword keyword.Step) refl a.code b.code (from_step a r) (from_step b s) p.1 in
    let k = expr_then (token.Keyword keyword.None) refl a.step b.step (from_none a r) (from_none b s) q.1 in
    let h = expr_then (token.Sign sign.Semicolon) refl a.none b.none r s k.1 in
    (cc, h.1)

abbrev is_view : Token → Bool
is_view (token.Keyword keyword.As) = true
is_view (token.Keyword keyword.Except) = true
is_view _ = false

view_once : Once view_text bare_view
view_once (views.As p a) (views.As q b) r s e = let d = name_once a b r s (rest e) in (ap (views.As 0) d.0, d.1)
view_once (views.Except p a) (views.Except q b) r s e = let d = name_once a b r s (rest e) in (ap (views.Except 0) d.0, d.1)
view_once (views.As p a) (views.Except q b) r s e = absurd cc
view_once (views.Except p a) (views.As q b) r s e = absurd cc

view_opens : (x : View) (r : List Token) → begins is_view (after (view_text x) r) ≡ true
view_opens (views.As p a) r = refl
view_opens (views.Except p a) r = refl

pub set_once : Once set_text bare_set
set_once a b r s e =
    let n : a.name.name ≡ b.name.name = cc in
    let m : a.pool.name ≡ b.pool.name = cc in
    let p = maybe_once view_text bare_view is_view view_once view_opens a.view b.view (token.Sign sign.Semicolon ∷ r) (token.Sign sign.Semicolon ∷ s) refl refl (rest (rest (rest (rest e)))) in
    (cc, rest p.1)

target_once : Once target_text bare_target
target_once (targets.Number p) (targets.Number q) r s e = (refl, rest e)
target_once (targets.Pool a) (targets.Pool b) r s e = let d = name_once a b r s e in (ap targets.Pool d.0, d.1)
target_once (targets.Number p) (targets.Pool b) r s e = absurd cc
target_once (targets.Pool a) (targets.Number q) r s e = absurd cc

pub relation_once : Once relation_text bare_relation
relation_once a b r s e =
    let n : a.name.name ≡ b.name.name = cc in
    let p = var_once a.source b.source _ _ (rest (rest (rest e))) in
    let q = target_once a.target b.target _ _ (rest p.1) in
    (cc, rest q.1)

abbrev pub is_comma : Token → Bool
is_comma (token.Sign sign.Comma) = true
is_comma _ = false

more_name_once : Once more_name_text bare_name
more_name_once a b r s e = name_once a b r s (rest e)

pub fresh_once : Once fresh_text bare_fresh
fresh_once a b r s e =
    let n : a.pool.name ≡ b.pool.name = cc in
    let m : a.first.name ≡ b.first.name = cc in
    let p = in_turn_once more_name_text bare_name is_comma more_name_once (λ z t. refl) a.rest b.rest (token.Sign sign.Semicolon ∷ r) (token.Sign sign.Semicolon ∷ s) refl refl (rest (rest (rest (rest e)))) in
    (cc, rest p.1)
