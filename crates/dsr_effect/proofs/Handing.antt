-- Flows hand on tags until no row grows.
use Rattle.std.proofs.Common.{◌≡◌, ◌<◌, ◌≤◌, ◌+◌, ◌&&◌, ◌||◌, ◌⊎◌, ◌↔◌, not, cond, ℕ, zero, suc, Bool, true, false, List, [], ◌∷◌, length, take, take_all, get_or, set, inl, inr, All, IsTrue, MatchBool, refl, sym, ap, subst, ◌∙◌, arith, if◌then◌else◌}
use Rattle.std.proofs.Math.Bool.{beq, or-false}
use Rattle.std.proofs.lemmas.List.{set-get_or}
use Rattle.std.proofs.lemmas.List.Elements.{All-head, All-tail, All-more}
use Rattle.std.proofs.lemmas.List.Sums.{sum_by-set}
use Rattle.std.proofs.lemmas.Bool.{and_parts, and_from}
use Rattle.dsr_effect.specs.Rows.{IsBetween, IsHandedOn, has_row_tag, is_open, is_some, joined, no_tags, only, open_tags, passed_tags, tag_after}
use Rattle.dsr_effect.specs.Rows.IsHandedOn.{begins, goes}
use Rattle.dsr_effect.specs.Settling.{AreHandedOn, AreKept, IsDone, count_missing, handed_on, missing, row_at}
use Rattle.dsr_effect.specs.declared.flows.Flow.{Flow}
use Rattle.dsr_meaning.specs.Counting.{IsIn}
use Rattle.dsr_update_theory.specs.Effects.{has_tag}
use Rattle.dsr_update_theory.specs.declared.effects.Tag.{Tag}
use Rattle.dsr_update_theory.specs.declared.effects.Tag.TheVariants.{Written, Entry, Fresh, Any}
use Rattle.dsr_update_theory.specs.declared.effects.Tags.{Tags}
use Rattle.dsr_meaning.proofs.Items.{of_all}
use Rattle.dsr_effect.proofs.ListItems.{at_in}

-- ---- truth

either : (a b : Bool) → a || b ≡ true → (a ≡ true) ⊎ (b ≡ true)
either true b e = inl refl
either false b e = inr e

left_true : (a b : Bool) → a ≡ true → a || b ≡ true
left_true true b e = refl
left_true false b e = absurd cc

right_true : (a b : Bool) → b ≡ true → a || b ≡ true
right_true true b e = refl
right_true false b e = e

-- ---- a tag of what is joined

joined_from : (a b : Tags) (tag : Tag) → has_tag tag (joined a b) ≡ true → (has_tag tag a ≡ true) ⊎ (has_tag tag b ≡ true)
joined_from a b Written h = either _ _ h
joined_from a b Entry h = either _ _ h
joined_from a b Fresh h = either _ _ h
joined_from a b Any h = either _ _ h

joined_left : (a b : Tags) (tag : Tag) → has_tag tag a ≡ true → has_tag tag (joined a b) ≡ true
joined_left a b Written h = left_true _ _ h
joined_left a b Entry h = left_true _ _ h
joined_left a b Fresh h = left_true _ _ h
joined_left a b Any h = left_true _ _ h

joined_right : (a b : Tags) (tag : Tag) → has_tag tag b ≡ true → has_tag tag (joined a b) ≡ true
joined_right a b Written h = right_true _ _ h
joined_right a b Entry h = right_true _ _ h
joined_right a b Fresh h = right_true _ _ h
joined_right a b Any h = right_true _ _ h

-- ---- one row grows

has_row : (rows : List Tags) (row : ℕ) (tag : Tag) → has_row_tag rows row tag ≡ has_tag tag (row_at rows row)
has_row [] row Written = refl
has_row [] row Entry = refl
has_row [] row Fresh = refl
has_row [] row Any = refl
has_row (r ∷ rows) zero tag = refl
has_row (r ∷ rows) (suc row) tag = has_row rows row tag

abbrev grown : List Tags → ℕ → Tags → List Tags
grown rows k more = set rows k (joined (row_at rows k) more)

still : (rows : List Tags) (k : ℕ) (more : Tags) (row : ℕ) (tag : Tag) → has_row_tag rows row tag ≡ true → has_row_tag (grown rows k more) row tag ≡ true
still [] k more row tag h = h
still (r ∷ rows) zero more zero tag h = joined_left r more tag h
still (r ∷ rows) zero more (suc row) tag h = h
still (r ∷ rows) (suc k) more zero tag h = h
still (r ∷ rows) (suc k) more (suc row) tag h = still rows k more row tag h

added : (rows : List Tags) (k : ℕ) (more : Tags) (tag : Tag) → k < length rows → has_tag tag more ≡ true → has_row_tag (grown rows k more) k tag ≡ true
added [] k more tag less h = absurd (omega (arith, less))
added (r ∷ rows) zero more tag less h = joined_right r more tag h
added (r ∷ rows) (suc k) more tag less h = added rows k more tag (omega (arith, less)) h

from : (rows : List Tags) (k : ℕ) (more : Tags) (row : ℕ) (tag : Tag) → has_row_tag (grown rows k more) row tag ≡ true → (has_row_tag rows row tag ≡ true) ⊎ ((row ≡ k) × (has_tag tag more ≡ true))
from [] k more row tag h = inl h
from (r ∷ rows) zero more zero tag h = elim (joined_from r more tag h) [
  | inl old ↦ inl old
  | inr new ↦ inr (refl, new)
]
from (r ∷ rows) zero more (suc row) tag h = inl h
from (r ∷ rows) (suc k) more zero tag h = inl h
from (r ∷ rows) (suc k) more (suc row) tag h = elim (from rows k more row tag h) [
  | inl old ↦ inl old
  | inr new ↦ inr (ap suc new.0, new.1)
]

-- ---- what a flow hands on

open_has : (flow : Flow) (tags : Tags) (tag : Tag) → has_tag tag tags ≡ true → is_open flow tag ≡ true → has_tag tag (open_tags flow tags) ≡ true
open_has flow tags Written h open_is = and_from _ _ h open_is
open_has flow tags Entry h open_is = h
open_has flow tags Fresh h open_is = and_from _ _ h open_is
open_has flow tags Any h open_is = h

open_from : (flow : Flow) (tags : Tags) (tag : Tag) → has_tag tag (open_tags flow tags) ≡ true → (has_tag tag tags ≡ true) × (is_open flow tag ≡ true)
open_from flow tags Written h = and_parts _ _ h
open_from flow tags Entry h = (h, refl)
open_from flow tags Fresh h = and_parts _ _ h
open_from flow tags Any h = (h, refl)

has_some : (tags : Tags) (tag : Tag) → has_tag tag tags ≡ true → is_some tags ≡ true
has_some tags Written h = left_true (tags.written || tags.entry || tags.fresh) tags.any (left_true (tags.written || tags.entry) tags.fresh (left_true tags.written tags.entry h))
has_some tags Entry h = left_true (tags.written || tags.entry || tags.fresh) tags.any (left_true (tags.written || tags.entry) tags.fresh (right_true tags.written tags.entry h))
has_some tags Fresh h = left_true (tags.written || tags.entry || tags.fresh) tags.any (right_true (tags.written || tags.entry) tags.fresh h)
has_some tags Any h = right_true (tags.written || tags.entry || tags.fresh) tags.any h

some_has : (tags : Tags) → is_some tags ≡ true → (tag : Tag) × (has_tag tag tags ≡ true)
some_has tags h = elim (either (tags.written || tags.entry || tags.fresh) tags.any h) [
  | inl h ↦ (elim (either (tags.written || tags.entry) tags.fresh h) [
    | inl h ↦ (elim (either tags.written tags.entry h) [
      | inl w ↦ (Written, w)
      | inr e ↦ (Entry, e)
    ])
    | inr f ↦ (Fresh, f)
  ])
  | inr a ↦ (Any, a)
]

passes : (flow : Flow) (tags : Tags) (tag : Tag) → has_tag tag tags ≡ true → is_open flow tag ≡ true → has_tag (tag_after flow tag) (passed_tags flow tags) ≡ true
passes flow tags tag h open_is =
    let goes_on = open_has flow tags tag h open_is in
    elim flow.keeps as (λ k. has_tag (if k then tag else Any) (if k then open_tags flow tags else if is_some (open_tags flow tags) then only Any else no_tags) ≡ true) [
      | true ↦ goes_on
      | false ↦ subst (λ (b : Bool). has_tag Any (if b then only Any else no_tags) ≡ true) (sym (has_some (open_tags flow tags) tag goes_on)) refl
    ]

-- the tag comes of one that is handed on
record Comes (flow : Flow) (tags : Tags) (keeps : Bool) (tag : Tag) : Type 0 where
  source : Tag
  had : has_tag source tags ≡ true
  open_is : is_open flow source ≡ true
  after : (if keeps then source else Any) ≡ tag

is_any : (tag : Tag) → has_tag tag (only Any) ≡ true → Any ≡ tag
is_any Written h = absurd cc
is_any Entry h = absurd cc
is_any Fresh h = absurd cc
is_any Any h = refl

is_none : (tag : Tag) → has_tag tag no_tags ≡ true → ⊥
is_none Written h = absurd cc
is_none Entry h = absurd cc
is_none Fresh h = absurd cc
is_none Any h = absurd cc

comes_any : (flow : Flow) (tags : Tags) (tag : Tag) (b : Bool) → is_some (open_tags flow tags) ≡ b → has_tag tag (if b then only Any else no_tags) ≡ true → Comes flow tags false tag
comes_any flow tags tag true some h =
    let first = some_has (open_tags flow tags) some in
    let parts = open_from flow tags first.0 first.1 in
    record { source = first.0; had = parts.0; open_is = parts.1; after = is_any tag h }
comes_any flow tags tag false none h = absurd (is_none tag h)

comes : (flow : Flow) (tags : Tags) (tag : Tag) → has_tag tag (passed_tags flow tags) ≡ true → Comes flow tags flow.keeps tag
comes flow tags tag h =
    elim flow.keeps as (λ k. has_tag tag (if k then open_tags flow tags else if is_some (open_tags flow tags) then only Any else no_tags) ≡ true → Comes flow tags k tag) [
      | true ↦ λ g. let parts = open_from flow tags tag g in record { source = tag; had = parts.0; open_is = parts.1; after = refl }
      | false ↦ λ g. comes_any flow tags tag (is_some (open_tags flow tags)) refl g
    ] h

-- ---- along one flow

handed_still : (flow : Flow) (rows : List Tags) → AreKept rows (handed_on flow rows)
handed_still flow rows = λ row tag h. still rows flow.to (passed_tags flow (row_at rows flow.from)) row tag h

handed_sound : (flows : List Flow) (start rows : List Tags) (flow : Flow) → IsIn flow flows → AreHandedOn flows start rows → AreHandedOn flows start (handed_on flow rows)
handed_sound flows start rows flow among sound = λ row tag h.
    elim (from rows flow.to (passed_tags flow (row_at rows flow.from)) row tag h) [
      | inl old ↦ sound row tag old
      | inr new ↦
          let c = comes flow (row_at rows flow.from) tag new.1 in
          let here = goes flow c.source among (sound flow.from c.source (has_row rows flow.from c.source ∙ c.had)) c.open_is in
          subst (λ r. IsHandedOn flows start r tag) (sym new.0) (subst (IsHandedOn flows start flow.to) c.after here)
    ]

-- a flow that adds nothing has handed on what it may
handed_has : (rows : List Tags) (flow : Flow) (tag : Tag) → flow.to < length rows → IsDone rows flow → has_row_tag rows flow.from tag ≡ true → is_open flow tag ≡ true → has_row_tag rows flow.to (tag_after flow tag) ≡ true
handed_has rows flow tag less done h open_is =
    subst (λ rs. has_row_tag rs flow.to (tag_after flow tag) ≡ true) done
    (added rows flow.to (passed_tags flow (row_at rows flow.from)) (tag_after flow tag) less (passes flow (row_at rows flow.from) tag (sym (has_row rows flow.from tag) ∙ h) open_is))

-- ---- how many tags are missing

bit : (a b : Bool) → cond (a || b) 0 1 + cond (beq (a || b) a) 0 1 ≡ cond a 0 1
bit true true = omega arith
bit true false = omega arith
bit false true = omega arith
bit false false = omega arith

bit_same : (a b : Bool) → beq (a || b) a ≡ true → a || b ≡ a
bit_same true b e = refl
bit_same false true e = absurd cc
bit_same false false e = refl

-- the tags are the same as those
abbrev are_same : Tags → Tags → Bool
are_same a b = beq a.written b.written && (beq a.entry b.entry && (beq a.fresh b.fresh && beq a.any b.any))

joined_same : (a b : Tags) → are_same (joined a b) a ≡ true → joined a b ≡ a
joined_same a b e =
    let w = and_parts (beq (a.written || b.written) a.written) _ e in
    let n = and_parts (beq (a.entry || b.entry) a.entry) _ w.1 in
    let f = and_parts (beq (a.fresh || b.fresh) a.fresh) _ n.1 in
    rw (bit_same a.written b.written w.0, bit_same a.entry b.entry n.0, bit_same a.fresh b.fresh f.0, bit_same a.any b.any f.1) refl

some_differs : (p q r s : Bool) → p && (q && (r && s)) ≡ false → 1 ≤ cond p 0 1 + cond q 0 1 + cond r 0 1 + cond s 0 1
some_differs true true true true e = absurd cc
some_differs true true true false e = omega arith
some_differs true true false s e = omega arith
some_differs true false r s e = omega arith
some_differs false q r s e = omega arith

joined_fewer : (a b : Tags) → are_same (joined a b) a ≡ false → count_missing (joined a b) < count_missing a
joined_fewer a b e =
    let some = some_differs (beq (a.written || b.written) a.written) (beq (a.entry || b.entry) a.entry) (beq (a.fresh || b.fresh) a.fresh) (beq (a.any || b.any) a.any) e in
    omega (arith, some, bit a.written b.written, bit a.entry b.entry, bit a.fresh b.fresh, bit a.any b.any)

progress_of : (rows : List Tags) (k : ℕ) (more : Tags) → k < length rows → (same : Bool) → are_same (joined (row_at rows k) more) (row_at rows k) ≡ same
    → MatchBool (not same) (missing (set rows k (joined (row_at rows k) more)) < missing rows) (set rows k (joined (row_at rows k) more) ≡ rows)
progress_of rows k more less true e = ap (set rows k) (joined_same (row_at rows k) more e) ∙ set-get_or rows k no_tags
progress_of rows k more less false e =
    let fewer = joined_fewer (row_at rows k) more e in
    let total = sum_by-set count_missing rows k (joined (row_at rows k) more) no_tags less in
    omega (arith, fewer, total)

-- what comparing the row with what it was tells
pub hand_on_progress : (rows : List Tags) (k : ℕ) (more new : Tags) (grew : Bool) → k < length rows → new ≡ joined (row_at rows k) more
    → grew ≡ not (beq new.written (row_at rows k).written && (beq new.entry (row_at rows k).entry && (beq new.fresh (row_at rows k).fresh && beq new.any (row_at rows k).any)))
    → MatchBool grew (missing (set rows k new) < missing rows) (set rows k new ≡ rows)
hand_on_progress rows k more new grew less is e =
    subst (λ b. MatchBool b (missing (set rows k new) < missing rows) (set rows k new ≡ rows)) (sym e)
    (subst (λ t. MatchBool (not (are_same t (row_at rows k))) (missing (set rows k t) < missing rows) (set rows k t ≡ rows)) (sym is) (progress_of rows k more less _ refl))

-- ---- along a flow from a row without tags

no_tag_is : (tags : Tags) → is_some tags ≡ false → tags ≡ no_tags
no_tag_is tags none = rw (off Written, off Entry, off Fresh, off Any) refl where
  off : (tag : Tag) → has_tag tag tags ≡ false
  off tag = elim (has_tag tag tags) as (λ b. has_tag tag tags ≡ b → b ≡ false) [
    | true ↦ λ h. sym (has_some tags tag h) ∙ none
    | false ↦ λ h. refl
  ] refl

nothing_passed : (flow : Flow) → passed_tags flow no_tags ≡ no_tags
nothing_passed flow = elim flow.keeps as (λ k. (if k then no_tags else if false then only Any else no_tags) ≡ no_tags) [ true ↦ refl | false ↦ refl ]

nothing_joined : (tags : Tags) → joined tags no_tags ≡ tags
nothing_joined tags = rw (or-false tags.written, or-false tags.entry, or-false tags.fresh, or-false tags.any) refl

-- nothing changes
pub nothing_handed : (flow : Flow) (rows : List Tags) → is_some (row_at rows flow.from) ≡ false → rows ≡ handed_on flow rows
nothing_handed flow rows none =
    sym (
    ap (λ tags. set rows flow.to (joined (row_at rows flow.to) (passed_tags flow tags))) (no_tag_is (row_at rows flow.from) none)
    ∙ ap (λ tags. set rows flow.to (joined (row_at rows flow.to) tags)) (nothing_passed flow)
    ∙ ap (set rows flow.to) (nothing_joined (row_at rows flow.to))
    ∙ set-get_or rows flow.to no_tags)

-- ---- along all flows

-- the flows so far were gone along: some row grew, or none did and these flows add nothing
pub record IsHanding (flows : List Flow) (start rows : List Tags) (grew : Bool) (i : ℕ) : Type 0 where
  pub sound : AreHandedOn flows start rows
  pub kept : AreKept start rows
  pub progress : MatchBool grew (missing rows < missing start) ((rows ≡ start) × All (IsDone rows) (take i flows))

pub handing_begins : (flows : List Flow) (start : List Tags) → IsHanding flows start start false 0
handing_begins flows start = record {
  sound = λ row tag h. begins row tag h;
  kept = λ row tag h. h;
  progress = (refl, λ k d less. absurd (omega (arith, less)));
}

module _ (flows : List Flow) (start rows new : List Tags) (grew : Bool) (i : ℕ) (d : Flow) (less : i < length flows) (is : new ≡ handed_on (get_or flows i d) rows) (far : IsHanding flows start rows grew i) where
  sound_more : AreHandedOn flows start new
  sound_more = subst (AreHandedOn flows start) (sym is) (handed_sound flows start rows (get_or flows i d) (at_in flows i d less) far.sound)

  kept_more : AreKept start new
  kept_more = λ row tag h. subst (λ rs. has_row_tag rs row tag ≡ true) (sym is) (handed_still (get_or flows i d) rows row tag (far.kept row tag h))

  pub handing_grew : missing new < missing rows → IsHanding flows start new true (i + 1)
  handing_grew fewer = record {
    sound = sound_more;
    kept = kept_more;
    progress = elim grew as (λ b. MatchBool b (missing rows < missing start) ((rows ≡ start) × All (IsDone rows) (take i flows)) → missing new < missing start) [
      | true ↦ λ p. omega (arith, p, fewer)
      | false ↦ λ p. omega (arith, ap missing p.0, fewer)
    ] far.progress;
  }

  pub handing_same : new ≡ rows → IsHanding flows start new grew (i + 1)
  handing_same same = record {
    sound = sound_more;
    kept = kept_more;
    progress = elim grew as (λ b. MatchBool b (missing rows < missing start) ((rows ≡ start) × All (IsDone rows) (take i flows)) → MatchBool b (missing new < missing start) ((new ≡ start) × All (IsDone new) (take (i + 1) flows))) [
      | true ↦ λ p. subst (λ rs. missing rs < missing start) (sym same) p
      | false ↦ λ p. (
        same ∙ p.0,
        subst (λ rs. All (IsDone rs) (take (i + 1) flows)) (sym same) (All-more (IsDone rows) flows i d less p.1 (sym is ∙ same)),
      )
    ] far.progress;
  }

pub handing_over : (flows : List Flow) (start rows : List Tags) (grew : Bool) (i : ℕ) → length flows ≤ i → IsHanding flows start rows grew i → MatchBool grew (missing rows < missing start) (All (IsDone rows) flows)
handing_over flows start rows true i le far = far.progress
handing_over flows start rows false i le far = subst (λ fs. All (IsDone rows) fs) (take_all i flows le) far.progress.1

-- ---- until no row grows

-- what is handed on from rows that were handed on is so from the first ones
again : (flows : List Flow) (start rows : List Tags) → AreHandedOn flows start rows → {row : ℕ} {tag : Tag} → IsHandedOn flows rows row tag → IsHandedOn flows start row tag
again flows start rows sound (begins row tag h) = sound row tag h
again flows start rows sound (goes flow tag among before open_is) = goes flow tag among (again flows start rows sound before) open_is

pub sound_again : (flows : List Flow) (start rows new : List Tags) → AreHandedOn flows start rows → AreHandedOn flows rows new → AreHandedOn flows start new
sound_again flows start rows new first second = λ row tag h. again flows start rows first (second row tag h)

pub sound_first : (flows : List Flow) (start : List Tags) → AreHandedOn flows start start
sound_first flows start = λ row tag h. begins row tag h

complete : (flows : List Flow) (start rows : List Tags) → All (IsBetween (length rows)) flows → AreKept start rows → All (IsDone rows) flows → {row : ℕ} {tag : Tag} → IsHandedOn flows start row tag → has_row_tag rows row tag ≡ true
complete flows start rows between kept done (begins row tag h) = kept row tag h
complete flows start rows between kept done (goes flow tag among before open_is) =
    handed_has rows flow tag (of_all (IsBetween (length rows)) flows flow between among).to (of_all (IsDone rows) flows flow done among) (complete flows start rows between kept done before) open_is

pub exactly : (flows : List Flow) (start rows : List Tags) → All (IsBetween (length rows)) flows → AreHandedOn flows start rows → AreKept start rows → All (IsDone rows) flows → (row : ℕ) (tag : Tag) → IsTrue (has_row_tag rows row tag) ↔ IsHandedOn flows start row tag
exactly flows start rows between sound kept done row tag = (λ h. sound row tag h, λ h. complete flows start rows between kept done h)
