-- What is so of each rule that gives facts of a symbol.
use Rattle.std.proofs.Common.{◌≡◌, ◌<◌, ◌∙◌, ℕ, zero, suc, Bool, true, false, cond, List, [], ◌∷◌, length, get_or, None, Some, IfSome, IsSomeAnd, Decides, MatchBool, MatchOption, slice_get, refl, sym, ap, subst, arith}
use Rattle.std.specs.Bool.{then_some}
use Rattle.std.specs.List.{AllWithin, HoldsAt, filter, find}
use Rattle.std.proofs.lemmas.Bool.{false≢true}
use Rattle.std.proofs.lemmas.Option.{same_Some}
use Rattle.dsr_ir.specs.Rules.{gives}
use Rattle.dsr_ir.specs.declared.declarations.Spec.{Spec}
use Rattle.dsr_ir.specs.declared.rules.Rule.{Rule}
use Rattle.dsr_ir.specs.declared.updates.Symbol.{Symbol}
use Rattle.dsr_ir.specs.declared.updates.Symbol.TheVariants.{Set}
use Rattle.dsr_meaning.proofs.Firing.{found_fits}
use Rattle.dsr_meaning.specs.Typed.{IsTyped, IsTypedInc, IsTypedRule}
use Rattle.dsr_update_theory.specs.Givers.{HasGiver, IsGiver, IsGivenBy}
use Rattle.dsr_update_theory.specs.KnownSets.{GivesMembersOf, GivesTargetsTo}
use Rattle.dsr_facts.specs.Marks.{IsBelow, IsNoneBelow}

-- ---- the items that pass a test

-- an item that passes stands among those that do
record IsKept {A : Type 0} (kept : List A) (x : A) : Type 0 where
  place : ℕ
  within : place < length kept
  here : (d : A) → get_or kept place d ≡ x

kept_at : {A : Type 0} (p : A → Bool) (xs : List A) (k : ℕ) (x : A) → slice_get xs k ≡ Some x → p x ≡ true → IsKept (filter p xs) x
kept_at p [] k x at passes = absurd cc
kept_at p (y ∷ ys) zero x at passes =
    let same : y ≡ x = same_Some _ _ at in
    subst (λ b. IsKept (cond b (y ∷ filter p ys) (filter p ys)) x) (sym (ap p same ∙ passes)) (record { place = 0; within = omega arith; here = λ d. same })
kept_at p (y ∷ ys) (suc k) x at passes =
    let later = kept_at p ys k x at passes in
    elim (p y) as (λ b. IsKept (cond b (y ∷ filter p ys) (filter p ys)) x) [
      | true ↦ record { place = suc later.place; within = omega (arith, later.within); here = later.here }
      | false ↦ later
    ]

-- the item with this number among those that pass
record IsFrom {A : Type 0} (p : A → Bool) (xs kept : List A) (j : ℕ) : Type 0 where
  place : ℕ
  item : A
  item_is : slice_get xs place ≡ Some item
  passes : p item ≡ true
  here : (d : A) → get_or kept j d ≡ item

kept_from : {A : Type 0} (p : A → Bool) (xs : List A) (j : ℕ) → j < length (filter p xs) → IsFrom p xs (filter p xs) j
kept_from p [] j less = absurd (omega (arith, less))
kept_from p (y ∷ ys) zero less = elim (p y) as (λ b. p y ≡ b → 0 < length (cond b (y ∷ filter p ys) (filter p ys)) → IsFrom p (y ∷ ys) (cond b (y ∷ filter p ys) (filter p ys)) 0) [
  | true ↦ λ passes l. record { place = 0; item = y; item_is = refl; passes = passes; here = λ d. refl }
  | false ↦ λ fails l. let later = kept_from p ys 0 l in record { place = suc later.place; item = later.item; item_is = later.item_is; passes = later.passes; here = later.here }
] refl less
kept_from p (y ∷ ys) (suc j) less = elim (p y) as (λ b. p y ≡ b → suc j < length (cond b (y ∷ filter p ys) (filter p ys)) → IsFrom p (y ∷ ys) (cond b (y ∷ filter p ys) (filter p ys)) (suc j)) [
  | true ↦ λ passes l. let later = kept_from p ys j (omega (arith, l)) in record { place = suc later.place; item = later.item; item_is = later.item_is; passes = later.passes; here = later.here }
  | false ↦ λ fails l. let later = kept_from p ys (suc j) l in record { place = suc later.place; item = later.item; item_is = later.item_is; passes = later.passes; here = later.here }
] refl less

record IsFound {A : Type 0} (p : A → Bool) (xs : List A) (x : A) : Type 0 where
  place : ℕ
  item_is : slice_get xs place ≡ Some x
  passes : p x ≡ true

found_at : {A : Type 0} (p : A → Bool) (xs : List A) (x : A) → find p xs ≡ Some x → IsFound p xs x
found_at p [] x e = absurd cc
found_at p (y ∷ ys) x e = elim (p y) as (λ b. p y ≡ b → cond b (Some y) (find p ys) ≡ Some x → IsFound p (y ∷ ys) x) [
  | true ↦ λ passes found. record { place = 0; item_is = found; passes = ap p (sym (same_Some _ _ found)) ∙ passes }
  | false ↦ λ fails found. let later = found_at p ys x found in record { place = suc later.place; item_is = later.item_is; passes = later.passes }
] refl e

-- ---- each rule of a symbol

abbrev pub rules_of : Spec → Symbol → List Rule
rules_of spec symbol = filter (λ rule. gives symbol rule.inc) spec.rules

pub given_decides : (spec : Spec) (symbol : Symbol) (Such : Rule → Type 0) (r : Bool) → HasGiver spec symbol
    → MatchBool r (AllWithin Such (rules_of spec symbol) 0 (length (rules_of spec symbol)))
    ((k : ℕ) × (k < length (rules_of spec symbol)) × HoldsAt (λ rule. Such rule → ⊥) (rules_of spec symbol) k)
    → Decides r (IsGivenBy spec symbol Such)
given_decides spec symbol Such true some all = (
  λ _. record {
    some = some;
    each = λ k rule giver.
        let kept = kept_at (λ rule. gives symbol rule.inc) spec.rules k rule giver.rule_is giver.gives in
        subst Such (kept.here rule) (all kept.place rule (omega arith) kept.within);
  },
  λ _. refl,
)
given_decides spec symbol Such false some other = (
  λ e. absurd (false≢true e),
  λ given.
      let from = kept_from (λ rule. gives symbol rule.inc) spec.rules other.0 other.1 in
      absurd (subst (λ rule. Such rule → ⊥) (from.here from.item) (other.2 from.item)
      (given.each from.place from.item (record { rule_is = from.item_is; gives = from.passes }))),
)

-- ---- the set below

pub one_below : (spec : Spec) (set a b : ℕ) → IsBelow spec set a → IsBelow spec set b → a ≡ b
one_below spec set a b to_a to_b =
    let k = to_a.some.0 in
    let rule = to_a.some.1 in
    let giver = to_a.some.2 in
    same_Some _ _ (sym (to_a.each k rule giver).premise_is ∙ (to_b.each k rule giver).premise_is)

-- what the first rule tells
premise_tells : (spec : Spec) (set base : ℕ) (rule : Rule) → IsFound (λ rule. gives (Set set) rule.inc) spec.rules rule → IsBelow spec set base → rule.premise ≡ Some base
premise_tells spec set base rule found below = (below.each found.place rule (record { rule_is = found.item_is; gives = found.passes })).premise_is

pub none_by_head : (spec : Spec) (set : ℕ) (rule : Rule) → find (λ rule. gives (Set set) rule.inc) spec.rules ≡ Some rule → rule.premise ≡ None → IsNoneBelow spec set
none_by_head spec set rule found head = λ base below.
    let both : None ≡ Some base = sym head ∙ premise_tells spec set base rule (found_at _ spec.rules rule found) below in
    absurd cc

pub below_by_rule : (spec : Spec) (set base : ℕ) (rule : Rule) (r : Bool)
    → find (λ rule. gives (Set set) rule.inc) spec.rules ≡ Some rule → rule.premise ≡ Some base → Decides r (IsBelow spec set base)
    → MatchOption (then_some r base) (IsNoneBelow spec set) (IsBelow spec set)
below_by_rule spec set base rule true found premise decides = decides.0 refl
below_by_rule spec set base rule false found premise decides = λ other below.
    let same : other ≡ base = same_Some _ _ (sym (premise_tells spec set other rule (found_at _ spec.rules rule found) below) ∙ premise) in
    false≢true (decides.1 (subst (IsBelow spec set) same below))

-- ---- sets are declared

-- one that is found has a place
pub within : {A : Type 0} (P : A → Type 0) (xs : List A) (k : ℕ) → IsSomeAnd (slice_get xs k) P → k < length xs
within P [] k h = absurd h
within P (x ∷ xs) zero h = omega arith
within P (x ∷ xs) (suc k) h = let less = within P xs k h in omega (arith, less)

rule_typed : (spec : Spec) → IsTyped spec → (symbol : Symbol) (k : ℕ) (rule : Rule) → IsGiver spec symbol k rule → IsTypedRule spec.base rule
rule_typed spec typed symbol k rule giver = found_fits (IsTypedRule spec.base) spec.rules k rule typed.rules giver.rule_is

pub members_declared : (spec : Spec) → IsTyped spec → (symbol : Symbol) (set : ℕ) → IsGivenBy spec symbol (GivesMembersOf set) → set < length spec.base.sets
members_declared spec typed symbol set given =
    let rule = given.some.1 in
    let premise = (given.each given.some.0 rule given.some.2).premise_is in
    within _ spec.base.sets set (subst (λ o. IfSome o (λ n. IsSomeAnd (slice_get spec.base.sets n) (λ s. s.except ≡ None))) premise (rule_typed spec typed symbol given.some.0 rule given.some.2).premise)

pub targets_declared : (spec : Spec) → IsTyped spec → (symbol : Symbol) (set : ℕ) → IsGivenBy spec symbol (GivesTargetsTo spec set) → set < length spec.base.sets
targets_declared spec typed symbol set given =
    let to = given.each given.some.0 given.some.1 given.some.2 in
    let inc = subst (IsTypedInc spec.base to.1) to.3.gives_it (rule_typed spec typed (Set set) to.0 to.1 to.2).inc in
    within _ spec.base.sets set inc.1
