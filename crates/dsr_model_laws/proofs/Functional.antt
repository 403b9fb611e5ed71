-- A functional relation has one target a record: both pairs come from the same instance of the one rule that gives them.
use Rattle.std.proofs.Common.{◌≡◌, ◌<◌, ◌+◌, ◌∙◌, ℕ, zero, suc, true, IsTrue, not, List, [], ◌∷◌, Option, None, Some, is_some, inl, inr, refl, sym, ap, subst, arith}
use Rattle.std.specs.Prelude.{slice_get, if◌then◌else◌}
use Rattle.std.proofs.lemmas.Bool.{eq-eqb}
use Rattle.dsr_ir.specs.Rules.{gives}
use Rattle.dsr_ir.specs.declared.declarations.Spec.{Spec}
use Rattle.dsr_ir.specs.declared.layouts.Layout.{Layout}
use Rattle.dsr_ir.specs.declared.rules.Inc.{Inc}
use Rattle.dsr_ir.specs.declared.rules.Inc.TheVariants.{Own, Target, Slot, OwnPair, SlotPair}
use Rattle.dsr_ir.specs.declared.rules.Rule.{Rule}
use Rattle.dsr_ir.specs.declared.rules.Span.{Span}
use Rattle.dsr_ir.specs.declared.rules.Span.TheVariants.{Single, Array, Slots}
use Rattle.dsr_ir.specs.declared.tuples.Element.{Element}
use Rattle.dsr_ir.specs.declared.tuples.Fact.{Fact}
use Rattle.dsr_ir.specs.declared.tuples.Fact.TheVariants as facts
use Rattle.dsr_ir.specs.declared.tuples.Instance.{Instance}
use Rattle.dsr_ir.specs.declared.tuples.Target.{Target as TargetOf}
use Rattle.dsr_ir.specs.declared.updates.Symbol.{Symbol}
use Rattle.dsr_ir.specs.declared.updates.Symbol.TheVariants.{Rel}
use Rattle.dsr_meaning.proofs.Firing.{given_once, some_same}
use Rattle.dsr_meaning.specs.Counting.{IsIn}
use Rattle.dsr_meaning.specs.Instances.{Gives, Includes, IsInstance, index_count, pool_of_premise, premise_pool, record_count}
use Rattle.dsr_meaning.specs.Legal.{IsLegalLayout}
use Rattle.dsr_meaning.specs.Lists.{each_at}
use Rattle.dsr_meaning.specs.Models.{Chain, IsPair}
use Rattle.dsr_meaning.specs.Models.Chain.{begin, follow}
use Rattle.dsr_update_theory.specs.Givers.{givers, gives_once, is_functional, is_single}
use Rattle.dsr_meaning.proofs.Items.{in_left, in_right}

-- ---- the one rule

-- what an item gives stands among what all of them give
in_each : {S T : Type 0} (f : ℕ → S → List T) (n : ℕ) (xs : List S) (k at : ℕ) (x : S) (y : T) → slice_get xs k ≡ Some x → at ≡ n + k → IsIn y (f at x) → IsIn y (each_at f n xs)
in_each f n [] k at x y found place is = absurd cc
in_each f n (z ∷ zs) zero at x y found place is =
    let here : at ≡ n = omega (arith, place) in
    let item : x ≡ z = some_same (Some z) x z found refl in
    in_left y (f n z) (each_at f (suc n) zs) (subst (λ m. IsIn y (f m z)) here (subst (λ w. IsIn y (f at w)) item is))
in_each f n (z ∷ zs) (suc k) at x y found place is =
    let later : at ≡ suc n + k = omega (arith, place) in
    in_right y (f n z) (each_at f (suc n) zs) (in_each f (suc n) zs k at x y found later is)

-- a rule that gives facts of the symbol stands among its givers
giver_in : (spec : Spec) (symbol : Symbol) (k : ℕ) (rule : Rule) → slice_get spec.rules k ≡ Some rule → gives symbol rule.inc ≡ true → IsIn (k, rule) (givers spec symbol)
giver_in spec symbol k rule found is =
    let alone : List (ℕ × Rule) = (k, rule) ∷ [] in
    in_each (λ n r. if gives symbol r.inc then (n, r) ∷ [] else []) 0 spec.rules k k rule (k, rule) found (omega arith)
    (subst (λ b. IsIn (k, rule) (if b then alone else [])) (sym is) (inl refl))

-- the one giver of a functional relation
record IsAlone (spec : Spec) (rel : ℕ) : Type 0 where
  giver : ℕ × Rule
  alone : givers spec (Rel rel) ≡ giver ∷ []
  once : IsTrue (gives_once giver.1)

alone_of : (spec : Spec) (rel : ℕ) (gs : List (ℕ × Rule)) → givers spec (Rel rel) ≡ gs → IsTrue (is_functional spec rel) → IsAlone spec rel
alone_of spec rel [] e h = absurd (let no = rw e at h in cc)
alone_of spec rel (g ∷ []) e h = record { giver = g; alone = e; once = rw e at h }
alone_of spec rel (g ∷ f ∷ gs) e h = absurd (let no = rw e at h in cc)

giver_is : (spec : Spec) (rel : ℕ) (one : IsAlone spec rel) (k : ℕ) (rule : Rule) → slice_get spec.rules k ≡ Some rule → gives (Rel rel) rule.inc ≡ true → (k, rule) ≡ one.giver
giver_is spec rel one k rule found is =
    elim (subst (IsIn (k, rule)) one.alone (giver_in spec (Rel rel) k rule found is)) as (λ _. (k, rule) ≡ one.giver) [
      | inl same ↦ same
      | inr none ↦ absurd none
    ]

-- ---- its one instance

-- without an index there is one entry
single_entry : (layout : Layout) (span : Span) (index : ℕ) → is_single span ≡ true → index < index_count layout span → index ≡ 0
single_entry layout Single index single below = omega (arith, below)
single_entry layout (Array field) index single below = absurd cc
single_entry layout (Slots pool) index single below = absurd cc

-- the premise is the head
at_head : (o : Option ℕ) → not (is_some o) ≡ true → o ≡ None
at_head None e = refl
at_head (Some set) e = absurd cc

module _ (spec : Spec) (layout : Layout) (bytes : List ℕ) (rel : ℕ) (x : Element) where
  -- what gives a pair of the relation has the relation as its symbol
  gives_rel : (i : Instance) (inc : Inc) (t : TargetOf) → Includes spec layout bytes i inc (facts.Pair rel x t) → gives (Rel rel) inc ≡ true
  gives_rel i (Own set) t is = absurd cc
  gives_rel i (Target set path) t is = (let no = is.2 in absurd cc)
  gives_rel i (Slot set pool) t is = absurd cc
  gives_rel i (OwnPair r path) t is = (let pair = is.2 in let same : r ≡ rel = cc in eq-eqb r rel same)
  gives_rel i (SlotPair r pool path) t is = (let pair = is.2 in let same : r ≡ rel = cc in eq-eqb r rel same)

  module _ (rule : Rule) (once : IsTrue (gives_once rule)) (i j : Instance) (at_i : IsInstance spec layout i rule) (at_j : IsInstance spec layout j rule) (t u : TargetOf) where
    -- the source tells the record and the index
    placed : (inc : Inc) → rule.inc ≡ inc → Includes spec layout bytes i inc (facts.Pair rel x t) → Includes spec layout bytes j inc (facts.Pair rel x u) → (i.elem ≡ j.elem) × (i.index ≡ j.index)
    placed (Own set) e p q = absurd cc
    placed (Target set path) e p q = (let no = p.2 in absurd cc)
    placed (Slot set pool) e p q = absurd cc
    placed (OwnPair r path) e p q =
        let single : is_single rule.span ≡ true = rw e at once in
        let left = p.2 in
        let right = q.2 in
        let here : x ≡ i.elem = cc in
        let there : x ≡ j.elem = cc in (
          sym here ∙ there,
          single_entry layout rule.span i.index single at_i.index_below ∙ sym (single_entry layout rule.span j.index single at_j.index_below),
        )
    placed (SlotPair r pool path) e p q =
        let head : rule.premise ≡ None = at_head rule.premise (rw e at once) in
        let count : record_count layout (premise_pool spec rule) ≡ 1 = ap (λ o. record_count layout (pool_of_premise spec.base o)) head in
        let first : i.elem.slot ≡ 0 = omega (arith, at_i.slot_below, count) in
        let second : j.elem.slot ≡ 0 = omega (arith, at_j.slot_below, count) in
        let left = p.2 in
        let right = q.2 in
        let here : x ≡ record { pool = pool; slot = i.index } = cc in
        let there : x ≡ record { pool = pool; slot = j.index } = cc in
        let pools : i.elem.pool ≡ j.elem.pool = at_i.pool_is ∙ sym at_j.pool_is in
        let slots : i.elem.slot ≡ j.elem.slot = first ∙ sym second in
        (λ k. record { pool = pools k; slot = slots k }, ap (λ (e : Element). e.slot) (sym here ∙ there))

    same_instance : i.rule ≡ j.rule → Includes spec layout bytes i rule.inc (facts.Pair rel x t) → Includes spec layout bytes j rule.inc (facts.Pair rel x u) → i ≡ j
    same_instance number p q =
        let place = placed rule.inc refl p q in
        λ k. record { rule = number k; elem = place.0 k; index = place.1 k }

-- ---- both chains

-- some instance gives the fact in which a chain ends
record IsGiven (spec : Spec) (layout : Layout) (bytes : List ℕ) (fact : Fact) : Type 0 where
  i : Instance
  rule : Rule
  gives_it : Gives spec layout bytes i rule fact

given_by : (spec : Spec) (layout : Layout) (bytes : List ℕ) (is : List Instance) (fact : Fact) → Chain spec layout bytes is fact → IsGiven spec layout bytes fact
given_by spec layout bytes is fact (begin i rule head given) = record { i = i; rule = rule; gives_it = given }
given_by spec layout bytes is fact (follow i rule set chain premise given) = record { i = i; rule = rule; gives_it = given }

pub one_target : (spec : Spec) (layout : Layout) (bytes : List ℕ) (rel : ℕ) (x : Element) (t u : TargetOf) → IsLegalLayout layout → IsTrue (is_functional spec rel) → IsPair spec layout bytes rel x t → IsPair spec layout bytes rel x u → t ≡ u
one_target spec layout bytes rel x t u legal functional p q =
    let a = given_by spec layout bytes p.0 (facts.Pair rel x t) p.1 in
    let b = given_by spec layout bytes q.0 (facts.Pair rel x u) q.1 in
    let one = alone_of spec rel (givers spec (Rel rel)) refl functional in
    let by_a = giver_is spec rel one a.i.rule a.rule a.gives_it.is_instance.rule_is (gives_rel spec layout bytes rel x a.i a.rule.inc t a.gives_it.included) in
    let by_b = giver_is spec rel one b.i.rule b.rule b.gives_it.is_instance.rule_is (gives_rel spec layout bytes rel x b.i b.rule.inc u b.gives_it.included) in
    let number : a.i.rule ≡ b.i.rule = ap (λ (g : ℕ × Rule). g.0) (by_a ∙ sym by_b) in
    let rule : b.rule ≡ a.rule = ap (λ (g : ℕ × Rule). g.1) (by_b ∙ sym by_a) in
    let once : IsTrue (gives_once a.rule) = subst (λ (g : ℕ × Rule). IsTrue (gives_once g.1)) (sym by_a) one.once in
    let other : Gives spec layout bytes b.i a.rule (facts.Pair rel x u) = subst (λ r. Gives spec layout bytes b.i r (facts.Pair rel x u)) rule b.gives_it in
    let same : a.i ≡ b.i = same_instance spec layout bytes rel x a.rule once a.i b.i a.gives_it.is_instance other.is_instance t u number a.gives_it.included other.included in
    let facts_same : facts.Pair rel x t ≡ facts.Pair rel x u =
    given_once spec layout bytes legal.pools a.i a.rule a.rule (facts.Pair rel x t) (facts.Pair rel x u) a.gives_it
    (subst (λ i. Gives spec layout bytes i a.rule (facts.Pair rel x u)) (sym same) other) in
    cc
