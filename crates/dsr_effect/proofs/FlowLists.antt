-- What the flows of some rules, and of complements, are, with one more.
use Rattle.std.proofs.Common.{◌≡◌, ◌<◌, ◌+◌, ◌⊎◌, ◌↔◌, ◌++◌, ℕ, zero, suc, Bool, true, false, List, [], ◌∷◌, length, take, get_or, IsTrue, Decides, not, None, Some, inl, inr, refl, sym, ap, subst, ◌∙◌, append_assoc, arith}
use Rattle.std.specs.Prelude.{slice_get, option_and_then}
use Rattle.std.specs.Option.{option_map_or}
use Rattle.dsr_effect.specs.Rows.{is_open}
use Rattle.dsr_effect.specs.Table.{AreFlows, AreRuleFlows, IsComplementFlow, IsPassing, IsRuleFlow, IsSwapping, complement_flows, row_number, swapped_flow}
use Rattle.dsr_effect.specs.declared.flows.Flow.{Flow}
use Rattle.dsr_ir.specs.Rules.{symbol_of}
use Rattle.dsr_ir.specs.declared.declarations.SetDecl.{SetDecl}
use Rattle.dsr_ir.specs.declared.declarations.Structures.{Structures}
use Rattle.dsr_ir.specs.declared.rules.Rule.{Rule}
use Rattle.dsr_ir.specs.declared.updates.Symbol.TheVariants.{Set}
use Rattle.dsr_meaning.specs.Counting.{IsIn}
use Rattle.dsr_meaning.specs.Lists.{each_at}
use Rattle.dsr_meaning.specs.Models.{base_of}
use Rattle.dsr_meaning.proofs.Lists.{in_front_or_last, last_in}
use Rattle.dsr_facts.proofs.Taking.{each_more}
use Rattle.dsr_update_theory.specs.Changes.{Change}
use Rattle.dsr_update_theory.specs.Effects.{IsLeftOut, other_direction}
use Rattle.dsr_update_theory.specs.Givers.{is_own}
use Rattle.dsr_update_theory.specs.Touching.{IsBlockedAtF, IsBlockedAtW}
use Rattle.dsr_update_theory.specs.declared.effects.Tag.{Tag}
use Rattle.dsr_update_theory.specs.declared.effects.Tag.TheVariants.{Written, Entry, Fresh, Any}
use Rattle.dsr_update_theory.specs.declared.effects.Direction.{Direction}
use Rattle.dsr_update_theory.specs.declared.effects.Direction.TheVariants.{Gain, Loss}
use Rattle.dsr_meaning.proofs.Items.{in_either, in_left, in_right}

-- ---- what the premise of one rule hands on

not_so : (b : Bool) (P : Type 0) → Decides b P → IsTrue (not b) ↔ (P → ⊥)
not_so true P tells = (λ h. absurd cc, λ h. absurd (h (tells.0 refl)))
not_so false P tells = (λ h p. let so = tells.1 p in absurd cc, λ h. refl)

-- a flow with these ends hands on what the rule's premise does
pub record HasEnds (c : Change) (rule : Rule) (premise : ℕ) (direction : Direction) (flow : Flow) : Type 0 where
  pub premise_is : rule.premise ≡ Some premise
  pub from : flow.from ≡ row_number c.spec.base direction (Set premise)
  pub to : flow.to ≡ row_number c.spec.base direction (symbol_of rule.inc)
  pub keeps : flow.keeps ≡ is_own rule.inc

pub gain_passing : (c : Change) (rule : Rule) (premise : ℕ) (flow : Flow) → HasEnds c rule premise Gain flow → Decides flow.without_written (IsBlockedAtW c rule true) → Decides flow.without_fresh (IsBlockedAtF c rule) → IsPassing c rule premise Gain flow
gain_passing c rule premise flow ends at_w at_f = record { premise_is = ends.premise_is; from = ends.from; to = ends.to; keeps = ends.keeps; hands = hands } where
  hands : (tag : Tag) → IsTrue (is_open flow tag) ↔ (IsLeftOut c rule Gain tag → ⊥)
  hands Written = not_so flow.without_written (IsBlockedAtW c rule true) at_w
  hands Fresh = not_so flow.without_fresh (IsBlockedAtF c rule) at_f
  hands Entry = (λ h p. p, λ h. refl)
  hands Any = (λ h p. p, λ h. refl)

pub loss_passing : (c : Change) (rule : Rule) (premise : ℕ) (flow : Flow) → HasEnds c rule premise Loss flow → flow.without_written ≡ false → flow.without_fresh ≡ false → IsPassing c rule premise Loss flow
loss_passing c rule premise flow ends with_w with_f = record { premise_is = ends.premise_is; from = ends.from; to = ends.to; keeps = ends.keeps; hands = hands } where
  hands : (tag : Tag) → IsTrue (is_open flow tag) ↔ (IsLeftOut c rule Loss tag → ⊥)
  hands Written = (λ h p. p, λ h. ap not with_w)
  hands Fresh = (λ h p. p, λ h. ap not with_f)
  hands Entry = (λ h p. p, λ h. refl)
  hands Any = (λ h p. p, λ h. refl)

-- ---- of some rules, with one more

pub no_flows : (c : Change) → AreRuleFlows c [] []
no_flows c = record { sound = λ flow is_in. absurd is_in; all = λ rule premise direction is_in is. absurd is_in }

module _ (c : Change) (rules : List Rule) (rule : Rule) (flows : List Flow) (are : AreRuleFlows c rules flows) where
  earlier : (flow : Flow) → IsIn flow flows → IsRuleFlow c (rules ++ rule ∷ []) flow
  earlier flow is_in = let f = are.sound flow is_in in (f.0, f.1, f.2, in_left f.0 rules (rule ∷ []) f.3, f.4)

  same_flows : rule.premise ≡ None → AreRuleFlows c (rules ++ rule ∷ []) flows
  same_flows without = record {
    sound = earlier;
    all = λ r premise direction among is. elim (in_front_or_last rule r rules among) as (λ _. (flow : Flow) × IsIn flow flows × IsPassing c r premise direction flow) [
      | inl front ↦ are.all r premise direction front is
      | inr same ↦ let never : None ≡ Some premise = sym without ∙ sym (ap (λ x. x.premise) same) ∙ is in absurd cc
    ];
  }

  module _ (under : ℕ) (gain loss : Flow) (passes_gain : IsPassing c rule under Gain gain) (passes_loss : IsPassing c rule under Loss loss) where
    new_flow : (flow : Flow) (direction : Direction) (of_direction : Flow) → flow ≡ of_direction → IsPassing c rule under direction of_direction → IsRuleFlow c (rules ++ rule ∷ []) flow
    new_flow flow direction of_direction same passing = (rule, under, direction, last_in rule rules, subst (IsPassing c rule under direction) (sym same) passing)

    last_flow : (direction : Direction) → (flow : Flow) × IsIn flow (gain ∷ loss ∷ []) × IsPassing c rule under direction flow
    last_flow Gain = (gain, inl refl, passes_gain)
    last_flow Loss = (loss, inr (inl refl), passes_loss)

    more_flows : AreRuleFlows c (rules ++ rule ∷ []) (flows ++ gain ∷ loss ∷ [])
    more_flows = record {
      sound = λ flow is_in. elim (in_either flow flows (gain ∷ loss ∷ []) is_in) as (λ _. IsRuleFlow c (rules ++ rule ∷ []) flow) [
        | inl front ↦ earlier flow front
        | inr behind ↦ elim behind as (λ _. IsRuleFlow c (rules ++ rule ∷ []) flow) [
          | inl same ↦ new_flow flow Gain gain same passes_gain
          | inr next ↦ elim next as (λ _. IsRuleFlow c (rules ++ rule ∷ []) flow) [ inl same ↦ new_flow flow Loss loss same passes_loss | inr never ↦ absurd never ]
        ]
      ];
      all = λ r premise direction among is. elim (in_front_or_last rule r rules among) as (λ _. (flow : Flow) × IsIn flow (flows ++ gain ∷ loss ∷ []) × IsPassing c r premise direction flow) [
        | inl front ↦ let f = are.all r premise direction front is in (f.0, in_left f.0 flows (gain ∷ loss ∷ []) f.1, f.2)
        | inr same ↦
            let f = last_flow direction in
            let it : Some under ≡ Some premise = sym passes_gain.premise_is ∙ sym (ap (λ x. x.premise) same) ∙ is in
            let number : under ≡ premise = cc in
            (f.0, in_right f.0 flows (gain ∷ loss ∷ []) f.1, subst (λ x. IsPassing c x premise direction f.0) (sym same) (subst (λ n. IsPassing c rule n direction f.0) number f.2))
      ];
    }

-- the next rule has no premise
pub flows_same : (c : Change) (rules more : List Rule) (rule : Rule) (flows : List Flow) → more ≡ rules ++ rule ∷ [] → rule.premise ≡ None → AreRuleFlows c rules flows → AreRuleFlows c more flows
flows_same c rules more rule flows is without are = rw is (same_flows c rules rule flows are without)

-- what the premise hands on, both ways
abbrev pub ArePassed : Change → Rule → ℕ → List Flow → List Flow → Type 0
ArePassed c rule premise before after =
    (gain : Flow) × (loss : Flow) × IsPassing c rule premise Gain gain × IsPassing c rule premise Loss loss × (after ≡ before ++ gain ∷ loss ∷ [])

-- the next rule has one
pub flows_more : (c : Change) (rules more : List Rule) (rule : Rule) (premise : ℕ) (flows after : List Flow) → more ≡ rules ++ rule ∷ [] → ArePassed c rule premise flows after → AreRuleFlows c rules flows → AreRuleFlows c more after
flows_more c rules more rule premise flows after is passed are = rw (is, passed.4) (more_flows c rules rule flows are premise passed.0 passed.1 passed.2 passed.3)

-- ---- of complements

in_each : {S T : Type 0} (f : ℕ → S → List T) (n m k : ℕ) (xs : List S) (x : S) (y : T) → slice_get xs k ≡ Some x → m ≡ n + k → IsIn y (f m x) → IsIn y (each_at f n xs)
in_each f n m k [] x y is at is_in = absurd cc
in_each f n m zero (z ∷ xs) x y is at is_in =
    let same : z ≡ x = cc in
    let here : m ≡ n = omega (arith, at) in
    in_left y (f n z) (each_at f (suc n) xs) (subst (λ w. IsIn y (f n w)) (sym same) (subst (λ j. IsIn y (f j x)) here is_in))
in_each f n m (suc k) (z ∷ xs) x y is at is_in = in_right y (f n z) (each_at f (suc n) xs) (in_each f (suc n) m k xs x y is (omega (arith, at)) is_in)

record IsOfItem {S T : Type 0} (f : ℕ → S → List T) (n : ℕ) (xs : List S) (y : T) : Type 0 where
  pub place : ℕ
  pub number : ℕ
  pub item : S
  pub is : slice_get xs place ≡ Some item
  pub at : number ≡ n + place
  pub is_in : IsIn y (f number item)

from_each : {S T : Type 0} (f : ℕ → S → List T) (n : ℕ) (xs : List S) (y : T) → IsIn y (each_at f n xs) → IsOfItem f n xs y
from_each f n [] y is_in = absurd is_in
from_each f n (x ∷ xs) y is_in = elim (in_either y (f n x) (each_at f (suc n) xs) is_in) as (λ _. IsOfItem f n (x ∷ xs) y) [
  | inl front ↦ record { place = 0; number = n; item = x; is = refl; at = omega arith; is_in = front }
  | inr behind ↦ let o = from_each f (suc n) xs y behind in record { place = suc o.place; number = o.number; item = o.item; is = o.is; at = omega (arith, o.at); is_in = o.is_in }
]

module _ (c : Change) where
  swapping : (set base : ℕ) (direction : Direction) → base_of c.spec set ≡ Some base → IsSwapping c set base direction (swapped_flow c.spec.base set base direction (other_direction direction))
  swapping set base direction is = record { base_is = is; from = refl; to = refl; keeps = refl; hands = hands } where
    hands : (tag : Tag) → IsTrue (is_open (swapped_flow c.spec.base set base direction (other_direction direction)) tag)
    hands Written = refl
    hands Entry = refl
    hands Fresh = refl
    hands Any = refl

  -- a flow of the list is a complement's
  of_complement : (flow : Flow) (set : ℕ) (d : SetDecl) → slice_get c.spec.base.sets set ≡ Some d → IsIn flow (complement_flows c.spec.base set d) → IsComplementFlow c flow
  of_complement flow set d at is_in =
      elim d.except as (λ o. d.except ≡ o → IsIn flow (option_map_or (λ under. swapped_flow c.spec.base set under Gain Loss ∷ swapped_flow c.spec.base set under Loss Gain ∷ []) o []) → IsComplementFlow c flow) [
        | None ↦ λ _ never. absurd never
        | Some under ↦ λ e i.
            let is : base_of c.spec set ≡ Some under = ap (λ o. option_and_then (λ x. x.except) o) at ∙ e in
            elim i as (λ _. IsComplementFlow c flow) [
              | inl same ↦ (set, under, Gain, subst (IsSwapping c set under Gain) (sym same) (swapping set under Gain is))
              | inr next ↦ elim next as (λ _. IsComplementFlow c flow) [
                | inl same ↦ (set, under, Loss, subst (IsSwapping c set under Loss) (sym same) (swapping set under Loss is))
                | inr never ↦ absurd never
              ]
            ]
      ] refl is_in

  both_directions : (set under : ℕ) (direction : Direction) → IsIn (swapped_flow c.spec.base set under direction (other_direction direction)) (swapped_flow c.spec.base set under Gain Loss ∷ swapped_flow c.spec.base set under Loss Gain ∷ [])
  both_directions set under Gain = inl refl
  both_directions set under Loss = inr (inl refl)

  -- each complement's flow is in the list
  is_listed : (set base : ℕ) (direction : Direction) → base_of c.spec set ≡ Some base → IsIn (swapped_flow c.spec.base set base direction (other_direction direction)) (each_at (complement_flows c.spec.base) 0 c.spec.base.sets)
  is_listed set base direction is =
      let flow = swapped_flow c.spec.base set base direction (other_direction direction) in
      elim (slice_get c.spec.base.sets set) as (λ o. slice_get c.spec.base.sets set ≡ o → option_and_then (λ x. x.except) o ≡ Some base → IsIn flow (each_at (complement_flows c.spec.base) 0 c.spec.base.sets)) [
        | None ↦ λ at e. absurd cc
        | Some d ↦ λ at e.
            let here : set ≡ 0 + set = omega arith in
            in_each (complement_flows c.spec.base) 0 set set c.spec.base.sets d flow at here
            (subst (λ o. IsIn flow (option_map_or (λ under. swapped_flow c.spec.base set under Gain Loss ∷ swapped_flow c.spec.base set under Loss Gain ∷ []) o [])) (sym e) (both_directions set base direction))
      ] refl is

  -- with those of all complements behind those of all rules, these are all
  pub all_flows : (flows : List Flow) → AreRuleFlows c c.spec.rules flows → AreFlows c (flows ++ each_at (complement_flows c.spec.base) 0 c.spec.base.sets)
  all_flows flows are =
      let swaps = each_at (complement_flows c.spec.base) 0 c.spec.base.sets in record {
        sound = λ flow is_in. elim (in_either flow flows swaps is_in) as (λ _. IsRuleFlow c c.spec.rules flow ⊎ IsComplementFlow c flow) [
          | inl front ↦ inl (are.sound flow front)
          | inr behind ↦
              let o = from_each (complement_flows c.spec.base) 0 c.spec.base.sets flow behind in
              let same : o.number ≡ o.place = omega (arith, o.at) in
              inr (of_complement flow o.number o.item (subst (λ k. slice_get c.spec.base.sets k ≡ Some o.item) (sym same) o.is) o.is_in)
        ];
        rules = λ rule premise direction among is. let f = are.all rule premise direction among is in (f.0, in_left f.0 flows swaps f.1, f.2);
        complements = λ set base direction is. (swapped_flow c.spec.base set base direction (other_direction direction), in_right _ flows swaps (is_listed set base direction is), swapping set base direction is);
      }

-- one set more
pub complements_more : (base : Structures) (items sets : List SetDecl) → items ≡ sets → (i : ℕ) (d : SetDecl) → i < length items → d ≡ get_or items i d → (first before after : List Flow) → before ≡ first ++ each_at (complement_flows base) 0 (take i sets) → after ≡ before ++ complement_flows base i d → after ≡ first ++ each_at (complement_flows base) 0 (take (i + 1) sets)
complements_more base items sets all i d lt is first before after was more =
    more
    ∙ ap (λ ys. ys ++ complement_flows base i d) (was ∙ ap (λ ys. first ++ each_at (complement_flows base) 0 (take i ys)) (sym all))
    ∙ append_assoc first (each_at (complement_flows base) 0 (take i items)) (complement_flows base i d)
    ∙ ap (λ ys. first ++ ys) (each_more (complement_flows base) items i d lt is)
    ∙ ap (λ ys. first ++ each_at (complement_flows base) 0 (take (i + 1) ys)) all
