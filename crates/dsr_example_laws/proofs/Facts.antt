-- Facts of the image: where references lead, what values and marks are, and that what is apart is so.
use Rattle.std.proofs.Common.{◌≡◌, ◌<◌, ◌+◌, ◌*◌, ◌∙◌, ℕ, [], ◌∷◌, Some, inl, inr, refl, sym, ap, subst, slice_get, arith}
use Rattle.std.specs.Prelude.{IsTrue}
use Rattle.std.proofs.lemmas.List.Elements.{All-nil}
use Rattle.std.proofs.lemmas.Option.{same_Some}
use Rattle.dsr_step_laws.proofs.Given.{image, path_to, slot}
use Rattle.dsr_step_laws.proofs.Giving.{at, element_same}
use Rattle.dsr_step_laws.proofs.Model.{slots_differ}
use Rattle.dsr_model_laws.proofs.Functional.{one_target}
use Rattle.dsr_step_laws.proofs.GivenSymbols.{giver_of}
use Rattle.dsr_example_laws.proofs.Given.{base, entry_path, layout, leading, marking, numbers, pairing, rules, sharing, valuing}
use Rattle.dsr_example_laws.proofs.Placed.{legal, placed}
use Rattle.dsr_example_laws.proofs.Typed.{typed}
use Rattle.dsr_ir.specs.declared.declarations.Rel.{Rel as RelOf}
use Rattle.dsr_ir.specs.declared.rules.Rule.{Rule}
use Rattle.dsr_ir.specs.declared.tuples.Element.{Element}
use Rattle.dsr_ir.specs.declared.tuples.Fact.{Fact}
use Rattle.dsr_ir.specs.declared.tuples.Fact.TheVariants.{Member, Pair}
use Rattle.dsr_ir.specs.declared.tuples.Instance.{Instance}
use Rattle.dsr_ir.specs.declared.tuples.Target.TheVariants.{Elem, Num}
use Rattle.dsr_ir.specs.declared.updates.Symbol.TheVariants.{Set}
use Rattle.dsr_layout.proofs.RangeOfFacts.{fact_in_range}
use Rattle.dsr_meaning.specs.Cells.{value_at}
use Rattle.dsr_meaning.specs.Counting.{IsIn}
use Rattle.dsr_meaning.specs.Instances.{Gives, GuardHolds, LeadsTo, record_count, referred_pool}
use Rattle.dsr_meaning.specs.Models.{IsDerived, IsFact}
use Rattle.dsr_meaning.specs.Models.Chain.{begin, follow}
use Rattle.dsr_meaning.specs.Truth.{head}
use Rattle.dsr_template_laws.proofs.KnownMembers.{last}
use Rattle.dsr_update_theory.specs.Givers.{IsGiver, givers, is_functional}
use Rattle.dsr_plan_laws.proofs.KnownSets.{giver_in}

-- the facts of the image
abbrev pub IsTrueNow : Fact → Type 0
IsTrueNow = IsFact sharing layout image

abbrev IsThere : Fact → Type 0
IsThere = IsDerived sharing layout image

-- ---- what is there

leads : (rule field s : ℕ) → referred_pool sharing (path_to 0 field).field ≡ Some 1 → s < 3 → value_at layout image head 0 (path_to 0 field) ≡ Some (1 + s * 1) → LeadsTo sharing layout image (at rule head) (path_to 0 field) (slot s)
leads rule field s refers below read = record {
  value = 1 + s * 1;
  read = read;
  refers = refers;
  code = record { numbers = numbers; declared = refl; below = below; code = refl };
}

led : (rule set field s : ℕ) → slice_get rules rule ≡ Some (leading set field) → LeadsTo sharing layout image (at rule head) (path_to 0 field) (slot s) → IsThere (Member set (slot s))
led rule set field s rule_is to = (
  at rule head ∷ [],
  begin (at rule head) (leading set field) refl (record {
    is_instance = record { rule_is = rule_is; pool_is = refl; slot_below = omega arith; index_below = omega arith };
    guards = All-nil (GuardHolds sharing layout image (at rule head));
    included = (slot s, to, refl);
  }),
)

paired : (rule rel field s : ℕ) → slice_get rules rule ≡ Some (pairing rel field) → LeadsTo sharing layout image (at rule head) (path_to 0 field) (slot s) → IsThere (Pair rel head (Elem (slot s)))
paired rule rel field s rule_is to = (
  at rule head ∷ [],
  begin (at rule head) (pairing rel field) refl (record {
    is_instance = record { rule_is = rule_is; pool_is = refl; slot_below = omega arith; index_below = omega arith };
    guards = All-nil (GuardHolds sharing layout image (at rule head));
    included = (Elem (slot s), to, refl);
  }),
)

valued : (s n : ℕ) → s < 3 → value_at layout image (slot s) 0 (path_to 1 0) ≡ Some n → IsThere (Member 2 (slot s)) → IsThere (Pair 2 (slot s) (Num n))
valued s n below read member = (
  at 6 (slot s) ∷ member.0,
  follow (at 6 (slot s)) valuing 2 member.1 refl (record {
    is_instance = record { rule_is = refl; pool_is = refl; slot_below = below; index_below = omega arith };
    guards = All-nil (GuardHolds sharing layout image (at 6 (slot s)));
    included = (Num n, record { number = refl; read = read }, refl);
  }),
)

abbrev at_entry : ℕ → Instance
at_entry s = record { rule = 7; elem = head; index = s }

marked : (s n : ℕ) → s < 3 → value_at layout image head s entry_path ≡ Some n → IsThere (Pair 3 (slot s) (Num n))
marked s n below read = (
  at_entry s ∷ [],
  begin (at_entry s) marking refl (record {
    is_instance = record { rule_is = refl; pool_is = refl; slot_below = omega arith; index_below = below };
    guards = All-nil (GuardHolds sharing layout image (at_entry s));
    included = (Num n, record { number = refl; read = read }, refl);
  }),
)

pub in_a : IsThere (Member 0 (slot 0))
in_a = led 0 0 0 0 refl (leads 0 0 0 refl (omega arith) refl)

pub in_b : IsThere (Member 1 (slot 1))
in_b = led 1 1 1 1 refl (leads 1 1 1 refl (omega arith) refl)

pub first_in_c : IsThere (Member 2 (slot 0))
first_in_c = led 2 2 0 0 refl (leads 2 0 0 refl (omega arith) refl)

pub second_in_c : IsThere (Member 2 (slot 1))
second_in_c = led 3 2 1 1 refl (leads 3 1 1 refl (omega arith) refl)

pub in_p : IsThere (Pair 0 head (Elem (slot 0)))
in_p = paired 4 0 0 0 refl (leads 4 0 0 refl (omega arith) refl)

pub in_q : IsThere (Pair 1 head (Elem (slot 1)))
in_q = paired 5 1 1 1 refl (leads 5 1 1 refl (omega arith) refl)

pub first_value : IsThere (Pair 2 (slot 0) (Num 1))
first_value = valued 0 1 (omega arith) refl first_in_c

pub second_value : IsThere (Pair 2 (slot 1) (Num 0))
second_value = valued 1 0 (omega arith) refl second_in_c

pub first_mark : IsThere (Pair 3 (slot 0) (Num 0))
first_mark = marked 0 0 (omega arith) refl

pub second_mark : IsThere (Pair 3 (slot 1) (Num 0))
second_mark = marked 1 0 (omega arith) refl

-- ---- what isn't

-- a relation of the head with one pair has no other
only_pair : (rel s : ℕ) (decl : RelOf) (h y : Element) → slice_get base.rels rel ≡ Some decl → decl.source ≡ 0 → IsTrue (is_functional sharing rel) → IsThere (Pair rel head (Elem (slot s))) → IsThere (Pair rel h (Elem y)) → y ≡ slot s
only_pair rel s decl h y declared source functional there other =
    let range = fact_in_range sharing image layout placed.numbers typed (Pair rel h (Elem y)) other in
    let same : range.decl.source ≡ 0 = ap (λ (r : RelOf). r.source) (same_Some range.decl decl (sym range.declared ∙ declared)) ∙ source in
    let below : h.slot < record_count layout 0 = subst (λ p. h.slot < record_count layout p) same range.source.slot_below in
    let slot_is : h.slot ≡ 0 = omega (arith, below) in
    let head_is : h ≡ head = element_same h head (range.source.pool_is ∙ same) slot_is in
    let targets : Elem y ≡ Elem (slot s) = one_target sharing layout image rel head (Elem y) (Elem (slot s)) legal functional (subst (λ e. IsThere (Pair rel e (Elem y))) head_is other) there in
    cc

pub only_in_p : (h y : Element) → IsThere (Pair 0 h (Elem y)) → y ≡ slot 0
only_in_p h y = only_pair 0 0 _ h y refl refl refl in_p

pub only_in_q : (h y : Element) → IsThere (Pair 1 h (Elem y)) → y ≡ slot 1
only_in_q h y = only_pair 1 1 _ h y refl refl refl in_q

-- a member that a reference of the head alone gives is a target under the relation of that reference
target_of_head : (set rel k j field : ℕ) (x : Element) → givers sharing (Set set) ≡ (k, leading set field) ∷ [] → slice_get rules j ≡ Some (pairing rel field) → IsThere (Member set x) → (h : Element) × IsThere (Pair rel h (Elem x))
target_of_head set rel k j field x alone other member =
    let l = last sharing typed layout image member.0 (Member set x) member.1 in
    let i : Instance = l.instance in
    let giver : IsGiver sharing (Set set) i.rule l.rule = record { rule_is = l.gives.is_instance.rule_is; gives = giver_of sharing layout image i l.rule.inc (Member set x) l.gives.included } in
    let among : IsIn (i.rule, l.rule) ((k, leading set field) ∷ []) = subst (IsIn (i.rule, l.rule)) alone (giver_in sharing (Set set) i.rule l.rule giver) in
    of_gives (subst (λ r. Gives sharing layout image i r (Member set x)) (only among) l.gives) where
      only : {r s : ℕ × Rule} → IsIn r (s ∷ []) → r.1 ≡ s.1
      only (inl e) = ap (λ (p : ℕ × Rule). p.1) e
      only (inr none) = absurd none

      of_gives : {i : Instance} → Gives sharing layout image i (leading set field) (Member set x) → (h : Element) × IsThere (Pair rel h (Elem x))
      of_gives {i = i} gives =
          let to = gives.included.1 in
          let target : Member set x ≡ Member set gives.included.0 = gives.included.2 in
          let here : x ≡ gives.included.0 = cc in
          let its : Instance = record { rule = j; elem = i.elem; index = i.index } in
          let paired_too : IsThere (Pair rel i.elem (Elem x)) = (
            its ∷ [],
            begin its (pairing rel field) refl (record {
              is_instance = record { rule_is = other; pool_is = gives.is_instance.pool_is; slot_below = gives.is_instance.slot_below; index_below = gives.is_instance.index_below };
              guards = All-nil (GuardHolds sharing layout image its);
              included = (Elem gives.included.0, record { value = to.value; read = to.read; refers = to.refers; code = to.code }, ap (λ e. Pair rel i.elem (Elem e)) here);
            }),
          ) in
          (i.elem, paired_too)

pub apart : (h e y : Element) → IsThere (Pair 0 h (Elem y)) → IsThere (Pair 1 e (Elem y)) → ⊥
apart h e y in_first in_second = slots_differ (sym (only_in_p h y in_first) ∙ only_in_q e y in_second)

pub exclusive : (x : Element) → IsThere (Member 0 x) → IsThere (Member 1 x) → ⊥
exclusive x one two =
    let p = target_of_head 0 0 0 4 0 x refl refl one in
    let q = target_of_head 1 1 1 5 1 x refl refl two in
    apart p.0 q.0 x p.1 q.1
