-- The model of the image: its six facts, each with the only instance that gives it.
use Rattle.std.proofs.Common.{◌≡◌, ◌+◌, ◌∙◌, ◌⊎◌, ℕ, zero, suc, List, [], ◌∷◌, None, Some, inl, inr, refl, sym, ap, subst, arith}
use Rattle.std.proofs.lemmas.Option.{same_Some}
use Rattle.std.specs.Prelude.{slice_get}
use Rattle.dsr_ir.specs.declared.rules.Rule.{Rule}
use Rattle.dsr_ir.specs.declared.tuples.Element.{Element}
use Rattle.dsr_ir.specs.declared.tuples.Fact.{Fact}
use Rattle.dsr_ir.specs.declared.tuples.Fact.TheVariants.{Member, Pair}
use Rattle.dsr_ir.specs.declared.tuples.Instance.{Instance}
use Rattle.dsr_ir.specs.declared.tuples.Target.TheVariants.{Elem, Num}
use Rattle.dsr_meaning.specs.Cells.{value_at}
use Rattle.dsr_meaning.specs.Instances.{Gives}
use Rattle.dsr_meaning.specs.Models.{Chain, IsDerived, IsDerivedBy, IsDeriver}
use Rattle.dsr_meaning.specs.Models.Chain.{begin, follow}
use Rattle.dsr_meaning.specs.Orders.{InstancePrecedes}
use Rattle.dsr_meaning.specs.Truth.{head}
use Rattle.dsr_step_laws.proofs.Given.{example, from_head, image, layout, marked, of_node, path_to, rules, slot}
use Rattle.dsr_step_laws.proofs.Giving.{IsLed, at, element_same, head_fires, head_gives, index_none, instance_same, marked_fires, marked_gives, next_fires, next_gives, value_fires, value_gives}
use Rattle.dsr_meaning.proofs.Ordered.{none_precedes_itself}

-- ---- the facts and their instances

-- A's members, of which the head gives the first and the second; B's; the pair of N; the numbers of V at slots 0 and 1
pub data Row : Type 0 where
  in_first in_second in_marked to_itself value_of_first value_of_second : Row

abbrev pub giver : Row → Instance
giver in_first = at 0 head
giver in_second = at 1 head
giver in_marked = at 2 (slot 1)
giver to_itself = at 3 (slot 1)
giver value_of_first = at 4 (slot 0)
giver value_of_second = at 4 (slot 1)

abbrev pub given : Row → Fact
given in_first = Member 0 (slot 0)
given in_second = Member 0 (slot 1)
given in_marked = Member 1 (slot 1)
given to_itself = Pair 0 (slot 1) (Elem (slot 1))
given value_of_first = Pair 1 (slot 0) (Num 0)
given value_of_second = Pair 1 (slot 1) (Num 1)

-- the instance gives the fact in a row
pub record IsRow (i : Instance) (fact : Fact) : Type 0 where
  pub row : Row
  pub giver_is : i ≡ giver row
  pub given_is : fact ≡ given row

-- ---- the same by the form of the fact

abbrev pub IsInModel : Fact → Type 0
IsInModel (Member zero e) = (e ≡ slot 0) ⊎ (e ≡ slot 1)
IsInModel (Member (suc zero) e) = e ≡ slot 1
IsInModel (Pair zero x target) = (x ≡ slot 1) × (target ≡ Elem (slot 1))
IsInModel (Pair (suc zero) x target) = ((x ≡ slot 0) × (target ≡ Num 0)) ⊎ ((x ≡ slot 1) × (target ≡ Num 1))
IsInModel _ = ⊥

row_in_model : (row : Row) → IsInModel (given row)
row_in_model in_first = inl refl
row_in_model in_second = inr refl
row_in_model in_marked = refl
row_in_model to_itself = (refl, refl)
row_in_model value_of_first = inl (refl, refl)
row_in_model value_of_second = inr (refl, refl)

pub slots_differ : slot 0 ≡ slot 1 → ⊥
slots_differ same = let numbers : 0 ≡ 1 = ap (λ (e : Element). e.slot) same in absurd (omega (arith, numbers))

-- ---- an instance that fires gives a row's fact

-- the slot of the code
led_to : (e : Element) (s : ℕ) → IsLed e (s + 1) → e ≡ slot s
led_to e s led = element_same e (slot s) led.pool (omega (arith, led.slot))

first_row : (i : Instance) (fact : Fact) → i.rule ≡ 0 → Gives example layout image i (from_head 0) fact → IsRow i fact
first_row i fact rule gives =
    let there = head_gives image i 0 fact 1 refl refl gives in
    record {
      row = in_first;
      giver_is = instance_same i 0 head rule there.elem there.index;
      given_is = there.fact_is ∙ ap (Member 0) (led_to there.target 0 there.led);
    }

second_row : (i : Instance) (fact : Fact) → i.rule ≡ 1 → Gives example layout image i (from_head 1) fact → IsRow i fact
second_row i fact rule gives =
    let there = head_gives image i 1 fact 2 refl refl gives in
    record {
      row = in_second;
      giver_is = instance_same i 1 head rule there.elem there.index;
      given_is = there.fact_is ∙ ap (Member 0) (led_to there.target 1 there.led);
    }

-- what a record of A reads of its two fields
next_of : (i : Instance) (e : Element) → i.elem ≡ e → value_at layout image i.elem 0 (path_to 1 0) ≡ value_at layout image e 0 (path_to 1 0)
next_of i e same = ap (λ x. value_at layout image x 0 (path_to 1 0)) same

value_of : (i : Instance) (e : Element) → i.elem ≡ e → value_at layout image i.elem 0 (path_to 1 1) ≡ value_at layout image e 0 (path_to 1 1)
value_of i e same = ap (λ x. value_at layout image x 0 (path_to 1 1)) same

marked_row : (i : Instance) (fact : Fact) → i.rule ≡ 2 → (i.elem ≡ slot 0) ⊎ (i.elem ≡ slot 1) → Gives example layout image i marked fact → IsRow i fact
marked_row i fact rule (inl elem) gives =
    let one : 0 ≡ 1 = (marked_gives image i fact 0 (value_of i (slot 0) elem) gives).0 in
    absurd (omega (arith, one))
marked_row i fact rule (inr elem) gives = record {
  row = in_marked;
  giver_is = instance_same i 2 (slot 1) rule elem (index_none i gives.is_instance.index_below);
  given_is = (marked_gives image i fact 1 (value_of i (slot 1) elem) gives).1 ∙ ap (Member 1) elem;
}

next_row : (i : Instance) (fact : Fact) → i.rule ≡ 3 → (i.elem ≡ slot 0) ⊎ (i.elem ≡ slot 1) → Gives example layout image i (of_node 0 0) fact → IsRow i fact
next_row i fact rule (inl elem) gives =
    let none = (next_gives image i fact 0 (next_of i (slot 0) elem) gives).led.slot in
    absurd (omega (arith, none))
next_row i fact rule (inr elem) gives =
    let there = next_gives image i fact 2 (next_of i (slot 1) elem) gives in
    record {
      row = to_itself;
      giver_is = instance_same i 3 (slot 1) rule elem (index_none i gives.is_instance.index_below);
      given_is = there.fact_is ∙ (ap (λ x. Pair 0 x (Elem there.target)) elem ∙ ap (λ y. Pair 0 (slot 1) (Elem y)) (led_to there.target 1 there.led));
    }

value_row : (i : Instance) (fact : Fact) → i.rule ≡ 4 → (i.elem ≡ slot 0) ⊎ (i.elem ≡ slot 1) → Gives example layout image i (of_node 1 1) fact → IsRow i fact
value_row i fact rule (inl elem) gives = record {
  row = value_of_first;
  giver_is = instance_same i 4 (slot 0) rule elem (index_none i gives.is_instance.index_below);
  given_is = value_gives image i fact 0 (value_of i (slot 0) elem) gives ∙ ap (λ x. Pair 1 x (Num 0)) elem;
}
value_row i fact rule (inr elem) gives = record {
  row = value_of_second;
  giver_is = instance_same i 4 (slot 1) rule elem (index_none i gives.is_instance.index_below);
  given_is = value_gives image i fact 1 (value_of i (slot 1) elem) gives ∙ ap (λ x. Pair 1 x (Num 1)) elem;
}

-- ---- chains

-- a rule whose premise is the head is none of the last three, and one with a set none of the first two
no_set : (a rule : Rule) (set : ℕ) → a.premise ≡ Some set → Some a ≡ Some rule → rule.premise ≡ None → ⊥
no_set a rule set some same none =
    let both : Some set ≡ None = sym some ∙ (ap (λ (r : Rule). r.premise) (same_Some a rule same) ∙ none) in
    absurd cc

no_head : (a rule : Rule) (set : ℕ) → a.premise ≡ None → Some a ≡ Some rule → rule.premise ≡ Some set → ⊥
no_head a rule set none same some =
    let both : None ≡ Some set = sym none ∙ (ap (λ (r : Rule). r.premise) (same_Some a rule same) ∙ some) in
    absurd cc

-- the rule that the number names gives the fact
by_rule : (i : Instance) (a rule : Rule) (fact : Fact) → Some a ≡ Some rule → Gives example layout image i rule fact → Gives example layout image i a fact
by_rule i a rule fact same gives = subst (λ r. Gives example layout image i r fact) (sym (same_Some a rule same)) gives

at_head : (n : ℕ) (i : Instance) (rule : Rule) (fact : Fact) → i.rule ≡ n → slice_get rules n ≡ Some rule → rule.premise ≡ None → Gives example layout image i rule fact → IsRow i fact
at_head zero i rule fact number found none gives = first_row i fact number (by_rule i (from_head 0) rule fact found gives)
at_head (suc zero) i rule fact number found none gives = second_row i fact number (by_rule i (from_head 1) rule fact found gives)
at_head (suc (suc zero)) i rule fact number found none gives = absurd (no_set marked rule 0 refl found none)
at_head (suc (suc (suc zero))) i rule fact number found none gives = absurd (no_set (of_node 0 0) rule 0 refl found none)
at_head (suc (suc (suc (suc zero)))) i rule fact number found none gives = absurd (no_set (of_node 1 1) rule 0 refl found none)
at_head (suc (suc (suc (suc (suc n))))) i rule fact number found none gives = absurd cc

-- the premise of a rule is A, if it is a set
member_of_a : (a rule : Rule) (set : ℕ) (e : Element) → a.premise ≡ Some 0 → Some a ≡ Some rule → rule.premise ≡ Some set → IsInModel (Member set e) → (e ≡ slot 0) ⊎ (e ≡ slot 1)
member_of_a a rule set e some same premise member =
    let is : 0 ≡ set = same_Some 0 set (sym some ∙ (ap (λ (r : Rule). r.premise) (same_Some a rule same) ∙ premise)) in
    subst (λ s. IsInModel (Member s e)) (sym is) member

at_member : (n : ℕ) (i : Instance) (rule : Rule) (set : ℕ) (fact : Fact) → i.rule ≡ n → slice_get rules n ≡ Some rule → rule.premise ≡ Some set → IsInModel (Member set i.elem) → Gives example layout image i rule fact → IsRow i fact
at_member zero i rule set fact number found some member gives = absurd (no_head (from_head 0) rule set refl found some)
at_member (suc zero) i rule set fact number found some member gives = absurd (no_head (from_head 1) rule set refl found some)
at_member (suc (suc zero)) i rule set fact number found some member gives = marked_row i fact number (member_of_a marked rule set i.elem refl found some member) (by_rule i marked rule fact found gives)
at_member (suc (suc (suc zero))) i rule set fact number found some member gives = next_row i fact number (member_of_a (of_node 0 0) rule set i.elem refl found some member) (by_rule i (of_node 0 0) rule fact found gives)
at_member (suc (suc (suc (suc zero)))) i rule set fact number found some member gives = value_row i fact number (member_of_a (of_node 1 1) rule set i.elem refl found some member) (by_rule i (of_node 1 1) rule fact found gives)
at_member (suc (suc (suc (suc (suc n))))) i rule set fact number found some member gives = absurd cc

-- the last of the instances gives the fact in a row
abbrev EndsInRow : List Instance → Fact → Type 0
EndsInRow [] fact = ⊥
EndsInRow (i ∷ is) fact = IsRow i fact

in_model_of : (is : List Instance) (fact : Fact) → EndsInRow is fact → IsInModel fact
in_model_of [] fact row = absurd row
in_model_of (i ∷ is) fact row = subst IsInModel (sym row.given_is) (row_in_model row.row)

ends_in_row : (is : List Instance) (fact : Fact) → Chain example layout image is fact → EndsInRow is fact
ends_in_row is fact (begin i rule none gives) = at_head i.rule i rule fact refl gives.is_instance.rule_is none gives
ends_in_row is fact (follow {is = js} i rule set chain some gives) =
    at_member i.rule i rule set fact refl gives.is_instance.rule_is some
    (in_model_of js (Member set i.elem) (ends_in_row js (Member set i.elem) chain)) gives

-- ---- what is derived

pub row_of : (i : Instance) (fact : Fact) → IsDerivedBy example layout image i fact → IsRow i fact
row_of i fact derived = ends_in_row (i ∷ derived.0) fact derived.1

pub in_model : (fact : Fact) → IsDerived example layout image fact → IsInModel fact
in_model fact derived = in_model_of derived.0 fact (ends_in_row derived.0 fact derived.1)

-- the two members of A, from which the other chains go on
first_chain : IsDerivedBy example layout image (at 0 head) (Member 0 (slot 0))
first_chain = ([], begin (at 0 head) (from_head 0) refl (head_fires image 0 0 0 refl refl (omega arith) refl))

second_chain : IsDerivedBy example layout image (at 1 head) (Member 0 (slot 1))
second_chain = ([], begin (at 1 head) (from_head 1) refl (head_fires image 1 1 1 refl refl (omega arith) refl))

-- each row has a chain
pub chain_of : (row : Row) → IsDerivedBy example layout image (giver row) (given row)
chain_of in_first = first_chain
chain_of in_second = second_chain
chain_of in_marked = (_, follow (at 2 (slot 1)) marked 0 second_chain.1 refl (marked_fires image 1 (omega arith) refl))
chain_of to_itself = (_, follow (at 3 (slot 1)) (of_node 0 0) 0 second_chain.1 refl (next_fires image 1 1 (omega arith) (omega arith) refl))
chain_of value_of_first = (_, follow (at 4 (slot 0)) (of_node 1 1) 0 first_chain.1 refl (value_fires image 0 0 (omega arith) refl))
chain_of value_of_second = (_, follow (at 4 (slot 1)) (of_node 1 1) 0 second_chain.1 refl (value_fires image 1 1 (omega arith) refl))

pub derived : (row : Row) → IsDerived example layout image (given row)
derived row = (_, (chain_of row).1)

-- ---- who derives

-- the row of a fact of the model
abbrev row_at : Fact → Row
row_at (Member zero e) = elim e.slot [ zero ↦ in_first | suc n ↦ in_second ]
row_at (Member (suc set) e) = in_marked
row_at (Pair zero e target) = to_itself
row_at (Pair (suc rel) e target) = elim e.slot [ zero ↦ value_of_first | suc n ↦ value_of_second ]

row_back : (row : Row) → row_at (given row) ≡ row
row_back in_first = refl
row_back in_second = refl
row_back in_marked = refl
row_back to_itself = refl
row_back value_of_first = refl
row_back value_of_second = refl

no_instance_precedes_itself : (i : Instance) → InstancePrecedes i i → ⊥
no_instance_precedes_itself i (inl less) = omega (arith, less)
no_instance_precedes_itself i (inr (same, inl before)) = none_precedes_itself i.elem before
no_instance_precedes_itself i (inr (same, inr before)) = omega (arith, before.1)

-- no other instance gives the fact, so none does before this one
pub deriver : (row : Row) → IsDeriver example layout image (given row) (giver row)
deriver row = record {
  derived = chain_of row;
  none_before = λ j by before.
      let other = row_of j (given row) by in
      let same : other.row ≡ row = sym (row_back other.row) ∙ (ap row_at (sym other.given_is) ∙ row_back row) in
      no_instance_precedes_itself (giver row) (subst (λ i. InstancePrecedes i (giver row)) (other.giver_is ∙ ap giver same) before);
}
