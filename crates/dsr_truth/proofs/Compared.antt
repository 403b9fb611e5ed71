-- Numbers of a model, compared.
use Rattle.std.proofs.Common.{◌≡◌, ◌<◌, ◌≤◌, ◌↔◌, ℕ, Bool, true, false, not, ◌⊎◌, IsTrue, MatchBool, Option, None, Some, refl, sym, ◌∙◌, subst, arith, inl, inr}
use Rattle.dsr_ir.specs.declared.constraints.Bound.{Bound}
use Rattle.dsr_ir.specs.declared.constraints.Measure.{Measure}
use Rattle.dsr_ir.specs.declared.constraints.Measure.TheVariants.{Out}
use Rattle.dsr_ir.specs.declared.constraints.Var.TheVariants.{First}
use Rattle.dsr_ir.specs.declared.rules.Op.{Op}
use Rattle.dsr_ir.specs.declared.rules.Op.TheVariants.{Eq, Ge, Gt, Le, Lt, Ne}
use Rattle.dsr_ir.specs.declared.tuples.Binding.{Binding}
use Rattle.dsr_ir.specs.declared.tuples.Binding.TheVariants as bindings
use Rattle.dsr_ir.specs.declared.tuples.Element.{Element}
use Rattle.dsr_ir.specs.declared.tuples.Fact.{Fact}
use Rattle.dsr_ir.specs.declared.tuples.Fact.TheVariants.{Member, Pair}
use Rattle.dsr_ir.specs.declared.tuples.Target.TheVariants.{Elem, Num}
use Rattle.dsr_meaning.proofs.Sizes.{bound_once, size_once}
use Rattle.dsr_meaning.specs.Instances.{Compares}
use Rattle.dsr_meaning.specs.Looking.{FindsGreatestCounted}
use Rattle.dsr_meaning.specs.Truth.{HasBound, HasSize}
use Rattle.dsr_resolve.proofs.PassedTests.{decides_compares}
use Rattle.dsr_schema.specs.Comparing.{compares}
use Rattle.dsr_relations.specs.Tuples.{IsNextValue}
use Rattle.dsr_truth.specs.Values.{FindsGreatestValue, IsGreatestValue, ReachDown, ReachUp, SomeFails}

pub size_meets : (is_fact : Fact → Type 0) (b : Binding) (measure : Measure) (op : Op) (size number : ℕ)
    (answer : Bool)
    → HasSize is_fact b measure size → answer ≡ compares op size number
    → IsTrue answer ↔ ((n : ℕ) × HasSize is_fact b measure n × Compares op n number)
size_meets is_fact b measure op size number answer has is = (
  λ yes. (size, has, (decides_compares op size number).0 (sym is ∙ yes)),
  λ h.
      let same = size_once is_fact b measure h.0 size h.1 has in
      is ∙ (decides_compares op size number).1 (subst (λ n. Compares op n number) same h.2),
)

-- a value is compared with the only number that the bound has
pub values_meet : (is_fact : Fact → Type 0) (b : Binding) (bound : Bound) (op : Op) (number : ℕ)
    (Values : ℕ → Type 0) (answer : Bool)
    → HasBound is_fact b bound number → IsTrue answer ↔ ((value : ℕ) → Values value → Compares op value number)
    → IsTrue answer ↔ ((n : ℕ) × HasBound is_fact b bound n × ((value : ℕ) → Values value → Compares op value n))
values_meet is_fact b bound op number Values answer has is = (
  λ yes. (number, has, is.0 yes),
  λ h.
      let same = bound_once is_fact b bound h.0 number h.1 has in
      is.1 (subst (λ n. (value : ℕ) → Values value → Compares op value n) same h.2),
)

-- the number of a pair; elements come before numbers
abbrev pub value_of : Option Fact → Option ℕ
value_of None = None
value_of (Some (Member s e)) = None
value_of (Some (Pair r e (Elem f))) = None
value_of (Some (Pair r e (Num n))) = Some n

pub greatest_value : (is_fact : Fact → Type 0) (rel : ℕ) (source : Element) (answer : Option Fact)
    → FindsGreatestCounted is_fact (bindings.Each source) (Out First rel) answer
    → FindsGreatestValue (λ value. is_fact (Pair rel source (Num value))) (value_of answer)
greatest_value is_fact rel source None none =
    λ value held. none (Pair rel source (Num value)) ((refl, refl), held)
greatest_value is_fact rel source (Some (Member s e)) most = absurd most.of_kind.0
greatest_value is_fact rel source (Some (Pair r e (Elem f))) most = λ value held.
    let own : e ≡ source = named most.of_kind.0.1 in
    most.none_after (Pair rel source (Num value)) ((refl, refl), held) (inr (most.of_kind.0.0, inr (own, tt)))
  where
    named : {x y : Element} → Some x ≡ Some y → y ≡ x
    named is = cc
greatest_value is_fact rel source (Some (Pair r e (Num n))) most =
    let own : e ≡ source = named most.of_kind.0.1 in record {
      held =
          subst (λ x. is_fact (Pair rel x (Num n))) own
          (subst (λ k. is_fact (Pair k e (Num n))) most.of_kind.0.0 most.of_kind.1);
      greatest = λ value held. at_most value (λ less.
          most.none_after (Pair rel source (Num value)) ((refl, refl), held)
          (inr (most.of_kind.0.0, inr (own, less))));
    }
  where
    named : {x y : Element} → Some x ≡ Some y → y ≡ x
    named is = cc

    at_most : (value : ℕ) → (n < value → ⊥) → value ≤ n
    at_most value not = omega arith

-- ---- all values, by the least and the greatest of them

module _ (Values : ℕ → Type 0) (number : ℕ) where
  pub fails : (op : Op) (value : ℕ) → Values value → compares op value number ≡ false
      → SomeFails Values op number
  fails op value held is = (
    value,
    held,
    λ holds.
        absurd (let yes = (decides_compares op value number).1 holds in cc),
  )

  pub greatest_tells : (op : Op) (answer : Bool) (value : ℕ) → IsGreatestValue Values value
      → answer ≡ compares op value number
      → MatchBool answer (ReachUp Values op number) (SomeFails Values op number)
  greatest_tells op true value most is = λ v held.
      (value, most.greatest v held, (decides_compares op value number).0 (sym is))
  greatest_tells op false value most is = fails op value most.held (sym is)

  pub least_tells : (op : Op) (answer : Bool) (value : ℕ) → IsNextValue Values 0 value
      → answer ≡ compares op value number
      → MatchBool answer (ReachDown Values op number) (SomeFails Values op number)
  least_tells op true value next is = λ v held.
      (value, next.least v held (omega arith), (decides_compares op value number).0 (sym is))
  least_tells op false value next is = fails op value next.held (sym is)

  -- a value that fails is one of all
  not_all : (op : Op) → SomeFails Values op number
      → IsTrue false ↔ ((v : ℕ) → Values v → Compares op v number)
  not_all op some = (λ yes. absurd cc, λ all. absurd (some.2 (all some.0 some.1)))

  pub all_below : (answer : Bool) → MatchBool answer (ReachUp Values Lt number) (SomeFails Values Lt number)
      → IsTrue answer ↔ ((v : ℕ) → Values v → Compares Lt v number)
  all_below true reach = (λ _ v held. let far = reach v held in omega (arith, far.1, far.2), λ _. refl)
  all_below false some = not_all Lt some

  pub all_within : (answer : Bool) → MatchBool answer (ReachUp Values Le number) (SomeFails Values Le number)
      → IsTrue answer ↔ ((v : ℕ) → Values v → Compares Le v number)
  all_within true reach = (λ _ v held. let far = reach v held in omega (arith, far.1, far.2), λ _. refl)
  all_within false some = not_all Le some

  pub all_above : (answer : Bool) → MatchBool answer (ReachDown Values Gt number) (SomeFails Values Gt number)
      → IsTrue answer ↔ ((v : ℕ) → Values v → Compares Gt v number)
  all_above true reach = (λ _ v held. let far = reach v held in omega (arith, far.1, far.2), λ _. refl)
  all_above false some = not_all Gt some

  pub all_from : (answer : Bool) → MatchBool answer (ReachDown Values Ge number) (SomeFails Values Ge number)
      → IsTrue answer ↔ ((v : ℕ) → Values v → Compares Ge v number)
  all_from true reach = (λ _ v held. let far = reach v held in omega (arith, far.1, far.2), λ _. refl)
  all_from false some = not_all Ge some

  pub all_alike : (greatest : Bool) → ReachDown Values Eq number
      → MatchBool greatest (ReachUp Values Eq number) (SomeFails Values Eq number)
      → IsTrue greatest ↔ ((v : ℕ) → Values v → Compares Eq v number)
  all_alike true down up = (
    λ _ v held.
        let low = down v held in
        let high = up v held in
        omega (arith, low.1, low.2, high.1, high.2),
    λ _. refl,
  )
  all_alike false down some = not_all Eq some

  -- ---- by the comparison

  abbrev pub Tells : Op → Bool → Type 0
  Tells op answer = IsTrue answer ↔ ((v : ℕ) → Values v → Compares op v number)

  pub tells_up : (op : Op) (answer : Bool) → (op ≡ Lt) ⊎ (op ≡ Le)
      → MatchBool answer (ReachUp Values op number) (SomeFails Values op number) → Tells op answer
  tells_up op answer (inl is) told = subst (λ o. Tells o answer) (sym is) (all_below answer
      (subst (λ o. MatchBool answer (ReachUp Values o number) (SomeFails Values o number)) is told))
  tells_up op answer (inr is) told = subst (λ o. Tells o answer) (sym is) (all_within answer
      (subst (λ o. MatchBool answer (ReachUp Values o number) (SomeFails Values o number)) is told))

  pub tells_down : (op : Op) (answer : Bool) → (op ≡ Gt) ⊎ (op ≡ Ge)
      → MatchBool answer (ReachDown Values op number) (SomeFails Values op number) → Tells op answer
  tells_down op answer (inl is) told = subst (λ o. Tells o answer) (sym is) (all_above answer
      (subst (λ o. MatchBool answer (ReachDown Values o number) (SomeFails Values o number)) is told))
  tells_down op answer (inr is) told = subst (λ o. Tells o answer) (sym is) (all_from answer
      (subst (λ o. MatchBool answer (ReachDown Values o number) (SomeFails Values o number)) is told))

  pub tells_alike : (op : Op) (least greatest : Bool) → op ≡ Eq → least ≡ true
      → MatchBool least (ReachDown Values op number) (SomeFails Values op number)
      → MatchBool greatest (ReachUp Values op number) (SomeFails Values op number)
      → Tells op greatest
  tells_alike op least greatest is held down up =
      let low = subst (λ b. MatchBool b (ReachDown Values op number) (SomeFails Values op number)) held down in
      subst (λ o. Tells o greatest) (sym is) (all_alike greatest
      (subst (λ o. ReachDown Values o number) is low)
      (subst (λ o. MatchBool greatest (ReachUp Values o number) (SomeFails Values o number)) is up))

  all_other : (has : Bool) → IsTrue has ↔ Values number → Tells Ne (not has)
  all_other true told = (λ yes. absurd cc, λ all. absurd (all number (told.0 refl) refl))
  all_other false told = (
    λ _ v held same. let yes = told.1 (subst Values same held) in cc,
    λ _. refl,
  )

  pub tells_other : (op : Op) (has : Bool) → op ≡ Ne → IsTrue has ↔ Values number → Tells op (not has)
  tells_other op has is told = subst (λ o. Tells o (not has)) (sym is) (all_other has told)

-- a size that isn't greater than one that is small enough is small enough
pub smaller_compares : (op : Op) (n most k : ℕ) → (op ≡ Lt) ⊎ (op ≡ Le) → n ≤ most → Compares op most k → Compares op n k
smaller_compares op n most k (inl is) few meets =
    let less : most < k = subst (λ o. Compares o most k) is meets in
    subst (λ o. Compares o n k) (sym is) (omega (arith, few, less))
smaller_compares op n most k (inr is) few meets =
    let less : most ≤ k = subst (λ o. Compares o most k) is meets in
    subst (λ o. Compares o n k) (sym is) (omega (arith, few, less))
