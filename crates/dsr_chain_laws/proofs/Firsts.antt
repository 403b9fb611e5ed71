-- The chain that is given is a shortest one, and the only one that is given.
use Rattle.std.proofs.Common.{◌≡◌, ◌≤◌, ◌<◌, ◌∙◌, ◌⊎◌, ℕ, suc, List, [], ◌∷◌, None, Some, slice_get, length, inl, inr, refl, sym, ap, subst, arith}
use Rattle.std.proofs.lemmas.Bool.{cases_lt}
use Rattle.dsr_ir.specs.declared.declarations.Spec.{Spec}
use Rattle.dsr_ir.specs.declared.layouts.Layout.{Layout}
use Rattle.dsr_ir.specs.declared.rules.Rule.{Rule}
use Rattle.dsr_ir.specs.declared.tuples.Element.{Element}
use Rattle.dsr_ir.specs.declared.tuples.Fact.{Fact}
use Rattle.dsr_ir.specs.declared.tuples.Fact.TheVariants.{Member}
use Rattle.dsr_ir.specs.declared.tuples.Instance.{Instance}
use Rattle.dsr_meaning.proofs.Firing.{some_same}
use Rattle.dsr_meaning.specs.Instances.{Gives}
use Rattle.dsr_meaning.specs.Models.{Chain}
use Rattle.dsr_meaning.specs.Models.Chain.{begin as chain_begin, follow as chain_follow}
use Rattle.dsr_meaning.specs.Orders.{InstancePrecedes, Precedes}
use Rattle.dsr_chain_laws.specs.Shortest.{FirstChain, IsFirstEnd, IsShortest}
use Rattle.dsr_chain_laws.specs.Shortest.FirstChain.{begin, follow}

-- ---- instances are the same, or one comes before the other

numbers_apart : (m n : ℕ) → (m < n) ⊎ ((m ≡ n) ⊎ (n < m))
numbers_apart m n = elim (cases_lt m n) [
  | inl less ↦ inl less
  | inr from ↦ elim (cases_lt n m) [
    | inl more ↦ inr (inr more)
    | inr to ↦ inr (inl (omega (arith, from, to)))
  ]
]

elements_apart : (a b : Element) → Precedes a b ⊎ ((a ≡ b) ⊎ Precedes b a)
elements_apart a b = elim (numbers_apart a.pool b.pool) [
  | inl less ↦ inl (inl less)
  | inr (inr more) ↦ inr (inr (inl more))
  | inr (inl pool) ↦ elim (numbers_apart a.slot b.slot) [
    | inl less ↦ inl (inr (pool, less))
    | inr (inr more) ↦ inr (inr (inr (sym pool, more)))
    | inr (inl slot) ↦ inr (inl (λ k. record { pool = pool k; slot = slot k }))
  ]
]

pub instances_apart : (i j : Instance) → InstancePrecedes i j ⊎ ((i ≡ j) ⊎ InstancePrecedes j i)
instances_apart i j = elim (numbers_apart i.rule j.rule) [
  | inl less ↦ inl (inl less)
  | inr (inr more) ↦ inr (inr (inl more))
  | inr (inl rule) ↦ elim (elements_apart i.elem j.elem) [
    | inl less ↦ inl (inr (rule, inl less))
    | inr (inr more) ↦ inr (inr (inr (sym rule, inl more)))
    | inr (inl elem) ↦ elim (numbers_apart i.index j.index) [
      | inl less ↦ inl (inr (rule, inr (elem, less)))
      | inr (inr more) ↦ inr (inr (inr (sym rule, inr (sym elem, more))))
      | inr (inl index) ↦ inr (inl (λ k. record { rule = rule k; elem = elem k; index = index k }))
    ]
  ]
]

module _ (spec : Spec) (layout : Layout) (bytes : List ℕ) where
  -- two firsts are one
  one_end : (fact : Fact) (i j : Instance) → IsFirstEnd spec layout bytes fact i → IsFirstEnd spec layout bytes fact j → i ≡ j
  one_end fact i j first second = elim (instances_apart i j) [
    | inl before ↦ absurd (second.none_before i first.ends before)
    | inr (inl same) ↦ same
    | inr (inr behind) ↦ absurd (first.none_before j second.ends behind)
  ]

  -- rules of one instance are one
  one_rule : (i j : Instance) (r s : Rule) (a b : Fact) → i ≡ j → Gives spec layout bytes i r a → Gives spec layout bytes j s b → r ≡ s
  one_rule i j r s a b same p q = some_same _ r s p.is_instance.rule_is (ap (λ (k : Instance). slice_get spec.rules k.rule) same ∙ q.is_instance.rule_is)

  -- ---- the given chain is a chain, and a shortest one

  pub is_chain : (is : List Instance) (fact : Fact) → FirstChain spec layout bytes is fact → Chain spec layout bytes is fact
  is_chain _ fact (begin i rule head gives end) = chain_begin i rule head gives
  is_chain _ fact (follow {is = is} i rule set before premise gives end) = chain_follow i rule set (is_chain is (Member set i.elem) before) premise gives

  some_long : (is : List Instance) (fact : Fact) → Chain spec layout bytes is fact → 1 ≤ length is
  some_long _ fact (chain_begin i rule head gives) = omega arith
  some_long _ fact (chain_follow i rule set before premise gives) = omega arith

  -- the part of a chain before an instance with a premise
  pub record Before (set : ℕ) (e : Element) (is : List Instance) : Type 0 where
    pub rest : List Instance
    pub chain : Chain spec layout bytes rest (Member set e)
    pub long : suc (length rest) ≡ length is

  pub before_last : (i : Instance) (is : List Instance) (fact other : Fact) (rule : Rule) (set : ℕ) → Chain spec layout bytes (i ∷ is) fact → Gives spec layout bytes i rule other → rule.premise ≡ Some set → Before set i.elem (i ∷ is)
  before_last i _ fact other rule set (chain_begin _ own head gives) given premise =
      let same : own ≡ rule = one_rule i i own rule fact other refl gives given in
      let both : None ≡ Some set = sym head ∙ (ap (λ (r : Rule). r.premise) same ∙ premise) in absurd cc
  before_last i _ fact other rule set (chain_follow {is = rest} _ own of chain own_premise gives) given premise =
      let same : own ≡ rule = one_rule i i own rule fact other refl gives given in
      let sets : of ≡ set = some_same _ of set own_premise (ap (λ (r : Rule). r.premise) same ∙ premise) in
      record { rest = rest; chain = subst (λ n. Chain spec layout bytes rest (Member n i.elem)) sets chain; long = refl }

  pub no_longer : (is : List Instance) (fact : Fact) → FirstChain spec layout bytes is fact → (js : List Instance) → Chain spec layout bytes js fact → length is ≤ length js
  no_longer _ fact (begin i rule head gives end) js chain = let some = some_long js fact chain in omega (arith, some)
  no_longer _ fact (follow {is = is} i rule set before premise gives end) js chain =
      let part = before_last i end.ends.0 fact fact rule set end.ends.1.chain gives premise in
      let low = no_longer is (Member set i.elem) before part.rest part.chain in
      let least = end.ends.1.least js chain in
      omega (arith, low, least, part.long)

  pub is_shortest : (is : List Instance) (fact : Fact) → FirstChain spec layout bytes is fact → IsShortest spec layout bytes is fact
  is_shortest is fact first = record { chain = is_chain is fact first; least = no_longer is fact first }

  -- ---- and the only one

  pub one_chain : (is js : List Instance) (fact : Fact) → FirstChain spec layout bytes is fact → FirstChain spec layout bytes js fact → is ≡ js
  one_chain _ _ fact (begin i r head gives end) (begin j s also given too) = ap (λ k. k ∷ []) (one_end fact i j end too)
  one_chain _ _ fact (begin i r head gives end) (follow j s set before premise given too) =
      let rules : r ≡ s = one_rule i j r s fact fact (one_end fact i j end too) gives given in
      let both : None ≡ Some set = sym head ∙ (ap (λ (x : Rule). x.premise) rules ∙ premise) in absurd cc
  one_chain _ _ fact (follow i r set before premise gives end) (begin j s head given too) =
      let rules : r ≡ s = one_rule i j r s fact fact (one_end fact i j end too) gives given in
      let both : Some set ≡ None = sym premise ∙ (ap (λ (x : Rule). x.premise) rules ∙ head) in absurd cc
  one_chain _ _ fact (follow {is = is} i r set before premise gives end) (follow {is = js} j s other behind also given too) =
      let last : i ≡ j = one_end fact i j end too in
      let rules : r ≡ s = one_rule i j r s fact fact last gives given in
      let sets : other ≡ set = some_same _ other set also (ap (λ (x : Rule). x.premise) (sym rules) ∙ premise) in
      let member : Member other j.elem ≡ Member set i.elem = λ k. Member (sets k) (sym last k).elem in
      let rest : is ≡ js = one_chain is js (Member set i.elem) before (subst (FirstChain spec layout bytes js) member behind) in
      λ k. last k ∷ rest k
