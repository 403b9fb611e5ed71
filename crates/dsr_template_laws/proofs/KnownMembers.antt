-- A variable's record is a member of each set of which that is known.
use Rattle.std.proofs.Common.{◌≡◌, ◌<◌, ◌⊎◌, ◌∙◌, ℕ, List, [], ◌∷◌, None, Some, All, inl, inr, refl, sym, ap, subst}
use Rattle.std.proofs.lemmas.Option.{same_Some, none-some}
use Rattle.dsr_ir.specs.Rules.{target_of}
use Rattle.dsr_ir.specs.declared.constraints.Quant.{Quant}
use Rattle.dsr_ir.specs.declared.constraints.Quant.TheVariants as quants
use Rattle.dsr_ir.specs.declared.constraints.Var.{Var}
use Rattle.dsr_ir.specs.declared.constraints.Var.TheVariants.{First, Second}
use Rattle.dsr_ir.specs.declared.declarations.Spec.{Spec}
use Rattle.dsr_ir.specs.declared.layouts.Layout.{Layout}
use Rattle.dsr_ir.specs.declared.rules.Inc.{Inc}
use Rattle.dsr_ir.specs.declared.rules.Inc.TheVariants as incs
use Rattle.dsr_ir.specs.declared.rules.Path.{Path}
use Rattle.dsr_ir.specs.declared.rules.Rule.{Rule}
use Rattle.dsr_ir.specs.declared.tuples.Binding.{Binding}
use Rattle.dsr_ir.specs.declared.tuples.Binding.TheVariants as bindings
use Rattle.dsr_ir.specs.declared.tuples.Element.{Element}
use Rattle.dsr_ir.specs.declared.tuples.Fact.{Fact}
use Rattle.dsr_ir.specs.declared.tuples.Fact.TheVariants.{Member, Pair}
use Rattle.dsr_ir.specs.declared.tuples.Instance.{Instance}
use Rattle.dsr_ir.specs.declared.tuples.Target.{Target as TargetOf}
use Rattle.dsr_ir.specs.declared.tuples.Target.TheVariants.{Elem}
use Rattle.dsr_ir.specs.declared.updates.Symbol.TheVariants as symbols
use Rattle.dsr_meaning.specs.Consistency.{IsBinding}
use Rattle.dsr_meaning.specs.Instances.{Gives, GuardHolds, HasTarget, Includes, IsInstance, LeadsTo, index_count, pool_of_premise, premise_pool, record_count}
use Rattle.dsr_meaning.specs.Looking.{symbol_of}
use Rattle.dsr_meaning.specs.Models.{Chain, IsDerived, IsFact}
use Rattle.dsr_meaning.specs.Models.Chain.{begin, follow}
use Rattle.dsr_meaning.specs.Truth.{element_of}
use Rattle.dsr_meaning.specs.Typed.{IsTyped}
use Rattle.dsr_effect_laws.specs.Allowed.{subject_of}
use Rattle.dsr_effect_laws.proofs.GivenFacts.{own_subject}
use Rattle.dsr_step_laws.proofs.GivenSymbols.{giver_of}
use Rattle.dsr_update_theory.specs.Givers.{IsGiver, IsGivenBy}
use Rattle.dsr_update_theory.specs.KnownSets.{GivesMembersOf, GivesTargetsTo, IsKnown}
use Rattle.dsr_repair_laws.proofs.PlainSets.{as_derived, as_fact, given_plain, premise_plain}
use Rattle.dsr_meaning.proofs.Items.{all_of, of_all}

module _ (spec : Spec) (typed : IsTyped spec) where
  module _ (layout : Layout) (bytes : List ℕ) where
    -- ---- the last instance of a chain

    pub record IsLast (fact : Fact) : Type 0 where
      pub instance : Instance
      pub rule : Rule
      pub gives : Gives spec layout bytes instance rule fact
      pub premise : (rule.premise ≡ None) ⊎ ((set : ℕ) × (rule.premise ≡ Some set) × IsDerived spec layout bytes (Member set instance.elem))

    pub last : (is : List Instance) (fact : Fact) → Chain spec layout bytes is fact → IsLast fact
    last is fact (begin i rule none g) = record { instance = i; rule = rule; gives = g; premise = inl none }
    last is fact (follow {is = js} i rule set chain some g) = record { instance = i; rule = rule; gives = g; premise = inr (set, some, (js, chain)) }

    -- where the premise is that set, the record is a member of it
    in_premise : (fact : Fact) (l : IsLast fact) (set : ℕ) → l.rule.premise ≡ Some set → IsDerived spec layout bytes (Member set l.instance.elem)
    in_premise fact l set premise = elim l.premise as (λ _. IsDerived spec layout bytes (Member set l.instance.elem)) [
      | inl none ↦ absurd (none-some set (sym none ∙ premise))
      | inr some ↦ subst (λ s. IsDerived spec layout bytes (Member s l.instance.elem)) (same_Some some.0 set (sym some.1 ∙ premise)) some.2
    ]

    -- the member or the source is one of the set from whose members the symbol's rules start
    from_members : (fact : Fact) (set : ℕ) (l : IsLast fact) → GivesMembersOf set l.rule → IsFact spec layout bytes (Member set (subject_of fact))
    from_members fact set l by =
        let at : subject_of fact ≡ l.instance.elem = own_subject spec layout bytes l.instance l.rule.inc fact l.gives.included by.own in
        as_fact spec layout bytes set (subject_of fact) (premise_plain spec typed l.instance.rule l.rule set l.gives.is_instance.rule_is by.premise_is)
        (subst (λ e. IsDerived spec layout bytes (Member set e)) (sym at) (in_premise fact l set by.premise_is))

    giver : (fact : Fact) (l : IsLast fact) → IsGiver spec (symbol_of fact) l.instance.rule l.rule
    giver fact l = record { rule_is = l.gives.is_instance.rule_is; gives = giver_of spec layout bytes l.instance l.rule.inc fact l.gives.included }

    -- the target of a pair is what the path leads to
    pair_target : (i : Instance) (inc : Inc) (rel : ℕ) (x : Element) (t : TargetOf) (path : Path) → target_of inc ≡ Some path → Includes spec layout bytes i inc (Pair rel x t) → HasTarget spec layout bytes i path t
    pair_target i (incs.Own set) rel x t path e h = absurd cc
    pair_target i (incs.Slot set pool) rel x t path e h = absurd cc
    pair_target i (incs.Target set p) rel x t path e h = let no : Pair rel x t ≡ Member set h.0 = h.2 in absurd cc
    pair_target i (incs.OwnPair r p) rel x t path e h =
        let is : Pair rel x t ≡ Pair r i.elem h.0 = h.2 in
        let same : h.0 ≡ t = cc in
        subst (λ u. HasTarget spec layout bytes i path u) same (subst (λ q. HasTarget spec layout bytes i q h.0) (same_Some p path e) h.1)
    pair_target i (incs.SlotPair r pool p) rel x t path e h =
        let is : Pair rel x t ≡ Pair r (record { pool = pool; slot = i.index }) h.0 = h.2 in
        let same : h.0 ≡ t = cc in
        subst (λ u. HasTarget spec layout bytes i path u) same (subst (λ q. HasTarget spec layout bytes i q h.0) (same_Some p path e) h.1)

    -- the counterpart of the pair's rule gives its target
    from_targets : (rel set : ℕ) (x y : Element) (l : IsLast (Pair rel x (Elem y))) → GivesTargetsTo spec set l.rule → IsFact spec layout bytes (Member set y)
    from_targets rel set x y l by =
        let k = by.0 in
        let other = by.1 in
        let as_rule = by.3 in
        let i = l.instance in
        let j : Instance = record { rule = k; elem = i.elem; index = i.index } in
        let pool : premise_pool spec l.rule ≡ premise_pool spec other = ap (pool_of_premise spec.base) (sym as_rule.premise_same) in
        let target = pair_target i l.rule.inc rel x (Elem y) as_rule.path as_rule.target_is l.gives.included in
        let leads : LeadsTo spec layout bytes j as_rule.path y = record { value = target.value; read = target.read; refers = target.refers; code = target.code } in
        let instance : IsInstance spec layout j other = record {
          rule_is = by.2.rule_is;
          pool_is = l.gives.is_instance.pool_is ∙ pool;
          slot_below = subst (λ p. i.elem.slot < record_count layout p) pool l.gives.is_instance.slot_below;
          index_below = subst (λ s. i.index < index_count layout s) (sym as_rule.span_same) l.gives.is_instance.index_below;
        } in
        let guards : All (GuardHolds spec layout bytes j) other.guards = all_of (GuardHolds spec layout bytes j) other.guards (λ guard is_in.
        let h = of_all (GuardHolds spec layout bytes i) l.rule.guards guard l.gives.guards (as_rule.guards guard is_in) in
        record { value = h.value; read = h.read; met = h.met }) in
        let included : Includes spec layout bytes j other.inc (Member set y) = subst (λ inc. Includes spec layout bytes j inc (Member set y)) (sym as_rule.gives_it) (y, leads, refl) in
        let g : Gives spec layout bytes j other (Member set y) = record { is_instance = instance; guards = guards; included = included } in
        as_fact spec layout bytes set y (given_plain spec typed set k other by.2)
        (elim l.premise as (λ _. IsDerived spec layout bytes (Member set y)) [
          | inl none ↦ (j ∷ [], begin j other (as_rule.premise_same ∙ none) g)
          | inr some ↦ (j ∷ some.2.0, follow j other some.0 some.2.1 (as_rule.premise_same ∙ some.1) g)
        ])

    -- ---- known sets

    abbrev HasFact : ℕ → Element → Type 0
    HasFact set e = IsFact spec layout bytes (Member set e)

    of_each : (set : ℕ) (b : Binding) (e : Element) → IsBinding (IsFact spec layout bytes) (quants.Each set) b → element_of b First ≡ Some e → HasFact set e
    of_each set bindings.Once e bound at = absurd bound
    of_each set (bindings.Each x) e bound at = subst (HasFact set) (same_Some x e at) bound
    of_each set (bindings.Pair x y) e bound at = absurd bound

    of_source : (rel set : ℕ) (b : Binding) (e : Element) → IsBinding (IsFact spec layout bytes) (quants.Pairs rel) b → IsGivenBy spec (symbols.Rel rel) (GivesMembersOf set) → element_of b First ≡ Some e → HasFact set e
    of_source rel set bindings.Once e bound given at = absurd bound
    of_source rel set (bindings.Each x) e bound given at = absurd bound
    of_source rel set (bindings.Pair x y) e bound given at =
        let l = last bound.0 (Pair rel x (Elem y)) bound.1 in
        subst (HasFact set) (same_Some x e at) (from_members (Pair rel x (Elem y)) set l (given.each l.instance.rule l.rule (giver (Pair rel x (Elem y)) l)))

    of_targets : (rel set : ℕ) (b : Binding) (e : Element) → IsBinding (IsFact spec layout bytes) (quants.Pairs rel) b → IsGivenBy spec (symbols.Rel rel) (GivesTargetsTo spec set) → element_of b Second ≡ Some e → HasFact set e
    of_targets rel set bindings.Once e bound given at = absurd bound
    of_targets rel set (bindings.Each x) e bound given at = absurd bound
    of_targets rel set (bindings.Pair x y) e bound given at =
        let l = last bound.0 (Pair rel x (Elem y)) bound.1 in
        subst (HasFact set) (same_Some y e at) (from_targets rel set x y l (given.each l.instance.rule l.rule (giver (Pair rel x (Elem y)) l)))

    -- a variable's record is a member of each set of which that is known
    pub known_holds : (quant : Quant) (b : Binding) → IsBinding (IsFact spec layout bytes) quant b → {v : Var} {set : ℕ} → IsKnown spec quant v set → (e : Element) → element_of b v ≡ Some e → HasFact set e
    known_holds quant b bound (IsKnown.quantified set is) e at = of_each set b e (subst (λ q. IsBinding (IsFact spec layout bytes) q b) is bound) at
    known_holds quant b bound (IsKnown.source rel set is given) e at = of_source rel set b e (subst (λ q. IsBinding (IsFact spec layout bytes) q b) is bound) given at
    known_holds quant b bound (IsKnown.target rel set is given) e at = of_targets rel set b e (subst (λ q. IsBinding (IsFact spec layout bytes) q b) is bound) given at
    known_holds quant b bound (IsKnown.base v set below known given) e at =
        let before = known_holds quant b bound known e at in
        let d = as_derived spec layout bytes set e (given_plain spec typed set given.some.0 given.some.1 given.some.2) before in
        let l = last d.0 (Member set e) d.1 in
        from_members (Member set e) below l (given.each l.instance.rule l.rule (giver (Member set e) l))
