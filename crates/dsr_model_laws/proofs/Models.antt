-- What chains derive is decided and listed, and so are the facts of a model, of which complements have more.
use Rattle.std.proofs.Common.{◌≡◌, ◌<◌, ◌⊎◌, ℕ, List, length, Option, None, Some, inl, inr, refl, sym, subst}
use Rattle.std.proofs.lemmas.Option.{slice_get_within}
use Rattle.std.specs.Prelude.{slice_get}
use Rattle.dsr_ir.specs.declared.declarations.Spec.{Spec}
use Rattle.dsr_ir.specs.declared.layouts.Layout.{Layout}
use Rattle.dsr_ir.specs.declared.tuples.Element.{Element}
use Rattle.dsr_ir.specs.declared.tuples.Fact.{Fact}
use Rattle.dsr_ir.specs.declared.tuples.Fact.TheVariants.{Member, Pair}
use Rattle.dsr_ir.specs.declared.tuples.Instance.{Instance}
use Rattle.dsr_meaning.specs.Instances.{record_count, set_pool}
use Rattle.dsr_meaning.specs.Models.{Chain, begin, follow, IsDerived, IsFact, IsInComplement, IsMemberBy, base_of}
use Rattle.dsr_layout.proofs.SameCounts.{some_before}
use Rattle.dsr_model_laws.specs.Deciding.{IsDecided}
use Rattle.dsr_model_laws.proofs.Ways.{At}
use Rattle.dsr_model_laws.proofs.Listed.{IsListed, alike, below, each, is_none, known, one, opposite, those, two_kinds}
use Rattle.dsr_model_laws.proofs.Derived.{Path, first, next, IsLeast, derived_decided, derived_listed}
use Rattle.dsr_model_laws.proofs.Instances.{Leads, steps, compared_facts, slots}

module _ (spec : Spec) (layout : Layout) (bytes : List ℕ) where
  path : {is : List Instance} {fact : Fact} → Chain spec layout bytes is fact → Path (Leads spec layout bytes) fact
  path (begin i rule none g) = first (record { instance = i; rule = rule; premise = none; gives = g })
  path (follow i rule set chain some g) = next (path chain) (record { instance = i; rule = rule; premise = (set, some, refl); gives = g })

  closed : (p : Option Fact) (fact : Fact) → Leads spec layout bytes (p, fact) → At (IsDerived spec layout bytes) p → IsDerived spec layout bytes fact
  closed None fact l d = (_, begin l.instance l.rule l.premise l.gives)
  closed (Some before) fact l d =
      let chain = subst (IsDerived spec layout bytes) l.premise.2 d in
      (_, follow l.instance l.rule l.premise.0 chain.1 l.premise.1 l.gives)

  least : IsLeast (Leads spec layout bytes) (IsDerived spec layout bytes)
  least = record { closed = closed; path = λ fact d. path d.1 }

  pub chains_decided : (fact : Fact) → IsDecided (IsDerived spec layout bytes fact)
  chains_decided fact = derived_decided (Leads spec layout bytes) (IsDerived spec layout bytes) compared_facts (steps spec layout bytes) least fact

  chains_listed : IsListed (IsDerived spec layout bytes)
  chains_listed = derived_listed (Leads spec layout bytes) (IsDerived spec layout bytes) compared_facts (steps spec layout bytes) least

  -- what is in the model where it is derived
  abbrev IsPlain : Fact → Type 0
  IsPlain (Member set e) = base_of spec set ≡ None
  IsPlain (Pair rel e target) = Unit {0}

  plain_decided : (fact : Fact) → IsDecided (IsPlain fact)
  plain_decided (Member set e) = is_none (base_of spec set)
  plain_decided (Pair rel e target) = inl tt

  -- what is in the model as a member of a complement
  abbrev IsOfSet : Fact → ℕ → ℕ → Type 0
  IsOfSet fact set base = (e : Element) × IsInComplement spec layout bytes set base e × (fact ≡ Member set e)

  abbrev IsOfComplement : Fact → Type 0
  IsOfComplement fact =
      (set : ℕ) × (set < length spec.base.sets) × ((base : ℕ) × (base_of spec set ≡ Some base) × IsOfSet fact set base)

  complement : (set base : ℕ) → IsListed (IsInComplement spec layout bytes set base)
  complement set base =
      alike (λ (e : Element). ((e.pool ≡ set_pool spec set) × (e.slot < record_count layout (set_pool spec set))) × (IsDerived spec layout bytes (Member base e) → ⊥)) (IsInComplement spec layout bytes set base)
      (λ e h. record { pool_is = h.0.0; slot_below = h.0.1; outside = h.1 }) (λ e o. ((o.pool_is, o.slot_below), o.outside))
      (those (λ (e : Element). (e.pool ≡ set_pool spec set) × (e.slot < record_count layout (set_pool spec set))) (λ e. IsDerived spec layout bytes (Member base e) → ⊥) (slots layout (set_pool spec set) (record_count layout (set_pool spec set)))
      (λ e _. opposite (chains_decided (Member base e))))

  complements : IsListed IsOfComplement
  complements =
      each (λ (set : ℕ). set < length spec.base.sets) (λ set fact. (base : ℕ) × (base_of spec set ≡ Some base) × IsOfSet fact set base) (below (length spec.base.sets))
      (λ set _. each (λ (base : ℕ). base_of spec set ≡ Some base) (λ base fact. IsOfSet fact set base) (known (base_of spec set))
      (λ base _. each (IsInComplement spec layout bytes set base) (λ e fact. fact ≡ Member set e) (complement set base) (λ e _. one (Member set e))))

  fact_of : (fact : Fact) → (IsDerived spec layout bytes fact × IsPlain fact) ⊎ IsOfComplement fact → IsFact spec layout bytes fact
  fact_of (Member set e) (inl p) = subst (λ o. IsMemberBy spec layout bytes set o e) (sym p.1) p.0
  fact_of (Pair rel e target) (inl p) = p.0
  fact_of fact (inr h) = subst (IsFact spec layout bytes) (sym h.2.2.2) (subst (λ o. IsMemberBy spec layout bytes h.0 o h.2.2.0) (sym h.2.1) h.2.2.1)

  kind_of : (fact : Fact) → IsFact spec layout bytes fact → (IsDerived spec layout bytes fact × IsPlain fact) ⊎ IsOfComplement fact
  kind_of (Pair rel e target) d = inl (d, tt)
  kind_of (Member set e) d = elim (base_of spec set) as (λ o. base_of spec set ≡ o → IsMemberBy spec layout bytes set o e → (IsDerived spec layout bytes (Member set e) × IsPlain (Member set e)) ⊎ IsOfComplement (Member set e)) [
    | None ↦ λ is h. inl (h, is)
    | Some base ↦ λ is h.
        let declared = some_before (λ s. s.except) (slice_get spec.base.sets set) base is in
        inr (set, slice_get_within spec.base.sets set declared.0 declared.1.0, (base, is, (e, h, refl)))
  ] refl d

  pub facts_listed : IsListed (IsFact spec layout bytes)
  facts_listed =
      alike (λ fact. (IsDerived spec layout bytes fact × IsPlain fact) ⊎ IsOfComplement fact) (IsFact spec layout bytes) fact_of kind_of
      (two_kinds (λ fact. IsDerived spec layout bytes fact × IsPlain fact) IsOfComplement (those (IsDerived spec layout bytes) IsPlain chains_listed (λ fact _. plain_decided fact)) complements)
