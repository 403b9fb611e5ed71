-- Sets that are no complements: of these the facts are what is derived.
use Rattle.std.proofs.Common.{◌≡◌, ◌∙◌, ℕ, List, true, None, Some, IfSome, IsSomeAnd, sym, ap, subst, slice_get}
use Rattle.std.specs.Option.{option_and_then}
use Rattle.std.proofs.lemmas.Bool.{eqb-true, false≢true}
use Rattle.dsr_ir.specs.Rules.{gives}
use Rattle.dsr_ir.specs.declared.declarations.SetDecl.{SetDecl}
use Rattle.dsr_ir.specs.declared.declarations.Spec.{Spec}
use Rattle.dsr_ir.specs.declared.layouts.Layout.{Layout}
use Rattle.dsr_ir.specs.declared.rules.Inc.{Inc}
use Rattle.dsr_ir.specs.declared.rules.Inc.TheVariants as incs
use Rattle.dsr_ir.specs.declared.rules.Rule.{Rule}
use Rattle.dsr_ir.specs.declared.tuples.Element.{Element}
use Rattle.dsr_ir.specs.declared.tuples.Fact.TheVariants.{Member}
use Rattle.dsr_ir.specs.declared.updates.Symbol.TheVariants as symbols
use Rattle.dsr_meaning.specs.Instances.{pool_of_premise}
use Rattle.dsr_meaning.specs.Models.{IsDerived, IsFact, IsMemberBy, base_of}
use Rattle.dsr_meaning.specs.Typed.{IsPlainSetOf, IsTyped, IsTypedInc}
use Rattle.dsr_update_theory.specs.Givers.{IsGiver}
use Rattle.dsr_repair_laws.proofs.MakingRecords.{of_rule}
use Rattle.dsr_meaning.proofs.Options.{some_and}

pub plain_base : (spec : Spec) (pool set : ℕ) → IsPlainSetOf spec.base pool set → base_of spec set ≡ None
plain_base spec pool set plain =
    let d = some_and (slice_get spec.base.sets set) (λ s. (s.pool ≡ pool) × (s.except ≡ None)) plain in
    ap (option_and_then (λ (s : SetDecl). s.except)) d.1.0 ∙ d.1.1.1

module _ (spec : Spec) (typed : IsTyped spec) where
  -- a premise is no complement
  pub premise_plain : (k : ℕ) (rule : Rule) (set : ℕ) → slice_get spec.rules k ≡ Some rule → rule.premise ≡ Some set → base_of spec set ≡ None
  premise_plain k rule set is premise =
      let known = subst (λ o. IfSome o (λ n. IsSomeAnd (slice_get spec.base.sets n) (λ s. s.except ≡ None))) premise (of_rule spec typed k rule is).premise in
      let d = some_and (slice_get spec.base.sets set) (λ s. s.except ≡ None) known in
      ap (option_and_then (λ (s : SetDecl). s.except)) d.1.0 ∙ d.1.1

  -- a set of which a rule gives members is none either
  pub given_plain : (set k : ℕ) (rule : Rule) → IsGiver spec (symbols.Set set) k rule → base_of spec set ≡ None
  given_plain set k rule giver = of_inc rule.inc (of_rule spec typed k rule giver.rule_is).inc giver.gives where
    of_inc : (inc : Inc) → IsTypedInc spec.base rule inc → gives (symbols.Set set) inc ≡ true → base_of spec set ≡ None
    of_inc (incs.Own s) t e = subst (λ x. base_of spec x ≡ None) (eqb-true s set e) (plain_base spec (pool_of_premise spec.base rule.premise) s t)
    of_inc (incs.Target s path) t e = subst (λ x. base_of spec x ≡ None) (eqb-true s set e) (plain_base spec t.0 s t.1)
    of_inc (incs.Slot s pool) t e = subst (λ x. base_of spec x ≡ None) (eqb-true s set e) (plain_base spec pool s t.0)
    of_inc (incs.OwnPair rel path) t e = absurd (false≢true e)
    of_inc (incs.SlotPair rel pool path) t e = absurd (false≢true e)

module _ (spec : Spec) (layout : Layout) (bytes : List ℕ) (set : ℕ) (e : Element) (plain : base_of spec set ≡ None) where
  pub as_fact : IsDerived spec layout bytes (Member set e) → IsFact spec layout bytes (Member set e)
  as_fact d = subst (λ o. IsMemberBy spec layout bytes set o e) (sym plain) d

  pub as_derived : IsFact spec layout bytes (Member set e) → IsDerived spec layout bytes (Member set e)
  as_derived f = subst (λ o. IsMemberBy spec layout bytes set o e) plain f
