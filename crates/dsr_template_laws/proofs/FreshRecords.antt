-- The fresh record of an update is one of its pool's slots, a member of no set that its supply names, and isn't the written
-- record.
use Rattle.std.proofs.Common.{◌≡◌, ◌≢◌, ◌<◌, ◌-◌, ◌∙◌, ℕ, suc, List, [], All, Option, None, Some, IfSome, IsSomeAnd, inl, inr, refl, sym, ap, subst}
use Rattle.std.specs.Prelude.{unwrap_or}
use Rattle.std.specs.Option.{option_and_then}
use Rattle.std.proofs.lemmas.Option.{same_Some, none-some}
use Rattle.dsr_repair_theory.specs.Choices.{IsFresh, IsFreshFrom, IsOutside, IsPlace, IsSupplied}
use Rattle.dsr_effect_laws.specs.Judged.{IsFreshFor}
use Rattle.dsr_effect_laws.proofs.AvoidedSets.{avoided_free}
use Rattle.dsr_repair_laws.proofs.PlainSets.{as_derived, as_fact, plain_base}
use Rattle.dsr_repair_laws.proofs.TriedSteps.{placed_at}
use Rattle.dsr_ir.specs.Layouts.{pool_numbers}
use Rattle.dsr_ir.specs.declared.declarations.Pool.{Pool}
use Rattle.dsr_ir.specs.declared.tuples.Element.{Element}
use Rattle.dsr_ir.specs.declared.tuples.Fact.{Fact}
use Rattle.dsr_ir.specs.declared.tuples.Fact.TheVariants.{Member}
use Rattle.dsr_ir.specs.declared.updates.Place.{Place}
use Rattle.dsr_ir.specs.declared.updates.Place.TheVariants as places
use Rattle.dsr_layout.proofs.Fitting.{pool_found}
use Rattle.dsr_graph_theory.specs.Sides.{IsNoFreshOne, MaySupply}
use Rattle.dsr_meaning.specs.Counting.{IsIn}
use Rattle.dsr_meaning.specs.Models.{Chain, IsDerived, IsFact, base_of}
use Rattle.dsr_meaning.specs.Typed.{IsPlainSetOf, pool_at}
use Rattle.dsr_update_theory.specs.Avoided.{IsAvoided}
use Rattle.dsr_update_theory.specs.Changes.{Change, fresh_pool}
use Rattle.dsr_update_theory.specs.Touching.{named_by}
use Rattle.dsr_template_laws.specs.Judging.{Application, change_in}
use Rattle.dsr_template_laws.specs.Tried.{IsTried}
use Rattle.dsr_template_laws.proofs.KnownMembers.{known_holds}
use Rattle.dsr_template_laws.proofs.TriedApplications.{tried_step}
use Rattle.dsr_meaning.proofs.Items.{of_all}
use Rattle.dsr_meaning.proofs.Options.{some_and}

module _ (a : Application) (t : IsTried a) where
  abbrev J : Change
  J = change_in a

  abbrev is_fact : Fact → Type 0
  is_fact = IsFact a.spec a.layout a.old

  pub record IsFreshOne (e : Element) : Type 0 where
    pub update_is : a.update.fresh ≡ Some e.pool
    pub supplied : IsSupplied is_fact a.spec a.layout e.pool e

  pub fresh_one : (e : Element) → a.step.fresh ≡ Some e → IsFreshOne e
  fresh_one e is = by_pool a.update.fresh refl a.applied.chosen.fresh where
    by_pool : (o : Option ℕ) → a.update.fresh ≡ o → IsFresh is_fact a.spec a.layout o a.step.fresh → IsFreshOne e
    by_pool None none f = absurd (none-some e (sym f ∙ is))
    by_pool (Some pool) some f =
        let x = some_and a.step.fresh (IsFreshFrom is_fact a.spec a.layout pool) f in
        let same : x.0 ≡ e = same_Some x.0 e (sym x.1.0 ∙ is) in
        let supplied : IsSupplied is_fact a.spec a.layout pool e = subst (IsSupplied is_fact a.spec a.layout pool) same x.1.1.supplied in
        record { update_is = some ∙ ap Some (sym supplied.pool_is); supplied = subst (λ p. IsSupplied is_fact a.spec a.layout p e) (sym supplied.pool_is) supplied }

  -- the sets that the supply names
  record AreNamed (e : Element) : Type 0 where
    decl : Pool
    decl_is : pool_at a.spec.base e.pool ≡ Some decl
    sets : List ℕ
    sets_are : decl.avoid ≡ Some sets
    outside : IsOutside is_fact sets e

  named : (e : Element) → IsFreshOne e → AreNamed e
  named e f =
      let d = some_and (pool_at a.spec.base e.pool) (λ d. IsSomeAnd d.avoid (λ sets. IsOutside is_fact sets e)) f.supplied.outside in
      let s = some_and d.0.avoid (λ sets. IsOutside is_fact sets e) d.1.1 in
      record { decl = d.0; decl_is = d.1.0; sets = s.0; sets_are = s.1.0; outside = s.1.1 }

  named_are : (e : Element) (f : IsFreshOne e) (n : AreNamed e) → named_by (fresh_pool J) ≡ n.sets
  named_are e f n =
      let pool : fresh_pool J ≡ Some n.decl = ap (option_and_then (pool_at a.spec.base)) f.update_is ∙ n.decl_is in
      ap named_by pool ∙ ap (λ o. unwrap_or o []) n.sets_are

  -- they are no complements
  named_plain : (e : Element) (n : AreNamed e) (set : ℕ) → IsIn set n.sets → base_of a.spec set ≡ None
  named_plain e n set is_in =
      let of = (a.applied.image.typed.base.pools (e.pool - 1) n.decl (pool_found a.spec.base e.pool n.decl n.decl_is)).avoid in
      plain_base a.spec (suc (e.pool - 1)) set (of_all (IsPlainSetOf a.spec.base (suc (e.pool - 1))) n.sets set (subst (λ o. IfSome o (All (IsPlainSetOf a.spec.base (suc (e.pool - 1))))) n.sets_are of) is_in)

  outside : (e : Element) (f : IsFreshOne e) (set : ℕ) → IsIn set (named_by (fresh_pool J)) → IsDerived a.spec a.layout a.old (Member set e) → ⊥
  outside e f set is_in d =
      let n = named e f in
      let at_set = subst (IsIn set) (named_are e f n) is_in in
      n.outside set at_set (as_fact a.spec a.layout a.old set e (named_plain e n set at_set) d)

  avoided_plain : (e : Element) (f : IsFreshOne e) (set : ℕ) → IsAvoided a.spec (named_by (fresh_pool J)) set → base_of a.spec set ≡ None
  avoided_plain e f set (IsAvoided.named s is_in) = let n = named e f in named_plain e n s (subst (IsIn s) (named_are e f n) is_in)
  avoided_plain e f set (IsAvoided.given s plain own rest) = plain

  pub taken : (e : Element) → a.step.fresh ≡ Some e → IsFreshFor J a.layout a.old e
  taken e is =
      let f = fresh_one e is in
      record {
        some = λ none. subst (λ p. IsSomeAnd (pool_numbers a.layout p) (λ n. e.slot < n.count)) none f.supplied.slot;
        pool_is = f.update_is;
        outside = outside e f;
      }

  -- it isn't the written one
  not_avoided : (e : Element) → IsFreshOne e → (place : Place) → a.update.place ≡ place → e ≡ a.step.elem → IsNoFreshOne J place → ⊥
  not_avoided e f places.Head is same no_one = no_one
  not_avoided e f places.Deriver is same no_one = no_one
  not_avoided e f (places.Of v) is same no_one =
      let at_v = subst (λ p. IsPlace a.step.binding a.applied.chosen.stopped p a.step.elem) is a.applied.chosen.place in
      let fact = known_holds a.spec a.applied.image.typed a.layout a.old a.applied.violated.constraint.quant a.step.binding a.applied.violated.is_binding no_one.1 a.step.elem at_v in
      let d = as_derived a.spec a.layout a.old no_one.0 a.step.elem (avoided_plain e f no_one.0 no_one.2) fact in
      avoided_free a.spec a.layout a.old (named_by (fresh_pool J)) e (outside e f) no_one.0 no_one.2 d.0 (subst (λ x. Chain a.spec a.layout a.old d.0 (Member no_one.0 x)) (sym same) d.1)

  pub another : (e : Element) → a.step.fresh ≡ Some e → e ≢ a.step.elem
  another e is same =
      let f = fresh_one e is in
      let supply : MaySupply J e.pool = subst (λ o. IfSome o (MaySupply J)) f.update_is t.may.fresh in
      elim supply.other as (λ _. ⊥) [
        | inl differ ↦ differ ((placed_at a.spec a.layout a.old a.step a.update (tried_step a t.tried)).pool_is ∙ ap Some (sym (ap (λ (x : Element). x.pool) same)))
        | inr no_one ↦ not_avoided e f a.update.place refl same no_one
      ]
