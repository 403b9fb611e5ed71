-- The record that is written is one of its place's pool.
use Rattle.std.proofs.Common.{◌≡◌, ◌<◌, ◌∙◌, ℕ, List, Option, None, Some, IsSomeAnd, refl, sym, ap, subst, slice_get, arith}
use Rattle.std.specs.Prelude.{option_map}
use Rattle.std.specs.Option.{option_and_then}
use Rattle.std.proofs.lemmas.Option.{same_Some}
use Rattle.dsr_repair_theory.specs.Choices.{IsPlace, IsUpdateAt}
use Rattle.dsr_repair_laws.proofs.MakingRecords.{var_record}
use Rattle.dsr_repair_laws.proofs.LastGiven.{derived_by}
use Rattle.dsr_ir.specs.declared.constraints.Atom.{Atom}
use Rattle.dsr_ir.specs.declared.constraints.Quant.{Quant}
use Rattle.dsr_ir.specs.declared.constraints.Quant.TheVariants as quants
use Rattle.dsr_ir.specs.declared.constraints.Var.{Var}
use Rattle.dsr_ir.specs.declared.constraints.Var.TheVariants.{Head, First, Second}
use Rattle.dsr_ir.specs.declared.declarations.Rel.{Rel}
use Rattle.dsr_ir.specs.declared.declarations.SetDecl.{SetDecl}
use Rattle.dsr_ir.specs.declared.declarations.Spec.{Spec}
use Rattle.dsr_ir.specs.declared.layouts.Layout.{Layout}
use Rattle.dsr_ir.specs.declared.tuples.Binding.{Binding}
use Rattle.dsr_ir.specs.declared.tuples.Binding.TheVariants as bindings
use Rattle.dsr_ir.specs.declared.tuples.Element.{Element}
use Rattle.dsr_ir.specs.declared.tuples.Fact.TheVariants.{Member, Pair}
use Rattle.dsr_ir.specs.declared.tuples.Instance.{Instance}
use Rattle.dsr_ir.specs.declared.tuples.Target.TheVariants.{Elem}
use Rattle.dsr_ir.specs.declared.updates.Place.{Place}
use Rattle.dsr_ir.specs.declared.updates.Place.TheVariants as places
use Rattle.dsr_ir.specs.declared.updates.Template.{Template}
use Rattle.dsr_ir.specs.declared.updates.Update.{Update}
use Rattle.dsr_layout.proofs.RangeOfFacts.{fact_in_range}
use Rattle.dsr_layout.specs.InRange.{IsRecordOf, IsTargetOf}
use Rattle.dsr_meaning.specs.Consistency.{IsBinding}
use Rattle.dsr_meaning.specs.Instances.{premise_pool, record_count}
use Rattle.dsr_meaning.specs.Layouts.{layout_of}
use Rattle.dsr_meaning.specs.Models.{IsFact}
use Rattle.dsr_meaning.specs.Truth.{element_of, head}
use Rattle.dsr_meaning.specs.Typed.{IsTyped, pool_of_var}
use Rattle.dsr_update_theory.specs.Changes.{place_pool}

-- a record of the pool that it has
pub record IsPlaced (spec : Spec) (layout : Layout) (quant : Quant) (rule : ℕ) (place : Place) (e : Element) : Type 0 where
  pub pool_is : place_pool spec quant rule place ≡ Some e.pool
  pub of_pool : IsRecordOf layout e.pool e

module _ (spec : Spec) (bytes : List ℕ) (layout : Layout) (is : layout_of spec.base bytes ≡ Some layout) (typed : IsTyped spec) (b : Binding) where
  abbrev Bound : Quant → Type 0
  Bound quant = IsBinding (IsFact spec layout bytes) quant b

  target_pool : (o : Option ℕ) (e : Element) → IsTargetOf layout o (Elem e) → o ≡ Some e.pool
  target_pool None e of = absurd of
  target_pool (Some p) e of = ap Some (sym of.pool_is)

  -- the pool of a variable is that of its record
  pub var_pool : (quant : Quant) (c : Binding) → IsBinding (IsFact spec layout bytes) quant c → (v : Var) (e : Element) → element_of c v ≡ Some e → pool_of_var spec.base quant v ≡ Some e.pool
  var_pool quant c bound Head e at = ap (λ (x : Element). Some x.pool) (same_Some head e at)
  var_pool quants.Once bindings.Once bound First e at = absurd cc
  var_pool quants.Once bindings.Once bound Second e at = absurd cc
  var_pool quants.Once (bindings.Each x) bound First e at = absurd bound
  var_pool quants.Once (bindings.Each x) bound Second e at = absurd bound
  var_pool quants.Once (bindings.Pair x y) bound First e at = absurd bound
  var_pool quants.Once (bindings.Pair x y) bound Second e at = absurd bound
  var_pool (quants.Each set) bindings.Once bound First e at = absurd bound
  var_pool (quants.Each set) bindings.Once bound Second e at = absurd bound
  var_pool (quants.Each set) (bindings.Pair x y) bound First e at = absurd bound
  var_pool (quants.Each set) (bindings.Pair x y) bound Second e at = absurd bound
  var_pool (quants.Each set) (bindings.Each x) bound Second e at = absurd cc
  var_pool (quants.Each set) (bindings.Each x) bound First e at =
      let range = fact_in_range spec bytes layout is typed (Member set x) bound in
      ap (option_map (λ (s : SetDecl). s.pool)) range.declared ∙ (ap Some (sym range.member.pool_is) ∙ ap (λ (y : Element). Some y.pool) (same_Some x e at))
  var_pool (quants.Pairs rel) bindings.Once bound First e at = absurd bound
  var_pool (quants.Pairs rel) bindings.Once bound Second e at = absurd bound
  var_pool (quants.Pairs rel) (bindings.Each x) bound First e at = absurd bound
  var_pool (quants.Pairs rel) (bindings.Each x) bound Second e at = absurd bound
  var_pool (quants.Pairs rel) (bindings.Pair x y) bound First e at =
      let range = fact_in_range spec bytes layout is typed (Pair rel x (Elem y)) bound in
      ap (option_map (λ (r : Rel). r.source)) range.declared ∙ (ap Some (sym range.source.pool_is) ∙ ap (λ (z : Element). Some z.pool) (same_Some x e at))
  var_pool (quants.Pairs rel) (bindings.Pair x y) bound Second e at =
      let range = fact_in_range spec bytes layout is typed (Pair rel x (Elem y)) bound in
      ap (option_and_then (λ (r : Rel). r.target)) range.declared ∙ (target_pool range.decl.target y range.target_is ∙ ap (λ (z : Element). Some z.pool) (same_Some y e at))

  of_stopped : (quant : Quant) (atom : Atom) (template : Template) (n : ℕ) (update : Update) (e : Element) (stopped : Option Instance) → IsUpdateAt spec layout bytes b atom template n update stopped → IsSomeAnd stopped (λ i. e ≡ i.elem) → IsPlaced spec layout quant update.rule places.Deriver e
  of_stopped quant atom template n update e stopped (IsUpdateAt.adds u adds at) of = absurd of
  of_stopped quant atom template n update e stopped (IsUpdateAt.takes_away m u fact i away to_go deriver at by) of =
      let given = derived_by spec layout bytes i fact deriver.derived in
      let found : slice_get spec.rules update.rule ≡ Some given.rule = ap (slice_get spec.rules) by ∙ given.gives.is_instance.rule_is in
      let pool : e.pool ≡ premise_pool spec given.rule = ap (λ (x : Element). x.pool) of ∙ given.gives.is_instance.pool_is in
      record {
        pool_is = ap (option_map (premise_pool spec)) found ∙ ap Some (sym pool);
        of_pool = record {
          pool_is = refl;
          slot_below = subst (λ p. e.slot < record_count layout p) (sym pool) (subst (λ k. k < record_count layout (premise_pool spec given.rule)) (sym (ap (λ (x : Element). x.slot) of)) given.gives.is_instance.slot_below);
        };
      }

  pub placed : (quant : Quant) → Bound quant → (atom : Atom) (template : Template) (n : ℕ) (update : Update) (e : Element) (place : Place) (stopped : Option Instance) → IsUpdateAt spec layout bytes b atom template n update stopped → IsPlace b stopped place e → IsPlaced spec layout quant update.rule place e
  placed quant bound atom template n update e places.Head stopped chosen of = record {
    pool_is = ap (λ (x : Element). Some x.pool) (sym of);
    of_pool = subst (λ (x : Element). IsRecordOf layout x.pool x) (sym of) (record { pool_is = refl; slot_below = omega arith });
  }
  placed quant bound atom template n update e (places.Of v) stopped chosen of =
      let pool = var_pool quant b bound v e of in
      record { pool_is = pool; of_pool = var_record spec bytes layout is typed quant b bound v e.pool e pool of }
  placed quant bound atom template n update e places.Deriver stopped chosen of = of_stopped quant atom template n update e stopped chosen of
