-- All that the update which is chosen leaves open is there.
use Rattle.std.proofs.Common.{◌≡◌, ◌∙◌, ℕ, zero, suc, Bool, true, false, List, [], ◌∷◌, Option, None, Some, IsTrue, IsSome, IsSomeAnd, inl, inr, refl, sym, subst}
use Rattle.std.specs.Prelude.{IfSome, is_some, option_map, slice_get}
use Rattle.std.proofs.lemmas.Bool.{false≢true}
use Rattle.std.proofs.lemmas.Option.{same_Some}
use Rattle.dsr_repair_theory.specs.Choices.{Adds, IsEntryAt, IsPlace, IsUpdateAt, TakesAway, size_or, written_size}
use Rattle.dsr_repair_laws.specs.Chosen.{IsComplete}
use Rattle.dsr_ir.specs.declared.constraints.Literal.{Literal}
use Rattle.dsr_ir.specs.declared.constraints.Measure.{Measure}
use Rattle.dsr_ir.specs.declared.constraints.Var.{Var}
use Rattle.dsr_ir.specs.declared.declarations.Pool.{Pool}
use Rattle.dsr_ir.specs.declared.declarations.Spec.{Spec}
use Rattle.dsr_ir.specs.declared.layouts.Layout.{Layout}
use Rattle.dsr_ir.specs.declared.rules.Rule.{Rule}
use Rattle.dsr_ir.specs.declared.tuples.Binding.{Binding}
use Rattle.dsr_ir.specs.declared.tuples.Element.{Element}
use Rattle.dsr_ir.specs.declared.tuples.Instance.{Instance}
use Rattle.dsr_ir.specs.declared.updates.At.{At}
use Rattle.dsr_ir.specs.declared.updates.At.TheVariants as ats
use Rattle.dsr_ir.specs.declared.updates.Goal.TheVariants as goals
use Rattle.dsr_ir.specs.declared.updates.Pick.{Pick}
use Rattle.dsr_ir.specs.declared.updates.Pick.TheVariants as picks
use Rattle.dsr_ir.specs.declared.updates.Place.{Place}
use Rattle.dsr_ir.specs.declared.updates.Place.TheVariants as places
use Rattle.dsr_ir.specs.declared.updates.Symbol.{Symbol}
use Rattle.dsr_ir.specs.declared.updates.Template.{Template}
use Rattle.dsr_ir.specs.declared.updates.Update.{Update}
use Rattle.dsr_ir.specs.declared.updates.Write.{Write}
use Rattle.dsr_graph_theory.specs.Owners.{change_of, goal_at}
use Rattle.dsr_graph_theory.specs.Sides.{MaySupply, atom_symbol}
use Rattle.dsr_meaning.specs.Counting.{IsIn}
use Rattle.dsr_meaning.specs.Models.{IsFact}
use Rattle.dsr_meaning.specs.Truth.{HasVariable, element_of, head}
use Rattle.dsr_meaning.specs.Typed.{pool_at}
use Rattle.dsr_plan_theory.specs.Plans.{owner_at}
use Rattle.dsr_update_theory.specs.Changes.{Change}
use Rattle.dsr_update_theory.specs.Givers.{givers}
use Rattle.dsr_update_theory.specs.Options.{options}
use Rattle.dsr_update_theory.specs.Templates.{item_or_last, removing}
use Rattle.dsr_repair_laws.proofs.BoundVars.{IsBound}
use Rattle.dsr_repair_laws.proofs.Choosable.{HasEntry, HasPicked, HasPlace, HavePicked, IsChoosable, removing_choosable, still_choosable}
use Rattle.dsr_repair_laws.proofs.DueForms.{IsDueForm, goal_same, of_compensated}
use Rattle.dsr_repair_laws.proofs.ChoosableAdders.{adder_choosable, taken_bound}
use Rattle.dsr_repair_laws.proofs.TriedTemplates.{GoalAdds, IsRemoval, IsTakenBy}
use Rattle.dsr_repair_laws.proofs.TriedUpdates.{IsAdder, taken_var}
use Rattle.dsr_meaning.proofs.Options.{mapped_from}
use Rattle.dsr_repair_laws.proofs.TakenGoals.{adding_takes_none, taking_adds_none}
use Rattle.dsr_meaning.proofs.Items.{in_filter, item_at}

-- ---- a choosable update is complete

module _ (b : Binding) (stopped : Option Instance) where
  place_there : (place : Place) → HasPlace b (is_some stopped) place → (elem : Element) × IsPlace b stopped place elem
  place_there places.Head has = (head, refl)
  place_there (places.Of v) has = of_var (element_of b v) refl has where
    of_var : (o : Option Element) → element_of b v ≡ o → IsSome o → (elem : Element) × (element_of b v ≡ Some elem)
    of_var None e h = absurd (false≢true h)
    of_var (Some x) e h = (x, e)
  place_there places.Deriver has = of_instance stopped has where
    of_instance : (o : Option Instance) → IsTrue (is_some o) → (elem : Element) × IsSomeAnd o (λ i. elem ≡ i.elem)
    of_instance None h = absurd (false≢true h)
    of_instance (Some i) h = (i.elem, refl)

  entry_there : (at : At) → HasEntry b (is_some stopped) at → (index : ℕ) × IsEntryAt b stopped at index
  entry_there ats.Scalar has = (0, refl)
  entry_there (ats.SlotOf v) has = of_var (element_of b v) has where
    of_var : (o : Option Element) → IsSome o → (index : ℕ) × IsSomeAnd o (λ e. index ≡ e.slot)
    of_var None h = absurd (false≢true h)
    of_var (Some x) h = (x.slot, refl)
  entry_there ats.Deriver has = of_instance stopped has where
    of_instance : (o : Option Instance) → IsTrue (is_some o) → (index : ℕ) × IsSomeAnd o (λ i. index ≡ i.index)
    of_instance None h = absurd (false≢true h)
    of_instance (Some i) h = (i.index, refl)

size_there : (b : Binding) (pick : Pick) (rest : Option Measure) → HasPicked b pick → IfSome rest (HasVariable b) → IfSome (size_or pick rest) (HasVariable b)
size_there b (picks.SizeOf measure) rest has later = has
size_there b (picks.Num n) rest has later = later
size_there b picks.NoneCode rest has later = later
size_there b (picks.CodeOf v) rest has later = later
size_there b picks.Fresh rest has later = later

sizes_there : (b : Binding) (writes : List Write) → HavePicked b writes → IfSome (written_size writes) (HasVariable b)
sizes_there b [] picked = tt
sizes_there b (w ∷ ws) picked = size_there b w.pick (written_size ws) (picked w (inl refl)) (sizes_there b ws (λ x is_in. picked x (inr is_in)))

-- the supply of the pool of a fresh record
supplied : (spec : Spec) (c : Change) (fresh : Option ℕ) → c.spec ≡ spec → IfSome fresh (MaySupply c) → IfSome fresh (λ pool. IsSomeAnd (pool_at spec.base pool) (λ (d : Pool). IsSome d.avoid))
supplied spec c None same may = tt
supplied spec c (Some pool) same may = subst (λ (s : Spec). IsSomeAnd (pool_at s.base pool) (λ (d : Pool). IsSome d.avoid)) same may.supply

complete : (spec : Spec) (b : Binding) (stopped : Option Instance) (update : Update) → IsChoosable b (is_some stopped) update → IfSome update.fresh (λ pool. IsSomeAnd (pool_at spec.base pool) (λ d. IsSome d.avoid)) → IsComplete spec b stopped update
complete spec b stopped update is supply =
    let place = place_there b stopped update.place is.place in
    let entry = entry_there b stopped update.at is.entry in
    record {
      elem = place.0;
      place = place.1;
      index = entry.0;
      entry = entry.1;
      counted = sizes_there b update.writes is.picked;
      supply = supply;
    }

-- ---- updates that remove

removal_choosable : (spec : Spec) (b : Binding) (symbol : Symbol) (v : Option Var) (updates : List Update) (n : ℕ) (u : Update) → IfSome v (IsBound b) → IsRemoval spec symbol v updates → slice_get updates n ≡ Some u → IsChoosable b true u
removal_choosable spec b symbol v updates n u bound removal at =
    let among : IsIn u updates = item_at updates n u at in
    let made = in_filter (λ (r : ℕ × Rule). option_map (removing v r.0 r.1) (item_or_last (options spec.base r.1) removal.number)) (givers spec symbol) u (subst (IsIn u) removal.are among) in
    let k = made.from.0 in
    let rule = made.from.1 in
    let write = mapped_from (removing v k rule) (item_or_last (options spec.base rule) removal.number) u made.is in
    subst (IsChoosable b true) (sym write.1.1) (removing_choosable b spec v k rule write.0 bound (item_at (options spec.base rule) _ write.0 write.1.0))

-- ---- the update that is chosen

module _ (spec : Spec) (layout : Layout) (bytes : List ℕ) (b : Binding) (its : Literal) (template : Template) (due : IsDueForm (IsFact spec layout bytes) spec b its template) where
  same_goal : due.raw.goal ≡ template.goal
  same_goal = goal_same template due.raw due.more due.is

  supply_there : (n : ℕ) (update : Update) → slice_get template.updates n ≡ Some update → IfSome update.fresh (λ pool. IsSomeAnd (pool_at spec.base pool) (λ d. IsSome d.avoid))
  supply_there n update at =
      let owner = owner_at spec due.number due.constraint in
      let change = change_of owner (goal_at template.goal n) update in
      let kept = due.kept n change (record { update = update; update_is = at; change_is = refl }) in
      supplied spec change update.fresh refl kept.0.fresh

  -- an update of one of the forms, with its writes
  with_more : (stops : Bool) (updates : List Update) (n : ℕ) (update : Update) → due.raw.updates ≡ updates → slice_get template.updates n ≡ Some update → ((u : Update) → slice_get updates n ≡ Some u → IsChoosable b stops u) → IsChoosable b stops update
  with_more stops updates n update are at of_bare =
      let by = of_compensated template due.raw due.more updates n update due.is are at in
      subst (IsChoosable b stops) (sym by.is) (still_choosable b stops by.bare due.more (of_bare by.bare by.there) due.picked)

  first_choosable : (first : Update) (rest : List Update) (update : Update) → due.raw.updates ≡ first ∷ rest → slice_get template.updates 0 ≡ Some update → IsChoosable b false first → IsChoosable b false update
  first_choosable first rest update are at choosable = with_more false (first ∷ rest) 0 update are at (λ u is. subst (IsChoosable b false) (same_Some first u is) choosable)

  bound : IfSome (taken_var its.atom) (IsBound b)
  bound = taken_bound (IsFact spec layout bytes) spec due.constraint.quant b due.is_binding its.atom due.typed.atom

  raw_choosable : (u : Update) → IsAdder spec due.known due.raw.goal its.atom u → IsChoosable b false u
  raw_choosable u adder = adder_choosable (IsFact spec layout bytes) spec due.constraint.quant b due.is_binding due.known due.tells due.raw.goal its.atom u due.typed.atom adder

  adds_choosable : (update : Update) → Adds (IsFact spec layout bytes) b its.atom template.goal → slice_get template.updates 0 ≡ Some update → IsChoosable b false update
  adds_choosable update adds at = elim due.form as (λ _. IsChoosable b false update) [
    | inl one ↦ first_choosable one.update [] update one.are at (raw_choosable one.update one.adder)
    | inr (inl removes) ↦ absurd (taking_adds_none (IsFact spec layout bytes) b its.atom its.negated template.goal (subst (λ g. IsTakenBy g its.atom its.negated) same_goal removes.goal) adds)
    | inr (inr both) ↦ first_choosable both.update both.rest update both.are at (raw_choosable both.update both.adder)
  ]

  behind_first : (first : Update) (rest : List Update) (n : ℕ) (update : Update) → due.raw.updates ≡ first ∷ rest → IsRemoval spec (atom_symbol its.atom) (taken_var its.atom) rest → TakesAway goals.ExactlyOne n → slice_get template.updates n ≡ Some update → IsChoosable b true update
  behind_first first rest zero update are removal takes at = absurd takes
  behind_first first rest (suc n) update are removal takes at = with_more true (first ∷ rest) (suc n) update are at (λ u is. removal_choosable spec b (atom_symbol its.atom) (taken_var its.atom) rest n u bound removal is)

  takes_choosable : (n : ℕ) (update : Update) → TakesAway template.goal n → slice_get template.updates n ≡ Some update → IsChoosable b true update
  takes_choosable n update takes at = elim due.form as (λ _. IsChoosable b true update) [
    | inl one ↦ absurd (adding_takes_none template.goal n (subst GoalAdds same_goal one.goal) takes)
    | inr (inl removes) ↦ with_more true due.raw.updates n update refl at (λ u is. removal_choosable spec b (atom_symbol its.atom) (taken_var its.atom) due.raw.updates n u bound removes.removal is)
    | inr (inr both) ↦ behind_first both.update both.rest n update both.are both.removal (subst (λ g. TakesAway g n) (sym same_goal ∙ both.goal) takes) at
  ]

  pub chosen_complete : (n : ℕ) (update : Update) (stopped : Option Instance) → IsUpdateAt spec layout bytes b its.atom template n update stopped → IsComplete spec b stopped update
  chosen_complete n update stopped (IsUpdateAt.adds u adds at) = complete spec b None u (adds_choosable u adds at) (supply_there 0 u at)
  chosen_complete n update stopped (IsUpdateAt.takes_away m u fact i takes to_go deriver at rule) = complete spec b (Some i) u (takes_choosable m u takes at) (supply_there m u at)
