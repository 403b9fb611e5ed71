-- Of an update that adds or sets the record and the entry that it writes are there, and the variable whose size it writes
-- is bound.
use Rattle.std.proofs.Common.{◌≡◌, ℕ, true, false, [], ◌∷◌, Option, None, Some, IsSome, IsSomeAnd, inl, inr, refl, sym, subst, slice_get}
use Rattle.std.specs.Option.{option_map_or}
use Rattle.std.specs.Prelude.{IfSome, if◌then◌else◌}
use Rattle.std.proofs.lemmas.Bool.{and_parts, false≢true}
use Rattle.std.proofs.lemmas.Option.{same_Some}
use Rattle.dsr_ir.specs.declared.constraints.Atom.{Atom}
use Rattle.dsr_ir.specs.declared.constraints.Atom.TheVariants as atoms
use Rattle.dsr_ir.specs.declared.constraints.Bound.{Bound}
use Rattle.dsr_ir.specs.declared.constraints.Bound.TheVariants as bounds
use Rattle.dsr_ir.specs.declared.constraints.Measure.{Measure}
use Rattle.dsr_ir.specs.declared.constraints.Measure.TheVariants.{Into, Out, Whole}
use Rattle.dsr_ir.specs.declared.constraints.Quant.{Quant}
use Rattle.dsr_ir.specs.declared.constraints.Var.{Var}
use Rattle.dsr_ir.specs.declared.constraints.Var.TheVariants.{First, Head, Second}
use Rattle.dsr_ir.specs.declared.declarations.Field.{Field}
use Rattle.dsr_ir.specs.declared.declarations.Rel.{Rel}
use Rattle.dsr_ir.specs.declared.declarations.Spec.{Spec}
use Rattle.dsr_ir.specs.declared.rules.Path.{Path}
use Rattle.dsr_ir.specs.declared.rules.Rule.{Rule}
use Rattle.dsr_ir.specs.declared.tuples.Binding.{Binding}
use Rattle.dsr_ir.specs.declared.tuples.Fact.{Fact}
use Rattle.dsr_ir.specs.declared.updates.Goal.{Goal}
use Rattle.dsr_ir.specs.declared.updates.Pick.{Pick}
use Rattle.dsr_ir.specs.declared.updates.Pick.TheVariants as picks
use Rattle.dsr_ir.specs.declared.updates.Symbol.{Symbol}
use Rattle.dsr_ir.specs.declared.updates.Update.{Update}
use Rattle.dsr_ir.specs.declared.updates.Write.{Write}
use Rattle.dsr_meaning.specs.Consistency.{IsBinding}
use Rattle.dsr_meaning.specs.Instances.{declared_field}
use Rattle.dsr_meaning.specs.Typed.{IsTypedAtom, IsTypedBound, IsTypedMeasure, pool_of_var}
use Rattle.dsr_update_theory.specs.Givers.{is_single}
use Rattle.dsr_update_theory.specs.Templates.{KnownSets, TellsKnown, counted_of, pick_of, starts_at, value_write}
use Rattle.dsr_repair_laws.proofs.BoundVars.{IsBound, known_bound, measured, with_pool}
use Rattle.dsr_repair_laws.proofs.Choosable.{HasEntry, HasPicked, HasPlace, HavePicked, IsChoosable, guards_picked, target_picked, var_place}
use Rattle.dsr_repair_laws.proofs.TriedUpdates.{IsAdder, IsAdding, IsSetAt, IsSetting, IsSupplying, taken_var}
use Rattle.dsr_meaning.proofs.Options.{chained_from, failed_from}

module _ (is_fact : Fact → Type 0) (spec : Spec) (quant : Quant) (b : Binding) (is : IsBinding is_fact quant b) where
  counted_bound : (measure : Measure) → IsTypedMeasure spec.base quant measure → IfSome (counted_of measure) (IsBound b)
  counted_bound (Whole set) typed = tt
  counted_bound (Out v rel) typed = measured is_fact spec.base quant b (Out v rel) is typed
  counted_bound (Into rel v) typed = tt

  pair_bound : (v w : Var) (o : Option Rel) → IsSomeAnd o (λ r. IsSome r.target × (pool_of_var spec.base quant v ≡ Some r.source) × (pool_of_var spec.base quant w ≡ r.target)) → IsBound b v
  pair_bound v w None h = absurd h
  pair_bound v w (Some r) h = with_pool is_fact spec.base quant b v r.source is h.1

  -- the variable whose member, source or target goes is bound
  pub taken_bound : (atom : Atom) → IsTypedAtom spec quant atom → IfSome (taken_var atom) (IsBound b)
  taken_bound (atoms.Member v set) typed = with_pool is_fact spec.base quant b v typed.0 is typed.1
  taken_bound (atoms.Pair v w rel) typed = pair_bound v w (slice_get spec.base.rels rel) typed
  taken_bound (atoms.Count measure op k) typed = counted_bound measure typed.0
  taken_bound (atoms.Value v rel op bound) typed = tt

  -- so are the variables of a value that is set
  source_bound : (v : Var) (o : Option Rel) → IsSomeAnd o (λ r. (r.target ≡ None) × (pool_of_var spec.base quant v ≡ Some r.source)) → IsBound b v
  source_bound v None h = absurd h
  source_bound v (Some r) h = with_pool is_fact spec.base quant b v r.source is h.1

  bound_picked : (rel : ℕ) (bound : Bound) → IsTypedBound spec quant rel bound → HasPicked b (pick_of bound)
  bound_picked rel (bounds.Num k) typed = tt
  bound_picked rel (bounds.Size measure) typed = measured is_fact spec.base quant b measure is typed.0

  value_picked : (pick : Pick) (path : Path) (write : Write) → HasPicked b pick → value_write spec.base pick path ≡ Some write → HasPicked b write.pick
  value_picked pick path write picked e =
      let plain : Write = record { path = path; pick = pick; wants = None } in
      let field = chained_from (λ (f : Field). if f.fixed then None else Some plain) (declared_field spec.base path.field) write e in
      subst (λ w. HasPicked b w.pick) (same_Some plain write (failed_from field.0.fixed (Some plain) write field.1.1).1) picked

  set_choosable : (goal : Goal) (atom : Atom) (u : Update) → IsTypedAtom spec quant atom → IsSetting spec goal atom u → IsChoosable b false u
  set_choosable goal atom u typed s =
      let value : IsTypedAtom spec quant (atoms.Value s.v s.rel s.op s.bound) = subst (IsTypedAtom spec quant) s.atom_is typed in
      let bound = source_bound s.v (slice_get spec.base.rels s.rel) value.0 in
      let picked = value_picked (pick_of s.bound) s.path s.write (bound_picked s.rel s.bound value.1) s.write_is in
      let all : HavePicked b u.writes = subst (HavePicked b) (sym s.writes_are) (only_picked s.write picked) in
      elim s.placed as (λ _. IsChoosable b false u) [
        | IsSetAt.own inc single place_is at_is ↦ record { place = subst (HasPlace b false) (sym place_is) (var_place b s.v bound); entry = subst (HasEntry b false) (sym at_is) tt; picked = all }
        | IsSetAt.slot pool inc premise place_is at_is ↦ record { place = subst (HasPlace b false) (sym place_is) tt; entry = subst (HasEntry b false) (sym at_is) bound; picked = all }
      ] where
        only_picked : (write : Write) → HasPicked b write.pick → HavePicked b (write ∷ [])
        only_picked write picked w (inl same) = subst (λ x. HasPicked b x.pick) (sym same) picked
        only_picked write picked w (inr none) = absurd none

  module _ (known : KnownSets) (tells : TellsKnown spec quant known) where
    -- the variable at whose record a rule starts is bound
    known_start : (v : Var) (premise : Option ℕ) → option_map_or (known v) premise false ≡ true → IsBound b v
    known_start v None starts = absurd (false≢true starts)
    known_start v (Some set) starts = known_bound is_fact spec quant b is ((tells v set).0 starts)

    start_bound : (v : Var) (rule : Rule) → starts_at known v rule ≡ true → IsBound b v
    start_bound Head rule starts = refl
    start_bound First rule starts = known_start First rule.premise starts
    start_bound Second rule starts = known_start Second rule.premise starts

    adding_choosable : (symbol : Symbol) (v : Var) (rule : Rule) (u : Update) → IsAdding spec known symbol v rule u → HavePicked b u.writes → IsChoosable b false u
    adding_choosable symbol v rule u a picked =
        let bound = start_bound v rule (and_parts (is_single rule.span) (starts_at known v rule) a.serves_it).1 in
        record { place = subst (HasPlace b false) (sym a.place_is) (var_place b v bound); entry = subst (HasEntry b false) (sym a.at_is) tt; picked = picked }

    supply_choosable : (measure : Measure) (u : Update) → IsSupplying spec known measure u → IsChoosable b false u
    supply_choosable measure u s = adding_choosable _ s.v s.rule u s.adding_is (target_picked b spec picks.Fresh s.path s.rule.guards u.writes tt s.made)

    pub adder_choosable : (goal : Goal) (atom : Atom) (u : Update) → IsTypedAtom spec quant atom → IsAdder spec known goal atom u → IsChoosable b false u
    adder_choosable goal atom u typed (IsAdder.joins j) = adding_choosable _ j.v j.rule u j.adding_is (guards_picked b spec.base j.rule.guards u.writes j.made)
    adder_choosable goal atom u typed (IsAdder.relates r) = adding_choosable _ r.v r.rule u r.adding_is (target_picked b spec (picks.CodeOf r.w) r.path r.rule.guards u.writes tt r.made)
    adder_choosable goal atom u typed (IsAdder.supplies_some measure goal_is atom_is s) = supply_choosable measure u s
    adder_choosable goal atom u typed (IsAdder.supplies_one measure goal_is atom_is s) = supply_choosable measure u s
    adder_choosable goal atom u typed (IsAdder.sets s) = set_choosable goal atom u typed s
