-- Of which updates all that a step leaves open is there.
use Rattle.std.proofs.Common.{◌≡◌, ℕ, Bool, true, false, List, [], ◌∷◌, Option, None, Some, IsTrue, inl, inr, refl, sym, subst}
use Rattle.std.specs.Option.{option_map_or}
use Rattle.std.specs.Prelude.{IfSome, is_some, option_and_then, if◌then◌else◌, ◌&&◌}
use Rattle.std.specs.List.{filter_map}
use Rattle.std.proofs.lemmas.Option.{same_Some}
use Rattle.dsr_ir.specs.Rules.{target_of}
use Rattle.dsr_ir.specs.declared.constraints.Var.{Var}
use Rattle.dsr_ir.specs.declared.constraints.Var.TheVariants.{First, Head, Second}
use Rattle.dsr_ir.specs.declared.declarations.Field.{Field}
use Rattle.dsr_ir.specs.declared.declarations.Spec.{Spec}
use Rattle.dsr_ir.specs.declared.declarations.Structures.{Structures}
use Rattle.dsr_ir.specs.declared.rules.Guard.{Guard}
use Rattle.dsr_ir.specs.declared.rules.Path.{Path}
use Rattle.dsr_ir.specs.declared.rules.Rule.{Rule}
use Rattle.dsr_ir.specs.declared.rules.Test.{Test}
use Rattle.dsr_ir.specs.declared.rules.Test.TheVariants as tests
use Rattle.dsr_ir.specs.declared.tuples.Binding.{Binding}
use Rattle.dsr_ir.specs.declared.updates.At.{At}
use Rattle.dsr_ir.specs.declared.updates.At.TheVariants as ats
use Rattle.dsr_ir.specs.declared.updates.Pick.{Pick}
use Rattle.dsr_ir.specs.declared.updates.Pick.TheVariants as picks
use Rattle.dsr_ir.specs.declared.updates.Place.{Place}
use Rattle.dsr_ir.specs.declared.updates.Place.TheVariants as places
use Rattle.dsr_ir.specs.declared.updates.Template.{Template}
use Rattle.dsr_ir.specs.declared.updates.Update.{Update}
use Rattle.dsr_ir.specs.declared.updates.Write.{Write}
use Rattle.dsr_graph_theory.specs.Lists.{with_writes}
use Rattle.dsr_graph_theory.specs.Owners.{Owner}
use Rattle.dsr_meaning.specs.Counting.{IsIn}
use Rattle.dsr_meaning.specs.Truth.{HasVariable}
use Rattle.dsr_step_laws.proofs.AllTrue.{first_true, target_written}
use Rattle.dsr_step_laws.proofs.GuardWrites.{guard_written}
use Rattle.dsr_step_laws.proofs.ReferenceWrites.{reference_written}
use Rattle.dsr_step_laws.proofs.Removed.{picked_same}
use Rattle.dsr_update_theory.specs.Givers.{is_own, is_single, is_slot}
use Rattle.dsr_update_theory.specs.Guards.{guard_write, pick_wanted}
use Rattle.dsr_update_theory.specs.Options.{options, reference_write, target_option}
use Rattle.dsr_update_theory.specs.Templates.{all_true, others, place_of, removal_at, removal_place, removing, target_writes}
use Rattle.dsr_repair_laws.specs.Grown.{Compensates}
use Rattle.dsr_repair_laws.proofs.BoundVars.{IsBound}
use Rattle.dsr_repair_laws.proofs.Compensating.{compensating}
use Rattle.dsr_meaning.proofs.Items.{in_either, in_filter}

-- ---- what is asked of an update

-- the record that is written is there; that of an instance is where one is stopped
abbrev pub HasPlace : Binding → Bool → Place → Type 0
HasPlace b stops places.Head = Unit {0}
HasPlace b stops (places.Of v) = IsBound b v
HasPlace b stops places.Deriver = IsTrue stops

-- and so is the entry
abbrev pub HasEntry : Binding → Bool → At → Type 0
HasEntry b stops ats.Scalar = Unit {0}
HasEntry b stops (ats.SlotOf v) = IsBound b v
HasEntry b stops ats.Deriver = IsTrue stops

-- the variable whose size is picked is bound
abbrev pub HasPicked : Binding → Pick → Type 0
HasPicked b (picks.SizeOf measure) = HasVariable b measure
HasPicked b pick = Unit {0}

abbrev pub HavePicked : Binding → List Write → Type 0
HavePicked b writes = (write : Write) → IsIn write writes → HasPicked b write.pick

pub record IsChoosable (b : Binding) (stops : Bool) (u : Update) : Type 0 where
  pub place : HasPlace b stops u.place
  pub entry : HasEntry b stops u.at
  pub picked : HavePicked b u.writes

-- ---- picks of writes

module _ (b : Binding) where
  number_picked : (pick : Pick) → (n : ℕ) → pick ≡ picks.Num n → HasPicked b pick
  number_picked pick n is = subst (HasPicked b) (sym is) tt

  wanted_picked : (wanted : Bool) (f : Field) (test : Test) (pick : Pick) → pick_wanted wanted f test ≡ Some pick → HasPicked b pick
  wanted_picked true f (tests.Cmp op k) pick e = (let w = picked_same _ pick e in number_picked pick w.0 w.2)
  wanted_picked true f tests.IsNone pick e = subst (HasPicked b) (same_Some picks.NoneCode pick e) tt
  wanted_picked true f tests.IsSome pick e = absurd cc
  wanted_picked true f tests.Legal pick e = absurd cc
  wanted_picked true f tests.Illegal pick e = absurd cc
  wanted_picked false f (tests.Cmp op k) pick e = (let w = picked_same _ pick e in number_picked pick w.0 w.2)
  wanted_picked false f tests.IsNone pick e = absurd cc
  wanted_picked false f tests.IsSome pick e = subst (HasPicked b) (same_Some picks.NoneCode pick e) tt
  wanted_picked false f tests.Legal pick e = subst (HasPicked b) (same_Some picks.NoneCode pick e) tt
  wanted_picked false f tests.Illegal pick e = subst (HasPicked b) (same_Some picks.NoneCode pick e) tt

  pub guard_picked : (base : Structures) (wanted : Bool) (guard : Guard) (write : Write) → guard_write base wanted guard ≡ Some write → HasPicked b write.pick
  guard_picked base wanted guard write e =
      let by = guard_written base wanted guard write e in
      subst (λ w. HasPicked b w.pick) (sym by.is) (wanted_picked wanted by.field guard.test by.pick by.picks)

  pub guards_picked : (base : Structures) (guards : List Guard) (writes : List Write) → all_true base guards ≡ Some writes → HavePicked b writes
  guards_picked base [] writes e write is_in = absurd (subst (IsIn write) (sym (same_Some [] writes e)) is_in)
  guards_picked base (g ∷ rest) writes e write is_in =
      let first = first_true base g rest writes e in
      elim (subst (IsIn write) first.are is_in) as (λ _. HasPicked b write.pick) [
        | inl same ↦ subst (λ w. HasPicked b w.pick) (sym same) (guard_picked base true g first.write first.made)
        | inr later ↦ guards_picked base rest first.later first.later_are write later
      ]

  pub reference_picked : (spec : Spec) (pick : Pick) (path : Path) (write : Write) → HasPicked b pick → reference_write spec.base pick path ≡ Some write → HasPicked b write.pick
  reference_picked spec pick path write has e = subst (λ w. HasPicked b w.pick) (sym (reference_written spec pick path write e).is) has

  pub target_picked : (spec : Spec) (pick : Pick) (path : Path) (guards : List Guard) (writes : List Write) → HasPicked b pick → target_writes spec.base pick path guards ≡ Some writes → HavePicked b writes
  target_picked spec pick path guards writes has e write is_in =
      let by = target_written spec.base pick path guards writes e in
      elim (subst (IsIn write) by.are is_in) as (λ _. HasPicked b write.pick) [
        | inl same ↦ subst (λ w. HasPicked b w.pick) (sym same) (reference_picked spec pick path by.write has by.made)
        | inr later ↦ guards_picked spec.base (others path.field guards) by.later by.later_are write later
      ]

  target_option_picked : (spec : Spec) (rule : Rule) → HavePicked b (target_option spec.base rule)
  target_option_picked spec rule write is_in = by_target (target_of rule.inc) is_in where
    by_write : (path : Path) (o : Option Write) → reference_write spec.base picks.NoneCode path ≡ o → IsIn write (option_map_or (λ w. w ∷ []) o []) → HasPicked b write.pick
    by_write path None e h = absurd h
    by_write path (Some w) e (inl same) = subst (λ x. HasPicked b x.pick) (sym same) (reference_picked spec picks.NoneCode path w tt e)
    by_write path (Some w) e (inr none) = absurd none

    by_target : (o : Option Path) → IsIn write (option_map_or (λ w. w ∷ []) (option_and_then (reference_write spec.base picks.NoneCode) o) []) → HasPicked b write.pick
    by_target None h = absurd h
    by_target (Some path) h = by_write path (reference_write spec.base picks.NoneCode path) refl h

  options_picked : (spec : Spec) (rule : Rule) → HavePicked b (options spec.base rule)
  options_picked spec rule write is_in = elim (in_either write (filter_map (guard_write spec.base false) rule.guards) (target_option spec.base rule) is_in) as (λ _. HasPicked b write.pick) [
    | inl guarded ↦
        let made = in_filter (guard_write spec.base false) rule.guards write guarded in
        guard_picked spec.base false made.from write made.is
    | inr target ↦ target_option_picked spec rule write target
  ]

  -- ---- compensations

  pub compensation_picked : (owner : Owner) (raw : Template) (write : Write) → Compensates owner raw write → HasPicked b write.pick
  compensation_picked owner raw write compensates =
      let its = compensating owner raw write compensates in
      guard_picked owner.spec.base false its.by.guard write its.by.write_is

  -- more writes change nothing of it
  pub still_choosable : (stops : Bool) (u : Update) (more : List Write) → IsChoosable b stops u → HavePicked b more → IsChoosable b stops (with_writes more u)
  still_choosable stops u more is picked = record {
    place = is.place;
    entry = is.entry;
    picked = λ write is_in. elim (in_either write u.writes more is_in) as (λ _. HasPicked b write.pick) [ inl own ↦ is.picked write own | inr other ↦ picked write other ];
  }

  -- ---- updates that add

  pub var_place : (v : Var) → IsBound b v → HasPlace b false (place_of v)
  var_place Head bound = tt
  var_place First bound = bound
  var_place Second bound = bound

  -- ---- updates that remove

  of_instance : (t : Bool) → HasPlace b true (if t then places.Deriver else places.Head)
  of_instance true = refl
  of_instance false = tt

  place_known : (v : Option Var) (rule : Rule) → IfSome v (IsBound b) → HasPlace b true (removal_place v rule)
  place_known None rule bound = of_instance (is_some rule.premise)
  place_known (Some Head) rule bound = of_instance (is_some rule.premise)
  place_known (Some First) rule bound = elim (is_own rule.inc) as (λ t. HasPlace b true (if t then places.Of First else (if is_some rule.premise then places.Deriver else places.Head))) [ true ↦ bound | false ↦ of_instance (is_some rule.premise) ]
  place_known (Some Second) rule bound = elim (is_own rule.inc) as (λ t. HasPlace b true (if t then places.Of Second else (if is_some rule.premise then places.Deriver else places.Head))) [ true ↦ bound | false ↦ of_instance (is_some rule.premise) ]

  slot_entry : (v : Option Var) → IfSome v (IsBound b) → HasEntry b true (option_map_or ats.SlotOf v ats.Deriver)
  slot_entry None bound = refl
  slot_entry (Some v) bound = bound

  entry_known : (v : Option Var) (rule : Rule) → IfSome v (IsBound b) → HasEntry b true (removal_at v rule)
  entry_known v rule bound = elim (is_slot rule.inc && is_some v) as (λ t. HasEntry b true (if t then option_map_or ats.SlotOf v ats.Deriver else (if is_single rule.span then ats.Scalar else ats.Deriver))) [
    | true ↦ slot_entry v bound
    | false ↦ elim (is_single rule.span) as (λ t. HasEntry b true (if t then ats.Scalar else ats.Deriver)) [ true ↦ tt | false ↦ refl ]
  ]

  pub removing_choosable : (spec : Spec) (v : Option Var) (k : ℕ) (rule : Rule) (write : Write) → IfSome v (IsBound b) → IsIn write (options spec.base rule) → IsChoosable b true (removing v k rule write)
  removing_choosable spec v k rule write bound option = record {
    place = place_known v rule bound;
    entry = entry_known v rule bound;
    picked = λ w is_in. elim is_in as (λ _. HasPicked b w.pick) [ inl same ↦ subst (λ x. HasPicked b x.pick) (sym same) (options_picked spec rule write option) | inr none ↦ absurd none ];
  }
