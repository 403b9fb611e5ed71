-- For each kind of excuse an application by which another constraint isn't broken, since it is excused.
use Rattle.std.proofs.Common.{◌≡◌, ◌≢◌, ◌∙◌, ℕ, false, [], ◌∷◌, None, Some, inl, inr, refl, sym, ap, subst, slice_get, codes, arith}
use Rattle.std.proofs.lemmas.Option.{same_Some}
use Rattle.dsr_step_laws.proofs.Given.{slot}
use Rattle.dsr_step_laws.proofs.Model.{slots_differ}
use Rattle.dsr_step_laws.proofs.Tried.{template_of}
use Rattle.dsr_graph_theory.specs.Breaks.{Breaks, IsFirstReason, MayBreakBy, SomeUpdate}
use Rattle.dsr_graph_theory.specs.Causes.{gain}
use Rattle.dsr_graph_theory.specs.Excuses.{AreDifferentRecords, AreSecondsApart, HappensOnlyAt, IsExcused, IsExcusedAt, IsExcusedAtRecord, IsExcusedAtSlot, IsSameBinding, MayHappen}
use Rattle.dsr_graph_theory.specs.declared.causes.Cause.{Cause}
use Rattle.dsr_graph_theory.specs.declared.causes.Reason.{Reason}
use Rattle.dsr_graph_theory.specs.declared.causes.Reason.TheVariants.{Gain}
use Rattle.dsr_example_laws.proofs.Applied.{assignment_each, assignment_here, assignment_left, marking, marking_tried, tried_each, tried_here, tried_left}
use Rattle.dsr_example_laws.proofs.Facts.{IsTrueNow, in_b, in_q, second_in_c, second_mark, second_value}
use Rattle.dsr_example_laws.proofs.Given.{numbered, sharing}
use Rattle.dsr_example_laws.proofs.Holding.{holds_where, this_number}
use Rattle.dsr_example_laws.proofs.Tables.{gains_mark, gains_value, only_marks, only_values}
use Rattle.dsr_example_laws.specs.ExcusedCases.{ExcusedCase, Kind, different_records, other_entry, own_binding, targets_apart}
use Rattle.dsr_graph_laws.proofs.Breaking.{was_violated}
use Rattle.dsr_graph_laws.proofs.Firsts.{none_first}
use Rattle.dsr_ir.specs.declared.constraints.Atom.TheVariants as atoms
use Rattle.dsr_ir.specs.declared.constraints.Bound.TheVariants as bounds
use Rattle.dsr_ir.specs.declared.constraints.Constraint.{Constraint}
use Rattle.dsr_ir.specs.declared.constraints.Quant.TheVariants.{Each, Pairs}
use Rattle.dsr_ir.specs.declared.constraints.Var.TheVariants.{First, Second}
use Rattle.dsr_ir.specs.declared.rules.Op.TheVariants.{Eq}
use Rattle.dsr_ir.specs.declared.tuples.Binding.{Binding}
use Rattle.dsr_ir.specs.declared.tuples.Binding.TheVariants as bindings
use Rattle.dsr_ir.specs.declared.updates.Goal.TheVariants.{SetValue}
use Rattle.dsr_ir.specs.declared.updates.Symbol.TheVariants.{Set, Rel}
use Rattle.dsr_ir.specs.declared.updates.Update.{Update}
use Rattle.dsr_graph_theory.specs.Owners.{Owner, change_of}
use Rattle.dsr_meaning.proofs.Items.{only_item}
use Rattle.dsr_meaning.specs.Consistency.{IsViolated}
use Rattle.dsr_meaning.specs.Counting.{IsIn}
use Rattle.dsr_meaning.specs.Models.{IsFact}
use Rattle.dsr_meaning.specs.Truth.{head}
use Rattle.dsr_plan_theory.specs.Plans.{owner_at}
use Rattle.dsr_template_laws.specs.Judging.{Application, change_in, owner_of}
use Rattle.dsr_template_laws.specs.Tried.{IsTried}
use Rattle.dsr_update_theory.specs.Changes.{Change}
use Rattle.dsr_update_theory.specs.Facts.{exclusive}
use Rattle.dsr_update_theory.specs.KnownSets.{IsKnown}
use Rattle.dsr_update_theory.specs.declared.effects.Tag.TheVariants.{Written, Entry}

-- ---- a template of one update that sets a value

module _ (owner other : Owner) (update : Update) where
  abbrev change : Change
  change = change_of owner SetValue update

  abbrev IsBrokenBy : Cause → Type 0
  IsBrokenBy cause = SomeUpdate owner (template_of SetValue (update ∷ [])) (MayBreakBy owner other cause)

  by_change : (cause : Cause) → IsBrokenBy cause → MayBreakBy owner other cause change
  by_change cause some =
      let same : some.2.update ≡ update = (only_item update some.0 some.2.update some.2.update_is).1 in
      subst (MayBreakBy owner other cause) (some.2.change_is ∙ ap (change_of owner SetValue) same) some.3

  -- it spares a constraint of which there are no more bindings, and whose other cause is excused
  spares : (gained : Reason) (cause : Cause) → (MayHappen change gained → ⊥) → IsExcused owner other change cause → IsFirstReason IsBrokenBy (record { reason = gained; at = None } ∷ cause ∷ []) None
  spares gained cause none excused = none_first IsBrokenBy (record { reason = gained; at = None } ∷ cause ∷ []) never where
    never : (x : Cause) → IsIn x (record { reason = gained; at = None } ∷ cause ∷ []) → IsBrokenBy x → ⊥
    never x (inl same) broken = none (by_change (record { reason = gained; at = None }) (subst IsBrokenBy same broken)).happens
    never x (inr (inl same)) broken = (by_change cause (subst IsBrokenBy same broken)).not_excused excused
    never x (inr (inr none_more)) broken = none_more

-- a binding that isn't violated isn't so afterwards, by the law
not_then : (a : Application) → IsTried a → (number : ℕ) (c : Constraint) → slice_get a.spec.constraints number ≡ Some c → Breaks (owner_of a) (owner_at a.spec number c) a.template None → (b : Binding)
    → (IsViolated (IsFact a.spec a.layout a.old) a.spec (record { constraint = number; binding = b }) → ⊥) → IsViolated (IsFact a.spec a.layout a.new) a.spec (record { constraint = number; binding = b }) → ⊥
not_then a is number c declared spared b before now =
    let same : c ≡ now.constraint = same_Some c now.constraint (sym declared ∙ now.declared) in
    before (was_violated a is number b now (subst (λ k. Breaks (owner_of a) (owner_at a.spec number k) a.template None) same spared))

-- ---- the bindings differ

other_member : bindings.Each (slot 1) ≢ bindings.Each (slot 0)
other_member same = let slots : slot 1 ≡ slot 0 = cc in slots_differ (sym slots)

other_target : bindings.Pair head (slot 1) ≢ bindings.Pair head (slot 0)
other_target same = let slots : slot 1 ≡ slot 0 = cc in slots_differ (sym slots)

one_two : ◌≡◌ {A = ℕ} 1 2 → ⊥
one_two same = omega (arith, same)

-- ---- what is written at the slot of a record of A isn't known to be outside of C

outside : (set : ℕ) → IsIn {A = ℕ × ℕ} (2, set) ((0, 1) ∷ (1, 0) ∷ []) → ⊥
outside set (inl same) = let n : 2 ≡ 0 = ap (λ (p : ℕ × ℕ). p.0) same in omega (arith, n)
outside set (inr (inl same)) = let n : 2 ≡ 1 = ap (λ (p : ℕ × ℕ). p.0) same in omega (arith, n)
outside set (inr (inr none)) = none

-- ---- own binding: x in C : x.V = 0, whose other binding keeps its value

abbrev owner_each : Owner
owner_each = owner_of assignment_each

only_each : HappensOnlyAt (change_in assignment_each) (Gain (Rel 2)) Written
only_each tag there = (only_values (exclusive sharing 0) (Each 2) First refl _ (Rel 2) tag there).1

once : IsSameBinding owner_each owner_each First First
once = record { same_var = refl; same_constraint = refl; once = tt }

spares_each : Breaks owner_each owner_each assignment_each.template None
spares_each =
    spares owner_each owner_each assignment_each.update (Gain (Set 2)) (gain (Rel 2) (Some First))
    (λ may. only_values (exclusive sharing 0) (Each 2) First refl _ (Set 2) may.0 may.1) (IsExcusedAt.at_place only_each (IsExcusedAtRecord.own once))

-- slot 1 has the value 0
zero_each : IsViolated IsTrueNow sharing (record { constraint = 0; binding = bindings.Each (slot 1) }) → ⊥
zero_each violated =
    holds_where 0 _ (Each 2) (atoms.Value First 2 Eq (bounds.Num 0)) false (bindings.Each (slot 1)) refl violated
    (λ _. this_number (bindings.Each (slot 1)) First (slot 1) 2 0 refl refl second_value)

of_own_binding : ExcusedCase own_binding
of_own_binding = record {
  application = assignment_each;
  tried = tried_each;
  number = 0;
  constraint = owner_each.constraint;
  declared = refl;
  cause = gain (Rel 2) (Some First);
  among = inr (inl refl);
  happens = (Written, gains_value (exclusive sharing 0) (Each 2) First refl (λ known. known.2));
  own = First;
  at = First;
  read_at = refl;
  excuse = (only_each, refl, once);
  spared = spares_each;
  binding = bindings.Each (slot 1);
  other = other_member;
  is_binding = second_in_c;
  holds = zero_each;
  holds_then = not_then assignment_each tried_each 0 owner_each.constraint refl spares_each (bindings.Each (slot 1)) zero_each;
}

-- ---- different records: x in A : x.V = 0, beside x in B : x.V = 0

abbrev owner_here : Owner
owner_here = owner_of assignment_here

abbrev there : Owner
there = owner_at sharing 6 (numbered (codes "there") (Each 1) First 2 0)

only_here : HappensOnlyAt (change_in assignment_here) (Gain (Rel 2)) Written
only_here tag among = (only_values (exclusive sharing 5) (Each 0) First refl _ (Rel 2) tag among).1

different : AreDifferentRecords owner_here there First First
different = record { set = 0; other_set = 1; known = IsKnown.quantified 0 refl; other_known = IsKnown.quantified 1 refl; exclusive = inl refl }

spares_there : Breaks owner_here there assignment_here.template None
spares_there =
    spares owner_here there assignment_here.update (Gain (Set 1)) (gain (Rel 2) (Some First))
    (λ may. only_values (exclusive sharing 5) (Each 0) First refl _ (Set 1) may.0 may.1) (IsExcusedAt.at_place only_here (IsExcusedAtRecord.different different))

zero_there : IsViolated IsTrueNow sharing (record { constraint = 6; binding = bindings.Each (slot 1) }) → ⊥
zero_there violated =
    holds_where 6 _ (Each 1) (atoms.Value First 2 Eq (bounds.Num 0)) false (bindings.Each (slot 1)) refl violated
    (λ _. this_number (bindings.Each (slot 1)) First (slot 1) 2 0 refl refl second_value)

of_different_records : ExcusedCase different_records
of_different_records = record {
  application = assignment_here;
  tried = tried_here;
  number = 6;
  constraint = there.constraint;
  declared = refl;
  cause = gain (Rel 2) (Some First);
  among = inr (inl refl);
  happens = (Written, gains_value (exclusive sharing 5) (Each 0) First refl (λ known. outside known.0 known.2));
  own = First;
  at = First;
  read_at = refl;
  excuse = (only_here, refl, different);
  spared = spares_there;
  binding = bindings.Each (slot 1);
  other = other_member;
  is_binding = in_b;
  holds = zero_there;
  holds_then = not_then assignment_here tried_here 6 there.constraint refl spares_there (bindings.Each (slot 1)) zero_there;
}

-- ---- targets apart: <h, y> in P : y.V = 0, beside <h, y> in Q : y.V = 0

abbrev owner_left : Owner
owner_left = owner_of assignment_left

abbrev right : Owner
right = owner_at sharing 3 (numbered (codes "right") (Pairs 1) Second 2 0)

only_left : HappensOnlyAt (change_in assignment_left) (Gain (Rel 2)) Written
only_left tag among = (only_values (exclusive sharing 2) (Pairs 0) Second refl _ (Rel 2) tag among).1

seconds : AreSecondsApart owner_left right Second Second
seconds = record { second = refl; other_second = refl; apart = record { rel = 0; other_rel = 1; quant_is = refl; other_quant_is = refl; apart = inl refl } }

spares_right : Breaks owner_left right assignment_left.template None
spares_right =
    spares owner_left right assignment_left.update (Gain (Rel 1)) (gain (Rel 2) (Some Second))
    (λ may. one_two (only_values (exclusive sharing 2) (Pairs 0) Second refl _ (Rel 1) may.0 may.1).0) (IsExcusedAt.at_place only_left (IsExcusedAtRecord.targets_apart seconds))

zero_right : IsViolated IsTrueNow sharing (record { constraint = 3; binding = bindings.Pair head (slot 1) }) → ⊥
zero_right violated =
    holds_where 3 _ (Pairs 1) (atoms.Value Second 2 Eq (bounds.Num 0)) false (bindings.Pair head (slot 1)) refl violated
    (λ _. this_number (bindings.Pair head (slot 1)) Second (slot 1) 2 0 refl refl second_value)

of_targets_apart : ExcusedCase targets_apart
of_targets_apart = record {
  application = assignment_left;
  tried = tried_left;
  number = 3;
  constraint = right.constraint;
  declared = refl;
  cause = gain (Rel 2) (Some Second);
  among = inr (inl refl);
  happens = (Written, gains_value (exclusive sharing 2) (Pairs 0) Second refl (λ known. known.2));
  own = Second;
  at = Second;
  read_at = refl;
  excuse = (only_left, refl, seconds);
  spared = spares_right;
  binding = bindings.Pair head (slot 1);
  other = other_target;
  is_binding = in_q;
  holds = zero_right;
  holds_then = not_then assignment_left tried_left 3 right.constraint refl spares_right (bindings.Pair head (slot 1)) zero_right;
}

-- ---- the entry of another slot: x in A : x.M = 1, beside x in B : x.M = 0

abbrev owner_marked : Owner
owner_marked = owner_of marking

abbrev unmarked : Owner
unmarked = owner_at sharing 8 (numbered (codes "unmarked") (Each 1) First 3 0)

only_marked : HappensOnlyAt (change_in marking) (Gain (Rel 3)) Entry
only_marked tag among = (only_marks (exclusive sharing 7) _ (Rel 3) tag among).1

other_slots : AreDifferentRecords owner_marked unmarked First First
other_slots = record { set = 0; other_set = 1; known = IsKnown.quantified 0 refl; other_known = IsKnown.quantified 1 refl; exclusive = inl refl }

spares_unmarked : Breaks owner_marked unmarked marking.template None
spares_unmarked =
    spares owner_marked unmarked marking.update (Gain (Set 1)) (gain (Rel 3) (Some First))
    (λ may. only_marks (exclusive sharing 7) _ (Set 1) may.0 may.1) (IsExcusedAt.at_entry only_marked (IsExcusedAtSlot.different refl other_slots))

zero_unmarked : IsViolated IsTrueNow sharing (record { constraint = 8; binding = bindings.Each (slot 1) }) → ⊥
zero_unmarked violated =
    holds_where 8 _ (Each 1) (atoms.Value First 3 Eq (bounds.Num 0)) false (bindings.Each (slot 1)) refl violated
    (λ _. this_number (bindings.Each (slot 1)) First (slot 1) 3 0 refl refl second_mark)

of_other_entry : ExcusedCase other_entry
of_other_entry = record {
  application = marking;
  tried = marking_tried;
  number = 8;
  constraint = unmarked.constraint;
  declared = refl;
  cause = gain (Rel 3) (Some First);
  among = inr (inl refl);
  happens = (Entry, gains_mark (exclusive sharing 7));
  own = First;
  at = First;
  read_at = refl;
  excuse = (only_marked, refl, refl, other_slots);
  spared = spares_unmarked;
  binding = bindings.Each (slot 1);
  other = other_member;
  is_binding = in_b;
  holds = zero_unmarked;
  holds_then = not_then marking marking_tried 8 unmarked.constraint refl spares_unmarked (bindings.Each (slot 1)) zero_unmarked;
}

pub each_kind : (kind : Kind) → ExcusedCase kind
each_kind own_binding = of_own_binding
each_kind different_records = of_different_records
each_kind targets_apart = of_targets_apart
each_kind other_entry = of_other_entry
