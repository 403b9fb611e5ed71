-- What is chosen at the violated bindings: the update, the record that it writes, and the fresh record.
use Rattle.std.proofs.Common.{◌≡◌, ◌<◌, ◌⊎◌, ℕ, [], ◌∷◌, Option, None, Some, inl, inr, refl, sym, ap, subst, arith}
use Rattle.std.proofs.lemmas.Option.{same_Some}
use Rattle.dsr_ir.specs.declared.constraints.Measure.TheVariants.{Whole, Out}
use Rattle.dsr_ir.specs.declared.constraints.Var.TheVariants.{First}
use Rattle.dsr_ir.specs.declared.tuples.Binding.{Binding}
use Rattle.dsr_ir.specs.declared.tuples.Binding.TheVariants.{Once, Each}
use Rattle.dsr_ir.specs.declared.tuples.Element.{Element}
use Rattle.dsr_ir.specs.declared.tuples.Fact.{Fact}
use Rattle.dsr_ir.specs.declared.tuples.Fact.TheVariants.{Member, Pair}
use Rattle.dsr_ir.specs.declared.tuples.Target.TheVariants.{Elem}
use Rattle.dsr_ir.specs.declared.updates.Goal.TheVariants.{AddSet, RemoveSet, AddTuple, RemoveTuple, SetValue, Trim, Supply, ExactlyOne}
use Rattle.dsr_meaning.specs.Looking.{FindsGreatestCounted, IsCounted}
use Rattle.dsr_meaning.specs.Orders.{FactPrecedes, Precedes}
use Rattle.dsr_meaning.specs.Truth.{head}
use Rattle.dsr_step_theory.specs.declared.steps.Step.{Step}
use Rattle.dsr_repair_theory.specs.Choices.{IsChosen, IsFreshFrom, IsOutside, IsSupplied}
use Rattle.dsr_repair_theory.specs.Choices.IsUpdateAt.{adds, takes_away}
use Rattle.dsr_step_laws.proofs.Given.{example, image, layout, slot}
use Rattle.dsr_step_laws.proofs.Giving.{at, element_same}
use Rattle.dsr_step_laws.proofs.Model.{derived, deriver, in_first, in_marked, in_model, in_second, to_itself}
use Rattle.dsr_step_laws.proofs.Tried.{assign, clear, cut, fill, join, mark, supply, template_of, unmark}
use Rattle.dsr_step_laws.proofs.Violated.{IsTrueNow, literal_0, literal_1, literal_2, literal_3, literal_4, literal_5, literal_6, literal_7, literal_8, no_target}

-- ---- the fresh record: slot 2, since slots 0 and 1 are in A

free_outside : IsTrueNow (Member 0 (slot 2)) → ⊥
free_outside member = by_slot (in_model (Member 0 (slot 2)) member) where
  by_slot : (slot 2 ≡ slot 0) ⊎ (slot 2 ≡ slot 1) → ⊥
  by_slot (inl same) = (let numbers : 2 ≡ 0 = ap (λ (e : Element). e.slot) same in omega (arith, numbers))
  by_slot (inr same) = (let numbers : 2 ≡ 1 = ap (λ (e : Element). e.slot) same in omega (arith, numbers))

outside_avoided : IsOutside IsTrueNow (0 ∷ []) (slot 2)
outside_avoided set (inl same) member = free_outside (subst (λ s. IsTrueNow (Member s (slot 2))) same member)
outside_avoided set (inr later) member = absurd later

free_supplied : IsSupplied IsTrueNow example layout 1 (slot 2)
free_supplied = record { pool_is = refl; slot = omega arith; outside = outside_avoided }

-- a lower slot is in A
lower_in_a : (f : Element) → f.pool ≡ 1 → (f.slot ≡ 0) ⊎ (f.slot ≡ 1) → IsTrueNow (Member 0 f)
lower_in_a f pool (inl zero_is) = subst (λ e. IsTrueNow (Member 0 e)) (sym (element_same f (slot 0) pool zero_is)) (derived in_first)
lower_in_a f pool (inr one_is) = subst (λ e. IsTrueNow (Member 0 e)) (sym (element_same f (slot 1) pool one_is)) (derived in_second)

none_lower : (f : Element) → IsSupplied IsTrueNow example layout 1 f → Precedes f (slot 2) → ⊥
none_lower f supplied before = outside 0 (inl refl) (lower_in_a f supplied.pool_is (below before)) where
  outside : IsOutside IsTrueNow (0 ∷ []) f
  outside = supplied.outside

  below : Precedes f (slot 2) → (f.slot ≡ 0) ⊎ (f.slot ≡ 1)
  below (inl less) = absurd (omega (arith, less, supplied.pool_is))
  below (inr less) = (let under : f.slot < 2 = less.1 in grind (arith, under))

pub fresh_slot : IsFreshFrom IsTrueNow example layout 1 (slot 2)
fresh_slot = record { supplied = free_supplied; least = none_lower }

-- ---- what is counted

-- slot 0 has no target under N
nothing_counted : (fact : Fact) → IsCounted (Each (slot 0)) (Out First 0) fact → IsTrueNow fact → ⊥
nothing_counted (Member set e) counted fact = absurd counted
nothing_counted (Pair rel x target) counted fact =
    no_target target
    (subst (λ r. IsTrueNow (Pair r (slot 0) target)) counted.0
    (subst (λ e. IsTrueNow (Pair rel e target)) (sym (same_Some (slot 0) x counted.1)) fact))

-- of A's members slot 1 is the greatest
none_behind : (e : Element) → (e ≡ slot 0) ⊎ (e ≡ slot 1) → Precedes (slot 1) e → ⊥
none_behind e (inl same) before = first_isnt (subst (Precedes (slot 1)) same before) where
  first_isnt : Precedes (slot 1) (slot 0) → ⊥
  first_isnt (inl less) = omega (arith, less)
  first_isnt (inr less) = omega (arith, less.1)
none_behind e (inr same) before = second_isnt (subst (Precedes (slot 1)) same before) where
  second_isnt : Precedes (slot 1) (slot 1) → ⊥
  second_isnt (inl less) = omega (arith, less)
  second_isnt (inr less) = omega (arith, less.1)

none_greater : (other : Fact) → IsCounted Once (Whole 0) other × IsTrueNow other → FactPrecedes (Member 0 (slot 1)) other → ⊥
none_greater (Pair rel x target) counted before = absurd counted.0
none_greater (Member set e) counted before = by_order before where
  member : (e ≡ slot 0) ⊎ (e ≡ slot 1)
  member = in_model (Member 0 e) (subst (λ s. IsTrueNow (Member s e)) counted.0 counted.1)

  by_order : (0 < set) ⊎ ((0 ≡ set) × Precedes (slot 1) e) → ⊥
  by_order (inl less) = (let none : set ≡ 0 = counted.0 in omega (arith, none, less))
  by_order (inr (same, behind)) = none_behind e member behind

pub greatest_of_a : FindsGreatestCounted IsTrueNow Once (Whole 0) (Some (Member 0 (slot 1)))
greatest_of_a = record { of_kind = (refl, derived in_second); none_after = none_greater }

-- ---- the steps, by the numbers of their constraints

-- a step of a constraint's only literal, without a number
abbrev pub step_of : ℕ → Binding → ℕ → Element → Option Element → ℕ → Step
step_of constraint binding rule elem fresh update = record {
  constraint = constraint;
  binding = binding;
  conj = 0;
  literal = 0;
  rule = rule;
  elem = elem;
  index = 0;
  number = 0;
  fresh = fresh;
  update = update;
}

abbrev pub step_0 : Step
step_0 = step_of 0 (Each (slot 0)) 2 (slot 0) None 0

abbrev pub step_1 : Step
step_1 = step_of 1 (Each (slot 0)) 3 (slot 0) None 0

abbrev pub step_2 : Step
step_2 = step_of 2 (Each (slot 1)) 3 (slot 1) None 0

abbrev pub step_3 : Step
step_3 = step_of 3 (Each (slot 0)) 4 (slot 0) None 0

-- by rule 1, which gives the greatest member
abbrev pub step_4 : Step
step_4 = step_of 4 Once 1 head None 1

abbrev pub step_5 : Step
step_5 = step_of 5 (Each (slot 0)) 3 (slot 0) (Some (slot 2)) 0

abbrev pub step_6 : Step
step_6 = step_of 6 (Each (slot 0)) 3 (slot 0) (Some (slot 2)) 0

-- the same as 4, behind the update that supplies
abbrev pub step_7 : Step
step_7 = step_of 7 Once 1 head None 2

abbrev pub step_8 : Step
step_8 = step_of 8 (Each (slot 1)) 2 (slot 1) None 0

-- ---- they are chosen

pub chosen_0 : IsChosen example layout image literal_0.atom (template_of AddSet (mark ∷ [])) step_0 mark
chosen_0 = record { stopped = None; update_is = adds mark tt refl; rule = refl; place = refl; entry = refl; number = refl; fresh = refl }

pub chosen_1 : IsChosen example layout image literal_1.atom (template_of AddTuple (join ∷ [])) step_1 join
chosen_1 = record { stopped = None; update_is = adds join tt refl; rule = refl; place = refl; entry = refl; number = refl; fresh = refl }

pub chosen_2 : IsChosen example layout image literal_2.atom (template_of RemoveTuple (cut ∷ [])) step_2 cut
chosen_2 = record {
  stopped = Some (at 3 (slot 1));
  update_is = takes_away 0 cut (Pair 0 (slot 1) (Elem (slot 1))) (at 3 (slot 1)) tt refl (deriver to_itself) refl refl;
  rule = refl;
  place = refl;
  entry = refl;
  number = refl;
  fresh = refl;
}

pub chosen_3 : IsChosen example layout image literal_3.atom (template_of SetValue (assign ∷ [])) step_3 assign
chosen_3 = record { stopped = None; update_is = adds assign tt refl; rule = refl; place = refl; entry = refl; number = refl; fresh = refl }

pub chosen_4 : IsChosen example layout image literal_4.atom (template_of Trim (clear 0 ∷ clear 1 ∷ [])) step_4 (clear 1)
chosen_4 = record {
  stopped = Some (at 1 head);
  update_is = takes_away 1 (clear 1) (Member 0 (slot 1)) (at 1 head) tt greatest_of_a (deriver in_second) refl refl;
  rule = refl;
  place = refl;
  entry = refl;
  number = refl;
  fresh = refl;
}

pub chosen_5 : IsChosen example layout image literal_5.atom (template_of Supply (supply ∷ [])) step_5 supply
chosen_5 = record { stopped = None; update_is = adds supply tt refl; rule = refl; place = refl; entry = refl; number = refl; fresh = fresh_slot }

pub chosen_6 : IsChosen example layout image literal_6.atom (template_of ExactlyOne (supply ∷ cut ∷ [])) step_6 supply
chosen_6 = record {
  stopped = None;
  update_is = adds supply nothing_counted refl;
  rule = refl;
  place = refl;
  entry = refl;
  number = refl;
  fresh = fresh_slot;
}

pub chosen_7 : IsChosen example layout image literal_7.atom (template_of ExactlyOne (fill 0 ∷ clear 0 ∷ clear 1 ∷ [])) step_7 (clear 1)
chosen_7 = record {
  stopped = Some (at 1 head);
  update_is = takes_away 2 (clear 1) (Member 0 (slot 1)) (at 1 head) tt greatest_of_a (deriver in_second) refl refl;
  rule = refl;
  place = refl;
  entry = refl;
  number = refl;
  fresh = refl;
}

pub chosen_8 : IsChosen example layout image literal_8.atom (template_of RemoveSet (unmark ∷ [])) step_8 unmark
chosen_8 = record {
  stopped = Some (at 2 (slot 1));
  update_is = takes_away 0 unmark (Member 1 (slot 1)) (at 2 (slot 1)) tt refl (deriver in_marked) refl refl;
  rule = refl;
  place = refl;
  entry = refl;
  number = refl;
  fresh = refl;
}
