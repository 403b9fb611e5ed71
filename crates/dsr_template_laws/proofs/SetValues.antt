-- A value that was set is the only one of the variable's record.
use Rattle.std.proofs.Common.{◌≡◌, ◌<◌, ◌∙◌, ◌++◌, ℕ, true, Some, MatchOption, inl, inr, refl, sym, ap, subst, arith}
use Rattle.std.specs.Prelude.{option_map}
use Rattle.std.proofs.lemmas.Bool.{false≢true}
use Rattle.std.proofs.lemmas.Option.{same_Some}
use Rattle.dsr_repair_theory.specs.Choices.{IsEntryAt, IsPlace, size_or, written_size}
use Rattle.dsr_step_laws.proofs.GivenSymbols.{giver_of}
use Rattle.dsr_effect_laws.proofs.FactChanges.{not_gained, not_lost}
use Rattle.dsr_effect_laws.proofs.Writes.{IsLeftFrom, left_from}
use Rattle.dsr_effect_laws.specs.Fitting.{IsFitStep}
use Rattle.dsr_repair_laws.proofs.MakingRecords.{place_named}
use Rattle.dsr_ir.specs.declared.constraints.Atom.TheVariants as atoms
use Rattle.dsr_ir.specs.declared.constraints.Atom.{Atom}
use Rattle.dsr_ir.specs.declared.constraints.Bound.TheVariants as bounds
use Rattle.dsr_ir.specs.declared.constraints.Bound.{Bound}
use Rattle.dsr_ir.specs.declared.rules.Rule.{Rule}
use Rattle.dsr_ir.specs.declared.tuples.Element.{Element}
use Rattle.dsr_ir.specs.declared.tuples.Fact.TheVariants.{Pair}
use Rattle.dsr_ir.specs.declared.tuples.Fact.{Fact}
use Rattle.dsr_ir.specs.declared.tuples.Instance.{Instance}
use Rattle.dsr_ir.specs.declared.tuples.Target.TheVariants.{Num}
use Rattle.dsr_ir.specs.declared.tuples.Target.{Target as TargetOf}
use Rattle.dsr_ir.specs.declared.updates.Goal.{Goal}
use Rattle.dsr_ir.specs.declared.updates.Symbol.TheVariants as symbols
use Rattle.dsr_ir.specs.declared.updates.Update.{Update}
use Rattle.dsr_ir.specs.declared.updates.Write.{Write}
use Rattle.dsr_graph_theory.specs.Owners.{Keeps}
use Rattle.dsr_graph_theory.specs.Sides.{KeepsBound}
use Rattle.dsr_meaning.specs.Cells.{cell_value, value_at}
use Rattle.dsr_meaning.specs.Counting.{IsIn}
use Rattle.dsr_meaning.specs.Instances.{Compares, Gives, HasTarget, Includes, index_count, pool_of_premise, record_count}
use Rattle.dsr_meaning.specs.Models.{IsFact}
use Rattle.dsr_meaning.specs.Truth.{AtomHolds, HasBound, HasSize, element_of, head}
use Rattle.dsr_step_laws.proofs.ReferenceWrites.{plain_write}
use Rattle.dsr_step_theory.specs.Steps.{written_number}
use Rattle.dsr_update_theory.specs.Changes.{Change}
use Rattle.dsr_update_theory.specs.Templates.{pick_of}
use Rattle.dsr_update_theory.specs.declared.effects.Direction.TheVariants.{Gain, Loss}
use Rattle.dsr_repair_laws.proofs.TriedSteps.{IsTriedStep, own_entry, own_place}
use Rattle.dsr_repair_laws.proofs.TriedUpdates.{IsSetAt, IsSetting}
use Rattle.dsr_step_laws.proofs.HeadRules.{only_head}
use Rattle.dsr_meaning.specs.Refusals.{reaches_bound}
use Rattle.dsr_ir.specs.declared.rules.Op.{Op}
use Rattle.dsr_ir.specs.declared.rules.Op.TheVariants.{Eq, Ge, Gt, Le, Lt, Ne}
use Rattle.dsr_template_laws.specs.Judging.{Application, change_in}
use Rattle.dsr_template_laws.specs.Tried.{IsTried}
use Rattle.dsr_template_laws.proofs.CountedFacts.{same_size}
use Rattle.dsr_template_laws.proofs.FewerActive.{never_lies}
use Rattle.dsr_template_laws.proofs.FitWrites.{value_written}
use Rattle.dsr_template_laws.proofs.KnownMembers.{last}
use Rattle.dsr_template_laws.proofs.MadeAsJudged.{fit, made}
use Rattle.dsr_template_laws.proofs.TriedApplications.{own_among, tried_step}
use Rattle.dsr_meaning.proofs.Options.{and_some, some_and}
use Rattle.dsr_plan_laws.proofs.KnownSets.{giver_in}

-- the number with which it is compared is one that the comparison allows
reached : (op : Op) → reaches_bound op ≡ true → (n : ℕ) → Compares op n n
reached Eq reaches n = refl
reached Le reaches n = omega arith
reached Ge reaches n = omega arith
reached Ne reaches n = absurd (false≢true reaches)
reached Lt reaches n = absurd (false≢true reaches)
reached Gt reaches n = absurd (false≢true reaches)

module _ (a : Application) (t : IsTried a) where
  abbrev J : Change
  J = change_in a

  abbrev s : IsTriedStep a.spec a.layout a.old a.step a.update
  s = tried_step a t.tried

  abbrev u : Update
  u = t.tried.own

  fits : IsFitStep J a.layout a.step a.old a.new
  fits = fit a t

  module _ (goal : Goal) (atom : Atom) (y : IsSetting a.spec goal atom u) where
    plain : y.write ≡ plain_write (pick_of y.bound) y.path
    plain = value_written a.spec (pick_of y.bound) y.path y.write y.write_is

    left : IsLeftFrom J a.layout a.step fits.stepped.between a.new (plain_write (pick_of y.bound) y.path)
    left =
        let among = own_among a t.tried y.write (subst (IsIn y.write) (sym y.writes_are) (inl refl)) in
        subst (IsLeftFrom J a.layout a.step fits.stepped.between a.new) plain (left_from J a.layout a.step a.old a.new fits y.write among)

    after : cell_value a.new left.cell ≡ left.number
    after = elim left.holds as (λ _. cell_value a.new left.cell ≡ left.number) [ inl is ↦ is | inr stays ↦ stays.0 ∙ stays.1 ]

    -- ---- which instance gives a value

    record IsThere (i : Instance) (value : ℕ) : Type 0 where
      elem : i.elem ≡ a.step.elem
      index : i.index ≡ a.step.index
      read : value_at a.layout a.new i.elem i.index y.path ≡ Some value

    read_at : (i : Instance) (target : TargetOf) (value : ℕ) → target ≡ Num value → HasTarget a.spec a.layout a.new i y.path target → value_at a.layout a.new i.elem i.index y.path ≡ Some value
    read_at i target value is has = (subst (λ x. HasTarget a.spec a.layout a.new i y.path x) is has).read

    there_by : (i : Instance) (x : Element) (value : ℕ) → Gives a.spec a.layout a.new i y.rule (Pair y.rel x (Num value)) → element_of a.step.binding y.v ≡ Some x → IsSetAt y.v y.rel y.path y.rule u → IsThere i value
    there_by i x value g at (IsSetAt.own inc single place_is at_is) =
        let h = subst (λ k. Includes a.spec a.layout a.new i k (Pair y.rel x (Num value))) inc g.included in
        let is : Pair y.rel x (Num value) ≡ Pair y.rel i.elem h.0 = h.2 in
        let target : h.0 ≡ Num value = cc in
        let source : i.elem ≡ x = cc in
        let place = subst (λ p. IsPlace a.step.binding a.applied.chosen.stopped p a.step.elem) place_is (own_place a.spec a.layout a.old a.step a.update s) in
        let named = place_named y.v a.step.binding a.applied.chosen.stopped a.step.elem place in
        let first : a.step.index ≡ 0 = subst (λ k. IsEntryAt a.step.binding a.applied.chosen.stopped k a.step.index) at_is (own_entry a.spec a.layout a.old a.step a.update s) in
        let below : i.index < 1 = subst (λ k. i.index < index_count a.layout k) single g.is_instance.index_below in
        record {
          elem = source ∙ same_Some x a.step.elem (sym at ∙ named);
          index = omega (arith, below, first);
          read = read_at i h.0 value target h.1;
        }
    there_by i x value g at (IsSetAt.slot pool inc premise place_is at_is) =
        let h = subst (λ k. Includes a.spec a.layout a.new i k (Pair y.rel x (Num value))) inc g.included in
        let is : Pair y.rel x (Num value) ≡ Pair y.rel (record { pool = pool; slot = i.index }) h.0 = h.2 in
        let target : h.0 ≡ Num value = cc in
        let source : x ≡ record { pool = pool; slot = i.index } = cc in
        let place : a.step.elem ≡ head = subst (λ p. IsPlace a.step.binding a.applied.chosen.stopped p a.step.elem) place_is (own_place a.spec a.layout a.old a.step a.update s) in
        let entry = subst (λ k. IsEntryAt a.step.binding a.applied.chosen.stopped k a.step.index) at_is (own_entry a.spec a.layout a.old a.step a.update s) in
        let e = some_and (element_of a.step.binding y.v) (λ e. a.step.index ≡ e.slot) entry in
        let is_head : i.elem ≡ head = only_head a.layout i.elem (record {
          pool_is = g.is_instance.pool_is ∙ ap (pool_of_premise a.spec.base) premise;
          slot_below = subst (λ o. i.elem.slot < record_count a.layout (pool_of_premise a.spec.base o)) premise g.is_instance.slot_below;
        }) in
        let slots : a.step.index ≡ i.index = e.1.1 ∙ (ap (λ (z : Element). z.slot) (same_Some e.0 x (sym e.1.0 ∙ at)) ∙ ap (λ (z : Element). z.slot) source) in
        record {
          elem = is_head ∙ sym place;
          index = sym slots;
          read = read_at i h.0 value target h.1;
        }

    -- each value is the one that was set
    value_is : (x : Element) → element_of a.step.binding y.v ≡ Some x → (value : ℕ) → IsFact a.spec a.layout a.new (Pair y.rel x (Num value)) → value ≡ left.number
    value_is x at value d =
        let fact : Fact = Pair y.rel x (Num value) in
        let l = last a.spec a.applied.image.typed a.layout a.new d.0 fact d.1 in
        let listed = giver_in a.spec (symbols.Rel y.rel) l.instance.rule l.rule (record { rule_is = l.gives.is_instance.rule_is; gives = giver_of a.spec a.layout a.new l.instance l.rule.inc fact l.gives.included }) in
        let found : ℕ × Rule = (l.instance.rule, l.rule) in
        let alone : ℕ × Rule = (u.rule, y.rule) in
        let same : found ≡ alone = elim (subst (IsIn found) y.alone listed) as (λ _. found ≡ alone) [ inl e ↦ e | inr none ↦ absurd none ] in
        let g = subst (λ r. Gives a.spec a.layout a.new l.instance r fact) (ap (λ (p : ℕ × Rule). p.1) same) l.gives in
        let there = there_by l.instance x value g at y.placed in
        let read : value_at a.layout a.new a.step.elem a.step.index y.path ≡ Some value =
        subst (λ k. value_at a.layout a.new a.step.elem k y.path ≡ Some value) there.index (subst (λ e. value_at a.layout a.new e l.instance.index y.path ≡ Some value) there.elem there.read) in
        let now : value_at a.layout a.new a.step.elem a.step.index y.path ≡ Some (cell_value a.new left.cell) = ap (option_map (cell_value a.new)) left.cell_is in
        same_Some value (cell_value a.new left.cell) (sym read ∙ now) ∙ after

    -- ---- the number with which it is compared

    size_stays : (bound : Bound) → y.bound ≡ bound → KeepsBound J (atoms.Value y.v y.rel y.op bound) → written_number a.spec a.layout a.step (plain_write (pick_of bound) y.path) ≡ Some left.number → HasBound (IsFact a.spec a.layout a.new) a.step.binding bound left.number
    size_stays (bounds.Num k) is keeps number_is = sym (same_Some k left.number number_is)
    size_stays (bounds.Size measure) is keeps number_is =
        let m = made a t in
        let written : written_size a.update.writes ≡ Some measure =
        ap written_size t.tried.grown.writes_are ∙ (ap (λ ws. written_size (ws ++ t.tried.grown.more)) y.writes_are ∙ (ap (λ (w : Write). size_or w.pick (written_size t.tried.grown.more)) plain ∙ ap (λ b. size_or (pick_of b) (written_size t.tried.grown.more)) is)) in
        let before : HasSize (IsFact a.spec a.layout a.old) a.step.binding measure a.step.number =
        subst (λ o. MatchOption o (a.step.number ≡ 0) (λ k. HasSize (IsFact a.spec a.layout a.old) a.step.binding k a.step.number)) written a.applied.chosen.number in
        let size = same_size (IsFact a.spec a.layout a.old) (IsFact a.spec a.layout a.new) a.step.binding measure a.step.number
        (λ fact of. not_lost J a.layout a.step a.old a.new m fact (never_lies J a.step Loss fact (subst (Keeps J Loss) (sym of) keeps.1)))
        (λ fact of. not_gained J a.layout a.step a.old a.new m fact (never_lies J a.step Gain fact (subst (Keeps J Gain) (sym of) keeps.0)))
        before in
        subst (HasSize (IsFact a.spec a.layout a.new) a.step.binding measure) (same_Some a.step.number left.number number_is) size

    -- the variable has a record
    var_there : IsSetAt y.v y.rel y.path y.rule u → (x : Element) × (element_of a.step.binding y.v ≡ Some x)
    var_there (IsSetAt.own inc single place_is at_is) =
        (a.step.elem, place_named y.v a.step.binding a.applied.chosen.stopped a.step.elem (subst (λ p. IsPlace a.step.binding a.applied.chosen.stopped p a.step.elem) place_is (own_place a.spec a.layout a.old a.step a.update s)))
    var_there (IsSetAt.slot pool inc premise place_is at_is) =
        let e = some_and (element_of a.step.binding y.v) (λ e. a.step.index ≡ e.slot) (subst (λ k. IsEntryAt a.step.binding a.applied.chosen.stopped k a.step.index) at_is (own_entry a.spec a.layout a.old a.step a.update s)) in
        (e.0, e.1.0)

    pub set_holds : KeepsBound J (atoms.Value y.v y.rel y.op y.bound) → AtomHolds (IsFact a.spec a.layout a.new) a.step.binding (atoms.Value y.v y.rel y.op y.bound)
    set_holds keeps =
        let x = var_there y.placed in
        and_some (element_of a.step.binding y.v) (λ x. (n : ℕ) × HasBound (IsFact a.spec a.layout a.new) a.step.binding y.bound n × ((value : ℕ) → IsFact a.spec a.layout a.new (Pair y.rel x (Num value)) → Compares y.op value n)) x.0 x.1
        (left.number, size_stays y.bound refl keeps left.number_is, λ value d. subst (λ k. Compares y.op k left.number) (sym (value_is x.0 x.1 value d)) (reached y.op y.reaches left.number))
