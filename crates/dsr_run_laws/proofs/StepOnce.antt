-- On an image one step is due, or one record is needed.
use Rattle.std.proofs.Common.{◌≡◌, ◌≤◌, ◌<◌, ◌⊎◌, ◌∙◌, ℕ, zero, suc, List, Option, None, Some, MatchOption, slice_get, inl, inr, refl, sym, ap, subst, arith}
use Rattle.std.proofs.lemmas.Bool.{cases_lt}
use Rattle.std.proofs.lemmas.Option.{same_Some}
use Rattle.std.specs.Prelude.{IsSomeAnd}
use Rattle.dsr_repair_theory.specs.Choices.{Adds, IsChosen, IsEntryAt, IsFresh, IsFreshFrom, IsNumberFor, IsPlace, IsSupplied, IsToGo, IsUpdateAt, TakesAway, written_size}
use Rattle.dsr_repair_theory.specs.Choices.IsUpdateAt.{adds, takes_away}
use Rattle.dsr_repair_laws.proofs.DueForms.{form_of}
use Rattle.dsr_repair_laws.proofs.GreatestFact.{facts_apart}
use Rattle.dsr_ir.specs.declared.constraints.Atom.{Atom}
use Rattle.dsr_ir.specs.declared.constraints.Atom.TheVariants as atoms
use Rattle.dsr_ir.specs.declared.constraints.Constraint.{Constraint}
use Rattle.dsr_ir.specs.declared.constraints.Literal.{Literal}
use Rattle.dsr_ir.specs.declared.constraints.Measure.{Measure}
use Rattle.dsr_ir.specs.declared.declarations.Spec.{Spec}
use Rattle.dsr_ir.specs.declared.layouts.Layout.{Layout}
use Rattle.dsr_ir.specs.declared.tuples.Binding.{Binding}
use Rattle.dsr_ir.specs.declared.tuples.Element.{Element}
use Rattle.dsr_ir.specs.declared.tuples.Fact.{Fact}
use Rattle.dsr_ir.specs.declared.tuples.Fact.TheVariants.{Member, Pair}
use Rattle.dsr_ir.specs.declared.tuples.Instance.{Instance}
use Rattle.dsr_ir.specs.declared.tuples.Target.TheVariants.{Elem, Num}
use Rattle.dsr_ir.specs.declared.updates.At.{At}
use Rattle.dsr_ir.specs.declared.updates.At.TheVariants as ats
use Rattle.dsr_ir.specs.declared.updates.Goal.{Goal}
use Rattle.dsr_ir.specs.declared.updates.Goal.TheVariants as goals
use Rattle.dsr_ir.specs.declared.updates.Place.{Place}
use Rattle.dsr_ir.specs.declared.updates.Place.TheVariants as places
use Rattle.dsr_ir.specs.declared.updates.Template.{Template}
use Rattle.dsr_ir.specs.declared.updates.Update.{Update}
use Rattle.dsr_ir.specs.declared.updates.Write.{Write}
use Rattle.dsr_meaning.proofs.Sizes.{size_once}
use Rattle.dsr_meaning.specs.Consistency.{BoundConstraint}
use Rattle.dsr_meaning.specs.Models.{IsDeriver, IsFact}
use Rattle.dsr_meaning.specs.Truth.{HasSize, element_of}
use Rattle.dsr_meaning.specs.Typed.{IsTyped}
use Rattle.dsr_plan_theory.specs.Plans.{IsPlan}
use Rattle.dsr_plan_theory.specs.declared.choices.Choice.{Choice}
use Rattle.dsr_plan_theory.specs.declared.choices.Row.{Row}
use Rattle.dsr_run_laws.proofs.Again.{no_later, no_later_literal, same_binding, same_constraint, same_literal, same_row, same_template}
use Rattle.dsr_repair_theory.specs.Due.{IsDue, IsDueConj, IsDueLiteral}
use Rattle.dsr_repair_theory.specs.Turns.{IsDueStep, bound_by}
use Rattle.dsr_step_theory.specs.declared.steps.Step.{Step}
use Rattle.dsr_run_laws.proofs.RulesOnce.{TakesOnce, taken_once}

-- ---- what is due

-- one binding, literal and template
pub record AreDueAlike (v w : BoundConstraint) (conj conj' literal literal' : ℕ) (its its' : Literal) (template template' : Template) : Type 0 where
  pub binding : v ≡ w
  pub conj_is : conj ≡ conj'
  pub literal_is : literal ≡ literal'
  pub its_is : its ≡ its'
  pub template_is : template ≡ template'

module _ (P : Fact → Type 0) (spec : Spec) (choice : Choice) where
  due_there :
      (v w : BoundConstraint) (same : v ≡ w) (c : Constraint) (r : Row) (conj conj' literal literal' : ℕ) (its its' : Literal) (template template' : Template)
      → IsDueConj P v.binding c r conj → IsDueConj P v.binding c r conj' → IsDueLiteral P v.binding c r conj literal its template
      → IsDueLiteral P v.binding c r conj' literal' its' template' → AreDueAlike v w conj conj' literal literal' its its' template template'
  due_there v w same c r conj conj' literal literal' its its' template template' one two first other =
      let to = no_later v.binding c r P conj conj' two one.tests in
      let from = no_later v.binding c r P conj' conj one two.tests in
      let in_one : conj ≡ conj' = omega (arith, to, from) in
      let second : IsDueLiteral P v.binding c r conj literal' its' template' = subst (λ x. IsDueLiteral P v.binding c r x literal' its' template') (sym in_one) other in
      let before = no_later_literal v.binding c r P conj literal literal' its its' template template' second first.repaired in
      let behind = no_later_literal v.binding c r P conj literal' literal its' its template' template first second.repaired in
      let at : literal ≡ literal' = omega (arith, before, behind) in
      record {
        binding = same;
        conj_is = in_one;
        literal_is = at;
        its_is = same_literal v.binding c r P P conj literal literal' its its' template template' first.repaired second.repaired at;
        template_is = same_template v.binding c r P P conj literal literal' its its' template template' first.repaired second.repaired at;
      }

  pub due_once :
      (v w : BoundConstraint) (conj conj' literal literal' : ℕ) (its its' : Literal) (template template' : Template)
      → IsDue P spec choice v conj literal its template → IsDue P spec choice w conj' literal' its' template'
      → AreDueAlike v w conj conj' literal literal' its its' template template'
  due_once v w conj conj' literal literal' its its' template template' one two =
      let first = one.binding_is in
      let second = two.binding_is in
      let to = first.lowest w two.row second.violated second.row_of.row_is in
      let from = second.lowest v one.row first.violated first.row_of.row_is in
      let same : v ≡ w = same_binding spec choice P P v w one.constraint two.constraint one.row two.row first second (omega (arith, to, from)) first.violated second.violated in
      let c = same_constraint spec choice P P v w one.constraint two.constraint one.row two.row first second same in
      let r = same_row spec choice P P v w one.constraint two.constraint one.row two.row first second same in
      due_there v w same one.constraint one.row conj conj' literal literal' its its' template template' one.conj_is
      (subst (λ (x : BoundConstraint). IsDueConj P x.binding one.constraint one.row conj') (sym same)
      (subst (λ x. IsDueConj P w.binding x one.row conj') (sym c) (subst (λ x. IsDueConj P w.binding two.constraint x conj') (sym r) two.conj_is)))
      one.literal_is
      (subst (λ (x : BoundConstraint). IsDueLiteral P x.binding one.constraint one.row conj' literal' its' template') (sym same)
      (subst (λ x. IsDueLiteral P w.binding x one.row conj' literal' its' template') (sym c) (subst (λ x. IsDueLiteral P w.binding two.constraint x conj' literal' its' template') (sym r) two.literal_is)))

-- ---- the update

-- a look-up tells one thing
told_once : {A B : Type 0} (o : Option A) (h : A → B) (x y : B) → IsSomeAnd o (λ a. x ≡ h a) → IsSomeAnd o (λ a. y ≡ h a) → x ≡ y
told_once None h x y one two = absurd one
told_once (Some a) h x y one two = one ∙ sym two

to_go_once : (P : Fact → Type 0) (b : Binding) (atom : Atom) (f g : Fact) → IsToGo P b atom f → IsToGo P b atom g → f ≡ g
to_go_once P b (atoms.Member v set) f g one two = told_once (element_of b v) (λ x. Member set x) f g one two
to_go_once P b (atoms.Pair v w rel) f g one two = by_source (element_of b v) one two where
  by_source : (o : Option Element) → IsSomeAnd o (λ x. IsSomeAnd (element_of b w) (λ y. f ≡ Pair rel x (Elem y))) → IsSomeAnd o (λ x. IsSomeAnd (element_of b w) (λ y. g ≡ Pair rel x (Elem y))) → f ≡ g
  by_source None one two = absurd one
  by_source (Some x) one two = told_once (element_of b w) (λ y. Pair rel x (Elem y)) f g one two
to_go_once P b (atoms.Count measure op k) f g one two = elim (facts_apart f g) as (λ _. f ≡ g) [
  | inl before ↦ absurd (one.none_after g two.of_kind before)
  | inr (inl same) ↦ same
  | inr (inr behind) ↦ absurd (two.none_after f one.of_kind behind)
]
to_go_once P b (atoms.Value v rel op bound) f g one two = absurd one

-- what is added isn't taken away
not_both : (P : Fact → Type 0) (b : Binding) (atom : Atom) (goal : Goal) (n : ℕ) (f : Fact) → Adds P b atom goal → TakesAway goal n → IsToGo P b atom f → ⊥
not_both P b atom goals.AddSet n f adding away to_go = away
not_both P b atom goals.AddTuple n f adding away to_go = away
not_both P b atom goals.SetValue n f adding away to_go = away
not_both P b atom goals.Supply n f adding away to_go = away
not_both P b (atoms.Count measure op k) goals.ExactlyOne n f adding away to_go = adding f to_go.of_kind.0 to_go.of_kind.1
not_both P b (atoms.Member v set) goals.ExactlyOne n f adding away to_go = adding
not_both P b (atoms.Pair v w rel) goals.ExactlyOne n f adding away to_go = adding
not_both P b (atoms.Value v rel op bound) goals.ExactlyOne n f adding away to_go = adding
not_both P b atom goals.RemoveSet n f adding away to_go = adding
not_both P b atom goals.RemoveTuple n f adding away to_go = adding
not_both P b atom goals.Trim n f adding away to_go = adding

-- instances are ordered as pairs of a relation with numbers are
deriver_once : (spec : Spec) (layout : Layout) (bytes : List ℕ) (fact : Fact) (i j : Instance) → IsDeriver spec layout bytes fact i → IsDeriver spec layout bytes fact j → i ≡ j
deriver_once spec layout bytes fact i j one two = elim (facts_apart (Pair i.rule i.elem (Num i.index)) (Pair j.rule j.elem (Num j.index))) as (λ _. i ≡ j) [
  | inl before ↦ absurd (two.none_before i one.derived before)
  | inr (inl same) ↦
      let rule : i.rule ≡ j.rule = cc in
      let elem : i.elem ≡ j.elem = cc in
      let index : i.index ≡ j.index = cc in
      λ k. record { rule = rule k; elem = elem k; index = index k }
  | inr (inr behind) ↦ absurd (one.none_before j two.derived behind)
]

-- the update with its place, and the instance that it stops
pub record AreUpdatesAlike (n m : ℕ) (u w : Update) (s t : Option Instance) : Type 0 where
  pub place : n ≡ m
  pub update : u ≡ w
  pub stopped : s ≡ t

module _ (spec : Spec) (layout : Layout) (bytes : List ℕ) where
  pub update_once :
      (b : Binding) (atom : Atom) (template : Template) (n m : ℕ) (u w : Update) (s t : Option Instance) → TakesOnce template
      → IsUpdateAt spec layout bytes b atom template n u s → IsUpdateAt spec layout bytes b atom template m w t → AreUpdatesAlike n m u w s t
  update_once b atom template _ _ u w _ _ once (adds _ goal at) (adds _ goal' at') = record { place = refl; update = same_Some u w (sym at ∙ at'); stopped = refl }
  update_once b atom template _ m u w _ _ once (adds _ goal at) (takes_away _ _ fact i away to_go deriver at' rule) = absurd (not_both (IsFact spec layout bytes) b atom template.goal m fact goal away to_go)
  update_once b atom template n _ u w _ _ once (takes_away _ _ fact i away to_go deriver at rule) (adds _ goal at') = absurd (not_both (IsFact spec layout bytes) b atom template.goal n fact goal away to_go)
  update_once b atom template n m u w _ _ once (takes_away _ _ fact i away to_go deriver at rule) (takes_away _ _ other j away' to_go' deriver' at' rule') =
      let gone = to_go_once (IsFact spec layout bytes) b atom fact other to_go to_go' in
      let by : i ≡ j = deriver_once spec layout bytes other i j (subst (λ x. IsDeriver spec layout bytes x i) gone deriver) deriver' in
      let place = once n m u w away away' at at' (rule ∙ (ap (λ (x : Instance). x.rule) by ∙ sym rule')) in
      record { place = place; update = same_Some u w (sym at ∙ (ap (slice_get template.updates) place ∙ at')); stopped = ap Some by }

  -- ---- what else is chosen

  place_once : (b : Binding) (s : Option Instance) (place : Place) (e f : Element) → IsPlace b s place e → IsPlace b s place f → e ≡ f
  place_once b s places.Head e f one two = one ∙ sym two
  place_once b s (places.Of v) e f one two = same_Some e f (sym one ∙ two)
  place_once b s places.Deriver e f one two = told_once s (λ i. i.elem) e f one two

  entry_at_once : (b : Binding) (s : Option Instance) (at : At) (k l : ℕ) → IsEntryAt b s at k → IsEntryAt b s at l → k ≡ l
  entry_at_once b s ats.Scalar k l one two = one ∙ sym two
  entry_at_once b s (ats.SlotOf v) k l one two = told_once (element_of b v) (λ e. e.slot) k l one two
  entry_at_once b s ats.Deriver k l one two = told_once s (λ i. i.index) k l one two

  number_once : (b : Binding) (writes : List Write) (n m : ℕ) → IsNumberFor (IsFact spec layout bytes) b writes n → IsNumberFor (IsFact spec layout bytes) b writes m → n ≡ m
  number_once b writes n m one two = by_size (written_size writes) one two where
    by_size : (o : Option Measure) → MatchOption o (n ≡ 0) (λ measure. HasSize (IsFact spec layout bytes) b measure n) → MatchOption o (m ≡ 0) (λ measure. HasSize (IsFact spec layout bytes) b measure m) → n ≡ m
    by_size None one two = one ∙ sym two
    by_size (Some measure) one two = size_once (IsFact spec layout bytes) b measure n m one two

  least_once : (pool : ℕ) (e f : Element) → IsFreshFrom (IsFact spec layout bytes) spec layout pool e → IsFreshFrom (IsFact spec layout bytes) spec layout pool f → e ≡ f
  least_once pool e f one two =
      let same : e.pool ≡ f.pool = one.supplied.pool_is ∙ sym two.supplied.pool_is in
      elim (cases_lt e.slot f.slot) as (λ _. e ≡ f) [
        | inl less ↦ absurd (two.least e one.supplied (inr (same, less)))
        | inr from ↦ elim (cases_lt f.slot e.slot) as (λ _. e ≡ f) [
          | inl more ↦ absurd (one.least f two.supplied (inr (sym same, more)))
          | inr to ↦ let slot : e.slot ≡ f.slot = omega (arith, from, to) in λ i. record { pool = same i; slot = slot i }
        ]
      ]

  fresh_once : (takes : Option ℕ) (e f : Option Element) → IsFresh (IsFact spec layout bytes) spec layout takes e → IsFresh (IsFact spec layout bytes) spec layout takes f → e ≡ f
  fresh_once None e f one two = one ∙ sym two
  fresh_once (Some pool) None f one two = absurd one
  fresh_once (Some pool) (Some e) None one two = absurd two
  fresh_once (Some pool) (Some e) (Some f) one two = ap Some (least_once pool e f one two)

module _ (spec : Spec) (choice : Choice) (layout : Layout) (bytes : List ℕ) (plan : IsPlan spec choice) (typed : IsTyped spec) where
  pub takes_once :
      (v : BoundConstraint) (conj literal : ℕ) (its : Literal) (template : Template) → IsDue (IsFact spec layout bytes) spec choice v conj literal its template → TakesOnce template
  takes_once v conj literal its template due =
      taken_once (IsFact spec layout bytes) spec v.binding its template (form_of (IsFact spec layout bytes) spec choice v conj literal its template typed plan due)

  pub step_once :
      (step other : Step) (update u : Update) → IsDueStep spec choice layout bytes step update → IsDueStep spec choice layout bytes other u
      → (step ≡ other) × (update ≡ u)
  step_once step other update u one two =
      let same = due_once (IsFact spec layout bytes) spec choice (bound_by step) (bound_by other) step.conj other.conj step.literal other.literal one.literal two.literal one.template two.template one.due two.due in
      let binding : step.binding ≡ other.binding = ap (λ (x : BoundConstraint). x.binding) same.binding in
      let second : IsUpdateAt spec layout bytes step.binding one.literal.atom one.template other.update u two.chosen.stopped =
      subst (λ b. IsUpdateAt spec layout bytes b one.literal.atom one.template other.update u two.chosen.stopped) (sym binding)
      (subst (λ (l : Literal). IsUpdateAt spec layout bytes other.binding l.atom one.template other.update u two.chosen.stopped) (sym same.its_is)
      (subst (λ t. IsUpdateAt spec layout bytes other.binding two.literal.atom t other.update u two.chosen.stopped) (sym same.template_is) two.chosen.update_is)) in
      let by = update_once spec layout bytes step.binding one.literal.atom one.template step.update other.update update u one.chosen.stopped two.chosen.stopped
      (takes_once (bound_by step) step.conj step.literal one.literal one.template one.due) one.chosen.update_is second in
      let elem = place_once spec layout bytes step.binding one.chosen.stopped update.place step.elem other.elem one.chosen.place
      (subst (λ b. IsPlace b one.chosen.stopped update.place other.elem) (sym binding)
      (subst (λ s. IsPlace other.binding s update.place other.elem) (sym by.stopped)
      (subst (λ (x : Update). IsPlace other.binding two.chosen.stopped x.place other.elem) (sym by.update) two.chosen.place))) in
      let index = entry_at_once spec layout bytes step.binding one.chosen.stopped update.at step.index other.index one.chosen.entry
      (subst (λ b. IsEntryAt b one.chosen.stopped update.at other.index) (sym binding)
      (subst (λ s. IsEntryAt other.binding s update.at other.index) (sym by.stopped)
      (subst (λ (x : Update). IsEntryAt other.binding two.chosen.stopped x.at other.index) (sym by.update) two.chosen.entry))) in
      let number = number_once spec layout bytes step.binding update.writes step.number other.number one.chosen.number
      (subst (λ b. IsNumberFor (IsFact spec layout bytes) b update.writes other.number) (sym binding)
      (subst (λ (x : Update). IsNumberFor (IsFact spec layout bytes) other.binding x.writes other.number) (sym by.update) two.chosen.number)) in
      let fresh = fresh_once spec layout bytes update.fresh step.fresh other.fresh one.chosen.fresh
      (subst (λ (x : Update). IsFresh (IsFact spec layout bytes) spec layout x.fresh other.fresh) (sym by.update) two.chosen.fresh) in
      let rule : step.rule ≡ other.rule = one.chosen.rule ∙ (ap (λ (x : Update). x.rule) by.update ∙ sym two.chosen.rule) in (
        λ i. record {
          constraint = ap (λ (x : BoundConstraint). x.constraint) same.binding i;
          binding = binding i;
          conj = same.conj_is i;
          literal = same.literal_is i;
          rule = rule i;
          elem = elem i;
          index = index i;
          number = number i;
          fresh = fresh i;
          update = by.place i;
        },
        by.update,
      )
