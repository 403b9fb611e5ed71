-- An indexed write of an update that is tried is its only write, or the update writes the head; and no writes compensate an
-- update that takes a fact away.
use Rattle.std.proofs.Common.{◌≡◌, ◌∙◌, ◌⊎◌, ◌++◌, ℕ, zero, suc, Bool, true, false, List, [], ◌∷◌, Some, inl, inr, refl, sym, ap, subst, slice_get}
use Rattle.std.proofs.lemmas.Bool.{and_parts, false≢true}
use Rattle.std.proofs.lemmas.List.{append-nil}
use Rattle.dsr_repair_theory.specs.Choices.{TakesAway}
use Rattle.dsr_repair_laws.proofs.Compensating.{compensating, only_compensated}
use Rattle.dsr_repair_laws.proofs.MakingRecords.{of_rule}
use Rattle.dsr_repair_laws.proofs.RawUpdates.{raw_updates}
use Rattle.dsr_repair_laws.proofs.TriedTemplates.{single_span}
use Rattle.dsr_repair_laws.proofs.TriedUpdates.{IsAdder, IsRawUpdate, IsSetAt, IsSetting, IsSupplying}
use Rattle.dsr_repair_laws.specs.Grown.{Compensates, IsGrownFrom}
use Rattle.dsr_ir.specs.Rules.{target_of}
use Rattle.dsr_ir.specs.declared.constraints.Atom.{Atom}
use Rattle.dsr_ir.specs.declared.constraints.Literal.{Literal}
use Rattle.dsr_ir.specs.declared.constraints.Measure.{Measure}
use Rattle.dsr_ir.specs.declared.constraints.Var.{Var}
use Rattle.dsr_ir.specs.declared.rules.Guard.{Guard}
use Rattle.dsr_ir.specs.declared.rules.Path.{Path}
use Rattle.dsr_ir.specs.declared.rules.Rule.{Rule}
use Rattle.dsr_ir.specs.declared.rules.Span.TheVariants.{Single}
use Rattle.dsr_ir.specs.declared.updates.Goal.{Goal}
use Rattle.dsr_ir.specs.declared.updates.Goal.TheVariants as goals
use Rattle.dsr_ir.specs.declared.updates.Pick.{Pick}
use Rattle.dsr_ir.specs.declared.updates.Place.TheVariants.{Head}
use Rattle.dsr_ir.specs.declared.updates.Template.{Template}
use Rattle.dsr_ir.specs.declared.updates.Update.{Update}
use Rattle.dsr_ir.specs.declared.updates.Write.{Write}
use Rattle.dsr_graph_theory.specs.Owners.{Owner}
use Rattle.dsr_meaning.specs.Counting.{IsIn}
use Rattle.dsr_meaning.specs.Typed.{IsTyped, IsTypedGuard, IsTypedLiteral, IsTypedPath, IsTypedRule}
use Rattle.dsr_step_laws.proofs.AllTrue.{in_others, target_written}
use Rattle.dsr_step_laws.proofs.GuardWrites.{guard_written}
use Rattle.dsr_step_laws.proofs.ReferenceWrites.{reference_written}
use Rattle.dsr_step_laws.proofs.Together.{target_typed}
use Rattle.dsr_update_theory.specs.Givers.{is_single}
use Rattle.dsr_update_theory.specs.Guards.{guard_write}
use Rattle.dsr_update_theory.specs.Templates.{KnownSets, all_true, others, pick_of, serves, starts_at, target_writes}
use Rattle.dsr_update_theory.specs.Touching.{is_removal}
use Rattle.dsr_template_laws.specs.Tried.{IsTriedAt}
use Rattle.dsr_template_laws.proofs.FitWrites.{true_made, unindexed, value_written}
use Rattle.dsr_meaning.proofs.Items.{in_either, of_all}

-- ---- no writes compensate an update that takes a fact away

nothing_in : {A : Type 0} (xs : List A) → ((x : A) → IsIn x xs → ⊥) → xs ≡ []
nothing_in [] none = refl
nothing_in (x ∷ xs) none = absurd (none x (inl refl))

taken_later : (goal : Goal) (n : ℕ) → TakesAway goal n → is_removal goal ≡ false → n ≡ 0 → ⊥
taken_later goals.RemoveSet n takes keeps first = false≢true (sym keeps)
taken_later goals.RemoveTuple n takes keeps first = false≢true (sym keeps)
taken_later goals.Trim n takes keeps first = false≢true (sym keeps)
taken_later goals.ExactlyOne zero takes keeps first = takes
taken_later goals.ExactlyOne (suc n) takes keeps first = absurd cc
taken_later goals.AddSet n takes keeps first = takes
taken_later goals.AddTuple n takes keeps first = takes
taken_later goals.SetValue n takes keeps first = takes
taken_later goals.Supply n takes keeps first = takes

pub taken_alone : (owner : Owner) (raw : Template) (n : ℕ) (u update : Update) → slice_get raw.updates n ≡ Some u → IsGrownFrom owner raw u update → TakesAway raw.goal n → update.writes ≡ u.writes
taken_alone owner raw n u update at grown takes =
    let none : grown.more ≡ [] = nothing_in grown.more (λ w i. no_more w (grown.among w i)) in
    grown.writes_are ∙ (ap (λ more. u.writes ++ more) none ∙ append-nil u.writes) where
      no_more : (w : Write) → Compensates owner raw w → ⊥
      no_more w compensates =
          let its = compensating owner raw w compensates in
          let only = only_compensated raw.goal raw.updates its.update u n its.only at in
          taken_later raw.goal n takes only.keeps only.first

-- ---- writes of a rule without index aren't indexed

module _ (owner : Owner) (typed : IsTyped owner.spec) where
  abbrev IsPlain : Write → Type 0
  IsPlain write = write.path.indexed ≡ false

  module _ (rule : Rule) (of : IsTypedRule owner.spec.base rule) (single : rule.span ≡ Single) where
    path_plain : (write : Write) (path : Path) → IsTypedPath owner.spec.base rule path → write.path ≡ path → IsPlain write
    path_plain write path its same = ap (λ (p : Path). p.indexed) same ∙ unindexed owner.spec.base rule path single its

    guard_plain : (wanted : Bool) (guard : Guard) → IsIn guard rule.guards → (write : Write) → guard_write owner.spec.base wanted guard ≡ Some write → IsPlain write
    guard_plain wanted guard is_in write e =
        path_plain write guard.path (of_all (IsTypedGuard owner.spec.base rule) rule.guards guard of.guards is_in).path
        (ap (λ (w : Write). w.path) (guard_written owner.spec.base wanted guard write e).is)

    all_true_plain : (guards : List Guard) (writes : List Write) → ((guard : Guard) → IsIn guard guards → IsIn guard rule.guards) → all_true owner.spec.base guards ≡ Some writes → (write : Write) → IsIn write writes → IsPlain write
    all_true_plain guards writes among e write is_in = let g = true_made owner.spec.base guards writes e write is_in in guard_plain true g.0 (among g.0 g.1) write g.2

    target_plain : (pick : Pick) (path : Path) (writes : List Write) → target_of rule.inc ≡ Some path → target_writes owner.spec.base pick path rule.guards ≡ Some writes → (write : Write) → IsIn write writes → IsPlain write
    target_plain pick path writes target e write is_in =
        let by = target_written owner.spec.base pick path rule.guards writes e in
        elim (subst (IsIn write) by.are is_in) as (λ _. IsPlain write) [
          | inl here ↦ path_plain write path (target_typed owner.spec.base rule rule.inc path target of.inc) (ap (λ (w : Write). w.path) (here ∙ (reference_written owner.spec pick path by.write by.made).is))
          | inr later ↦ all_true_plain (others path.field rule.guards) by.later (λ guard i. (in_others path.field rule.guards guard i).among) by.later_are write later
        ]

  rule_typed : (k : ℕ) (rule : Rule) → slice_get owner.spec.rules k ≡ Some rule → IsTypedRule owner.spec.base rule
  rule_typed = of_rule owner.spec typed

  single_of : (known : KnownSets) (v : Var) (rule : Rule) → serves known v rule ≡ true → rule.span ≡ Single
  single_of known v rule serves_it = single_span rule.span (and_parts (is_single rule.span) (starts_at known v rule) serves_it).0

  -- ---- so those of an update that adds aren't, but where it sets a value in the head

  module _ (known : KnownSets) (goal : Goal) (atom : Atom) (u : Update) (write : Write) (is_in : IsIn write u.writes) where
    supply_plain : (measure : Measure) → IsSupplying owner.spec known measure u → IsPlain write
    supply_plain measure y = target_plain y.rule (rule_typed u.rule y.rule y.adding_is.giver.rule_is) (single_of known y.v y.rule y.adding_is.serves_it) _ y.path u.writes y.target_is y.made write is_in

    set_plain : (y : IsSetting owner.spec goal atom u) → IsSetAt y.v y.rel y.path y.rule u → IsPlain write ⊎ (u.place ≡ Head)
    set_plain y (IsSetAt.slot pool inc premise place_is at_is) = inr place_is
    set_plain y (IsSetAt.own inc single place_is at_is) =
        let of = rule_typed u.rule y.rule y.giver.rule_is in
        let same : write ≡ y.write = elim (subst (IsIn write) y.writes_are is_in) as (λ _. write ≡ y.write) [ inl e ↦ e | inr none ↦ absurd none ] in
        inl (path_plain y.rule of single write y.path (target_typed owner.spec.base y.rule y.rule.inc y.path y.target_is of.inc) (ap (λ (w : Write). w.path) (same ∙ value_written owner.spec (pick_of y.bound) y.path y.write y.write_is)))

    adder_plain : IsAdder owner.spec known goal atom u → IsPlain write ⊎ (u.place ≡ Head)
    adder_plain (IsAdder.joins j) = inl (all_true_plain j.rule (rule_typed u.rule j.rule j.adding_is.giver.rule_is) (single_of known j.v j.rule j.adding_is.serves_it) j.rule.guards u.writes (λ guard i. i) j.made write is_in)
    adder_plain (IsAdder.relates r) = inl (target_plain r.rule (rule_typed u.rule r.rule r.adding_is.giver.rule_is) (single_of known r.v r.rule r.adding_is.serves_it) _ r.path u.writes r.target_is r.made write is_in)
    adder_plain (IsAdder.supplies_some measure goal_is atom_is y) = inl (supply_plain measure y)
    adder_plain (IsAdder.supplies_one measure goal_is atom_is y) = inl (supply_plain measure y)
    adder_plain (IsAdder.sets y) = set_plain y y.placed

  compensation_plain : (raw : Template) (write : Write) → Compensates owner raw write → IsPlain write
  compensation_plain raw write compensates =
      let its = compensating owner raw write compensates in
      guard_plain its.by.rule (of_all (IsTypedRule owner.spec.base) owner.spec.rules its.by.rule typed.rules its.by.among) its.by.may.single false its.by.guard its.by.guard_in write its.by.write_is

  -- ---- an indexed write stands alone, or writes the head

  abbrev IsAlone : Update → Write → Type 0
  IsAlone update write = (update.writes ≡ write ∷ []) ⊎ (update.place ≡ Head)

  module _ (its : Literal) (template : Template) (n : ℕ) (update : Update) (t : IsTriedAt owner its template n update) (write : Write) (indexed : write.path.indexed ≡ true) where
    never : {A : Type 0} → IsPlain write → A
    never plain = absurd (false≢true (sym plain ∙ indexed))

    own_alone : IsIn write t.own.writes → IsRawUpdate owner.spec t.known t.raw.goal its.atom its.negated n t.own → IsAlone update write
    own_alone is_in (IsRawUpdate.adds first plain adder) = elim (adder_plain t.known t.raw.goal its.atom t.own write is_in adder) as (λ _. IsAlone update write) [
      | inl scalar ↦ never scalar
      | inr head ↦ inr (t.grown.place_same ∙ head)
    ]
    own_alone is_in (IsRawUpdate.removes r) =
        let same : write ≡ r.write = elim (subst (IsIn write) r.writes_are is_in) as (λ _. write ≡ r.write) [ inl e ↦ e | inr none ↦ absurd none ] in
        inl (taken_alone owner t.raw n t.own update t.own_at t.grown r.takes ∙ (r.writes_are ∙ ap (λ w. w ∷ []) (sym same)))

    pub indexed_alone : IsTypedLiteral owner.spec owner.constraint.quant its → IsIn write update.writes → IsAlone update write
    indexed_alone its_typed is_in = elim (in_either write t.own.writes t.grown.more (subst (IsIn write) t.grown.writes_are is_in)) as (λ _. IsAlone update write) [
      | inl own ↦ own_alone own (raw_updates owner.spec t.known owner.constraint.quant its t.tried its_typed.negated t.are_tried t.raw t.is_tried n t.own t.own_at)
      | inr more ↦ never (compensation_plain t.raw write (t.grown.among write more))
    ]
