-- Each write of an update that is tried and chosen is fit.
use Rattle.std.proofs.Common.{◌≡◌, ◌≢◌, ◌<◌, ◌∙◌, ℕ, zero, suc, Bool, true, false, List, [], ◌∷◌, None, Some, IsSome, IsSomeAnd, inl, inr, refl, sym, ap, subst, slice_get, arith}
use Rattle.std.specs.List.{filter_map}
use Rattle.std.specs.Option.{option_and_then, option_map_or}
use Rattle.std.proofs.lemmas.Bool.{and_parts}
use Rattle.dsr_repair_theory.specs.Choices.{IsFresh, IsFreshFrom}
use Rattle.dsr_effect_laws.specs.Fitting.{IsFitWrite, IsPickFor}
use Rattle.dsr_repair_laws.proofs.Compensating.{compensating}
use Rattle.dsr_repair_laws.proofs.MakingAdditions.{var_bound}
use Rattle.dsr_repair_laws.proofs.MakingCan.{IsMade}
use Rattle.dsr_repair_laws.proofs.MakingRecords.{of_rule, target_read, var_record}
use Rattle.dsr_repair_laws.proofs.TriedSteps.{IsTriedStep, chosen_kind, each_made, own_fresh}
use Rattle.dsr_repair_laws.proofs.TriedTemplates.{single_span}
use Rattle.dsr_repair_laws.proofs.TriedUpdates.{IsAdder, IsJoining, IsRelating, IsSetting, IsSupplying}
use Rattle.dsr_repair_laws.specs.Grown.{Compensates}
use Rattle.dsr_ir.specs.Layouts.{pool_numbers}
use Rattle.dsr_ir.specs.Rules.{target_of}
use Rattle.dsr_ir.specs.declared.constraints.Atom.TheVariants as atoms
use Rattle.dsr_ir.specs.declared.constraints.Bound.{Bound}
use Rattle.dsr_ir.specs.declared.constraints.Bound.TheVariants as bounds
use Rattle.dsr_ir.specs.declared.constraints.Measure.{Measure}
use Rattle.dsr_ir.specs.declared.constraints.Quant.{Quant}
use Rattle.dsr_ir.specs.declared.constraints.Var.{Var}
use Rattle.dsr_ir.specs.declared.declarations.Field.{Field}
use Rattle.dsr_ir.specs.declared.declarations.Rel.{Rel}
use Rattle.dsr_ir.specs.declared.declarations.Structures.{Structures}
use Rattle.dsr_ir.specs.declared.layouts.Layout.{Layout}
use Rattle.dsr_ir.specs.declared.rules.Guard.{Guard}
use Rattle.dsr_ir.specs.declared.rules.Path.{Path}
use Rattle.dsr_ir.specs.declared.rules.Rule.{Rule}
use Rattle.dsr_ir.specs.declared.rules.Span.TheVariants.{Single}
use Rattle.dsr_ir.specs.declared.tuples.Element.{Element}
use Rattle.dsr_ir.specs.declared.tuples.Fact.{Fact}
use Rattle.dsr_ir.specs.declared.updates.Goal.{Goal}
use Rattle.dsr_ir.specs.declared.updates.Pick.{Pick}
use Rattle.dsr_ir.specs.declared.updates.Pick.TheVariants as picks
use Rattle.dsr_ir.specs.declared.updates.Update.{Update}
use Rattle.dsr_ir.specs.declared.updates.Write.{Write}
use Rattle.dsr_layout.proofs.Fitting.{field_found}
use Rattle.dsr_layout.specs.InRange.{IsRecordOf}
use Rattle.dsr_meaning.specs.Counting.{IsIn}
use Rattle.dsr_meaning.specs.Instances.{kind_pool, referred_pool}
use Rattle.dsr_meaning.specs.Models.{IsFact}
use Rattle.dsr_meaning.specs.Typed.{IsPoolNumber, IsTypedAtom, IsTypedPath, IsTypedRule, pool_of_var}
use Rattle.dsr_step_laws.proofs.AllTrue.{in_others, target_written}
use Rattle.dsr_step_laws.proofs.ReferenceWrites.{plain_write, reference_written}
use Rattle.dsr_step_laws.proofs.Together.{target_typed}
use Rattle.dsr_step_theory.specs.Steps.{IsSlot}
use Rattle.dsr_update_theory.specs.Changes.{Change}
use Rattle.dsr_update_theory.specs.Givers.{is_single}
use Rattle.dsr_update_theory.specs.Guards.{guard_write}
use Rattle.dsr_update_theory.specs.Options.{options, reference_write, target_option}
use Rattle.dsr_update_theory.specs.Templates.{all_true, others, pick_of, serves, starts_at, target_writes}
use Rattle.dsr_template_laws.specs.Judging.{Application, change_in, owner_of}
use Rattle.dsr_template_laws.specs.Tried.{IsTriedAt}
use Rattle.dsr_template_laws.proofs.FitWrites.{fit_guard, fit_plain, true_made, unindexed, value_written}
use Rattle.dsr_template_laws.proofs.TriedApplications.{legal, own_among, tried_step}
use Rattle.dsr_meaning.proofs.Items.{in_either, in_filter, of_all}
use Rattle.dsr_meaning.proofs.Options.{chained_from, some_and}
use Rattle.dsr_repair_laws.proofs.MakingEntries.{referred_number}

-- ---- references

-- a record of a declared pool is a slot
slot_of : (layout : Layout) (base : Structures) (pool : ℕ) (e : Element) → IsPoolNumber base pool → IsRecordOf layout pool e → IsSlot layout e
slot_of layout base zero e number of = absurd (let from = number.from in omega (arith, from))
slot_of layout base (suc p) e number of =
    subst (λ q. IsSomeAnd (pool_numbers layout q) (λ n. e.slot < n.count)) (sym of.pool_is)
    (elim (pool_numbers layout (suc p)) as (λ o. e.slot < option_map_or (λ n. n.count) o 0 → IsSomeAnd o (λ n. e.slot < n.count)) [
      | None ↦ λ below. absurd (omega (arith, below))
      | Some n ↦ λ below. below
    ] of.slot_below)

module _ (a : Application) (t : IsTriedAt (owner_of a) a.applied.literal a.template a.step.update a.update) where
  abbrev J : Change
  J = change_in a

  abbrev s : IsTriedStep a.spec a.layout a.old a.step a.update
  s = tried_step a t

  abbrev is_fact : Fact → Type 0
  is_fact = IsFact a.spec a.layout a.old

  abbrev quant : Quant
  quant = s.constraint.quant

  abbrev Fit : Write → Type 0
  Fit write = IsFitWrite J a.layout a.step write

  abbrev CanBeMade : Write → Type 0
  CanBeMade write = IsMade a.spec a.layout a.step write

  -- ---- writes of a rule

  module _ (rule : Rule) (of : IsTypedRule a.spec.base rule) where
    its_target : (path : Path) → target_of rule.inc ≡ Some path → IsTypedPath a.spec.base rule path
    its_target path target = target_typed a.spec.base rule rule.inc path target of.inc

    fits_guard : (wanted : Bool) (guard : Guard) → IsIn guard rule.guards → (write : Write) → guard_write a.spec.base wanted guard ≡ Some write → CanBeMade write → Fit write
    fits_guard = fit_guard J a.layout (legal a) a.step rule of

    fits_plain : (path : Path) (its : IsTypedPath a.spec.base rule path) (pick : Pick) → CanBeMade (plain_write pick path) → IsPickFor a.layout a.step its.field pick → (pick ≡ picks.Fresh → path.indexed ≡ false) → Fit (plain_write pick path)
    fits_plain = fit_plain J a.layout (legal a) a.step rule

    all_true_fit : (guards : List Guard) (writes : List Write) → ((guard : Guard) → IsIn guard guards → IsIn guard rule.guards) → all_true a.spec.base guards ≡ Some writes → (write : Write) → IsIn write writes → CanBeMade write → Fit write
    all_true_fit guards writes among e write is_in made =
        let g = true_made a.spec.base guards writes e write is_in in
        fits_guard true g.0 (among g.0 g.1) write g.2 made

    -- all writes by which the rule's target is written
    target_fit : rule.span ≡ Single → (pick : Pick) (path : Path) (writes : List Write) → (target : target_of rule.inc ≡ Some path) → target_writes a.spec.base pick path rule.guards ≡ Some writes → ((pool : ℕ) → referred_pool a.spec path.field ≡ Some pool → IsPickFor a.layout a.step (its_target path target).field pick) → (write : Write) → IsIn write writes → CanBeMade write → Fit write
    target_fit single pick path writes target e for write is_in made =
        let by = target_written a.spec.base pick path rule.guards writes e in
        let its = its_target path target in
        elim (subst (IsIn write) by.are is_in) as (λ _. Fit write) [
          | inl here ↦
              let ref = reference_written a.spec pick path by.write by.made in
              let same : write ≡ plain_write pick path = here ∙ ref.is in
              subst Fit (sym same) (fits_plain path its pick (subst CanBeMade same made) (for ref.pool ref.refers) (λ _. unindexed a.spec.base rule path single its))
          | inr later ↦ all_true_fit (others path.field rule.guards) by.later (λ guard i. (in_others path.field rule.guards guard i).among) by.later_are write later made
        ]

    -- one option
    option_fit : (write : Write) → IsIn write (options a.spec.base rule) → CanBeMade write → Fit write
    option_fit write is_in made = elim (in_either write (filter_map (guard_write a.spec.base false) rule.guards) (target_option a.spec.base rule) is_in) as (λ _. Fit write) [
      | inl of_guards ↦
          let found = in_filter (guard_write a.spec.base false) rule.guards write of_guards in
          fits_guard false found.from found.among write found.is made
      | inr of_target ↦ elim (option_and_then (reference_write a.spec.base picks.NoneCode) (target_of rule.inc)) as (λ o. option_and_then (reference_write a.spec.base picks.NoneCode) (target_of rule.inc) ≡ o → IsIn write (option_map_or (λ w. w ∷ []) o []) → Fit write) [
        | None ↦ λ _ no. absurd no
        | Some w ↦ λ e found. elim found as (λ _. Fit write) [
          | inr none ↦ absurd none
          | inl here ↦
              let from = chained_from (reference_write a.spec.base picks.NoneCode) (target_of rule.inc) w e in
              let ref = reference_written a.spec picks.NoneCode from.0 w from.1.1 in
              let same : write ≡ plain_write picks.NoneCode from.0 = here ∙ ref.is in
              let its = its_target from.0 from.1.0 in
              let kind : kind_pool its.field.kind ≡ Some ref.pool = sym (ap (option_and_then (λ (f : Field). kind_pool f.kind)) its.is_field.declared) ∙ ref.refers in
              subst Fit (sym same) (fits_plain from.0 its picks.NoneCode (subst CanBeMade same made) (subst IsSome (sym kind) refl) (λ (no : picks.NoneCode ≡ picks.Fresh). absurd cc))
        ]
      ] refl of_target
    ]

  -- ---- updates by what they are for

  abbrev u : Update
  u = t.own

  rule_typed : (k : ℕ) (rule : Rule) → slice_get a.spec.rules k ≡ Some rule → IsTypedRule a.spec.base rule
  rule_typed = of_rule a.spec a.applied.image.typed

  single_of : (v : Var) (rule : Rule) → serves t.known v rule ≡ true → rule.span ≡ Single
  single_of v rule serves_it = single_span rule.span (and_parts (is_single rule.span) (starts_at t.known v rule) serves_it).0

  -- what is read at a typed path of the rule refers to the pool
  kind_of : (rule : Rule) (path : Path) (its : IsTypedPath a.spec.base rule path) (pool : ℕ) → referred_pool a.spec path.field ≡ Some pool → kind_pool its.field.kind ≡ Some pool
  kind_of rule path its pool refers = sym (ap (option_and_then (λ (f : Field). kind_pool f.kind)) its.is_field.declared) ∙ refers

  module _ (made : (write : Write) → IsIn write u.writes → CanBeMade write) (goal : Goal) where
    joining_fit : IsJoining a.spec t.known goal s.literal.atom u → (write : Write) → IsIn write u.writes → Fit write
    joining_fit j write is_in =
        all_true_fit j.rule (rule_typed u.rule j.rule j.adding_is.giver.rule_is) j.rule.guards u.writes (λ guard i. i) j.made write is_in (made write is_in)

    relating_fit : IsRelating a.spec t.known goal s.literal.atom u → (write : Write) → IsIn write u.writes → Fit write
    relating_fit r write is_in =
        let of = rule_typed u.rule r.rule r.adding_is.giver.rule_is in
        let its = its_target r.rule of r.path r.target_is in
        target_fit r.rule of (single_of r.v r.rule r.adding_is.serves_it) (picks.CodeOf r.w) r.path u.writes r.target_is r.made
        (λ pool refers.
        let kind = kind_of r.rule r.path its pool refers in
        let own = field_found a.spec.base r.path.field its.field its.is_field.declared in
        let declared = referred_number a.spec.base its.field its.field.kind pool ((a.applied.image.typed.base.structures r.path.field.structure own.structure own.structure_is).fields r.path.field.field its.field own.field_is).kind kind in
        let pair : IsTypedAtom a.spec quant (atoms.Pair r.v r.w r.rel) = subst (IsTypedAtom a.spec quant) r.atom_is s.there.literal_typed.atom in
        let rel = some_and (slice_get a.spec.base.rels r.rel) (λ (q : Rel). IsSome q.target × (pool_of_var a.spec.base quant r.v ≡ Some q.source) × (pool_of_var a.spec.base quant r.w ≡ q.target)) pair in
        let read = target_read a.spec a.applied.image.typed r.rule r.rel r.rule.inc r.path of.inc r.adding_is.giver.gives r.target_is in
        let target : rel.0.target ≡ Some pool = sym (ap (option_and_then (λ (q : Rel). q.target)) rel.1.0) ∙ (read ∙ refers) in
        let pool_is : pool_of_var a.spec.base quant r.w ≡ Some pool = rel.1.1.2 ∙ target in
        let e = var_bound a.spec is_fact quant a.step.binding s.bound r.w pool pool_is in
        let at = var_record a.spec a.old a.layout a.applied.image.layout_is.numbers a.applied.image.typed quant a.step.binding s.bound r.w pool e.0 pool_is e.1 in
        subst (λ o. IsSomeAnd o (λ (x : Element). (kind_pool its.field.kind ≡ Some x.pool) × IsSlot a.layout x)) (sym e.1)
        (kind ∙ ap Some (sym at.pool_is), slot_of a.layout a.spec.base pool e.0 declared at))
        write is_in (made write is_in)

    supplying_fit : (measure : Measure) → IsSupplying a.spec t.known measure u → (write : Write) → IsIn write u.writes → Fit write
    supplying_fit measure y write is_in =
        let of = rule_typed u.rule y.rule y.adding_is.giver.rule_is in
        let its = its_target y.rule of y.path y.target_is in
        target_fit y.rule of (single_of y.v y.rule y.adding_is.serves_it) picks.Fresh y.path u.writes y.target_is y.made
        (λ pool refers.
        let kind = kind_of y.rule y.path its pool refers in
        let takes : u.fresh ≡ Some pool = y.fresh_is ∙ refers in
        let e = some_and a.step.fresh (IsFreshFrom is_fact a.spec a.layout pool) (subst (λ o. IsFresh is_fact a.spec a.layout o a.step.fresh) takes (own_fresh a.spec a.layout a.old a.step a.update s)) in
        subst (λ o. IsSomeAnd o (λ (x : Element). (kind_pool its.field.kind ≡ Some x.pool) × IsSlot a.layout x)) (sym e.1.0)
        (kind ∙ ap Some (sym e.1.1.supplied.pool_is), e.1.1.supplied.slot))
        write is_in (made write is_in)

    setting_fit : IsSetting a.spec goal s.literal.atom u → (write : Write) → IsIn write u.writes → Fit write
    setting_fit y write is_in =
        let of = rule_typed u.rule y.rule y.giver.rule_is in
        let its = its_target y.rule of y.path y.target_is in
        let value : IsTypedAtom a.spec quant (atoms.Value y.v y.rel y.op y.bound) = subst (IsTypedAtom a.spec quant) y.atom_is s.there.literal_typed.atom in
        let rel = some_and (slice_get a.spec.base.rels y.rel) (λ (q : Rel). (q.target ≡ None) × (pool_of_var a.spec.base quant y.v ≡ Some q.source)) value.0 in
        let read = target_read a.spec a.applied.image.typed y.rule y.rel y.rule.inc y.path of.inc y.giver.gives y.target_is in
        let kind : kind_pool its.field.kind ≡ None = sym (ap (option_and_then (λ (f : Field). kind_pool f.kind)) its.is_field.declared) ∙ (sym read ∙ (ap (option_and_then (λ (q : Rel). q.target)) rel.1.0 ∙ rel.1.1.0)) in
        let same : write ≡ plain_write (pick_of y.bound) y.path = only_one write y.write (subst (IsIn write) y.writes_are is_in) ∙ value_written a.spec (pick_of y.bound) y.path y.write y.write_is in
        subst Fit (sym same) (fits_plain y.rule of y.path its (pick_of y.bound) (subst CanBeMade same (made write is_in)) (number_pick y.bound its.field kind) (λ fresh. absurd (never_fresh y.bound fresh))) where
          only_one : (x w : Write) → IsIn x (w ∷ []) → x ≡ w
          only_one x w (inl e) = e
          only_one x w (inr none) = absurd none

          number_pick : (b : Bound) (f : Field) → kind_pool f.kind ≡ None → IsPickFor a.layout a.step f (pick_of b)
          number_pick (bounds.Num k) f kind = kind
          number_pick (bounds.Size m) f kind = kind

          never_fresh : (b : Bound) → pick_of b ≢ picks.Fresh
          never_fresh (bounds.Num k) e = let q : picks.Num k ≡ picks.Fresh = e in absurd cc
          never_fresh (bounds.Size m) e = let q : picks.SizeOf m ≡ picks.Fresh = e in absurd cc

    adder_fit : IsAdder a.spec t.known goal s.literal.atom u → (write : Write) → IsIn write u.writes → Fit write
    adder_fit (IsAdder.joins j) = joining_fit j
    adder_fit (IsAdder.relates r) = relating_fit r
    adder_fit (IsAdder.supplies_some measure goal_is atom_is y) = supplying_fit measure y
    adder_fit (IsAdder.supplies_one measure goal_is atom_is y) = supplying_fit measure y
    adder_fit (IsAdder.sets y) = setting_fit y

  own_fit : (write : Write) → IsIn write u.writes → Fit write
  own_fit write is_in =
      let made : (w : Write) → IsIn w u.writes → CanBeMade w = λ w i. each_made a.spec a.layout a.old a.step a.update s w (own_among a t w i) in
      elim (chosen_kind a.spec a.layout a.old a.step a.update s) as (λ _. Fit write) [
        | inl first ↦ adder_fit made a.template.goal first.adder write is_in
        | inr stop ↦ elim (subst (IsIn write) stop.removing.writes_are is_in) as (λ _. Fit write) [
          | inl same ↦
              option_fit stop.removing.rule (rule_typed u.rule stop.removing.rule stop.removing.giver.rule_is) write
              (subst (λ w. IsIn w (options a.spec.base stop.removing.rule)) (sym same) stop.removing.option) (made write is_in)
          | inr none ↦ absurd none
        ]
      ]

  compensation_fit : (write : Write) → Compensates (owner_of a) t.raw write → CanBeMade write → Fit write
  compensation_fit write compensates made =
      let its = compensating (owner_of a) t.raw write compensates in
      fits_guard its.by.rule (of_all (IsTypedRule a.spec.base) a.spec.rules its.by.rule a.applied.image.typed.rules its.by.among) false its.by.guard its.by.guard_in write its.by.write_is made

  pub each_fit : (write : Write) → IsIn write a.update.writes → Fit write
  each_fit write is_in = elim (in_either write u.writes t.grown.more (subst (IsIn write) t.grown.writes_are is_in)) as (λ _. Fit write) [
    | inl own ↦ own_fit write own
    | inr more ↦ compensation_fit write (t.grown.among write more) (each_made a.spec a.layout a.old a.step a.update s write is_in)
  ]
