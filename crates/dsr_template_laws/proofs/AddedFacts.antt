-- What an update adds is in the model afterwards.
use Rattle.std.proofs.Common.{◌≡◌, ◌<◌, ◌∙◌, ℕ, true, false, not, is_some, List, ◌∷◌, length, Option, None, Some, IfSome, IsSomeAnd, inl, refl, sym, ap, subst, slice_get, arith}
use Rattle.std.specs.Option.{option_and_then, option_map_or}
use Rattle.std.proofs.lemmas.Bool.{and_parts, false≢true}
use Rattle.dsr_repair_theory.specs.Choices.{IsEntryAt, IsPlace}
use Rattle.dsr_effect_laws.proofs.AvoidedSets.{derived_by}
use Rattle.dsr_effect_laws.proofs.ChainChanges.{HasPremise}
use Rattle.dsr_effect_laws.proofs.FactChanges.{not_lost}
use Rattle.dsr_effect_laws.specs.Fitting.{IsFitStep, IsFitWrite}
use Rattle.dsr_effect_laws.specs.Judged.{IsMadeAsJudged}
use Rattle.dsr_repair_laws.proofs.MakingRecords.{place_named, start_record}
use Rattle.dsr_ir.specs.declared.constraints.Atom.TheVariants as atoms
use Rattle.dsr_ir.specs.declared.constraints.Atom.{Atom}
use Rattle.dsr_ir.specs.declared.constraints.Measure.TheVariants.{Whole, Out, Into}
use Rattle.dsr_ir.specs.declared.constraints.Measure.{Measure}
use Rattle.dsr_ir.specs.declared.constraints.Var.TheVariants.{Head, First, Second}
use Rattle.dsr_ir.specs.declared.constraints.Var.{Var}
use Rattle.dsr_ir.specs.declared.declarations.Field.{Field}
use Rattle.dsr_ir.specs.declared.rules.Path.{Path}
use Rattle.dsr_ir.specs.declared.rules.Rule.{Rule}
use Rattle.dsr_ir.specs.declared.tuples.Element.{Element}
use Rattle.dsr_ir.specs.declared.tuples.Fact.TheVariants.{Member, Pair}
use Rattle.dsr_ir.specs.declared.tuples.Fact.{Fact}
use Rattle.dsr_ir.specs.declared.tuples.Target.TheVariants.{Elem}
use Rattle.dsr_ir.specs.declared.updates.Goal.{Goal}
use Rattle.dsr_ir.specs.declared.updates.Pick.TheVariants as picks
use Rattle.dsr_ir.specs.declared.updates.Pick.{Pick}
use Rattle.dsr_ir.specs.declared.updates.Symbol.TheVariants as symbols
use Rattle.dsr_ir.specs.declared.updates.Symbol.{Symbol}
use Rattle.dsr_ir.specs.declared.updates.Update.{Update}
use Rattle.dsr_ir.specs.declared.updates.Write.{Write}
use Rattle.dsr_graph_theory.specs.Owners.{Keeps, KeepsPremise}
use Rattle.dsr_meaning.proofs.Items.{all_of}
use Rattle.dsr_meaning.specs.Counting.{IsIn}
use Rattle.dsr_meaning.specs.Instances.{Gives, IsInstance, index_count, kind_pool, referred_pool}
use Rattle.dsr_meaning.specs.Models.{IsDerived, IsFact}
use Rattle.dsr_meaning.specs.Truth.{AtomHolds, element_of}
use Rattle.dsr_step_laws.proofs.Added.{fresh_member_added, fresh_target_added, member_added, pair_added}
use Rattle.dsr_step_laws.proofs.AllTrue.{target_written}
use Rattle.dsr_step_laws.proofs.ReferenceWrites.{plain_write, reference_written}
use Rattle.dsr_step_laws.specs.Additions.{IsAddition, written_instance}
use Rattle.dsr_step_theory.specs.Steps.{CanWrite, IsSlot}
use Rattle.dsr_update_theory.specs.Changes.{Change}
use Rattle.dsr_update_theory.specs.Givers.{is_single}
use Rattle.dsr_update_theory.specs.Templates.{KnownSets, starts_at, target_writes}
use Rattle.dsr_update_theory.specs.declared.effects.Direction.TheVariants.{Loss}
use Rattle.dsr_repair_laws.proofs.PlainSets.{as_derived, as_fact, given_plain, premise_plain}
use Rattle.dsr_repair_laws.proofs.TriedSteps.{IsTriedStep, own_entry, own_place}
use Rattle.dsr_repair_laws.proofs.TriedTemplates.{single_span}
use Rattle.dsr_repair_laws.proofs.TriedUpdates.{GivesCounted, IsAdding, IsJoining, IsRelating, IsSupplying}
use Rattle.dsr_update_theory.specs.Templates.{counted_symbol}
use Rattle.dsr_template_laws.specs.Judging.{Application, change_in}
use Rattle.dsr_template_laws.specs.Tried.{IsTried}
use Rattle.dsr_template_laws.proofs.FewerActive.{never_lies}
use Rattle.dsr_template_laws.proofs.KnownMembers.{known_holds}
use Rattle.dsr_template_laws.proofs.MadeAsJudged.{fit, made}
use Rattle.dsr_template_laws.proofs.TriedApplications.{literal_there, own_among, tried_step}
use Rattle.dsr_meaning.proofs.Options.{and_some, some_and}

-- of what starts at a variable's record, the premise is known of it
known_start : (known : KnownSets) (v : Var) (rule : Rule) (set : ℕ) → starts_at known v rule ≡ true → rule.premise ≡ Some set → known v set ≡ true
known_start known Head rule set starts is = absurd (false≢true (subst (λ o. not (is_some o) ≡ true) is starts))
known_start known First rule set starts is = subst (λ o. option_map_or (known First) o false ≡ true) is starts
known_start known Second rule set starts is = subst (λ o. option_map_or (known Second) o false ≡ true) is starts

module _ (a : Application) (t : IsTried a) where
  abbrev is_fact : Fact → Type 0
  is_fact = IsFact a.spec a.layout a.new

  abbrev J : Change
  J = change_in a

  abbrev s : IsTriedStep a.spec a.layout a.old a.step a.update
  s = tried_step a t.tried

  abbrev u : Update
  u = t.tried.own

  fits : IsFitStep J a.layout a.step a.old a.new
  fits = fit a t

  as_judged : IsMadeAsJudged J a.layout a.step a.old a.new
  as_judged = made a t

  fresh_slot : IfSome a.step.fresh (IsSlot a.layout)
  fresh_slot = elim a.step.fresh as (λ o. a.step.fresh ≡ o → IfSome o (IsSlot a.layout)) [ None ↦ λ _. tt | Some e ↦ λ is. (fits.fresh e is).1 ] refl

  module _ (symbol : Symbol) (v : Var) (rule : Rule) (start : IsAdding a.spec t.tried.known symbol v rule u) where
    named : element_of a.step.binding v ≡ Some a.step.elem
    named = place_named v a.step.binding a.applied.chosen.stopped a.step.elem (subst (λ p. IsPlace a.step.binding a.applied.chosen.stopped p a.step.elem) start.place_is (own_place a.spec a.layout a.old a.step a.update s))

    serves_both : (is_single rule.span ≡ true) × (starts_at t.tried.known v rule ≡ true)
    serves_both = and_parts (is_single rule.span) (starts_at t.tried.known v rule) start.serves_it

    rule_is : slice_get a.spec.rules a.update.rule ≡ Some rule
    rule_is = ap (slice_get a.spec.rules) t.tried.grown.rule_same ∙ start.giver.rule_is

    instance : IsInstance a.spec a.layout (written_instance a.step) rule
    instance =
        let at = literal_there a in
        let record_is = start_record a.spec a.old a.layout a.applied.image.layout_is.numbers a.applied.image.typed a.applied.violated.constraint.quant at.quant_typed a.step.binding a.applied.violated.is_binding t.tried.known t.tried.tells v rule a.step.elem serves_both.1 named in
        let first : a.step.index ≡ 0 = subst (λ k. IsEntryAt a.step.binding a.applied.chosen.stopped k a.step.index) start.at_is (own_entry a.spec a.layout a.old a.step a.update s) in
        let below : a.step.index < 1 = omega (arith, first) in
        record {
          rule_is = ap (slice_get a.spec.rules) a.applied.chosen.rule ∙ rule_is;
          pool_is = record_is.pool_is;
          slot_below = record_is.slot_below;
          index_below = subst (λ s. a.step.index < index_count a.layout s) (sym (single_span rule.span serves_both.0)) below;
        }

    addition : (adding : Option (List Write)) → adding ≡ Some u.writes → IsAddition a.spec a.layout a.step a.update rule adding (length a.old)
    addition adding adds = record {
      can = record {
        typed = a.applied.image.typed;
        image = a.old;
        layout_is = a.applied.image.layout_is;
        as_long = refl;
        small = a.applied.image.small;
        writes = all_of (CanWrite a.spec a.layout a.step) a.update.writes (λ write is_in. (fits.writes write is_in).can);
        fresh = fresh_slot;
      };
      instance = instance;
      single = single_span rule.span serves_both.0;
      writes = u.writes;
      adds = adds;
      among = own_among a t.tried;
      together = t.may.writes;
    }

    module _ (keeps : KeepsPremise J Loss) where
      premise_after : HasPremise a.spec a.layout a.new rule a.step.elem
      premise_after set is =
          let known = (t.tried.tells v set).0 (known_start t.tried.known v rule set serves_both.1 is) in
          let before : IsFact a.spec a.layout a.old (Member set a.step.elem) = known_holds a.spec a.applied.image.typed a.layout a.old a.applied.violated.constraint.quant a.step.binding a.applied.violated.is_binding known a.step.elem named in
          let stays : Keeps J Loss (symbols.Set set) = subst (λ o. IfSome o (λ s. Keeps J Loss (symbols.Set s))) (ap (option_and_then (λ (r : Rule). r.premise)) rule_is ∙ is) keeps in
          let after = not_lost J a.layout a.step a.old a.new as_judged (Member set a.step.elem) (never_lies J a.step Loss (Member set a.step.elem) stays) before in
          as_derived a.spec a.layout a.new set a.step.elem (premise_plain a.spec a.applied.image.typed a.update.rule rule set rule_is is) after

      derived : (fact : Fact) → Gives a.spec a.layout a.new (written_instance a.step) rule fact → IsDerived a.spec a.layout a.new fact
      derived fact g =
          let by = derived_by a.spec a.layout a.new (written_instance a.step) rule fact g premise_after in
          (written_instance a.step ∷ by.0, by.1)

  -- ---- what is picked for a target

  module _ (pick : Pick) (path : Path) (rule : Rule) (target : target_writes a.spec.base pick path rule.guards ≡ Some u.writes) where
    fit_target : IsFitWrite J a.layout a.step (plain_write pick path)
    fit_target =
        let by = target_written a.spec.base pick path rule.guards u.writes target in
        let of = reference_written a.spec pick path by.write by.made in
        subst (IsFitWrite J a.layout a.step) of.is (fits.writes by.write (own_among a t.tried by.write (subst (IsIn by.write) (sym by.are) (inl refl))))

    refers : referred_pool a.spec path.field ≡ kind_pool fit_target.field.kind
    refers = ap (option_and_then (λ (f : Field). kind_pool f.kind)) fit_target.declared

  -- ---- the facts

  pub joined_holds : (goal : Goal) (atom : Atom) (j : IsJoining a.spec t.tried.known goal atom u) → KeepsPremise J Loss → AtomHolds is_fact a.step.binding (atoms.Member j.v j.set)
  joined_holds goal atom j keeps =
      let g = member_added a.spec a.layout a.step a.update j.rule a.old a.new j.set j.inc_is (addition _ j.v j.rule j.adding_is _ j.made) a.applied.stepped in
      and_some (element_of a.step.binding j.v) (λ x. is_fact (Member j.set x)) a.step.elem (named _ j.v j.rule j.adding_is)
      (as_fact a.spec a.layout a.new j.set a.step.elem (given_plain a.spec a.applied.image.typed j.set u.rule j.rule j.adding_is.giver) (derived _ j.v j.rule j.adding_is keeps (Member j.set a.step.elem) g))

  pub related_holds : (goal : Goal) (atom : Atom) (r : IsRelating a.spec t.tried.known goal atom u) → KeepsPremise J Loss → AtomHolds is_fact a.step.binding (atoms.Pair r.v r.w r.rel)
  related_holds goal atom r keeps =
      let fw = fit_target (picks.CodeOf r.w) r.path r.rule r.made in
      let e = some_and (element_of a.step.binding r.w) (λ e. (kind_pool fw.field.kind ≡ Some e.pool) × IsSlot a.layout e) fw.picks in
      let g = pair_added a.spec a.layout a.step a.update r.rule a.old a.new r.rel r.path r.w e.0 r.inc_is
      (addition _ r.v r.rule r.adding_is _ r.made) e.1.0 (refers (picks.CodeOf r.w) r.path r.rule r.made ∙ e.1.1.0) e.1.1.1 a.applied.stepped in
      and_some (element_of a.step.binding r.v) (λ x. IsSomeAnd (element_of a.step.binding r.w) (λ y. is_fact (Pair r.rel x (Elem y)))) a.step.elem (named _ r.v r.rule r.adding_is)
      (and_some (element_of a.step.binding r.w) (λ y. is_fact (Pair r.rel a.step.elem (Elem y))) e.0 e.1.0 (derived _ r.v r.rule r.adding_is keeps (Pair r.rel a.step.elem (Elem e.0)) g))

  -- the fresh record is what the measure counts
  abbrev pub IsCountedFact : Measure → Element → Type 0
  IsCountedFact (Whole set) e = is_fact (Member set e)
  IsCountedFact (Out v rel) e = (element_of a.step.binding v ≡ Some a.step.elem) × is_fact (Pair rel a.step.elem (Elem e))
  IsCountedFact (Into rel v) e = ⊥

  pub supplied : (measure : Measure) → IsSupplying a.spec t.tried.known measure u → KeepsPremise J Loss → (e : Element) × (a.step.fresh ≡ Some e) × IsCountedFact measure e
  supplied measure y keeps =
      let fw = fit_target picks.Fresh y.path y.rule y.made in
      let e = some_and a.step.fresh (λ e. (kind_pool fw.field.kind ≡ Some e.pool) × IsSlot a.layout e) fw.picks in
      (e.0, e.1.0, counted measure y.counted y.adding_is e.0 e.1.0 (refers picks.Fresh y.path y.rule y.made ∙ e.1.1.0)) where
        counted : (m : Measure) → GivesCounted m y.v y.path y.rule.inc → IsAdding a.spec t.tried.known (counted_symbol m) y.v y.rule u
            → (e : Element) → a.step.fresh ≡ Some e → referred_pool a.spec y.path.field ≡ Some e.pool → IsCountedFact m e
        counted (Whole set) inc_is adding e fresh pool =
            let g = fresh_member_added a.spec a.layout a.step a.update y.rule a.old a.new set y.path e inc_is (addition _ y.v y.rule adding _ y.made) fresh pool a.applied.stepped in
            as_fact a.spec a.layout a.new set e (given_plain a.spec a.applied.image.typed set u.rule y.rule adding.giver) (derived _ y.v y.rule adding keeps (Member set e) g)
        counted (Out w rel) own adding e fresh pool =
            let g = fresh_target_added a.spec a.layout a.step a.update y.rule a.old a.new rel y.path e own.0 (addition _ y.v y.rule adding _ y.made) fresh pool a.applied.stepped in
            (ap (element_of a.step.binding) (sym own.1) ∙ named _ y.v y.rule adding, derived _ y.v y.rule adding keeps (Pair rel a.step.elem (Elem e)) g)
        counted (Into rel w) never adding e fresh pool = never
