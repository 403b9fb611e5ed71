-- A template that breaks a constraint for no reason makes no binding of it violated.
use Rattle.std.proofs.Common.{◌≡◌, ◌∙◌, ℕ, true, false, List, [], ◌∷◌, All, None, Some, inl, inr, refl, sym, ap, subst, slice_get}
use Rattle.std.specs.Prelude.{◌&&◌, if◌then◌else◌, nat_eq}
use Rattle.std.specs.List.{flat_map}
use Rattle.std.specs.Option.{option_and_then}
use Rattle.std.proofs.lemmas.Bool.{and_parts, eqb-true, false≢true}
use Rattle.std.proofs.lemmas.Option.{same_Some}
use Rattle.dsr_graph_theory.specs.Breaks.{Breaks, MayBreakBy, SomeUpdate}
use Rattle.dsr_graph_theory.specs.Causes.{constraint_causes, direction_of, gain, is_once, literal_causes, literals_of, quantifier_causes, symbol_of}
use Rattle.dsr_graph_theory.specs.Excuses.{IsExcused}
use Rattle.dsr_graph_theory.specs.declared.causes.Cause.{Cause}
use Rattle.dsr_graph_theory.specs.declared.causes.Reason.TheVariants.{Gain, Loss}
use Rattle.dsr_model_laws.proofs.Models.{facts_listed}
use Rattle.dsr_model_laws.proofs.Truths.{fact_decided}
use Rattle.dsr_ir.specs.declared.constraints.Conj.{Conj}
use Rattle.dsr_ir.specs.declared.constraints.Constraint.{Constraint}
use Rattle.dsr_ir.specs.declared.constraints.Literal.{Literal}
use Rattle.dsr_ir.specs.declared.constraints.Quant.{Quant}
use Rattle.dsr_ir.specs.declared.constraints.Quant.TheVariants as quants
use Rattle.dsr_ir.specs.declared.tuples.Binding.{Binding}
use Rattle.dsr_ir.specs.declared.tuples.Binding.TheVariants as bindings
use Rattle.dsr_ir.specs.declared.tuples.Fact.{Fact}
use Rattle.dsr_ir.specs.declared.tuples.Fact.TheVariants.{Member, Pair}
use Rattle.dsr_ir.specs.declared.tuples.Target.TheVariants.{Elem}
use Rattle.dsr_ir.specs.declared.updates.Symbol.{Symbol}
use Rattle.dsr_ir.specs.declared.updates.Symbol.TheVariants.{Set, Rel}
use Rattle.dsr_repair_laws.proofs.TypedLiterals.{typed_in}
use Rattle.dsr_plan_theory.specs.Plans.{owner_at}
use Rattle.dsr_template_laws.proofs.MadeAsJudged.{made}
use Rattle.dsr_template_laws.proofs.TriedApplications.{update_there}
use Rattle.dsr_template_laws.specs.Judging.{Application, change_in, owner_of}
use Rattle.dsr_template_laws.specs.Tried.{IsTried}
use Rattle.dsr_graph_theory.specs.Owners.{Owner}
use Rattle.dsr_meaning.specs.Consistency.{ConjHolds, IsBinding, IsViolated}
use Rattle.dsr_meaning.specs.Counting.{IsIn}
use Rattle.dsr_meaning.specs.Looking
use Rattle.dsr_meaning.specs.Models.{IsFact}
use Rattle.dsr_meaning.specs.Truth.{LiteralHolds}
use Rattle.dsr_effect_laws.proofs.FactChanges.{lost_facts_lie, new_facts_lie}
use Rattle.dsr_effect_laws.specs.Allowed.{Allows, subject_of}
use Rattle.dsr_effect_laws.specs.Judged.{IsMadeAsJudged}
use Rattle.dsr_graph_laws.proofs.Excusing.{excused_elsewhere, once_only}
use Rattle.dsr_graph_laws.proofs.Firsts.{none_such}
use Rattle.dsr_graph_laws.proofs.Literals.{literal_stays}
use Rattle.dsr_graph_laws.proofs.Sizes.{IsReadAt}
use Rattle.dsr_update_theory.specs.Changes.{Change}
use Rattle.dsr_update_theory.specs.Effects.{InTable}
use Rattle.dsr_update_theory.specs.Templates.{literal_at}
use Rattle.dsr_update_theory.specs.declared.effects.Tag.{Tag}
use Rattle.dsr_meaning.proofs.Items.{all_of, in_left, in_right, of_all, place_of}

in_flat_map : {A B : Type 0} (f : A → List B) (xs : List A) (x : A) (y : B) → IsIn x xs → IsIn y (f x) → IsIn y (flat_map f xs)
in_flat_map f [] x y i j = absurd i
in_flat_map f (z ∷ xs) x y (inl e) j = in_left y (f z) (flat_map f xs) (subst (λ a. IsIn y (f a)) e j)
in_flat_map f (z ∷ xs) x y (inr i) j = in_right y (f z) (flat_map f xs) (in_flat_map f xs x y i j)

once_is : (quant : Quant) → is_once quant ≡ true → quant ≡ quants.Once
once_is quants.Once e = refl
once_is (quants.Each set) e = absurd (false≢true e)
once_is (quants.Pairs rel) e = absurd (false≢true e)

module _ (a : Application) (t : IsTried a) (number : ℕ) (b : Binding)
    (violated : IsViolated (IsFact a.spec a.layout a.new) a.spec (record { constraint = number; binding = b }))
    (breaks : Breaks (owner_of a) (owner_at a.spec number violated.constraint) a.template None) where
  abbrev F : Fact → Type 0
  F = IsFact a.spec a.layout a.old

  abbrev G : Fact → Type 0
  G = IsFact a.spec a.layout a.new

  abbrev owner : Owner
  owner = owner_of a

  abbrev c : Constraint
  c = violated.constraint

  abbrev other : Owner
  other = owner_at a.spec number c

  abbrev change : Change
  change = change_in a

  its : IsMadeAsJudged change a.layout a.step a.old a.new
  its = made a t

  abbrev Happens : Cause → Type 0
  Happens cause = MayBreakBy owner other cause change

  -- no cause of the constraint happens, unless it is excused
  none_happens : (cause : Cause) → IsIn cause (constraint_causes (nat_eq a.step.constraint number) c) → Happens cause → ⊥
  none_happens cause i happens =
      none_such (λ x. SomeUpdate owner a.template (MayBreakBy owner other x)) (constraint_causes (nat_eq a.step.constraint number) c) breaks cause i
      (a.step.update, change, record { update = a.update; update_is = update_there a; change_is = refl }, happens)

  abbrev IsElsewhere : Cause → Fact → Type 0
  IsElsewhere cause fact = (tag : Tag) → InTable change (direction_of cause.reason) (symbol_of cause.reason) tag → Allows a.step tag (subject_of fact) → IsExcused owner other change cause → ⊥

  not_new : (cause : Cause) (fact : Fact) → (Happens cause → ⊥) → cause.reason ≡ Gain (Looking.symbol_of fact) → IsElsewhere cause fact → G fact → F fact
  not_new cause fact never reason elsewhere there = elim (fact_decided F (facts_listed a.spec a.layout a.old) fact) as (λ _. F fact) [
    | inl was ↦ was
    | inr was_not ↦
        let l = new_facts_lie change a.layout a.step a.old a.new its fact there was_not in
        let listed : InTable change (direction_of cause.reason) (symbol_of cause.reason) l.tag = subst (λ r. InTable change (direction_of r) (symbol_of r) l.tag) (sym reason) l.listed in
        absurd (never (record { happens = (l.tag, listed); not_excused = elsewhere l.tag listed l.allowed }))
  ]

  still_there : (cause : Cause) (fact : Fact) → (Happens cause → ⊥) → cause.reason ≡ Loss (Looking.symbol_of fact) → IsElsewhere cause fact → F fact → G fact
  still_there cause fact never reason elsewhere there = elim (fact_decided G (facts_listed a.spec a.layout a.new) fact) as (λ _. G fact) [
    | inl is ↦ is
    | inr is_not ↦
        let l = lost_facts_lie change a.layout a.step a.old a.new its fact there is_not in
        let listed : InTable change (direction_of cause.reason) (symbol_of cause.reason) l.tag = subst (λ r. InTable change (direction_of r) (symbol_of r) l.tag) (sym reason) l.listed in
        absurd (never (record { happens = (l.tag, listed); not_excused = elsewhere l.tag listed l.allowed }))
  ]

  -- ---- the binding

  not_bound : (symbol : Symbol) (fact : Fact) → Looking.symbol_of fact ≡ symbol → IsIn (gain symbol None) (quantifier_causes c.quant) → G fact → F fact
  not_bound symbol fact is i there =
      not_new (gain symbol None) fact (none_happens (gain symbol None) (in_left (gain symbol None) (quantifier_causes c.quant) _ i)) (ap Gain (sym is)) (λ tag listed allowed excused. excused) there

  bound_by : (quant : Quant) → c.quant ≡ quant → (x : Binding) → IsBinding G quant x → IsBinding F quant x
  bound_by quants.Once q bindings.Once p = p
  bound_by quants.Once q (bindings.Each e) p = p
  bound_by quants.Once q (bindings.Pair e f) p = p
  bound_by (quants.Each set) q bindings.Once p = p
  bound_by (quants.Each set) q (bindings.Each e) p = not_bound (Set set) (Member set e) refl (subst (λ z. IsIn (gain (Set set) None) (quantifier_causes z)) (sym q) (inl refl)) p
  bound_by (quants.Each set) q (bindings.Pair e f) p = p
  bound_by (quants.Pairs rel) q bindings.Once p = p
  bound_by (quants.Pairs rel) q (bindings.Each e) p = p
  bound_by (quants.Pairs rel) q (bindings.Pair e f) p = not_bound (Rel rel) (Pair rel e (Elem f)) refl (subst (λ z. IsIn (gain (Rel rel) None) (quantifier_causes z)) (sym q) (inl refl)) p

  bound : IsBinding F c.quant b
  bound = bound_by c.quant refl b violated.is_binding

  -- ---- the conjunctions

  module _ (conj : Conj) (among : IsIn conj c.conjs) (holds : ConjHolds F b conj) where
    same_constraint : a.step.constraint ≡ number → a.applied.violated.constraint ≡ c
    same_constraint same = same_Some a.applied.violated.constraint c (sym a.applied.violated.declared ∙ (ap (slice_get a.spec.constraints) same ∙ violated.declared))

    -- it is not the binding for which the update is made, which was violated
    differ : a.step.constraint ≡ number → a.step.binding ≡ b → ⊥
    differ same same_binding =
        of_all (λ x. ConjHolds F b x → ⊥) c.conjs conj
        (subst (λ z. All (λ x. ConjHolds F z x → ⊥) c.conjs) same_binding (subst (λ z. All (λ x. ConjHolds F a.step.binding x → ⊥) z.conjs) (same_constraint same) a.applied.violated.no_conjunction))
        among holds

    elsewhere : (cause : Cause) (fact : Fact) → IsReadAt b cause.at fact → IsElsewhere cause fact
    elsewhere cause fact read tag listed allowed excused =
        excused_elsewhere owner other a.applied.image.typed a.layout a.old a.applied.image.layout_is.numbers its.legal a.applied.facts_hold a.applied.violated.declared violated.declared a.step.binding b a.applied.violated.is_binding bound differ
        change a.step a.applied.chosen.stopped a.applied.chosen.place a.applied.chosen.entry cause (subject_of fact) read tag listed allowed excused

    -- where there is a quantifier, or the constraint isn't the update's own, the literals' causes count
    counts : (nat_eq a.step.constraint number && is_once c.quant) ≡ false → (literal : Literal) → IsIn literal conj.literals → (cause : Cause) → IsIn cause (literal_causes literal) → Happens cause → ⊥
    counts counted literal i cause j =
        let inside : IsIn cause (flat_map literal_causes (literals_of c)) = in_flat_map literal_causes (literals_of c) literal cause (in_flat_map (λ (x : Conj). x.literals) c.conjs conj literal among i) j in
        none_happens cause (in_right cause (quantifier_causes c.quant) _ (subst (λ t. IsIn cause (if t then [] else flat_map literal_causes (literals_of c))) (sym counted) inside))

    stays : (nat_eq a.step.constraint number && is_once c.quant) ≡ false → (literal : Literal) → IsIn literal conj.literals → LiteralHolds F b literal → LiteralHolds G b literal
    stays counted literal i h =
        let at = place_of c.conjs conj among in
        let which = place_of conj.literals literal i in
        let there : literal_at c at.0 which.0 ≡ Some literal = ap (option_and_then (λ (x : Conj). slice_get x.literals which.0)) at.1 ∙ which.1 in
        literal_stays a.spec a.layout a.old a.new b Happens
        (λ cause fact never is read. not_new cause fact never is (elsewhere cause fact read))
        (λ cause fact never is read. still_there cause fact never is (elsewhere cause fact read))
        literal (typed_in a.spec a.applied.image.typed number c at.0 which.0 literal violated.declared there).literal_typed.negated (counts counted literal i) h

    fails : ⊥
    fails = elim (nat_eq a.step.constraint number && is_once c.quant) as (λ t. (nat_eq a.step.constraint number && is_once c.quant) ≡ t → ⊥) [
      | true ↦ λ e.
          let both = and_parts (nat_eq a.step.constraint number) (is_once c.quant) e in
          let same = eqb-true a.step.constraint number both.0 in
          let once = once_is c.quant both.1 in
          let own = once_only F a.step.binding (subst (λ q. IsBinding F q a.step.binding) (ap (λ (x : Constraint). x.quant) (same_constraint same) ∙ once) a.applied.violated.is_binding) in
          differ same (own ∙ sym (once_only F b (subst (λ q. IsBinding F q b) once bound)))
      | false ↦ λ e. of_all (λ x. ConjHolds G b x → ⊥) c.conjs conj violated.no_conjunction among
          (all_of (LiteralHolds G b) conj.literals (λ literal i. stays e literal i (of_all (LiteralHolds F b) conj.literals literal holds i)))
    ] refl

  pub was_violated : IsViolated F a.spec (record { constraint = number; binding = b })
  was_violated = record {
    constraint = c;
    declared = violated.declared;
    is_binding = bound;
    no_conjunction = all_of (λ conj. ConjHolds F b conj → ⊥) c.conjs fails;
  }
