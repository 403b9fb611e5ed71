-- On an image there are no more active instances, and no more bindings of a constraint, than the number that bounds them.
use Rattle.std.proofs.Common.{◌≡◌, ◌≤◌, ◌<◌, ◌+◌, ◌*◌, ℕ, zero, suc, Bool, true, nat_eq, List, [], ◌∷◌, map, length, Option, None, Some, slice_get, if◌then◌else◌, is_some, inl, inr, refl, sym, ap, subst, ◌∙◌, arith}
use Rattle.std.specs.Option.{option_and_then, option_map_or}
use Rattle.std.proofs.Math.Nat.{mul-le-mul_right, add-mul}
use Rattle.std.proofs.lemmas.Bool.Decides.{nat_tests}
use Rattle.std.proofs.lemmas.List.{length-map}
use Rattle.dsr_model_laws.proofs.Instances.{included}
use Rattle.dsr_ir.specs.declared.constraints.Quant.{Quant}
use Rattle.dsr_ir.specs.declared.constraints.Quant.TheVariants as quants
use Rattle.dsr_ir.specs.declared.declarations.SetDecl.{SetDecl}
use Rattle.dsr_ir.specs.declared.declarations.Spec.{Spec}
use Rattle.dsr_ir.specs.declared.layouts.Layout.{Layout}
use Rattle.dsr_ir.specs.declared.rules.Rule.{Rule}
use Rattle.dsr_ir.specs.declared.tuples.Binding.{Binding}
use Rattle.dsr_ir.specs.declared.tuples.Binding.TheVariants.{Once, Each, Pair}
use Rattle.dsr_ir.specs.declared.tuples.Element.{Element}
use Rattle.dsr_ir.specs.declared.tuples.Fact.{Fact}
use Rattle.dsr_ir.specs.declared.tuples.Fact.TheVariants as facts
use Rattle.dsr_ir.specs.declared.tuples.Instance.{Instance}
use Rattle.dsr_ir.specs.declared.tuples.Target.TheVariants.{Elem, Num}
use Rattle.dsr_ir.specs.declared.updates.Goal.TheVariants as goals
use Rattle.dsr_ir.specs.declared.updates.Symbol.{Symbol}
use Rattle.dsr_layout.proofs.LegalLayout.{built}
use Rattle.dsr_layout.proofs.Meanings.{found_holds}
use Rattle.dsr_meaning.proofs.Firing.{given_once}
use Rattle.dsr_meaning.specs.Consistency.{IsBinding}
use Rattle.dsr_meaning.specs.Counting.{AreMany, IsIn}
use Rattle.dsr_meaning.specs.FixedFields.{fixed_value}
use Rattle.dsr_meaning.specs.Instances.{Gives, Includes, IsInstance, record_count, set_pool}
use Rattle.dsr_meaning.specs.Models.{Chain, IsActive, IsDerived, IsFact, IsInComplement, IsMemberBy, base_of}
use Rattle.dsr_meaning.specs.Models.Chain.{begin, follow}
use Rattle.dsr_meaning.specs.Typed.{IsTypedRule, IsTypedSet}
use Rattle.dsr_meaning.specs.Legal.{IsLegalLayout}
use Rattle.dsr_step_theory.specs.Images.{IsImageOf}
use Rattle.dsr_resolve.proofs.AcceptedLayouts.{legal_of}
use Rattle.dsr_bound_laws.specs.Bounds.{complements, instances_and_one}
use Rattle.dsr_template_laws.specs.Helping.{IsActiveFor}
use Rattle.dsr_bound_laws.proofs.Instances.{AllInstances, all_from}
use Rattle.dsr_bound_laws.proofs.Left.{FewAll, FewStops}
use Rattle.dsr_bound_laws.proofs.Levels.{FewBindings}
use Rattle.dsr_bound_laws.proofs.RuleSizes.{few_of_rule, few_records}
use Rattle.dsr_meaning.proofs.Counts.{no_more}
use Rattle.dsr_bound_laws.proofs.Sublists.{numbers_below}
use Rattle.dsr_plan_theory.specs.declared.choices.Choice.{Choice}
use Rattle.dsr_meaning.proofs.Items.{map_in}

-- the first of a list
first_item : {A : Type 0} → List A → Option A
first_item [] = None
first_item (x ∷ xs) = Some x

-- what a function has for the items of a list
with_rest : {B : Type 0} → Option B → List B → List B
with_rest None rest = rest
with_rest (Some y) rest = y ∷ rest

picked : {A B : Type 0} → (A → Option B) → List A → List B
picked f [] = []
picked f (x ∷ xs) = with_rest (f x) (picked f xs)

module _ {A B : Type 0} (f : A → Option B) where
  rest_few : (o : Option B) (ys : List B) → length (with_rest o ys) ≤ suc (length ys)
  unfolding with_rest
  rest_few None ys = omega arith
  rest_few (Some y) ys = omega arith

  picked_few : (xs : List A) → length (picked f xs) ≤ length xs
  unfolding picked
  picked_few [] = omega arith
  picked_few (x ∷ xs) =
      let rest = picked_few xs in
      let here = rest_few (f x) (picked f xs) in
      omega (arith, rest, here)

  in_rest : (y : B) (o : Option B) (ys : List B) → IsIn y ys → IsIn y (with_rest o ys)
  unfolding with_rest
  in_rest y None ys i = i
  in_rest y (Some z) ys i = inr i

  is_rest : (y : B) (o : Option B) (ys : List B) → o ≡ Some y → IsIn y (with_rest o ys)
  unfolding with_rest
  is_rest y None ys is = absurd cc
  is_rest y (Some z) ys is = inl (let same : z ≡ y = cc in sym same)

  in_picked : (x : A) (y : B) (xs : List A) → IsIn x xs → f x ≡ Some y → IsIn y (picked f xs)
  unfolding picked
  in_picked x y [] i is = absurd i
  in_picked x y (z ∷ xs) (inl e) is = is_rest y (f z) (picked f xs) (ap f (sym e) ∙ is)
  in_picked x y (z ∷ xs) (inr i) is = in_rest y (f z) (picked f xs) (in_picked x y xs i is)

first_of_all : {A : Type 0} (P : A → Type 0) (xs : List A) (x : A) → IsIn x xs → ((y : A) → IsIn y xs → P y) → ((y : A) → P y → y ≡ x) → first_item xs ≡ Some x
unfolding first_item
first_of_all P [] x i only once = absurd i
first_of_all P (y ∷ xs) x i only once = ap Some (once y (only y (inl refl)))

-- what an active instance is
record LastGives (spec : Spec) (layout : Layout) (bytes : List ℕ) (i : Instance) (fact : Fact) : Type 0 where
  pub rule : Rule
  pub gives : Gives spec layout bytes i rule fact

abbrev LastOf : Spec → Layout → List ℕ → List Instance → Fact → Type 0
LastOf spec layout bytes [] fact = ⊥
LastOf spec layout bytes (i ∷ is) fact = LastGives spec layout bytes i fact

last_of : (spec : Spec) (layout : Layout) (bytes : List ℕ) (is : List Instance) (fact : Fact) → Chain spec layout bytes is fact → LastOf spec layout bytes is fact
last_of spec layout bytes _ fact (begin i rule none gives) = record { rule = rule; gives = gives }
last_of spec layout bytes _ fact (follow i rule set chain some gives) = record { rule = rule; gives = gives }

abbrev counted_if : ℕ → Bool → ℕ
counted_if rest b = (if b then 1 else 0) + rest

-- of a complement there is one at least
complements_some : (sets : List SetDecl) (k : ℕ) (set : SetDecl) (base : ℕ) → slice_get sets k ≡ Some set → set.except ≡ Some base → 1 ≤ complements sets
complements_some [] k set base is except = absurd cc
complements_some (s ∷ sets) zero set base is except =
    let same : s ≡ set = cc in
    let some : is_some s.except ≡ true = ap is_some (ap (λ (x : SetDecl). x.except) same ∙ except) in
    let one = ap (counted_if (complements sets)) some in
    omega (arith, one)
complements_some (s ∷ sets) (suc k) set base is except = let rest = complements_some sets k set base is except in omega (arith, rest)

module _ (spec : Spec) (layout : Layout) (bytes : List ℕ) (image : IsImageOf spec layout bytes) where
  legal : IsLegalLayout layout
  legal = legal_of spec bytes layout image.layout_is image.typed image.small

  pub all : AllInstances spec layout 0 (8 * length bytes) spec.rules
  all = all_from spec layout 0 (8 * length bytes) spec.rules
      (λ k rule is. few_of_rule spec bytes layout image.layout_is image.typed legal k rule is (found_holds (IsTypedRule spec.base) spec.rules k rule image.typed.rules is))

  few_instances : length all.instances + 1 ≤ instances_and_one spec (length bytes)
  few_instances =
      let bounded = all.bounded in
      let sum = add-mul (length spec.rules) (complements spec.base.sets) (8 * length bytes) in
      omega (arith, bounded, sum)

  there : (i : Instance) (rule : Rule) → IsInstance spec layout i rule → IsIn i all.instances
  there i rule instance = all.all i.rule rule i instance.rule_is (omega arith) instance

  pub active_there : (i : Instance) → IsActive spec layout bytes i → IsIn i all.instances
  active_there i active = let last = last_of spec layout bytes (i ∷ active.1.0) active.0 active.1.1 in there i last.rule last.gives.is_instance

  many_few : (symbol : Symbol) (n : ℕ) → AreMany (IsActiveFor spec layout bytes symbol) n → n + 1 ≤ instances_and_one spec (length bytes)
  many_few symbol n are =
      let less = no_more are.things all.instances are.enumerated.distinct (λ i among. active_there i (are.enumerated.only i among).active) in
      let few = few_instances in
      let n_is = are.counted in
      omega (arith, less, few, n_is)

  none_few : (n : ℕ) → n ≡ 0 → n + 1 ≤ instances_and_one spec (length bytes)
  none_few n none = omega (arith, none)

  pub few_stops : (choice : Choice) → FewStops spec choice layout bytes (instances_and_one spec (length bytes))
  few_stops choice symbol goals.RemoveSet n are = many_few symbol n are
  few_stops choice symbol goals.RemoveTuple n are = many_few symbol n are
  few_stops choice symbol goals.Trim n are = many_few symbol n are
  few_stops choice symbol goals.ExactlyOne n are = many_few symbol n are
  few_stops choice symbol goals.AddSet n are = none_few n are
  few_stops choice symbol goals.AddTuple n are = none_few n are
  few_stops choice symbol goals.SetValue n are = none_few n are
  few_stops choice symbol goals.Supply n are = none_few n are

  -- ---- facts

  -- the fact that an instance of a rule gives, if any
  abbrev fact_by : Instance → Option Fact
  fact_by i = option_and_then (λ (rule : Rule). first_item (included spec layout bytes i rule.inc).things) (slice_get spec.rules i.rule)

  fact_by_is : (i : Instance) (fact : Fact) → LastGives spec layout bytes i fact → fact_by i ≡ Some fact
  fact_by_is i fact last =
      let its = included spec layout bytes i last.rule.inc in
      ap (option_and_then (λ (rule : Rule). first_item (included spec layout bytes i rule.inc).things)) last.gives.is_instance.rule_is
      ∙ first_of_all (Includes spec layout bytes i last.rule.inc) its.things fact (its.all fact last.gives.included) its.only
      (λ other includes. given_once spec layout bytes legal.pools i last.rule last.rule other fact
      (record { is_instance = last.gives.is_instance; guards = last.gives.guards; included = includes }) last.gives)

  abbrev given_facts : List Fact
  given_facts = picked fact_by all.instances

  few_facts : length given_facts + 1 ≤ instances_and_one spec (length bytes)
  few_facts =
      let less = picked_few fact_by all.instances in
      let few = few_instances in
      omega (arith, less, few)

  derived_there : (fact : Fact) → IsDerived spec layout bytes fact → IsIn fact given_facts
  derived_there fact (is, chain) = by_last is (last_of spec layout bytes is fact chain) where
    by_last : (is : List Instance) → LastOf spec layout bytes is fact → IsIn fact (picked fact_by all.instances)
    by_last [] last = absurd last
    by_last (i ∷ is) last = in_picked fact_by i fact all.instances (there i last.rule last.gives.is_instance) (fact_by_is i fact last)

  -- ---- bindings

  -- the member of the set, bound
  abbrev each_of : ℕ → Fact → Option Binding
  each_of set (facts.Member s e) = if nat_eq s set then Some (Each e) else None
  each_of set (facts.Pair r e t) = None

  abbrev pair_of : ℕ → Fact → Option Binding
  pair_of rel (facts.Member s e) = None
  pair_of rel (facts.Pair r e (Elem f)) = if nat_eq r rel then Some (Pair e f) else None
  pair_of rel (facts.Pair r e (Num n)) = None

  few_picked : (f : Fact → Option Binding) → length (picked f given_facts) ≤ instances_and_one spec (length bytes)
  few_picked f =
      let less = picked_few f given_facts in
      let few = few_facts in
      omega (arith, less, few)

  once : FewBindings (IsFact spec layout bytes) (instances_and_one spec (length bytes)) quants.Once
  once = record { bindings = Once ∷ []; few = omega arith; all = only } where
    only : (b : Binding) → IsBinding (IsFact spec layout bytes) quants.Once b → IsIn b (Once ∷ [])
    only Once is = inl refl
    only (Each e) is = absurd is
    only (Pair e f) is = absurd is

  pairs : (rel : ℕ) → FewBindings (IsFact spec layout bytes) (instances_and_one spec (length bytes)) (quants.Pairs rel)
  pairs rel = record { bindings = picked (pair_of rel) given_facts; few = few_picked (pair_of rel); all = only } where
    only : (b : Binding) → IsBinding (IsFact spec layout bytes) (quants.Pairs rel) b → IsIn b (picked (pair_of rel) given_facts)
    only Once is = absurd is
    only (Each e) is = absurd is
    only (Pair e f) is =
        let same : nat_eq rel rel ≡ true = grind (arith, nat_tests) in
        in_picked (pair_of rel) (facts.Pair rel e (Elem f)) (Pair e f) given_facts (derived_there (facts.Pair rel e (Elem f)) is)
        (ap (λ b. if b then Some (Pair e f) else None) same)

  members : (set : ℕ) → ((e : Element) → IsFact spec layout bytes (facts.Member set e) → IsDerived spec layout bytes (facts.Member set e))
      → FewBindings (IsFact spec layout bytes) (instances_and_one spec (length bytes)) (quants.Each set)
  members set plain = record { bindings = picked (each_of set) given_facts; few = few_picked (each_of set); all = only } where
    only : (b : Binding) → IsBinding (IsFact spec layout bytes) (quants.Each set) b → IsIn b (picked (each_of set) given_facts)
    only Once is = absurd is
    only (Pair e f) is = absurd is
    only (Each e) is =
        let same : nat_eq set set ≡ true = grind (arith, nat_tests) in
        in_picked (each_of set) (facts.Member set e) (Each e) given_facts (derived_there (facts.Member set e) (plain e is))
        (ap (λ b. if b then Some (Each e) else None) same)

  complement : (set base : ℕ) → base_of spec set ≡ Some base → FewBindings (IsFact spec layout bytes) (instances_and_one spec (length bytes)) (quants.Each set)
  complement set base base_is =
      let d = except_of (slice_get spec.base.sets set) base_is in
      let pool = (found_holds (IsTypedSet spec.base) spec.base.sets set d.0 image.typed.base.sets d.1.0).pool.from in
      let pool_is : set_pool spec set ≡ d.0.pool = ap (λ o. option_map_or (λ (x : SetDecl). x.pool) o 0) d.1.0 in
      let records = few_records layout legal (set_pool spec set) (omega (arith, pool, pool_is)) in
      let long = (built (fixed_value spec.base bytes) spec.base (length bytes) layout image.layout_is.numbers).bytes_are in
      let some = complements_some spec.base.sets set d.0 base d.1.0 d.1.1 in
      let times = mul-le-mul_right (8 * length bytes) some in
      let sum = add-mul (length spec.rules) (complements spec.base.sets) (8 * length bytes) in
      let slots = numbers_below (record_count layout (set_pool spec set)) in
      let mapped = length-map slots.0 (λ s. Each (record { pool = set_pool spec set; slot = s })) in
      let counted = slots.1.0 in
      record {
        bindings = map (λ s. Each (record { pool = set_pool spec set; slot = s })) slots.0;
        few = omega (arith, records, long, times, sum, mapped, counted);
        all = only slots.0 slots.1.1;
      } where
        except_of : (o : Option SetDecl) → option_and_then (λ (x : SetDecl). x.except) o ≡ Some base → (d : SetDecl) × ((o ≡ Some d) × (d.except ≡ Some base))
        except_of None e = absurd cc
        except_of (Some d) e = (d, (refl, e))

        only : (ns : List ℕ) → ((k : ℕ) → k < record_count layout (set_pool spec set) → IsIn k ns) → (b : Binding) → IsBinding (IsFact spec layout bytes) (quants.Each set) b
            → IsIn b (map (λ s. Each (record { pool = set_pool spec set; slot = s })) ns)
        only ns every Once is = absurd is
        only ns every (Pair e f) is = absurd is
        only ns every (Each e) is =
            let in_it : IsInComplement spec layout bytes set base e = subst (λ o. IsMemberBy spec layout bytes set o e) base_is is in
            subst (λ b. IsIn b (map (λ s. Each (record { pool = set_pool spec set; slot = s })) ns))
            (λ t. Each (record { pool = sym in_it.pool_is t; slot = e.slot }))
            (map_in (λ s. Each (record { pool = set_pool spec set; slot = s })) e.slot ns (every e.slot in_it.slot_below))

  pub few_all : (choice : Choice) → FewAll spec choice layout bytes (instances_and_one spec (length bytes))
  few_all choice k c is = by_quant c.quant where
    by_base : (set : ℕ) (base : Option ℕ) → base_of spec set ≡ base → FewBindings (IsFact spec layout bytes) (instances_and_one spec (length bytes)) (quants.Each set)
    by_base set None is = members set (λ e fact. subst (λ o. IsMemberBy spec layout bytes set o e) is fact)
    by_base set (Some base) is = complement set base is

    by_quant : (quant : Quant) → FewBindings (IsFact spec layout bytes) (instances_and_one spec (length bytes)) quant
    by_quant quants.Once = once
    by_quant (quants.Each set) = by_base set (base_of spec set) refl
    by_quant (quants.Pairs rel) = pairs rel
