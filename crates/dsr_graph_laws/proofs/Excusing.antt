-- Where a change is excused, it isn't at what the other binding reads.
use Rattle.std.proofs.Common.{◌≡◌, ◌∙◌, ℕ, Option, None, Some, IfSome, List, [], ◌∷◌, refl, sym, ap, subst, slice_get}
use Rattle.std.specs.Option.{option_map, option_and_then}
use Rattle.std.proofs.lemmas.Option.{same_Some}
use Rattle.dsr_repair_theory.specs.Applications.{FactsHold}
use Rattle.dsr_repair_theory.specs.Choices.{IsEntryAt, IsPlace}
use Rattle.dsr_graph_theory.specs.Excuses.{AreDifferentRecords, AreTargetsApart, IsBoundOnce, IsExcused, IsExcusedAt, IsExcusedAtEntry, IsExcusedAtPlace, IsExcusedAtRecord, IsExcusedAtSlot, IsSameBinding}
use Rattle.dsr_graph_theory.specs.Causes.{direction_of, symbol_of}
use Rattle.dsr_graph_theory.specs.declared.causes.Cause.{Cause}
use Rattle.dsr_model_laws.proofs.Functional.{one_target}
use Rattle.dsr_ir.specs.declared.constraints.Atom.TheVariants as atoms
use Rattle.dsr_ir.specs.declared.constraints.Conj.{Conj}
use Rattle.dsr_ir.specs.declared.constraints.Constraint.{Constraint}
use Rattle.dsr_ir.specs.declared.constraints.Literal.{Literal}
use Rattle.dsr_ir.specs.declared.constraints.Quant.{Quant}
use Rattle.dsr_ir.specs.declared.constraints.Quant.TheVariants as quants
use Rattle.dsr_ir.specs.declared.constraints.Var.{Var}
use Rattle.dsr_ir.specs.declared.constraints.Var.TheVariants.{Head, First, Second}
use Rattle.dsr_ir.specs.declared.declarations.SetDecl.{SetDecl}
use Rattle.dsr_ir.specs.declared.declarations.Spec.{Spec}
use Rattle.dsr_ir.specs.declared.layouts.Layout.{Layout}
use Rattle.dsr_ir.specs.declared.tuples.Binding.{Binding}
use Rattle.dsr_ir.specs.declared.tuples.Binding.TheVariants as bindings
use Rattle.dsr_ir.specs.declared.tuples.Element.{Element}
use Rattle.dsr_ir.specs.declared.tuples.Fact.{Fact}
use Rattle.dsr_ir.specs.declared.tuples.Fact.TheVariants.{Member, Pair}
use Rattle.dsr_ir.specs.declared.tuples.Instance.{Instance}
use Rattle.dsr_ir.specs.declared.tuples.Target.TheVariants.{Elem}
use Rattle.dsr_ir.specs.declared.updates.At.{At}
use Rattle.dsr_ir.specs.declared.updates.At.TheVariants as ats
use Rattle.dsr_ir.specs.declared.updates.Place.{Place}
use Rattle.dsr_ir.specs.declared.updates.Place.TheVariants as places
use Rattle.dsr_template_laws.proofs.ExclusiveSets.{IsExclusion, IsSaid, exclusive_holds, said}
use Rattle.dsr_repair_laws.proofs.TypedLiterals.{typed_in}
use Rattle.dsr_template_laws.proofs.KnownMembers.{known_holds}
use Rattle.dsr_repair_laws.proofs.WrittenRecords.{var_pool}
use Rattle.dsr_layout.proofs.Meanings.{found_holds}
use Rattle.dsr_layout.proofs.RangeOfFacts.{fact_in_range}
use Rattle.dsr_graph_theory.specs.Owners.{Owner}
use Rattle.dsr_meaning.specs.Consistency.{IsBinding}
use Rattle.dsr_meaning.specs.Layouts.{layout_of}
use Rattle.dsr_meaning.specs.Legal.{IsLegalLayout}
use Rattle.dsr_meaning.specs.Models.{IsFact}
use Rattle.dsr_meaning.specs.Truth.{element_of}
use Rattle.dsr_meaning.specs.Typed.{IsPlainSetOf, IsTyped, IsTypedAtom, IsTypedSet}
use Rattle.dsr_meaning.proofs.Options.{some_and}
use Rattle.dsr_effect_laws.specs.Allowed.{Allows}
use Rattle.dsr_step_theory.specs.declared.steps.Step.{Step}
use Rattle.dsr_graph_laws.proofs.Bounding.{apart_holds, injective_holds}
use Rattle.dsr_update_theory.specs.Changes.{Change}
use Rattle.dsr_update_theory.specs.Effects.{InTable}
use Rattle.dsr_update_theory.specs.Templates.{literal_at}
use Rattle.dsr_update_theory.specs.declared.effects.Tag.{Tag}
use Rattle.dsr_meaning.proofs.Ordered.{same_element}

literal_there : (c : Constraint) (conj : Conj) (literal : Literal) → c.conjs ≡ conj ∷ [] → conj.literals ≡ literal ∷ [] → literal_at c 0 0 ≡ Some literal
literal_there c conj literal conjs literals =
    ap (λ cs. option_and_then (λ (l : Conj). slice_get l.literals 0) (slice_get cs 0)) conjs ∙ ap (λ ls. slice_get ls 0) literals

module _ (spec : Spec) (typed : IsTyped spec) (layout : Layout) (bytes : List ℕ) (is : layout_of spec.base bytes ≡ Some layout) where
  abbrev HasFact : ℕ → Element → Type 0
  HasFact set e = IsFact spec layout bytes (Member set e)

  -- a member is of the pool of its set
  member_pool : (set : ℕ) (d : SetDecl) (e : Element) → slice_get spec.base.sets set ≡ Some d → HasFact set e → e.pool ≡ d.pool
  member_pool set d e at there =
      let range = fact_in_range spec bytes layout is typed (Member set e) there in
      range.member.pool_is ∙ ap (λ (s : SetDecl). s.pool) (same_Some range.decl d (sym range.declared ∙ at))

  plain_pool : (pool set : ℕ) (e : Element) → IsPlainSetOf spec.base pool set → HasFact set e → e.pool ≡ pool
  plain_pool pool set e plain there =
      let own = some_and (slice_get spec.base.sets set) (λ s. (s.pool ≡ pool) × (s.except ≡ None)) plain in
      member_pool set own.0 e own.1.0 there ∙ own.1.1.0

  base_pools : (set base : ℕ) (d : SetDecl) → slice_get spec.base.sets set ≡ Some d → d.except ≡ Some base → (e f : Element) → HasFact set e → HasFact base f → e.pool ≡ f.pool
  base_pools set base d at except e f one two =
      let plain = subst (λ o. IfSome o (IsPlainSetOf spec.base d.pool)) except (found_holds (IsTypedSet spec.base) spec.base.sets set d typed.base.sets at).except in
      member_pool set d e at one ∙ sym (plain_pool d.pool base f plain two)

  exclusion_pools : (k : ℕ) (c : Constraint) → slice_get spec.constraints k ≡ Some c → (a b : ℕ) → IsExclusion c a b → (e f : Element) → HasFact a e → HasFact b f → e.pool ≡ f.pool
  exclusion_pools k c declared a b x e f one two =
      let its = typed_in spec typed k c 0 0 x.literal declared (literal_there c x.conj x.literal x.conjs_are x.literals_are) in
      let atom : IsTypedAtom spec (quants.Each a) (atoms.Member First b) = subst (λ q. IsTypedAtom spec q (atoms.Member First b)) x.quant_is (subst (IsTypedAtom spec c.quant) x.atom_is its.literal_typed.atom) in
      let range = fact_in_range spec bytes layout is typed (Member a e) one in
      let pool : range.decl.pool ≡ atom.0 = same_Some range.decl.pool atom.0 (sym (ap (option_map (λ (s : SetDecl). s.pool)) range.declared) ∙ atom.1) in
      range.member.pool_is ∙ (pool ∙ sym (plain_pool atom.0 b f atom.2 two))

  -- sets that are exclusive have one pool
  said_pools : (number a b : ℕ) → IsSaid spec number a b → (e f : Element) → HasFact a e → HasFact b f → e.pool ≡ f.pool
  said_pools number a b (IsSaid.of_base d at except) e f one two = base_pools a b d at except e f one two
  said_pools number a b (IsSaid.of_complement d at except) e f one two = sym (base_pools b a d at except f e two one)
  said_pools number a b (IsSaid.of_first k c declared given x) e f one two = exclusion_pools k c declared a b x e f one two
  said_pools number a b (IsSaid.of_second k c declared given x) e f one two = sym (exclusion_pools k c declared b a x f e two one)

-- ---- bindings of a quantifier

module _ (is_fact : Fact → Type 0) where
  pub once_only : (x : Binding) → IsBinding is_fact quants.Once x → x ≡ bindings.Once
  once_only bindings.Once p = refl
  once_only (bindings.Each e) p = absurd p
  once_only (bindings.Pair e f) p = absurd p

  each_only : (set : ℕ) (x : Binding) → IsBinding is_fact (quants.Each set) x → (e : Element) × (x ≡ bindings.Each e)
  each_only set bindings.Once p = absurd p
  each_only set (bindings.Each e) p = (e, refl)
  each_only set (bindings.Pair e f) p = absurd p

  pair_only : (rel : ℕ) (x : Binding) → IsBinding is_fact (quants.Pairs rel) x → (e f : Element) × (x ≡ bindings.Pair e f) × is_fact (Pair rel e (Elem f))
  pair_only rel bindings.Once p = absurd p
  pair_only rel (bindings.Each e) p = absurd p
  pair_only rel (bindings.Pair e f) p = (e, f, refl, p)

module _ (owner other : Owner) (typed : IsTyped owner.spec) (layout : Layout) (bytes : List ℕ) (is : layout_of owner.spec.base bytes ≡ Some layout) (legal : IsLegalLayout layout)
    (hold : FactsHold owner.spec layout bytes owner.number)
    (own_is : slice_get owner.spec.constraints owner.number ≡ Some owner.constraint) (other_is : slice_get owner.spec.constraints other.number ≡ Some other.constraint)
    (own b : Binding) (own_bound : IsBinding (IsFact owner.spec layout bytes) owner.constraint.quant own) (bound : IsBinding (IsFact owner.spec layout bytes) other.constraint.quant b)
    (differ : owner.number ≡ other.number → own ≡ b → ⊥) where
  abbrev F : Fact → Type 0
  F = IsFact owner.spec layout bytes

  first_is : (x : Binding) (e f g : Element) → x ≡ bindings.Pair f g → element_of x First ≡ Some e → f ≡ e
  first_is x e f g shape at = same_Some f e (subst (λ z. element_of z First ≡ Some e) shape at)

  second_is : (x : Binding) (e f g : Element) → x ≡ bindings.Pair f g → element_of x Second ≡ Some e → g ≡ e
  second_is x e f g shape at = same_Some g e (subst (λ z. element_of z Second ≡ Some e) shape at)

  -- no two bindings have the record there
  once_same : (quant : Quant) (v : Var) → IsBoundOnce owner quant v → (x y : Binding) → IsBinding F quant x → IsBinding F quant y → (e : Element) → element_of x v ≡ Some e → element_of y v ≡ Some e → (x ≡ y → ⊥) → ⊥
  once_same quants.Once Head once x y p q e at_x at_y unlike = unlike (once_only F x p ∙ sym (once_only F y q))
  once_same quants.Once First once x y p q e at_x at_y unlike = once
  once_same quants.Once Second once x y p q e at_x at_y unlike = once
  once_same (quants.Each set) Head once x y p q e at_x at_y unlike = once
  once_same (quants.Each set) Second once x y p q e at_x at_y unlike = once
  once_same (quants.Each set) First once x y p q e at_x at_y unlike =
      let f = each_only F set x p in
      let g = each_only F set y q in
      let one : f.0 ≡ e = same_Some f.0 e (subst (λ z. element_of z First ≡ Some e) f.1 at_x) in
      let two : g.0 ≡ e = same_Some g.0 e (subst (λ z. element_of z First ≡ Some e) g.1 at_y) in
      unlike (f.1 ∙ (ap bindings.Each (one ∙ sym two) ∙ sym g.1))
  once_same (quants.Pairs rel) Head once x y p q e at_x at_y unlike = once
  once_same (quants.Pairs rel) First once x y p q e at_x at_y unlike =
      let f = pair_only F rel x p in
      let g = pair_only F rel y q in
      let one : f.0 ≡ e = first_is x e f.0 f.1 f.2 at_x in
      let two : g.0 ≡ e = first_is y e g.0 g.1 g.2 at_y in
      let targets : Elem f.1 ≡ Elem g.1 = one_target owner.spec layout bytes rel e (Elem f.1) (Elem g.1) legal once (subst (λ z. F (Pair rel z (Elem f.1))) one f.3) (subst (λ z. F (Pair rel z (Elem g.1))) two g.3) in
      let same : f.1 ≡ g.1 = cc in
      unlike (f.2 ∙ ((λ k. bindings.Pair ((one ∙ sym two) k) (same k)) ∙ sym g.2))
  once_same (quants.Pairs rel) Second once x y p q e at_x at_y unlike =
      let f = pair_only F rel x p in
      let g = pair_only F rel y q in
      let one : f.1 ≡ e = second_is x e f.0 f.1 f.2 at_x in
      let two : g.1 ≡ e = second_is y e g.0 g.1 g.2 at_y in
      injective_holds owner.spec layout bytes owner.number hold rel once f.0 g.0 e (subst (λ z. F (Pair rel f.0 (Elem z))) one f.3) (subst (λ z. F (Pair rel g.0 (Elem z))) two g.3)
      (λ same. unlike (f.2 ∙ ((λ k. bindings.Pair (same k) ((one ∙ sym two) k)) ∙ sym g.2)))

  same_quant : owner.number ≡ other.number → owner.constraint.quant ≡ other.constraint.quant
  same_quant same = ap (λ (c : Constraint). c.quant) (same_Some owner.constraint other.constraint (sym own_is ∙ (ap (slice_get owner.spec.constraints) same ∙ other_is)))

  bound_here : owner.number ≡ other.number → IsBinding F owner.constraint.quant b
  bound_here same = subst (λ q. IsBinding F q b) (sym (same_quant same)) bound

  -- ---- excuses

  own_excused : (v at : Var) → IsSameBinding owner other v at → (e : Element) → element_of own v ≡ Some e → element_of b at ≡ Some e → ⊥
  own_excused v at s e at_own at_b =
      once_same owner.constraint.quant v s.once own b own_bound (bound_here s.same_constraint) e at_own (subst (λ w. element_of b w ≡ Some e) (sym s.same_var) at_b) (differ s.same_constraint)

  different_excused : (v at : Var) → AreDifferentRecords owner other v at → (e : Element) → element_of own v ≡ Some e → element_of b at ≡ Some e → ⊥
  different_excused v at d e at_own at_b =
      exclusive_holds owner.spec typed layout bytes owner.number hold d.set d.other_set d.exclusive e
      (known_holds owner.spec typed layout bytes owner.constraint.quant own own_bound d.known e at_own)
      (known_holds owner.spec typed layout bytes other.constraint.quant b bound d.other_known e at_b)

  targets_excused : AreTargetsApart owner other → (e : Element) → element_of own Second ≡ Some e → element_of b Second ≡ Some e → ⊥
  targets_excused t e at_own at_b =
      let f = pair_only F t.rel own (subst (λ q. IsBinding F q own) t.quant_is own_bound) in
      let g = pair_only F t.other_rel b (subst (λ q. IsBinding F q b) t.other_quant_is bound) in
      let one : f.1 ≡ e = second_is own e f.0 f.1 f.2 at_own in
      let two : g.1 ≡ e = second_is b e g.0 g.1 g.2 at_b in
      apart_holds owner.spec layout bytes owner.number hold t.rel t.other_rel t.apart f.0 g.0 e (subst (λ z. F (Pair t.rel f.0 (Elem z))) one f.3) (subst (λ z. F (Pair t.other_rel g.0 (Elem z))) two g.3)

  record_excused : (v at : Var) → IsExcusedAtRecord owner other v at → (e : Element) → element_of own v ≡ Some e → element_of b at ≡ Some e → ⊥
  record_excused v at (IsExcusedAtRecord.own s) e at_own at_b = own_excused v at s e at_own at_b
  record_excused v at (IsExcusedAtRecord.different d) e at_own at_b = different_excused v at d e at_own at_b
  record_excused v at (IsExcusedAtRecord.targets_apart t) e at_own at_b =
      targets_excused t.apart e (subst (λ w. element_of own w ≡ Some e) t.second at_own) (subst (λ w. element_of b w ≡ Some e) t.other_second at_b)

  place_excused : (stopped : Option Instance) (place : Place) (at : Var) → IsExcusedAtPlace owner other place at → (e : Element) → IsPlace own stopped place e → element_of b at ≡ Some e → ⊥
  place_excused stopped places.Head at ex e of at_b = own_excused Head at ex e (ap Some (sym of)) at_b
  place_excused stopped (places.Of v) at ex e of at_b = record_excused v at ex e of at_b
  place_excused stopped places.Deriver at ex e of at_b = ex

  slot_excused : (v at : Var) → IsExcusedAtSlot owner other v at → (f e : Element) → element_of own v ≡ Some f → element_of b at ≡ Some e → e.slot ≡ f.slot → ⊥
  slot_excused v at (IsExcusedAtSlot.own s) f e at_own at_b slots =
      let in_b : element_of b v ≡ Some e = subst (λ w. element_of b w ≡ Some e) (sym s.same_var) at_b in
      let one = var_pool owner.spec bytes layout is typed own owner.constraint.quant own own_bound v f at_own in
      let two = var_pool owner.spec bytes layout is typed own owner.constraint.quant b (bound_here s.same_constraint) v e in_b in
      let same : e ≡ f = same_element e f (same_Some e.pool f.pool (sym two ∙ one)) slots in
      own_excused v at s f at_own (at_b ∙ ap Some same)
  slot_excused v at (IsExcusedAtSlot.different version d) f e at_own at_b slots =
      let one = known_holds owner.spec typed layout bytes owner.constraint.quant own own_bound d.known f at_own in
      let two = known_holds owner.spec typed layout bytes other.constraint.quant b bound d.other_known e at_b in
      let pools = said_pools owner.spec typed layout bytes is owner.number d.set d.other_set (said owner.spec owner.number d.set d.other_set d.exclusive) f e one two in
      let same : e ≡ f = same_element e f (sym pools) slots in
      different_excused v at d f at_own (at_b ∙ ap Some same)

  entry_excused : (stopped : Option Instance) (which : At) (at : Var) → IsExcusedAtEntry owner other which at → (k : ℕ) (e : Element) → IsEntryAt own stopped which k → e.slot ≡ k → element_of b at ≡ Some e → ⊥
  entry_excused stopped ats.Scalar at ex k e of slot at_b = ex
  entry_excused stopped ats.Deriver at ex k e of slot at_b = ex
  entry_excused stopped (ats.SlotOf v) at ex k e of slot at_b =
      let f = some_and (element_of own v) (λ x. k ≡ x.slot) of in
      slot_excused v at ex f.0 e f.1.0 at_b (slot ∙ f.1.1)

  -- what is excused at a variable doesn't happen at its record
  pub excused_elsewhere : (change : Change) (step : Step) (stopped : Option Instance) → IsPlace own stopped change.update.place step.elem → IsEntryAt own stopped change.update.at step.index
      → (cause : Cause) (e : Element) → ((v : Var) → cause.at ≡ Some v → element_of b v ≡ Some e) → (tag : Tag) → InTable change (direction_of cause.reason) (symbol_of cause.reason) tag → Allows step tag e
      → IsExcused owner other change cause → ⊥
  excused_elsewhere change step stopped place entry cause e read tag listed allowed excused =
      let x = some_and cause.at (IsExcusedAt owner other change cause.reason) excused in
      at_variable x.0 (read x.0 x.1.0) x.1.1 where
        at_variable : (v : Var) → element_of b v ≡ Some e → IsExcusedAt owner other change cause.reason v → ⊥
        at_variable v at_b (IsExcusedAt.at_place only ex) =
            let at_w : e ≡ step.elem = subst (λ t. Allows step t e) (only tag listed) allowed in
            place_excused stopped change.update.place v ex step.elem place (at_b ∙ ap Some at_w)
        at_variable v at_b (IsExcusedAt.at_entry only ex) =
            let at_k : e.slot ≡ step.index = subst (λ t. Allows step t e) (only tag listed) allowed in
            entry_excused stopped change.update.at v ex step.index e entry at_k at_b
