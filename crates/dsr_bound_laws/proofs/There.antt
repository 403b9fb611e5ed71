-- What remains on an image is there: something is due, and all that is counted is listed.
use Rattle.std.proofs.Common.{◌≡◌, ◌≢◌, ◌≤◌, ◌<◌, ◌+◌, ◌-◌, ◌*◌, ℕ, zero, suc, Bool, true, false, not, IsTrue, List, [], ◌∷◌, length, All, Option, None, Some, slice_get, get_or, if◌then◌else◌, ◌⊎◌, inl, inr, refl, sym, ap, subst, ◌∙◌, arith}
use Rattle.std.specs.Option.{option_and_then, option_map_or}
use Rattle.std.proofs.lemmas.Bool.{cases_lt, false≢true}
use Rattle.std.proofs.lemmas.Option.{same_Some, slice_get-get_or, slice_get_within}
use Rattle.dsr_model_laws.specs.Deciding.{IsDecided}
use Rattle.dsr_model_laws.proofs.Active.{active_decided}
use Rattle.dsr_model_laws.proofs.Instances.{elements}
use Rattle.dsr_model_laws.proofs.Listed.{IsListed, alike, below, each, every, known, many, numbers, one, opposite, some_one, those}
use Rattle.dsr_model_laws.proofs.Models.{facts_listed}
use Rattle.dsr_model_laws.proofs.Truths.{literal_decided}
use Rattle.dsr_model_laws.proofs.Violations.{in_order}
use Rattle.dsr_model_laws.proofs.Ways.{AreCompared, both, by_logic}
use Rattle.dsr_ir.specs.Rules.{gives}
use Rattle.dsr_ir.specs.declared.constraints.Atom.{Atom}
use Rattle.dsr_ir.specs.declared.constraints.Conj.{Conj}
use Rattle.dsr_ir.specs.declared.constraints.Constraint.{Constraint}
use Rattle.dsr_ir.specs.declared.constraints.Literal.{Literal}
use Rattle.dsr_ir.specs.declared.declarations.Spec.{Spec}
use Rattle.dsr_ir.specs.declared.layouts.Layout.{Layout}
use Rattle.dsr_ir.specs.declared.rules.Rule.{Rule}
use Rattle.dsr_ir.specs.declared.tuples.Binding.{Binding}
use Rattle.dsr_ir.specs.declared.tuples.Binding.TheVariants.{Once, Each, Pair}
use Rattle.dsr_ir.specs.declared.tuples.Element.{Element}
use Rattle.dsr_ir.specs.declared.tuples.Fact.{Fact}
use Rattle.dsr_ir.specs.declared.tuples.Instance.{Instance}
use Rattle.dsr_ir.specs.declared.updates.Goal.{Goal}
use Rattle.dsr_ir.specs.declared.updates.Goal.TheVariants as goals
use Rattle.dsr_ir.specs.declared.updates.Symbol.{Symbol}
use Rattle.dsr_layout.proofs.Meanings.{found_holds}
use Rattle.dsr_graph_theory.specs.Sides.{atom_symbol}
use Rattle.dsr_meaning.specs.Consistency.{AreInOrder, AreViolations, BoundConstraint, Comes, ConjHolds, IsViolated}
use Rattle.dsr_meaning.specs.Counting.{AreMany, IsIn}
use Rattle.dsr_meaning.specs.Models.{IsFact}
use Rattle.dsr_meaning.specs.Orders.{BindingPrecedes, Precedes}
use Rattle.dsr_meaning.specs.Truth.{LiteralHolds}
use Rattle.dsr_plan_theory.specs.Plans.{IsPlan, IsRowOf, IsTested, Truth, comes_out, way_at}
use Rattle.dsr_plan_theory.specs.declared.choices.Choice.{Choice}
use Rattle.dsr_plan_theory.specs.declared.choices.Row.{Row}
use Rattle.dsr_plan_theory.specs.declared.choices.Way.{Way}
use Rattle.dsr_plan_theory.specs.declared.choices.Way.TheVariants.{Test, By}
use Rattle.dsr_repair_theory.specs.Due.{IsDueBinding, IsDueConj, TestsHold}
use Rattle.dsr_step_theory.specs.Images.{IsImageOf}
use Rattle.dsr_update_theory.specs.Templates.{literal_at}
use Rattle.dsr_bound_laws.specs.Bounds.{conj_cost, instances_and_one, most_literals, total}
use Rattle.dsr_template_laws.specs.Helping.{IsActiveFor}
use Rattle.dsr_bound_laws.specs.Remaining.{AreToStop, IsOther, IsRemaining, IsRepairable, cost_of, higher_cost}
use Rattle.dsr_bound_laws.specs.Remaining.IsRemaining.{left, nothing as none_left}
use Rattle.dsr_bound_laws.proofs.Bindings.{all, active_there}
use Rattle.dsr_bound_laws.proofs.Falls.{same_or_other}
use Rattle.dsr_bound_laws.proofs.Helped.{row_there}
use Rattle.dsr_bound_laws.proofs.Left.{literal_below}
use Rattle.dsr_meaning.proofs.Items.{item_there}
use Rattle.dsr_meaning.proofs.Ordered.{one_way}

-- ---- numbers and lists

-- the least number of a kind
module _ (P : ℕ → Type 0) (decided : (n : ℕ) → IsDecided (P n)) where
  abbrev Least : Type 0
  Least = (n : ℕ) × (P n × ((j : ℕ) → j < n → P j → ⊥))

  search_from : (left i k : ℕ) → i + left ≡ k → P k → ((j : ℕ) → j < i → P j → ⊥) → Least
  search_from zero i k at has before = (k, (has, λ j less. before j (omega (arith, less, at))))
  search_from (suc rest) i k at has before = elim (decided i) as (λ _. Least) [
    | inl here ↦ (i, (here, before))
    | inr none ↦ search_from rest (suc i) k (omega (arith, at)) has
        (λ j less is. elim (numbers j i) as (λ _. ⊥) [ inl same ↦ none (subst P same is) | inr other ↦ before j (omega (arith, less, other)) is ])
  ]

  least_number : (k : ℕ) → P k → Least
  least_number k has = search_from k 0 k (omega arith) has (λ j less is. absurd (omega (arith, less)))

-- those of a list that are of a kind, which has no others
picked_of : {A : Type 0} (P : A → Type 0) (xs : List A) → ((x : A) → IsDecided (P x)) → ((x : A) → P x → IsIn x xs) → IsListed P
picked_of {A} P xs decided within =
    alike (λ x. IsIn x xs × P x) P (λ x h. h.1) (λ x p. (within x p, p))
    (those (λ x. IsIn x xs) P (record { things = xs; all = λ x i. i; only = λ x i. i }) (λ x _. decided x))

compared_instances : AreCompared Instance
compared_instances a b =
    by_logic (λ (p : (a.rule ≡ b.rule) × ((a.elem ≡ b.elem) × (a.index ≡ b.index))). λ t. record { rule = p.0 t; elem = p.1.0 t; index = p.1.1 t })
    (λ e. (ap (λ (x : Instance). x.rule) e, (ap (λ (x : Instance). x.elem) e, ap (λ (x : Instance). x.index) e)))
    (both (numbers a.rule b.rule) (both (elements a.elem b.elem) (numbers a.index b.index)))

is_true : (b : Bool) → IsDecided (b ≡ true)
is_true true = inl refl
is_true false = inr (λ (e : false ≡ true). absurd cc)

-- ---- orders

not_before_itself : (a b : Element) → a ≡ b → Precedes a b → ⊥
not_before_itself a b same before = one_way a b before (subst (λ x. Precedes b x) (sym same) (subst (λ x. Precedes x b) same before))

pub bindings_not_both : (a b : Binding) → BindingPrecedes a b → BindingPrecedes b a → ⊥
bindings_not_both Once Once p q = p
bindings_not_both Once (Each b) p q = q
bindings_not_both Once (Pair b d) p q = q
bindings_not_both (Each a) Once p q = p
bindings_not_both (Each a) (Each b) p q = one_way a b p q
bindings_not_both (Each a) (Pair b d) p q = q
bindings_not_both (Pair a c) Once p q = p
bindings_not_both (Pair a c) (Each b) p q = p
bindings_not_both (Pair a c) (Pair b d) (inl p) (inl q) = one_way a b p q
bindings_not_both (Pair a c) (Pair b d) (inl p) (inr (e, q)) = not_before_itself a b (sym e) p
bindings_not_both (Pair a c) (Pair b d) (inr (e, p)) (inl q) = not_before_itself b a (sym e) q
bindings_not_both (Pair a c) (Pair b d) (inr (e, p)) (inr (f, q)) = one_way c d p q

-- of violated bindings in order the first of the lowest level
record IsBest (level : BoundConstraint → ℕ) (vs : List BoundConstraint) (x : BoundConstraint) : Type 0 where
  pub among : IsIn x vs
  pub lowest : (w : BoundConstraint) → IsIn w vs → level x ≤ level w
  pub first : (w : BoundConstraint) → IsIn w vs → level w ≡ level x → (w ≡ x) ⊎ Comes x w

best_of : (level : BoundConstraint → ℕ) (v : BoundConstraint) (vs : List BoundConstraint) → AreInOrder (v ∷ vs) → (x : BoundConstraint) × IsBest level (v ∷ vs) x
best_of level v [] ordered = (
  v,
  record {
    among = inl refl;
    lowest = λ w i. elim i as (λ _. level v ≤ level w) [ inl same ↦ (let e = ap level same in omega (arith, e)) | inr j ↦ absurd j ];
    first = λ w i e. elim i as (λ _. (w ≡ v) ⊎ Comes v w) [ inl same ↦ inl same | inr j ↦ absurd j ];
  },
)
best_of level v (u ∷ vs) ordered =
    let rest = best_of level u vs ordered.1 in
    elim (cases_lt (level rest.0) (level v)) as (λ _. (x : BoundConstraint) × IsBest level (v ∷ u ∷ vs) x) [
      | inl less ↦ (
        rest.0,
        record {
          among = inr rest.1.among;
          lowest = λ w i. elim i as (λ _. level rest.0 ≤ level w) [ inl same ↦ (let e = ap level same in omega (arith, e, less)) | inr j ↦ rest.1.lowest w j ];
          first = λ w i e. elim i as (λ _. (w ≡ rest.0) ⊎ Comes rest.0 w) [ inl same ↦ absurd (let q = ap level same in omega (arith, q, less, e)) | inr j ↦ rest.1.first w j e ];
        },
      )
      | inr from ↦ (
        v,
        record {
          among = inl refl;
          lowest = λ w i. elim i as (λ _. level v ≤ level w) [ inl same ↦ (let e = ap level same in omega (arith, e)) | inr j ↦ (let low = rest.1.lowest w j in omega (arith, low, from)) ];
          first = λ w i e. elim i as (λ _. (w ≡ v) ⊎ Comes v w) [ inl same ↦ inl same | inr j ↦ inr (ordered.0 w j) ];
        },
      )
    ]

-- ---- what is due

abbrev tells : {A : Type 0} → A ⊎ (A → ⊥) → Bool
tells (inl holds) = true
tells (inr fails) = false

told_true : {A : Type 0} (d : A ⊎ (A → ⊥)) → IsTrue (tells d) → A
told_true (inl holds) is = holds
told_true (inr fails) is = absurd (false≢true is)

told_false : {A : Type 0} (d : A ⊎ (A → ⊥)) → IsTrue (not (tells d)) → A → ⊥
told_false (inl holds) is a = absurd (false≢true is)
told_false (inr fails) is a = fails a

module _ (spec : Spec) (choice : Choice) (plan : IsPlan spec choice) (layout : Layout) (bytes : List ℕ) where
  literal_known : (b : Binding) (its : Literal) → IsDecided (LiteralHolds (IsFact spec layout bytes) b its)
  literal_known = literal_decided (IsFact spec layout bytes) (facts_listed spec layout bytes)

  abbrev level_of : BoundConstraint → ℕ
  level_of w = option_map_or (λ (r : Row). r.level) (slice_get choice.rows w.constraint) 0

  level_is : (w : BoundConstraint) (row : Row) → slice_get choice.rows w.constraint ≡ Some row → level_of w ≡ row.level
  level_is w row is = ap (λ o. option_map_or (λ (r : Row). r.level) o 0) is

  -- the best one is due
  due_binding :
      (vs : List BoundConstraint) (x : BoundConstraint) → IsBest level_of vs x → ((w : BoundConstraint) → IsViolated (IsFact spec layout bytes) spec w → IsIn w vs)
      → (violated : IsViolated (IsFact spec layout bytes) spec x) (row : Row) → slice_get choice.rows x.constraint ≡ Some row
      → IsDueBinding (IsFact spec layout bytes) spec choice x violated.constraint row
  due_binding vs x best among violated row row_is = record {
    row_of = record { constraint_is = violated.declared; row_is = row_is };
    violated = violated;
    lowest = λ w other bad other_is.
        let low = best.lowest w (among w bad) in
        let one = level_is x row row_is in
        let two = level_is w other other_is in
        omega (arith, low, one, two);
    first = λ w other bad other_is same.
        let one = level_is x row row_is in
        let two = level_is w other other_is in
        elim (best.first w (among w bad) (omega (arith, same, one, two))) as (λ _. x.constraint ≤ w.constraint) [
          | inl it ↦ (let e = ap (λ (y : BoundConstraint). y.constraint) it in omega (arith, e))
          | inr (inl less) ↦ omega (arith, less)
          | inr (inr (e, before)) ↦ omega (arith, e)
        ];
    least = λ b bad before.
        elim (best.first (record { constraint = x.constraint; binding = b }) (among (record { constraint = x.constraint; binding = b }) bad) refl) as (λ _. ⊥) [
          | inl it ↦
              let e : b ≡ x.binding = ap (λ (y : BoundConstraint). y.binding) it in
              bindings_not_both b x.binding before (subst (λ y. BindingPrecedes y b) e (subst (λ y. BindingPrecedes b y) (sym e) before))
          | inr (inl less) ↦ absurd (omega (arith, less))
          | inr (inr (e, behind)) ↦ bindings_not_both b x.binding before behind
        ];
  }

  module _ (b : Binding) (n : ℕ) (c : Constraint) (row : Row) (row_of : IsRowOf spec choice n c row) where
    abbrev P : Fact → Type 0
    P = IsFact spec layout bytes

    abbrev truth : Truth
    truth atom = tells (literal_known b (record { atom = atom; negated = false; given = false }))

    out_true : (negated : Bool) (atom : Atom) (given : Bool) → IsTrue (if negated then not (truth atom) else truth atom) → LiteralHolds (IsFact spec layout bytes) b (record { atom = atom; negated = negated; given = given })
    out_true false atom given is = told_true (literal_known b (record { atom = atom; negated = false; given = false })) is
    out_true true atom given is = told_false (literal_known b (record { atom = atom; negated = false; given = false })) is

    holds_out : (its : Literal) → IsTrue (comes_out truth its) → LiteralHolds (IsFact spec layout bytes) b its
    holds_out its is = out_true its.negated its.atom its.given is

    -- some conjunction's tests hold
    some_holds : (conj : ℕ) × ((conj < length c.conjs) × TestsHold (IsFact spec layout bytes) b c row conj)
    some_holds =
        let some = plan.covers n c row row_of truth in (
          some.number,
          (
            slice_get_within c.conjs some.number some.conj some.conj_is,
            λ k its at tested.
                let there : slice_get some.conj.literals k ≡ Some its = sym (ap (option_and_then (λ (l : Conj). slice_get l.literals k)) some.conj_is) ∙ at in
                holds_out its (some.passes k its there tested),
          ),
        )

    test_decided : (conj k : ℕ) → IsDecided (IsTested row conj k)
    test_decided conj k = by_way (way_at row conj k) where
      by_way : (o : Option Way) → IsDecided (o ≡ Some Test)
      by_way None = inr (λ (e : None ≡ Some Test). absurd cc)
      by_way (Some Test) = inl refl
      by_way (Some (By number template)) = inr (λ (e : Some (By number template) ≡ Some Test). absurd (let q : By number template ≡ Test = cc in cc))

    -- the literals of a conjunction, with their numbers
    literals_listed : (conj : ℕ) → IsListed (λ (x : ℕ × Literal). literal_at c conj x.0 ≡ Some x.1)
    literals_listed conj =
        alike (λ (x : ℕ × Literal). (k : ℕ) × (k < most_literals c.conjs) × ((its : Literal) × (literal_at c conj k ≡ Some its) × (x ≡ (k, its)))) (λ (x : ℕ × Literal). literal_at c conj x.0 ≡ Some x.1)
        (λ x h. subst (λ (y : ℕ × Literal). literal_at c conj y.0 ≡ Some y.1) (sym h.2.2) h.2.1)
        (λ x is. (x.0, literal_below c.conjs conj x.0 x.1 is, (x.1, is, refl)))
        (each (λ (k : ℕ). k < most_literals c.conjs) (λ k x. (its : Literal) × (literal_at c conj k ≡ Some its) × (x ≡ (k, its))) (below (most_literals c.conjs))
        (λ k _. each (λ (its : Literal). literal_at c conj k ≡ Some its) (λ its x. x ≡ (k, its)) (known (literal_at c conj k)) (λ its _. one (k, its))))

    implied : {A B : Type 0} → IsDecided A → IsDecided B → IsDecided (A → B)
    implied (inl a) (inl b) = inl (λ _. b)
    implied (inl a) (inr n) = inr (λ f. n (f a))
    implied (inr n) d = inl (λ a. absurd (n a))

    tests_decided : (conj : ℕ) → IsDecided (TestsHold (IsFact spec layout bytes) b c row conj)
    tests_decided conj =
        by_logic (λ (h : (x : ℕ × Literal) → literal_at c conj x.0 ≡ Some x.1 → IsTested row conj x.0 → LiteralHolds (IsFact spec layout bytes) b x.1). λ k its at tested. h (k, its) at tested)
        (λ h x at tested. h x.0 x.1 at tested)
        (every (λ (x : ℕ × Literal). literal_at c conj x.0 ≡ Some x.1) (λ x. IsTested row conj x.0 → LiteralHolds (IsFact spec layout bytes) b x.1) (literals_listed conj)
        (λ x. implied (test_decided conj x.0) (literal_known b x.1)))

    -- so there is a first one
    due_conj : (conj : ℕ) × IsDueConj (IsFact spec layout bytes) b c row conj
    due_conj =
        let some = some_holds in
        let least = least_number (TestsHold (IsFact spec layout bytes) b c row) tests_decided some.0 some.1.1 in (
          least.0,
          record {
            there = elim (cases_lt some.0 least.0) as (λ _. least.0 < length c.conjs) [
              | inl less ↦ absurd (least.1.1 some.0 less some.1.1)
              | inr from ↦ (let within = some.1.0 in omega (arith, within, from))
            ];
            tests = least.1.0;
            none_before = least.1.1;
          },
        )

    -- whether a literal can be repaired
    repairable_decided : (conj k : ℕ) → IsDecided (IsRepairable (IsFact spec layout bytes) b c row conj k)
    repairable_decided conj k = by_literal (literal_at c conj k) refl where
      by_way : (its : Literal) → literal_at c conj k ≡ Some its → (o : Option Way) → way_at row conj k ≡ o → IsDecided (IsRepairable (IsFact spec layout bytes) b c row conj k)
      by_way its at None way = inr (λ r. let both : None ≡ Some (By r.is.template_is.number r.template) = sym way ∙ r.is.template_is.way_is in absurd cc)
      by_way its at (Some Test) way = inr (λ r.
          let both = same_Some Test (By r.is.template_is.number r.template) (sym way ∙ r.is.template_is.way_is) in
          absurd cc)
      by_way its at (Some (By number template)) way = elim (literal_known b its) as (λ _. IsDecided (IsRepairable (IsFact spec layout bytes) b c row conj k)) [
        | inl holds ↦ inr (λ r. r.is.is_false (subst (LiteralHolds (IsFact spec layout bytes) b) (same_Some its r.its (sym at ∙ r.is.literal_is)) holds))
        | inr fails ↦ inl (record { its = its; template = template; is = record { literal_is = at; template_is = record { number = number; way_is = way }; is_false = fails } })
      ]

      by_literal : (o : Option Literal) → literal_at c conj k ≡ o → IsDecided (IsRepairable (IsFact spec layout bytes) b c row conj k)
      by_literal None at = inr (λ r. let both : None ≡ Some r.its = sym at ∙ r.is.literal_is in absurd cc)
      by_literal (Some its) at = by_way its at (way_at row conj k) refl

    repairables : (conj : ℕ) → IsListed (IsRepairable (IsFact spec layout bytes) b c row conj)
    repairables conj =
        alike (λ k. (k < most_literals c.conjs) × IsRepairable (IsFact spec layout bytes) b c row conj k) (IsRepairable (IsFact spec layout bytes) b c row conj)
        (λ k h. h.1) (λ k r. (literal_below c.conjs conj k r.its r.is.literal_is, r))
        (those (λ k. k < most_literals c.conjs) (IsRepairable (IsFact spec layout bytes) b c row conj) (below (most_literals c.conjs)) (λ k _. repairable_decided conj k))

    -- where none can, all are true
    all_true : (conj : ℕ) (d : Conj) → slice_get c.conjs conj ≡ Some d → TestsHold (IsFact spec layout bytes) b c row conj
        → ((k : ℕ) → IsRepairable (IsFact spec layout bytes) b c row conj k → ⊥) → ConjHolds (IsFact spec layout bytes) b d
    all_true conj d there tests no_one = λ k e within.
        let at : literal_at c conj k ≡ Some (get_or d.literals k e) = ap (option_and_then (λ (l : Conj). slice_get l.literals k)) there ∙ slice_get-get_or d.literals k e within in
        let way = (plan.ways n c row row_of).ways conj k (get_or d.literals k e) at in
        by_way k (get_or d.literals k e) at way.0 way.1 where
          by_way : (k : ℕ) (its : Literal) → literal_at c conj k ≡ Some its → (way : Way) → way_at row conj k ≡ Some way → LiteralHolds (IsFact spec layout bytes) b its
          by_way k its at Test way = tests k its at way
          by_way k its at (By number template) way = elim (literal_known b its) as (λ _. LiteralHolds (IsFact spec layout bytes) b its) [
            | inl holds ↦ holds
            | inr fails ↦ absurd (no_one k (record { its = its; template = template; is = record { literal_is = at; template_is = record { number = number; way_is = way }; is_false = fails } }))
          ]

    -- so some can, where no conjunction is true
    due_literal : (conj : ℕ) → TestsHold (IsFact spec layout bytes) b c row conj → conj < length c.conjs → All (λ d. ConjHolds (IsFact spec layout bytes) b d → ⊥) c.conjs
        → (k : ℕ) × (IsRepairable (IsFact spec layout bytes) b c row conj k × ((j : ℕ) → j < k → IsRepairable (IsFact spec layout bytes) b c row conj j → ⊥))
    due_literal conj tests within violated = elim (some_one (IsRepairable (IsFact spec layout bytes) b c row conj) (repairables conj)) as (λ _. (k : ℕ) × (IsRepairable (IsFact spec layout bytes) b c row conj k × ((j : ℕ) → j < k → IsRepairable (IsFact spec layout bytes) b c row conj j → ⊥))) [
      | inl some ↦ least_number (IsRepairable (IsFact spec layout bytes) b c row conj) (repairable_decided conj) some.0 some.1
      | inr none ↦
          let d = item_there c.conjs conj within in
          absurd (found_holds (λ d. ConjHolds (IsFact spec layout bytes) b d → ⊥) c.conjs conj d.0 violated d.1 (all_true conj d.0 d.1 tests (λ k r. none (k, r))))
    ]

  -- ---- what is counted

  module _ (image : IsImageOf spec layout bytes) where
    active_for_decided : (symbol : Symbol) (i : Instance) → IsDecided (IsActiveFor spec layout bytes symbol i)
    active_for_decided symbol i = by_rule (slice_get spec.rules i.rule) refl where
      by_rule : (o : Option Rule) → slice_get spec.rules i.rule ≡ o → IsDecided (IsActiveFor spec layout bytes symbol i)
      by_rule None is = inr (λ a. let both : None ≡ Some a.rule = sym is ∙ a.giver.rule_is in absurd cc)
      by_rule (Some rule) is =
          by_logic (λ (h : (gives symbol rule.inc ≡ true) × _). record { rule = rule; giver = record { rule_is = is; gives = h.0 }; active = h.1 })
          (λ a. (subst (λ (r : Rule). gives symbol r.inc ≡ true) (same_Some a.rule rule (sym a.giver.rule_is ∙ is)) a.giver.gives, a.active))
          (both (is_true (gives symbol rule.inc)) (active_decided spec layout bytes i))

    many_active : (symbol : Symbol) → (n : ℕ) × AreMany (IsActiveFor spec layout bytes symbol) n
    many_active symbol =
        many (IsActiveFor spec layout bytes symbol) compared_instances
        (picked_of (IsActiveFor spec layout bytes symbol) (all spec layout bytes image).instances (active_for_decided symbol) (λ i a. active_there spec layout bytes image i a.active))

    to_stop : (symbol : Symbol) (goal : Goal) → (n : ℕ) × AreToStop spec layout bytes symbol goal n
    to_stop symbol goals.RemoveSet = many_active symbol
    to_stop symbol goals.RemoveTuple = many_active symbol
    to_stop symbol goals.Trim = many_active symbol
    to_stop symbol goals.ExactlyOne = many_active symbol
    to_stop symbol goals.AddSet = (0, refl)
    to_stop symbol goals.AddTuple = (0, refl)
    to_stop symbol goals.SetValue = (0, refl)
    to_stop symbol goals.Supply = (0, refl)

    module _ (vs : List BoundConstraint) (are : AreViolations (IsFact spec layout bytes) spec vs) where
      violated_listed : IsListed (IsViolated (IsFact spec layout bytes) spec)
      violated_listed = record { things = vs; all = are.all; only = are.only }

      row_decided : (level : ℕ) (o : Option Row) → IsDecided ((row : Row) × ((o ≡ Some row) × (row.level ≡ level)))
      row_decided level None = inr (λ h. let e = h.1.0 in absurd cc)
      row_decided level (Some row) =
          by_logic (λ e. (row, (refl, e))) (λ h. ap (λ (r : Row). r.level) (same_Some row h.0 h.1.0) ∙ h.1.1) (numbers row.level level)

      other_listed : (v : BoundConstraint) (level : ℕ) → IsListed (IsOther (IsFact spec layout bytes) spec choice v level)
      other_listed v level =
          alike (λ w. IsViolated (IsFact spec layout bytes) spec w × ((w ≢ v) × ((row : Row) × ((slice_get choice.rows w.constraint ≡ Some row) × (row.level ≡ level))))) (IsOther (IsFact spec layout bytes) spec choice v level)
          (λ w h. record { violated = h.0; other = h.1.0; row = h.1.1.0; row_is = h.1.1.1.0; level_is = h.1.1.1.1 })
          (λ w o. (o.violated, (o.other, (o.row, (o.row_is, o.level_is)))))
          (those (IsViolated (IsFact spec layout bytes) spec) (λ w. (w ≢ v) × ((row : Row) × ((slice_get choice.rows w.constraint ≡ Some row) × (row.level ≡ level)))) violated_listed
          (λ w _. both (opposite (same_or_other w v)) (row_decided level (slice_get choice.rows w.constraint))))

      -- all of it, for the binding that is due
      left_there : (v : BoundConstraint) → IsBest level_of vs v → (n : ℕ) × IsRemaining spec choice layout bytes n
      left_there v best =
          let violated = are.only v best.among in
          let c = violated.constraint in
          let as_many = plan.as_many in
          let within = slice_get_within spec.constraints v.constraint c violated.declared in
          let row = row_there choice.rows v.constraint (omega (arith, as_many, within)) in
          let row_of : IsRowOf spec choice v.constraint c row.0 = record { constraint_is = violated.declared; row_is = row.1 } in
          let conj = due_conj v.binding v.constraint c row.0 row_of in
          let literal = due_literal v.binding v.constraint c row.0 row_of conj.0 conj.1.tests conj.1.there violated.no_conjunction in
          let repair = literal.1.0 in
          let m = instances_and_one spec (length bytes) in
          let stop = to_stop (atom_symbol repair.its.atom) repair.template.goal in
          let repairs = many (IsRepairable (IsFact spec layout bytes) v.binding c row.0 conj.0) numbers (repairables v.binding v.constraint c row.0 row_of conj.0) in
          let others = many (IsOther (IsFact spec layout bytes) spec choice v row.0.level) same_or_other (other_listed v row.0.level) in
          let n = stop.0 + 1 + (repairs.0 - 1) * m + conj.0 * conj_cost m c + (total (cost_of spec m) others.1.things + higher_cost m row.0.level choice.rows spec.constraints) in (
            n,
            left v c row.0 conj.0 literal.0 repair.its repair.template n (record {
              binding_is = due_binding vs v best are.all violated row.0 row.1;
              conj_is = conj.1;
              literal_is = record {
                repaired = repair.is;
                none_before = λ earlier other by less is. literal.1.1 earlier less (record { its = other; template = by; is = is });
              };
              to_stop = stop.0;
              are_to_stop = stop.1;
              to_repair = repairs.0;
              are_to_repair = repairs.1;
              others = others.1.things;
              are_others = others.1.enumerated;
              number = refl;
            }),
          )

    pub remaining_there : (n : ℕ) × IsRemaining spec choice layout bytes n
    remaining_there = let vs = in_order (IsFact spec layout bytes) (facts_listed spec layout bytes) spec in by_list vs.0 vs.1 where
      by_list : (vs : List BoundConstraint) → AreViolations (IsFact spec layout bytes) spec vs → (n : ℕ) × IsRemaining spec choice layout bytes n
      by_list [] are = (0, none_left (λ v violated. are.all v violated))
      by_list (v ∷ vs) are = let best = best_of level_of v vs are.in_order in left_there (v ∷ vs) are best.0 best.1
