-- Stuck ways, one template after the other.
use Rattle.std.proofs.Common.{◌≡◌, ◌<◌, ◌≤◌, ◌+◌, ◌-◌, ◌++◌, ◌⊎◌, inl, inr, ℕ, true, false, nat_lt, nat_eq, List, [], ◌∷◌, None, Some, MatchOption, length, slice_get, refl, sym, ap, subst, ◌∙◌, arith}
use Rattle.std.proofs.lemmas.Bool.Decides.{nat_tests}
use Rattle.std.proofs.lemmas.Option.{slice_get_within, same_Some}
use Rattle.dsr_graph_theory.specs.Breaks.{Falsifies}
use Rattle.dsr_graph_theory.specs.declared.causes.Reason.{Reason}
use Rattle.dsr_ir.specs.declared.updates.Template.{Template}
use Rattle.dsr_graph_theory.specs.Lists.{AreListed, AreListedOf}
use Rattle.dsr_graph_theory.specs.Owners.{Owner}
use Rattle.dsr_meaning.proofs.Lists.{in_front_or_last, last_in}
use Rattle.dsr_meaning.specs.Counting.{IsIn}
use Rattle.dsr_plan_theory.specs.StuckSets.{AreStuckWays, BreaksFor, BreaksMember, IsFirst, IsStuckWay, WayComes}
use Rattle.dsr_plan_theory.specs.Stuck.{SparesMembers}
use Rattle.dsr_plan_theory.specs.declared.refusals.StuckWay.{StuckWay}
use Rattle.dsr_removal.proofs.Firsts.{first_one, reason_for_one}
use Rattle.dsr_removal.proofs.Items.{in_order_more}
use Rattle.dsr_removal.specs.Ways.{AreWaysBefore, ComesBefore, IsAt, IsFirstBroken, IsNoWay, IsWayAt}
use Rattle.dsr_update_theory.specs.Templates.{literal_at}
use Rattle.dsr_meaning.proofs.Items.{in_left}
use Rattle.dsr_meaning.proofs.Numbers.{below_next}

at_or_below : (a b : ℕ) → a ≤ b + 1 → (a ≤ b) ⊎ (a ≡ b + 1)
at_or_below a b most =
    elim (nat_eq a (b + 1)) as (λ t. nat_eq a (b + 1) ≡ t → (a ≤ b) ⊎ (a ≡ b + 1)) [
      | true ↦ λ e. inr (grind (arith, nat_tests))
      | false ↦ λ e. inl (grind (arith, nat_tests))
    ] refl

-- ---- places

earlier_or_at : (w : StuckWay) (conj literal count : ℕ) → ComesBefore w conj literal (count + 1) → ComesBefore w conj literal count ⊎ IsAt conj literal (count + 1) w
earlier_or_at w conj literal count (inl less) = inl (inl less)
earlier_or_at w conj literal count (inr rest) = by rest.1 where
  by : ((w.literal < literal) ⊎ ((w.literal ≡ literal) × (w.way ≤ count + 1))) → ComesBefore w conj literal count ⊎ IsAt conj literal (count + 1) w
  by (inl less) = inl (inr (rest.0, inl less))
  by (inr same) = elim (at_or_below w.way count same.1) as (λ _. ComesBefore w conj literal count ⊎ IsAt conj literal (count + 1) w) [
    | inl most ↦ inl (inr (rest.0, inr (same.0, most)))
    | inr number ↦ inr (record { conj_is = rest.0; literal_is = same.0; number_is = number })
  ]

before_more : (w : StuckWay) (conj literal count : ℕ) → ComesBefore w conj literal count → ComesBefore w conj literal (count + 1)
before_more w conj literal count (inl less) = inl less
before_more w conj literal count (inr rest) = by rest.1 where
  by : ((w.literal < literal) ⊎ ((w.literal ≡ literal) × (w.way ≤ count))) → ComesBefore w conj literal (count + 1)
  by (inl less) = inr (rest.0, inl less)
  by (inr same) = let most = same.1 in inr (rest.0, inr (same.0, omega (arith, most)))

at_before : (w : StuckWay) (conj literal count : ℕ) → IsAt conj literal (count + 1) w → ComesBefore w conj literal (count + 1)
at_before w conj literal count its = let number = its.number_is in inr (its.conj_is, inr (its.literal_is, omega (arith, number)))

comes_then : (v w : StuckWay) (conj literal count : ℕ) → ComesBefore v conj literal count → IsAt conj literal (count + 1) w → WayComes v w
comes_then v w conj literal count (inl less) its = let conj_is = its.conj_is in inl (omega (arith, less, conj_is))
comes_then v w conj literal count (inr rest) its = by rest.1 where
  by : ((v.literal < literal) ⊎ ((v.literal ≡ literal) × (v.way ≤ count))) → WayComes v w
  by (inl less) = let literal_is = its.literal_is in inr (rest.0 ∙ sym its.conj_is, inl (omega (arith, less, literal_is)))
  by (inr same) =
      let most = same.1 in
      let number = its.number_is in
      inr (rest.0 ∙ sym its.conj_is, inr (same.0 ∙ sym its.literal_is, omega (arith, most, number)))

-- ---- the first literal of all

module _ (owner : Owner) (Member : ℕ → Type 0) where
  not_before_all : (w : StuckWay) → IsStuckWay owner Member w → ComesBefore w 0 0 0 → ⊥
  not_before_all w its (inl less) = absurd (omega (arith, less))
  not_before_all w its (inr rest) = by rest.1 where
    by : ((w.literal < 0) ⊎ ((w.literal ≡ 0) × (w.way ≤ 0))) → ⊥
    by (inl less) = absurd (omega (arith, less))
    by (inr same) =
        let most = same.1 in
        let one = its.listed.from_one in
        absurd (omega (arith, most, one))

  pub no_ways : AreWaysBefore owner Member 0 0 0 []
  no_ways = record {
    in_order = tt;
    all = λ w its comes. absurd (not_before_all w its comes);
    only = λ w among. absurd among;
  }

  -- a template that is no stuck way is gone by
  pub one_passed : (conj literal count : ℕ) (ways : List StuckWay) → IsNoWay owner Member conj literal (count + 1) → AreWaysBefore owner Member conj literal count ways → AreWaysBefore owner Member conj literal (count + 1) ways
  one_passed conj literal count ways none_is before = record {
    in_order = before.in_order;
    all = λ w its comes. elim (earlier_or_at w conj literal count comes) as (λ _. IsIn w ways) [
      | inl earlier ↦ before.all w its earlier
      | inr here ↦ absurd (none_is w here its)
    ];
    only = λ w among. let its = before.only w among in (its.0, before_more w conj literal count its.1);
  }

  -- a literal has no way where it isn't there
  no_literal : (w : StuckWay) → IsStuckWay owner Member w → literal_at owner.constraint w.conj w.literal ≡ None → ⊥
  no_literal w its none_is =
      let empty : its.listed.templates ≡ [] = subst (λ o. MatchOption o (its.listed.templates ≡ []) (λ l. AreListed owner w.conj w.literal l.atom its.listed.templates)) none_is its.listed.listed in
      let there : None ≡ Some its.template = sym (ap (λ ts. slice_get ts (w.way - 1)) empty) ∙ its.listed.template_is in
      absurd cc

  conj_passed : (w : StuckWay) → IsStuckWay owner Member w → (conj literal : ℕ) → ((n : ℕ) → literal ≤ n → literal_at owner.constraint conj n ≡ None) → ComesBefore w (conj + 1) 0 0 → ComesBefore w conj literal 0
  conj_passed w its conj literal beyond (inl less) = elim (below_next w.conj conj less) as (λ _. ComesBefore w conj literal 0) [
    | inl lower ↦ inl lower
    | inr same ↦ elim (nat_lt w.literal literal) as (λ t. nat_lt w.literal literal ≡ t → ComesBefore w conj literal 0) [
      | true ↦ λ e. let lower : w.literal < literal = grind (arith, nat_tests) in inr (same, inl lower)
      | false ↦ λ e.
          let past : literal ≤ w.literal = grind (arith, nat_tests) in
          absurd (no_literal w its (ap (λ c. literal_at owner.constraint c w.literal) same ∙ beyond w.literal past))
    ] refl
  ]
  conj_passed w its conj literal beyond (inr rest) = by rest.1 where
    by : ((w.literal < 0) ⊎ ((w.literal ≡ 0) × (w.way ≤ 0))) → ComesBefore w conj literal 0
    by (inl less) = absurd (omega (arith, less))
    by (inr same) =
        let most = same.1 in
        let one = its.listed.from_one in
        absurd (omega (arith, most, one))

  later_conj : (w : StuckWay) (conj literal : ℕ) → ComesBefore w conj literal 0 → ComesBefore w (conj + 1) 0 0
  later_conj w conj literal (inl less) = inl (omega (arith, less))
  later_conj w conj literal (inr rest) = let same = rest.0 in inl (omega (arith, same))

  -- a conjunction is gone over where all of its literals are
  pub next_conj : (conj literal : ℕ) (ways : List StuckWay) → ((n : ℕ) → literal ≤ n → literal_at owner.constraint conj n ≡ None) → AreWaysBefore owner Member conj literal 0 ways → AreWaysBefore owner Member (conj + 1) 0 0 ways
  next_conj conj literal ways beyond before = record {
    in_order = before.in_order;
    all = λ w its comes. before.all w its (conj_passed w its conj literal beyond comes);
    only = λ w among. let its = before.only w among in (its.0, later_conj w conj literal its.1);
  }

  -- and all ways are found where all conjunctions are
  pub ways_whole : (conj : ℕ) (ways : List StuckWay) → ((m n : ℕ) → conj ≤ m → literal_at owner.constraint m n ≡ None) → AreWaysBefore owner Member conj 0 0 ways → AreStuckWays owner Member ways
  ways_whole conj ways beyond before = record {
    in_order = before.in_order;
    all = λ w its. elim (nat_lt w.conj conj) as (λ t. nat_lt w.conj conj ≡ t → IsIn w ways) [
      | true ↦ λ e. let lower : w.conj < conj = grind (arith, nat_tests) in before.all w its (inl lower)
      | false ↦ λ e. let past : conj ≤ w.conj = grind (arith, nat_tests) in absurd (no_literal w its (beyond w.conj w.literal past))
    ] refl;
    only = λ w among. (before.only w among).0;
  }

-- ---- what is listed, as the graph has it

module _ (owner : Owner) (Member : ℕ → Type 0) (templates : ℕ → ℕ → List Template) (only : (conj literal : ℕ) (ts : List Template) → AreListedOf owner conj literal ts → ts ≡ templates conj literal) where
  pub template_at : (w : StuckWay) (its : IsStuckWay owner Member w) → slice_get (templates w.conj w.literal) (w.way - 1) ≡ Some its.template
  template_at w its = sym (ap (λ ts. slice_get ts (w.way - 1)) (only w.conj w.literal its.listed.templates its.listed.listed)) ∙ its.listed.template_is

  -- two ways of one template are one
  same_way : (v w : StuckWay) → IsStuckWay owner Member v → IsStuckWay owner Member w → v.conj ≡ w.conj → v.literal ≡ w.literal → v.way ≡ w.way → v ≡ w
  same_way v w a b conj literal way =
      let moved : slice_get (templates v.conj v.literal) (v.way - 1) ≡ slice_get (templates w.conj w.literal) (w.way - 1) = λ i. slice_get (templates (conj i) (literal i)) (way i - 1) in
      let template : a.template ≡ b.template = same_Some a.template b.template (sym (template_at v a) ∙ (moved ∙ template_at w b)) in
      let breaks : v.breaks ≡ w.breaks = first_one (BreaksMember owner Member a.template) v.breaks w.breaks a.first (subst (λ t. IsFirst (BreaksMember owner Member t) w.breaks) (sym template) b.first) in
      let its : BreaksFor owner b.template w.breaks v.reason = subst (λ t. BreaksFor owner t w.breaks v.reason) template (subst (λ n. BreaksFor owner a.template n v.reason) breaks a.reason_is) in
      let reason : v.reason ≡ w.reason = reason_for_one owner b.template w.breaks v.reason w.reason its b.reason_is in
      λ i. record { conj = conj i; literal = literal i; way = way i; breaks = breaks i; reason = reason i }

  -- a template that is a stuck way is put behind the others
  pub one_more : (conj literal count : ℕ) (ways : List StuckWay) (w : StuckWay) → IsWayAt owner Member conj literal (count + 1) w → AreWaysBefore owner Member conj literal count ways → AreWaysBefore owner Member conj literal (count + 1) (ways ++ w ∷ [])
  one_more conj literal count ways w its before = record {
    in_order = in_order_more WayComes ways w before.in_order (λ v among. comes_then v w conj literal count (before.only v among).1 its.is_at);
    all = λ v stuck comes. elim (earlier_or_at v conj literal count comes) as (λ _. IsIn v (ways ++ w ∷ [])) [
      | inl earlier ↦ in_left v ways (w ∷ []) (before.all v stuck earlier)
      | inr here ↦
          let same = same_way v w stuck its.stuck (here.conj_is ∙ sym its.is_at.conj_is) (here.literal_is ∙ sym its.is_at.literal_is) (here.number_is ∙ sym its.is_at.number_is) in
          subst (λ x. IsIn x (ways ++ w ∷ [])) (sym same) (last_in w ways)
    ];
    only = λ v among. elim (in_front_or_last w v ways among) as (λ _. IsStuckWay owner Member v × ComesBefore v conj literal (count + 1)) [
      | inl front ↦ let those = before.only v front in (those.0, before_more v conj literal count those.1)
      | inr last ↦ subst (λ x. IsStuckWay owner Member x × ComesBefore x conj literal (count + 1)) (sym last) (its.stuck, at_before w conj literal count its.is_at)
    ];
  }

  few : (w : StuckWay) → IsStuckWay owner Member w → w.way ≤ length (templates w.conj w.literal)
  few w its =
      let below = slice_get_within (templates w.conj w.literal) (w.way - 1) its.template (template_at w its) in
      let one = its.listed.from_one in
      omega (arith, below, one)

  literal_passed : (w : StuckWay) → IsStuckWay owner Member w → (conj literal count : ℕ) → length (templates conj literal) ≤ count → ComesBefore w conj (literal + 1) 0 → ComesBefore w conj literal count
  literal_passed w its conj literal count most (inl less) = inl less
  literal_passed w its conj literal count most (inr rest) = by rest.1 where
    by : ((w.literal < literal + 1) ⊎ ((w.literal ≡ literal + 1) × (w.way ≤ 0))) → ComesBefore w conj literal count
    by (inl less) = elim (below_next w.literal literal less) as (λ _. ComesBefore w conj literal count) [
      | inl lower ↦ inr (rest.0, inl lower)
      | inr same ↦
          let all : w.way ≤ length (templates conj literal) = subst (λ l. w.way ≤ length (templates conj l)) same (subst (λ c. w.way ≤ length (templates c w.literal)) rest.0 (few w its)) in
          inr (rest.0, inr (same, omega (arith, all, most)))
    ]
    by (inr same) =
        let none_is = same.1 in
        let one = its.listed.from_one in
        absurd (omega (arith, none_is, one))

  later_literal : (w : StuckWay) (conj literal count : ℕ) → ComesBefore w conj literal count → ComesBefore w conj (literal + 1) 0
  later_literal w conj literal count (inl less) = inl less
  later_literal w conj literal count (inr rest) = by rest.1 where
    by : ((w.literal < literal) ⊎ ((w.literal ≡ literal) × (w.way ≤ count))) → ComesBefore w conj (literal + 1) 0
    by (inl less) = inr (rest.0, inl (omega (arith, less)))
    by (inr same) = let here = same.0 in inr (rest.0, inl (omega (arith, here)))

  -- a literal is gone over where all of its templates are
  pub next_literal : (conj literal count : ℕ) (ways : List StuckWay) → length (templates conj literal) ≤ count → AreWaysBefore owner Member conj literal count ways → AreWaysBefore owner Member conj (literal + 1) 0 ways
  next_literal conj literal count ways most before = record {
    in_order = before.in_order;
    all = λ w its comes. before.all w its (literal_passed w its conj literal count most comes);
    only = λ w among. let its = before.only w among in (its.0, later_literal w conj literal count its.1);
  }

  -- ---- the template with a number, counted from 0

  module _ (conj literal number : ℕ) (template : Template) (there : slice_get (templates conj literal) number ≡ Some template) where
    its_template : (w : StuckWay) → IsAt conj literal (number + 1) w → (its : IsStuckWay owner Member w) → its.template ≡ template
    its_template w at its =
        let number_is = at.number_is in
        let place : w.way - 1 ≡ number = omega (arith, number_is) in
        let conj_is = at.conj_is in
        let literal_is = at.literal_is in
        let moved : slice_get (templates w.conj w.literal) (w.way - 1) ≡ slice_get (templates conj literal) number = λ i. slice_get (templates (conj_is i) (literal_is i)) (place i) in
        same_Some its.template template (sym (template_at w its) ∙ (moved ∙ there))

    falsifies_there : (w : StuckWay) → IsAt conj literal (number + 1) w → IsStuckWay owner Member w → Falsifies owner conj literal template None
    falsifies_there w at its =
        subst (λ t. Falsifies owner conj literal t None) (its_template w at its)
        (subst (λ l. Falsifies owner conj l its.template None) at.literal_is
        (subst (λ c. Falsifies owner c w.literal its.template None) at.conj_is its.falsifies_none))

    -- it is no stuck way where it falsifies a literal, or breaks no member
    pub falsifying : (Falsifies owner conj literal template None → ⊥) → IsNoWay owner Member conj literal (number + 1)
    falsifying falsifies w at its = falsifies (falsifies_there w at its)

    pub sparing : SparesMembers owner Member template → IsNoWay owner Member conj literal (number + 1)
    sparing spares w at its =
        let breaks = subst (λ t. BreaksMember owner Member t w.breaks) (its_template w at its) its.first.is in
        spares w.breaks breaks.breaks.other breaks.reason breaks.member breaks.breaks.other_is breaks.breaks.breaks

    -- and else it is one
    pub way_here : (listed : AreListedOf owner conj literal (templates conj literal)) → Falsifies owner conj literal template None → (breaks : ℕ) (reason : Reason) → IsFirstBroken owner Member template breaks reason → IsWayAt owner Member conj literal (number + 1) (record { conj = conj; literal = literal; way = number + 1; breaks = breaks; reason = reason })
    way_here listed falsifies breaks reason its = record {
      is_at = record { conj_is = refl; literal_is = refl; number_is = refl };
      stuck = record {
        template = template;
        listed = record {
          templates = templates conj literal;
          listed = listed;
          from_one = omega arith;
          template_is = let place : number + 1 - 1 ≡ number = omega arith in ap (slice_get (templates conj literal)) place ∙ there;
        };
        falsifies_none = falsifies;
        first = its.first;
        reason_is = its.reason_is;
      };
    }
