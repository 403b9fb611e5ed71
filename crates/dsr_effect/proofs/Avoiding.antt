-- Sets are marked until none follows from the marked ones.
use Rattle.std.proofs.Common.{◌≡◌, ◌<◌, ◌≤◌, ◌+◌, ◌↔◌, ◌∙◌, inl, inr, ℕ, suc, Bool, true, false, List, [], ◌∷◌, length, get_or, set, replicate, None, Some, IfSome, IsSome, IsSomeAnd, MatchBool, min, slice_get, refl, sym, ap, subst, arith}
use Rattle.std.specs.Option.{option_and_then}
use Rattle.std.proofs.lemmas.Bool.{cases_lt}
use Rattle.std.proofs.lemmas.List.{length-set}
use Rattle.std.proofs.lemmas.Option.{same_Some, slice_get_within}
use Rattle.dsr_effect.specs.AvoidedMarks.{AreAvoided, AreNamed, AreStillMarked, IsClosed, IsGivenAvoided, unmarked}
use Rattle.dsr_facts.proofs.Following.{fewer_open}
use Rattle.dsr_facts.specs.Marks.{IsMarked}
use Rattle.dsr_ir.specs.declared.declarations.Spec.{Spec}
use Rattle.dsr_ir.specs.declared.rules.Rule.{Rule}
use Rattle.dsr_ir.specs.declared.updates.Symbol.TheVariants.{Set}
use Rattle.dsr_facts.proofs.Marking.{marked_from, marked_here, marked_still, none_marked}
use Rattle.dsr_meaning.proofs.Firing.{found_fits}
use Rattle.dsr_meaning.specs.Counting.{IsIn}
use Rattle.dsr_meaning.specs.Typed.{IsTyped, IsTypedRule}
use Rattle.dsr_update_theory.specs.Avoided.{IsAvoided}
use Rattle.dsr_update_theory.specs.Avoided.IsAvoided.{named, given}
use Rattle.dsr_update_theory.specs.Givers.{IsGiver}
use Rattle.dsr_facts.proofs.Listing.{item_in}
use Rattle.dsr_meaning.proofs.Options.{some_of}
use Rattle.dsr_meaning.proofs.Items.{item_there}
use Rattle.dsr_facts.proofs.Givers.{within}

-- ---- the named sets

-- the names so far are marked, and nothing else is
pub record IsNaming (avoid : List ℕ) (marks : List Bool) (i : ℕ) : Type 0 where
  pub places : length marks ≡ 64
  pub sound : (n : ℕ) → IsMarked marks n → IsIn n avoid
  pub so_far : (k : ℕ) → k < i → get_or avoid k 0 < 64 → IsMarked marks (get_or avoid k 0)

place_of : (xs : List ℕ) (x : ℕ) → IsIn x xs → (k : ℕ) × (k < length xs) × (get_or xs k 0 ≡ x)
place_of [] x h = absurd h
place_of (y ∷ ys) x (inl same) = (0, omega arith, sym same)
place_of (y ∷ ys) x (inr later) = let at = place_of ys x later in (suc at.0, omega (arith, at.1), at.2)

pub naming_begins : (avoid : List ℕ) → IsNaming avoid (replicate 64 false) 0
naming_begins avoid = record {
  places = refl;
  sound = λ n h. absurd (none_marked 64 n h);
  so_far = λ k less small. absurd (omega (arith, less));
}

pub naming_more : (avoid : List ℕ) (marks : List Bool) (i : ℕ) → i < length avoid → get_or avoid i 0 < 64 → IsNaming avoid marks i → IsNaming avoid (set marks (get_or avoid i 0) true) (i + 1)
naming_more avoid marks i less small far = record {
  places = length-set marks (get_or avoid i 0) true ∙ far.places;
  sound = λ n h. elim (marked_from marks (get_or avoid i 0) n h) [
    | inl old ↦ far.sound n old
    | inr same ↦ subst (λ m. IsIn m avoid) (sym same) (item_in avoid i less)
  ];
  so_far = λ k before fits. elim (cases_lt k i) [
    | inl old ↦ marked_still marks (get_or avoid i 0) (get_or avoid k 0) (far.so_far k old fits)
    | inr last ↦
        let same : i ≡ k = omega (arith, before, last) in
        subst (λ j. IsMarked (set marks (get_or avoid i 0) true) (get_or avoid j 0)) same (marked_here marks (get_or avoid i 0) (omega (arith, small, far.places)))
  ];
}

pub naming_same : (avoid : List ℕ) (marks : List Bool) (i : ℕ) → 64 ≤ get_or avoid i 0 → IsNaming avoid marks i → IsNaming avoid marks (i + 1)
naming_same avoid marks i large far = record {
  places = far.places;
  sound = far.sound;
  so_far = λ k before fits. elim (cases_lt k i) [
    | inl old ↦ far.so_far k old fits
    | inr last ↦
        let same : k ≡ i = omega (arith, before, last) in
        let at : get_or avoid k 0 ≡ get_or avoid i 0 = ap (λ j. get_or avoid j 0) same in
        absurd (omega (arith, fits, large, at))
  ];
}

pub naming_ends : (avoid : List ℕ) (marks : List Bool) (i : ℕ) → length avoid ≤ i → IsNaming avoid marks i → AreNamed avoid marks
naming_ends avoid marks i all far = λ n small among.
    let at = place_of avoid n among in
    subst (IsMarked marks) at.2 (far.so_far at.0 (omega (arith, at.1, all)) (omega (arith, at.2, small)))

-- ---- one round

-- the sets so far were asked: some was marked, or none was and these follow from no marked ones
pub record IsMarking (spec : Spec) (start marks : List Bool) (grew : Bool) (i : ℕ) : Type 0 where
  pub places : length marks ≡ 64
  pub sound : (avoid : List ℕ) → AreAvoided spec avoid start → AreAvoided spec avoid marks
  pub kept : AreStillMarked start marks
  pub progress :
      MatchBool grew (unmarked marks < unmarked start)
      ((marks ≡ start) × ((n : ℕ) → n < i → IsGivenAvoided spec marks n → IsMarked marks n))

-- what follows from avoided sets is avoided
given_avoided : (spec : Spec) (avoid : List ℕ) (marks : List Bool) (n : ℕ) → AreAvoided spec avoid marks → IsGivenAvoided spec marks n → IsAvoided spec avoid n
given_avoided spec avoid marks n sound found =
    given n (ap (option_and_then (λ d. d.except)) found.declared_is ∙ found.plain)
    (λ k rule giver.
    let gives = found.each k rule giver.rule_is giver.gives in
    record { premise = subst IsSome (sym gives.premise_is) refl; own = gives.own })
    (λ k rule premise giver is.
    let gives = found.each k rule giver.rule_is giver.gives in
    subst (IsAvoided spec avoid) (same_Some _ _ (sym gives.premise_is ∙ is)) (sound gives.premise gives.marked))

pub marking_begins : (spec : Spec) (start : List Bool) → length start ≡ 64 → IsMarking spec start start false 0
marking_begins spec start places = record {
  places = places;
  sound = λ avoid sound. sound;
  kept = λ n h. h;
  progress = (refl, λ n less found. absurd (omega (arith, less)));
}

module _ (spec : Spec) (start marks : List Bool) (grew : Bool) (i : ℕ) (far : IsMarking spec start marks grew i) where
  pub marking_more : i < 64 → get_or marks i false ≡ false → IsGivenAvoided spec marks i → IsMarking spec start (set marks i true) true (i + 1)
  marking_more small open_is found = record {
    places = length-set marks i true ∙ far.places;
    sound = λ avoid sound n h. elim (marked_from marks i n h) [
      | inl old ↦ far.sound avoid sound n old
      | inr same ↦ subst (IsAvoided spec avoid) (sym same) (given_avoided spec avoid marks i (far.sound avoid sound) found)
    ];
    kept = λ n h. marked_still marks i n (far.kept n h);
    progress =
        let fewer = fewer_open marks i (omega (arith, small, far.places)) open_is in
        elim grew as (λ b. MatchBool b (unmarked marks < unmarked start) ((marks ≡ start) × ((n : ℕ) → n < i → IsGivenAvoided spec marks n → IsMarked marks n)) → unmarked (set marks i true) < unmarked start) [
          | true ↦ λ p. omega (arith, p, fewer)
          | false ↦ λ p. omega (arith, ap unmarked p.0, fewer)
        ] far.progress;
  }

  pub marking_same : (IsGivenAvoided spec marks i → IsMarked marks i) → IsMarking spec start marks grew (i + 1)
  marking_same closed = record {
    places = far.places;
    sound = far.sound;
    kept = far.kept;
    progress = elim grew as (λ b. MatchBool b (unmarked marks < unmarked start) ((marks ≡ start) × ((n : ℕ) → n < i → IsGivenAvoided spec marks n → IsMarked marks n)) → MatchBool b (unmarked marks < unmarked start) ((marks ≡ start) × ((n : ℕ) → n < i + 1 → IsGivenAvoided spec marks n → IsMarked marks n))) [
      | true ↦ λ p. p
      | false ↦ λ p. (
        p.0,
        λ n before found. elim (cases_lt n i) [
          | inl old ↦ p.1 n old found
          | inr last ↦
              let same : i ≡ n = omega (arith, before, last) in
              subst (IsMarked marks) same (closed (subst (IsGivenAvoided spec marks) (sym same) found))
        ],
      )
    ] far.progress;
  }

pub marking_ends : (spec : Spec) (start marks : List Bool) (grew : Bool) (i : ℕ) → min (length spec.base.sets) 64 ≤ i → IsMarking spec start marks grew i → MatchBool grew (unmarked marks < unmarked start) (IsClosed spec marks)
marking_ends spec start marks true i all far = far.progress
marking_ends spec start marks false i all far = λ n small found.
    far.progress.1 n (omega (arith, all, small, slice_get_within spec.base.sets n found.declared found.declared_is)) found

-- ---- all rounds

premise_declared : (spec : Spec) → IsTyped spec → (k : ℕ) (rule : Rule) (premise : ℕ) → slice_get spec.rules k ≡ Some rule → rule.premise ≡ Some premise → premise < length spec.base.sets
premise_declared spec typed k rule premise rule_is is =
    within (λ s. s.except ≡ None) spec.base.sets premise
    (subst (λ o. IfSome o (λ n. IsSomeAnd (slice_get spec.base.sets n) (λ s. s.except ≡ None))) is (found_fits (IsTypedRule spec.base) spec.rules k rule typed.rules rule_is).premise)

all_marked : (spec : Spec) (avoid : List ℕ) (marks : List Bool) → IsTyped spec → AreNamed avoid marks → IsClosed spec marks → (n : ℕ) → n < length spec.base.sets → IsAvoided spec avoid n → IsMarked marks n
all_marked spec avoid marks typed names closed n declared (named _ among) = names n (omega (arith, declared, typed.base.few_symbols)) among
all_marked spec avoid marks typed names closed n declared (given _ plain each before) =
    let at = item_there spec.base.sets n declared in
    closed n (omega (arith, declared, typed.base.few_symbols)) (record {
      declared = at.0;
      declared_is = at.1;
      plain = sym (ap (option_and_then (λ d. d.except)) at.1) ∙ plain;
      each = λ k rule rule_is gives.
          let giver : IsGiver spec (Set n) k rule = record { rule_is = rule_is; gives = gives } in
          let premise = some_of rule.premise (each k rule giver).premise in
          record {
            premise = premise.0;
            premise_is = premise.1;
            own = (each k rule giver).own;
            marked = all_marked spec avoid marks typed names closed premise.0 (premise_declared spec typed k rule premise.0 rule_is premise.1) (before k rule premise.0 giver premise.1);
          };
    })

pub exactly_avoided : (spec : Spec) (avoid : List ℕ) (marks : List Bool) → IsTyped spec → AreAvoided spec avoid marks → AreNamed avoid marks → IsClosed spec marks → (n : ℕ) → n < length spec.base.sets → IsMarked marks n ↔ IsAvoided spec avoid n
exactly_avoided spec avoid marks typed sound names closed n declared = (sound n, all_marked spec avoid marks typed names closed n declared)

pub named_sound : (spec : Spec) (avoid : List ℕ) (marks : List Bool) → ((n : ℕ) → IsMarked marks n → IsIn n avoid) → AreAvoided spec avoid marks
named_sound spec avoid marks sound = λ n h. named n (sound n h)

pub names_still : (avoid : List ℕ) (marks after : List Bool) → AreStillMarked marks after → AreNamed avoid marks → AreNamed avoid after
names_still avoid marks after still names = λ n small among. still n (names n small among)
