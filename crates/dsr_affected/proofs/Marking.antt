-- Symbols are marked until none follows from the marked ones.
use Rattle.std.proofs.Common.{◌≡◌, ◌<◌, ◌≤◌, ◌+◌, ◌↔◌, ◌∙◌, ℕ, zero, suc, Bool, true, false, List, [], ◌∷◌, ◌++◌, length, get_or, set, replicate, Option, None, Some, IsTrue, slice_get, inl, inr, refl, sym, ap, subst, arith}
use Rattle.std.specs.Prelude.{MatchOption, ◌&&◌, ◌||◌, not}
use Rattle.std.specs.Option.{option_and_then, option_map_or}
use Rattle.std.proofs.lemmas.Bool.{cases_lt, eq-eqb}
use Rattle.std.proofs.lemmas.List.{length-set}
use Rattle.std.proofs.lemmas.Option.{same_Some, slice_get_within}
use Rattle.dsr_affected.specs.Marking.{AreComplementsMarked, AreMarksOf, AreReachedMarked, IsNext, IsNextComplement, IsNextReached, has_mark, is_base_marked, is_premise_marked, is_reached, with_mark}
use Rattle.dsr_affected.specs.declared.marks.Marks.{Marks}
use Rattle.dsr_affected_laws.proofs.Declared.{declared}
use Rattle.dsr_affected_laws.proofs.Least.{passed}
use Rattle.dsr_affected_laws.specs.Affected.{IsAffected, PassesAffected, reads_any}
use Rattle.dsr_affected_laws.specs.Affected.IsAffected.{handed_on, read, swapped}
use Rattle.dsr_facts.proofs.Following.{count_open, fewer_open}
use Rattle.dsr_facts.proofs.Marking.{marked_from, none_marked}
use Rattle.dsr_ir.specs.Rules.{is_same_symbol, symbol_of}
use Rattle.dsr_ir.specs.declared.declarations.FieldRef.{FieldRef}
use Rattle.dsr_ir.specs.declared.declarations.SetDecl.{SetDecl}
use Rattle.dsr_ir.specs.declared.declarations.Spec.{Spec}
use Rattle.dsr_ir.specs.declared.rules.Rule.{Rule}
use Rattle.dsr_ir.specs.declared.updates.Symbol.{Symbol}
use Rattle.dsr_ir.specs.declared.updates.Symbol.TheVariants.{Set, Rel}
use Rattle.dsr_meaning.specs.Models.{base_of}
use Rattle.dsr_meaning.specs.Typed.{IsTyped}
use Rattle.dsr_update_theory.specs.Givers.{IsGiver}

-- ---- tests

or_left : (a b : Bool) → a ≡ true → (a || b) ≡ true
or_left true b e = refl
or_left false b e = absurd cc

or_right : (a b : Bool) → b ≡ true → (a || b) ≡ true
or_right true b e = refl
or_right false b e = e

same_self : (s : Symbol) → is_same_symbol s s ≡ true
same_self (Set n) = eq-eqb n n refl
same_self (Rel n) = eq-eqb n n refl

-- ---- what follows

module _ (spec : Spec) (fields : List FieldRef) (marks : Marks) where
  abbrev AllAffected : Type 0
  AllAffected = (other : Symbol) → IsTrue (has_mark marks other) → IsAffected spec fields other

  giver : (symbol : Symbol) (k : ℕ) (rule : Rule) → slice_get spec.rules k ≡ Some rule → symbol_of rule.inc ≡ symbol → IsGiver spec symbol k rule
  giver symbol k rule is gives = record { rule_is = is; gives = subst (λ s. is_same_symbol (symbol_of rule.inc) s ≡ true) gives (same_self (symbol_of rule.inc)) }

  by_rule : AllAffected → (symbol : Symbol) (k : ℕ) (rule : Rule) → IsGiver spec symbol k rule → (premise : Option ℕ) → rule.premise ≡ premise → (option_map_or (λ set. has_mark marks (Set set)) premise false || reads_any spec.base fields rule) ≡ true → IsAffected spec fields symbol
  by_rule sound symbol k rule gives None is reached = read symbol k rule gives reached
  by_rule sound symbol k rule gives (Some premise) is reached = elim (has_mark marks (Set premise)) as (λ b. has_mark marks (Set premise) ≡ b → (b || reads_any spec.base fields rule) ≡ true → IsAffected spec fields symbol) [
    | true ↦ λ marked _. handed_on symbol k rule premise gives is (sound (Set premise) marked)
    | false ↦ λ _ reads. read symbol k rule gives reads
  ] refl reached

  pub reached_next : (symbol : Symbol) → IsNextReached spec fields marks symbol → IsNext spec fields marks symbol
  reached_next symbol h = record {
    unmarked = h.unmarked;
    follows = λ sound. by_rule sound symbol h.number h.rule (giver symbol h.number h.rule h.rule_is h.gives) h.rule.premise refl h.reached;
  }

  by_base : AllAffected → (set : ℕ) (d : SetDecl) (except : Option ℕ) → d.except ≡ except → slice_get spec.base.sets set ≡ Some d → option_map_or (λ base. has_mark marks (Set base)) except false ≡ true → IsAffected spec fields (Set set)
  by_base sound set d None is found marked = absurd cc
  by_base sound set d (Some base) is found marked = swapped set base (ap (option_and_then (λ (s : SetDecl). s.except)) found ∙ is) (sound (Set base) marked)

  pub complement_next : (symbol : Symbol) → IsNextComplement spec marks symbol → IsNext spec fields marks symbol
  complement_next symbol h = record {
    unmarked = h.unmarked;
    follows = λ sound. subst (IsAffected spec fields) h.symbol_is (by_base sound h.set h.declared h.declared.except refl h.declared_is h.base);
  }

  its_base : (set base : ℕ) (o : Option SetDecl) → slice_get spec.base.sets set ≡ o → option_and_then (λ (s : SetDecl). s.except) o ≡ Some base → AreComplementsMarked spec marks → IsTrue (has_mark marks (Set base)) → IsTrue (has_mark marks (Set set))
  its_base set base None is e all marked = absurd cc
  its_base set base (Some d) is e all marked = all set d is (ap (λ o. option_map_or (λ b. has_mark marks (Set b)) o false) e ∙ marked)

  pub passes_by : AreReachedMarked spec fields marks → AreComplementsMarked spec marks → PassesAffected spec fields (has_mark marks)
  passes_by rules complements = record {
    read = λ k rule is reads. rules k rule is (or_right (is_premise_marked marks rule) (reads_any spec.base fields rule) reads);
    handed_on = λ k rule premise is under marked. rules k rule is
        (or_left (is_premise_marked marks rule) (reads_any spec.base fields rule) (ap (λ o. option_map_or (λ s. has_mark marks (Set s)) o false) under ∙ marked));
    swapped = λ set base is marked. its_base set base (slice_get spec.base.sets set) refl is complements marked;
  }

  pub next_by : (answer : Option Symbol) → AreReachedMarked spec fields marks → MatchOption answer (AreComplementsMarked spec marks) (IsNextComplement spec marks) → MatchOption answer (PassesAffected spec fields (has_mark marks)) (IsNext spec fields marks)
  next_by None rules complements = passes_by rules complements
  next_by (Some symbol) rules next = complement_next symbol next

-- ---- rounds

-- there is room for all marks, and what is marked is affected
pub record IsMarking (spec : Spec) (fields : List FieldRef) (marks : Marks) : Type 0 where
  pub sets : length marks.sets ≡ 64
  pub rels : length marks.rels ≡ 64
  pub sound : (symbol : Symbol) → IsTrue (has_mark marks symbol) → IsAffected spec fields symbol

-- how many aren't marked
abbrev pub open_marks : Marks → ℕ
open_marks marks = count_open marks.sets + count_open marks.rels

pub marking_begins : (spec : Spec) (fields : List FieldRef) (marks : Marks) → marks.sets ≡ replicate 64 false → marks.rels ≡ replicate 64 false → IsMarking spec fields marks
marking_begins spec fields marks sets rels = record {
  sets = ap length sets;
  rels = ap length rels;
  sound = λ symbol h. absurd (none symbol h);
} where
  none : (symbol : Symbol) → IsTrue (has_mark marks symbol) → ⊥
  none (Set n) h = none_marked 64 n (subst (λ ms. get_or ms n false ≡ true) sets h)
  none (Rel n) h = none_marked 64 n (subst (λ ms. get_or ms n false ≡ true) rels h)

module _ (spec : Spec) (fields : List FieldRef) (marks : Marks) (far : IsMarking spec fields marks) where
  pub marking_more : (symbol : Symbol) → IsNext spec fields marks symbol → IsMarking spec fields (with_mark marks symbol)
  marking_more (Set n) next = record {
    sets = length-set marks.sets n true ∙ far.sets;
    rels = far.rels;
    sound = sound;
  } where
    sound : (symbol : Symbol) → IsTrue (has_mark (with_mark marks (Set n)) symbol) → IsAffected spec fields symbol
    sound (Set m) h = elim (marked_from marks.sets n m h) as (λ _. IsAffected spec fields (Set m)) [
      | inl old ↦ far.sound (Set m) old
      | inr same ↦ subst (λ k. IsAffected spec fields (Set k)) (sym same) (next.follows far.sound)
    ]
    sound (Rel m) h = far.sound (Rel m) h
  marking_more (Rel n) next = record {
    sets = far.sets;
    rels = length-set marks.rels n true ∙ far.rels;
    sound = sound;
  } where
    sound : (symbol : Symbol) → IsTrue (has_mark (with_mark marks (Rel n)) symbol) → IsAffected spec fields symbol
    sound (Set m) h = far.sound (Set m) h
    sound (Rel m) h = elim (marked_from marks.rels n m h) as (λ _. IsAffected spec fields (Rel m)) [
      | inl old ↦ far.sound (Rel m) old
      | inr same ↦ subst (λ k. IsAffected spec fields (Rel k)) (sym same) (next.follows far.sound)
    ]

  pub marking_fewer : (symbol : Symbol) → IsTyped spec → IsNext spec fields marks symbol → open_marks (with_mark marks symbol) < open_marks marks
  marking_fewer (Set n) typed next =
      let low = declared spec fields (Set n) typed (next.follows far.sound) in
      let fewer = fewer_open marks.sets n (omega (arith, low, typed.base.few_symbols, far.sets)) next.unmarked in
      omega (arith, fewer)
  marking_fewer (Rel n) typed next =
      let low = declared spec fields (Rel n) typed (next.follows far.sound) in
      let fewer = fewer_open marks.rels n (omega (arith, low, typed.base.few_symbols, far.rels)) next.unmarked in
      omega (arith, fewer)

  pub marking_ends : PassesAffected spec fields (has_mark marks) → AreMarksOf spec fields marks
  marking_ends passes symbol = (far.sound symbol, passed spec fields (has_mark marks) passes symbol)

-- ---- one pass over the rules, or over the sets

-- so it is of each below one more
pub below_next : {A : Type 0} (P : ℕ → A → Type 0) (xs : List A) (i : ℕ) (x : A) → slice_get xs i ≡ Some x → ((k : ℕ) (y : A) → k < i → slice_get xs k ≡ Some y → P k y) → P i x → (k : ℕ) (y : A) → k < i + 1 → slice_get xs k ≡ Some y → P k y
below_next P xs i x is before here k y less there = elim (cases_lt k i) as (λ _. P k y) [
  | inl old ↦ before k y old there
  | inr last ↦
      let same : i ≡ k = omega (arith, less, last) in
      let one : x ≡ y = same_Some x y (sym is ∙ (ap (slice_get xs) same ∙ there)) in
      subst (λ z. P k z) one (subst (λ j. P j x) same here)
]

-- where a test fails that something passes and something else doesn't, whatever passes is so
pub passed_is : (marked reached : Bool) → (not marked && reached) ≡ false → reached ≡ true → marked ≡ true
passed_is true reached none is = refl
passed_is false true none is = absurd cc
passed_is false false none is = absurd cc

pub both_are : (marked reached : Bool) → (not marked && reached) ≡ true → (marked ≡ false) × (reached ≡ true)
both_are true reached is = absurd cc
both_are false reached is = (refl, is)

-- the item at a place of a loop
pub there_got : {A : Type 0} (xs ys : List A) (i : ℕ) (x : A) → xs ≡ ys → i < length xs → x ≡ get_or xs i x → slice_get ys i ≡ Some x
there_got {A = A} xs ys i x same less is = subst (λ zs. slice_get zs i ≡ Some x) same (got xs i less is) where
  got : (zs : List A) (j : ℕ) → j < length zs → x ≡ get_or zs j x → slice_get zs j ≡ Some x
  got [] j low e = absurd (omega (arith, low))
  got (z ∷ zs) zero low e = ap Some (sym e)
  got (z ∷ zs) (suc j) low e = got zs j (omega (arith, low)) e

pub within : {A : Type 0} (xs ys : List A) (i k : ℕ) (y : A) → xs ≡ ys → length xs ≤ i → slice_get ys k ≡ Some y → k < i
within xs ys i k y same all there = let low = slice_get_within ys k y there in let long = ap length same in omega (arith, low, long, all)

pub set_past : (xs : List Bool) (n : ℕ) (x : Bool) → length xs ≤ n → xs ≡ set xs n x
set_past [] n x past = refl
set_past (y ∷ ys) zero x past = absurd (omega (arith, past))
set_past (y ∷ ys) (suc n) x past = ap (λ zs. y ∷ zs) (set_past ys n x (omega (arith, past)))
