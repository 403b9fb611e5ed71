-- Marks of what has to be tested, one more behind the others.
use Rattle.std.proofs.Common.{◌≡◌, ◌↔◌, ◌<◌, ◌+◌, ◌++◌, ℕ, zero, suc, Bool, true, false, IsTrue, nat_eq, List, [], ◌∷◌, Option, None, Some, MatchOption, Result, Ok, Err, IfOk, length, slice_get, slice_index_or, refl, sym, ap, subst, ◌∙◌, arith}
use Rattle.std.specs.Prelude.{Decides, MatchBool, is_none, option_and_then}
use Rattle.std.proofs.lemmas.Bool.{false≢true}
use Rattle.std.proofs.lemmas.Bool.Decides.{nat_tests}
use Rattle.dsr_placement.specs.Atoms.{IsTested}
use Rattle.dsr_graph.specs.declared.graphs.Graph.{Graph}
use Rattle.dsr_ir.specs.declared.constraints.Conj.{Conj}
use Rattle.dsr_ir.specs.declared.constraints.Constraint.{Constraint}
use Rattle.dsr_ir.specs.declared.constraints.Literal.{Literal}
use Rattle.dsr_ir.specs.declared.memory.NoMemory.{NoMemory}
use Rattle.dsr_graph_theory.specs.Owners.{Owner}
use Rattle.dsr_placement.proofs.Counted.{repair_of}
use Rattle.dsr_placement.specs.Placing.{AreTests, IsReliedOnByNone, IsWayAt}
use Rattle.dsr_graph.specs.declared.asking.Position.{Position}
use Rattle.dsr_plan_theory.specs.Plans.{Covers}
use Rattle.dsr_plan_theory.specs.Stuck.{IsHeld, MayBeFirst, MustTest, uncovered}
use Rattle.dsr_graph.specs.Graphs.{IsOwnerIn}
use Rattle.dsr_update_theory.specs.Templates.{literal_at}

pub index_front : {T : Type 0} (xs : List T) (x : T) (n : ℕ) (d : T) → n < length xs → slice_index_or (xs ++ x ∷ []) n d ≡ slice_index_or xs n d
index_front [] x n d less = absurd (omega (arith, less))
index_front (y ∷ xs) x zero d less = refl
index_front (y ∷ xs) x (suc n) d less = index_front xs x n d (omega (arith, less))

pub index_last : {T : Type 0} (xs : List T) (x d : T) → slice_index_or (xs ++ x ∷ []) (length xs) d ≡ x
index_last [] x d = refl
index_last (y ∷ xs) x d = index_last xs x d

-- what is so of each place before, and of the last one
pub each_index : {T A : Type 0} (R : ℕ → A → T → Type 0) (items : List A) (xs : List T) (d y : T) (x : A) → slice_get items (length xs) ≡ Some x → R (length xs) x y
    → ((n : ℕ) (a : A) → n < length xs → slice_get items n ≡ Some a → R n a (slice_index_or xs n d))
    → (n : ℕ) (a : A) → n < length xs + 1 → slice_get items n ≡ Some a → R n a (slice_index_or (xs ++ y ∷ []) n d)
each_index R items xs d y x here its before n a below there =
    elim (nat_eq n (length xs)) as (λ t. nat_eq n (length xs) ≡ t → R n a (slice_index_or (xs ++ y ∷ []) n d)) [
      | true ↦ λ e.
          let same : n ≡ length xs = grind (arith, nat_tests) in
          let both : Some x ≡ Some a = sym here ∙ (ap (slice_get items) (sym same) ∙ there) in
          let item : x ≡ a = cc in
          subst (λ k. R k a (slice_index_or (xs ++ y ∷ []) k d)) (sym same) (subst (λ z. R (length xs) z (slice_index_or (xs ++ y ∷ []) (length xs) d)) item (subst (R (length xs) x) (sym (index_last xs y d)) its))
      | false ↦ λ e.
          let less : n < length xs = grind (arith, nat_tests) in
          subst (R n a) (sym (index_front xs y n d less)) (before n a less there)
    ] refl

-- a mark is right where it says that there is no way
pub mark_if : (graph : Graph) (at : Position) (owner : Owner) → IsOwnerIn graph at.constraint owner → (Member : ℕ → Type 0) (literal : Literal) → literal_at owner.constraint at.conj at.literal ≡ Some literal → (r : Option ℕ) → MatchOption r (MustTest owner Member at.conj at.literal) (IsWayAt graph owner Member at literal) → IsTrue (is_none r) ↔ MustTest owner Member at.conj at.literal
mark_if graph at owner in_graph Member literal literal_is None must = (λ _. must, λ _. refl)
mark_if graph at owner in_graph Member literal literal_is (Some way) its = (
  λ no. absurd (false≢true no),
  λ must. absurd (must (repair_of graph at owner in_graph Member literal literal_is way its.free its.first.usable)),
)

-- the tests cover what has to be tested
module _ (owner : Owner) (Member : ℕ → Type 0) (rows : List (List Bool)) (tests : AreTests owner Member rows) where
  here : (conj n : ℕ) (its : Conj) (l : Literal) → slice_get owner.constraint.conjs conj ≡ Some its → slice_get its.literals n ≡ Some l → literal_at owner.constraint conj n ≡ Some l
  here conj n its l its_is l_is = ap (option_and_then (λ c. slice_get c.literals n)) its_is ∙ l_is

  to_must : Covers owner.constraint (IsTested rows) → Covers owner.constraint (MustTest owner Member)
  to_must covers truth =
      let s = covers truth in
      record { number = s.number; conj = s.conj; conj_is = s.conj_is; passes = λ n l l_is must. s.passes n l l_is ((tests s.number n l (here s.number n s.conj l s.conj_is l_is)).1 must) }

  to_tested : Covers owner.constraint (MustTest owner Member) → Covers owner.constraint (IsTested rows)
  to_tested covers truth =
      let s = covers truth in
      record { number = s.number; conj = s.conj; conj_is = s.conj_is; passes = λ n l l_is tested. s.passes n l l_is ((tests s.number n l (here s.number n s.conj l s.conj_is l_is)).0 tested) }

  pub decided : (b : Bool) → IsReliedOnByNone owner.spec Member owner.number → Decides b (Covers owner.constraint (IsTested rows)) → MatchBool b (MayBeFirst owner.spec Member owner.number owner.constraint) (IsHeld owner.spec Member owner.number owner.constraint)
  decided true relied covers = record { relied_by_none = relied; covered = to_must (covers.0 refl) }
  decided false relied covers = uncovered (λ covered. false≢true (covers.1 (to_tested covered)))

pub ok_weaker : (r : Result Bool NoMemory) (P Q : Bool → Type 0) → ((b : Bool) → P b → Q b) → IfOk r P → IfOk r Q
ok_weaker (Ok b) P Q to is = to b is
ok_weaker (Err fault) P Q to is = is

-- a literal with its conjunction
pub parts_of : (c : Constraint) (conj n : ℕ) (l : Literal) → literal_at c conj n ≡ Some l → (its : Conj) × (slice_get c.conjs conj ≡ Some its) × (slice_get its.literals n ≡ Some l)
parts_of c conj n l is = by (slice_get c.conjs conj) refl where
  by : (o : Option Conj) → slice_get c.conjs conj ≡ o → (its : Conj) × (slice_get c.conjs conj ≡ Some its) × (slice_get its.literals n ≡ Some l)
  by None none = absurd (let no = sym (ap (option_and_then (λ x. slice_get x.literals n)) none) ∙ is in cc)
  by (Some its) there = (its, there, sym (ap (option_and_then (λ x. slice_get x.literals n)) there) ∙ is)
