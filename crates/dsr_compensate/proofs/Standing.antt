-- Writes that stand together, one after the other.
use Rattle.std.proofs.Common.{◌≡◌, ◌≢◌, ◌<◌, ◌≤◌, ◌+◌, ◌||◌, ℕ, zero, suc, Bool, true, false, nat_eq, IsTrue, List, [], ◌∷◌, length, take, slice_get, Some, refl, sym, ap, subst, ◌∙◌, arith}
use Rattle.std.proofs.lemmas.Bool.Decides.{nat_tests}
use Rattle.std.proofs.lemmas.Option.{slice_get_within, same_Some}
use Rattle.dsr_ir.specs.declared.declarations.Structures.{Structures}
use Rattle.dsr_ir.specs.declared.updates.Write.{Write}
use Rattle.dsr_update_theory.specs.Changes.{are_related, descends}
use Rattle.dsr_update_theory.specs.Together.{MayStandBeside, MayStandTogether}

-- among the first ones it has the same place
pub item_in_front : {T : Type 0} (xs : List T) (n k : ℕ) → k < n → slice_get (take n xs) k ≡ slice_get xs k
item_in_front [] zero k less = absurd (omega (arith, less))
item_in_front [] (suc n) k less = refl
item_in_front (y ∷ xs) zero k less = absurd (omega (arith, less))
item_in_front (y ∷ xs) (suc n) zero less = refl
item_in_front (y ∷ xs) (suc n) (suc k) less = item_in_front xs n k (omega (arith, less))

front_short : {T : Type 0} (n : ℕ) (xs : List T) → length (take n xs) ≤ n
front_short zero xs = omega arith
front_short (suc n) [] = omega arith
front_short (suc n) (x ∷ xs) = let rest = front_short n xs in omega (arith, rest)

or_turned : (a b : Bool) → IsTrue (a || b) → IsTrue (b || a)
or_turned true true e = refl
or_turned true false e = refl
or_turned false true e = refl
or_turned false false e = e

related_turned : (base : Structures) (a b : ℕ) → IsTrue (are_related base a b) → IsTrue (are_related base b a)
related_turned base a b = or_turned (descends base.structures a b) (descends base.structures b a)

pub beside_turned : (base : Structures) (a b : Write) → MayStandBeside base a b → MayStandBeside base b a
beside_turned base a b beside = record {
  different = λ e. beside.different (sym e);
  related = related_turned base a.path.field.structure b.path.field.structure beside.related;
}

module _ (base : Structures) (writes : List Write) where
  -- those before the place stand together
  abbrev pub AreTogetherBefore : ℕ → Type 0
  AreTogetherBefore n =
      (i j : ℕ) (a b : Write) → i ≢ j → i < n → j < n → slice_get writes i ≡ Some a → slice_get writes j ≡ Some b
      → MayStandBeside base a b

  -- the write may stand beside each of those before it
  abbrev pub MayJoin : ℕ → Write → Type 0
  MayJoin n w = (place : ℕ) (other : Write) → slice_get (take n writes) place ≡ Some other → MayStandBeside base w other

  pub together_more : (n : ℕ) (w : Write) → slice_get writes n ≡ Some w → MayJoin n w → AreTogetherBefore n → AreTogetherBefore (n + 1)
  together_more n w here joins before i j a b apart i_below j_below i_is j_is =
      elim (nat_eq i n) as (λ t. nat_eq i n ≡ t → MayStandBeside base a b) [
        | true ↦ λ e.
            let same : i ≡ n = grind (arith, nat_tests) in
            let w_is : w ≡ a = same_Some w a (sym here ∙ (ap (slice_get writes) (sym same) ∙ i_is)) in
            let less : j < n = omega (arith, same, apart, j_below) in
            subst (λ x. MayStandBeside base x b) w_is (joins j b (item_in_front writes n j less ∙ j_is))
        | false ↦ λ e.
            let i_less : i < n = grind (arith, nat_tests) in
            elim (nat_eq j n) as (λ t. nat_eq j n ≡ t → MayStandBeside base a b) [
              | true ↦ λ f.
                  let same : j ≡ n = grind (arith, nat_tests) in
                  let w_is : w ≡ b = same_Some w b (sym here ∙ (ap (slice_get writes) (sym same) ∙ j_is)) in
                  beside_turned base b a (subst (λ x. MayStandBeside base x a) w_is (joins i a (item_in_front writes n i i_less ∙ i_is)))
              | false ↦ λ f. before i j a b apart i_less (grind (arith, nat_tests)) i_is j_is
            ] refl
      ] refl

  pub together_ends : (n : ℕ) → length writes ≤ n → AreTogetherBefore n → MayStandTogether base writes
  together_ends n past before i j a b apart i_is j_is =
      let i_less = slice_get_within writes i a i_is in
      let j_less = slice_get_within writes j b j_is in
      before i j a b apart (omega (arith, past, i_less)) (omega (arith, past, j_less)) i_is j_is

  pub together_joins : (n : ℕ) (w : Write) → slice_get writes n ≡ Some w → MayStandTogether base writes → MayJoin n w
  together_joins n w here together place other there =
      let below = slice_get_within (take n writes) place other there in
      let short = front_short n writes in
      let less : place < n = omega (arith, below, short) in
      let apart : n ≢ place = λ e. absurd (omega (arith, less, e)) in
      together n place w other apart here (sym (item_in_front writes n place less) ∙ there)
