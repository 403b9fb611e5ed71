-- Which writes may stand together, one after the other.
use Rattle.std.proofs.Common.{◌≡◌, ◌≢◌, ◌⊎◌, ℕ, zero, suc, List, [], ◌∷◌, Some, inl, inr, refl, sym, ap, subst, arith}
use Rattle.std.specs.Prelude.{slice_get}
use Rattle.std.proofs.lemmas.Option.{same_Some}
use Rattle.dsr_ir.specs.declared.declarations.Structures.{Structures}
use Rattle.dsr_ir.specs.declared.updates.Write.{Write}
use Rattle.dsr_meaning.specs.Counting.{IsIn}
use Rattle.dsr_step_laws.proofs.Related.{lines_related, related_lines}
use Rattle.dsr_update_theory.specs.Together.{MayStandBeside, MayStandTogether}
use Rattle.dsr_meaning.proofs.Items.{item_at, place_of}

turned_sum : {A B : Type 0} → A ⊎ B → B ⊎ A
turned_sum (inl x) = inr x
turned_sum (inr y) = inl y

-- the order doesn't matter
turned : (base : Structures) (a b : Write) → MayStandBeside base a b → MayStandBeside base b a
turned base a b beside = record {
  different = λ same. beside.different (sym same);
  related = lines_related base b.path.field.structure a.path.field.structure (turned_sum (related_lines base a.path.field.structure b.path.field.structure beside.related));
}

pub nothing_together : (base : Structures) → MayStandTogether base []
nothing_together base i j a b other one two = absurd cc

-- one write more, which may stand beside each of the others
pub together_more : (base : Structures) (w : Write) (ws : List Write) → ((v : Write) → IsIn v ws → MayStandBeside base w v) → MayStandTogether base ws → (i j : ℕ) (a b : Write) → i ≢ j → slice_get (w ∷ ws) i ≡ Some a → slice_get (w ∷ ws) j ≡ Some b → MayStandBeside base a b
together_more base w ws beside rest zero zero a b other one two = absurd (other refl)
together_more base w ws beside rest zero (suc j) a b other one two = subst (λ x. MayStandBeside base x b) (same_Some w a one) (beside b (item_at ws j b two))
together_more base w ws beside rest (suc i) zero a b other one two = turned base b a (subst (λ x. MayStandBeside base x a) (same_Some w b two) (beside a (item_at ws i a one)))
together_more base w ws beside rest (suc i) (suc j) a b other one two = rest i j a b (λ same. other (ap suc same)) one two

-- the first write may stand beside each other one
pub first_beside : (base : Structures) (w : Write) (ws : List Write) → MayStandTogether base (w ∷ ws) → (v : Write) → IsIn v ws → MayStandBeside base w v
first_beside base w ws together v is_in =
    let at = place_of ws v is_in in
    together zero (suc at.0) w v (λ same. absurd (omega (arith, same))) refl at.1

-- and the others may stand together
pub rest_together : (base : Structures) (w : Write) (ws : List Write) → MayStandTogether base (w ∷ ws) → MayStandTogether base ws
rest_together base w ws together i j a b other = together (suc i) (suc j) a b (λ same. other (omega (arith, same)))

-- one write stands beside none
pub one_together : (base : Structures) (w : Write) → MayStandTogether base (w ∷ [])
one_together base w = together_more base w [] (λ v among. absurd among) (nothing_together base)
