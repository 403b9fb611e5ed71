-- Writes that keep rules from giving something new, with one more rule behind the others.
use Rattle.std.proofs.Common.{◌≡◌, ◌<◌, ◌≤◌, ◌+◌, ◌++◌, ℕ, zero, suc, List, [], ◌∷◌, Option, None, Some, Result, Ok, Err, IfOk, Vec, Global, take, get_or, length, refl, ap, sym, subst, ◌∙◌, arith}
use Rattle.std.proofs.lemmas.List.{take_more}
use Rattle.dsr_ir.specs.declared.rules.Rule.{Rule}
use Rattle.dsr_ir.specs.declared.updates.Write.{Write}
use Rattle.dsr_compensate.specs.Preventing.{AreCandidates, IsCandidate, prevents_rule}
use Rattle.dsr_ir.specs.declared.memory.NoMemory.{NoMemory}
use Rattle.dsr_ir.specs.declared.updates.Template.{Template}
use Rattle.dsr_graph_theory.specs.Owners.{Owner}
use Rattle.dsr_ir.specs.declared.declarations.Spec.{Spec}
use Rattle.dsr_ir.specs.declared.updates.Update.{Update}
use Rattle.dsr_graph_theory.specs.Candidates.{AreCompensations, ArePreventing, MayGive, compensated, done, prevented, preventing, quiet, some}
use Rattle.dsr_update_theory.specs.Changes.{Change}

-- with the item at which a loop is
pub take_next : {T : Type 0} (items xs : List T) (all : items ≡ xs) (i : ℕ) (less : i < length items) (x : T) (is : x ≡ get_or items i x) → take (i + 1) xs ≡ take i xs ++ x ∷ []
take_next items xs all i less x is =
    subst (λ ys. take (i + 1) ys ≡ take i ys ++ x ∷ []) all (take_more items i x less ∙ ap (λ y. take i items ++ y ∷ []) (sym is))

-- all that there are
pub take_whole : {T : Type 0} (n : ℕ) (xs : List T) → length xs ≤ n → take n xs ≡ xs
take_whole zero [] past = refl
take_whole zero (x ∷ xs) past = absurd (omega (arith, past))
take_whole (suc n) [] past = refl
take_whole (suc n) (x ∷ xs) past = ap (λ ys. x ∷ ys) (take_whole n xs (omega (arith, past)))

module _ (c : Change) (rule : Rule) where
  pub more_prevented : {rules : List Rule} {writes : List Write} (write : Write) → ArePreventing c rules writes → MayGive c rule → preventing c rule ≡ Some write → ArePreventing c (rules ++ rule ∷ []) (writes ++ write ∷ [])
  more_prevented write done may is = prevented rule write may is done
  more_prevented write (prevented r w its its_is rest) may is = prevented r w its its_is (more_prevented write rest may is)
  more_prevented write (quiet r none rest) may is = quiet r none (more_prevented write rest may is)

  pub more_quiet : {rules : List Rule} {writes : List Write} → ArePreventing c rules writes → (MayGive c rule → preventing c rule ≡ None) → ArePreventing c (rules ++ rule ∷ []) writes
  more_quiet done none = quiet rule none done
  more_quiet (prevented r w its its_is rest) none = prevented r w its its_is (more_quiet rest none)
  more_quiet (quiet r its rest) none = quiet r its (more_quiet rest none)

  pub is_candidate : (o : Option Write) → MayGive c rule → o ≡ preventing c rule → IsCandidate c rule o
  is_candidate None may is = λ _. sym is
  is_candidate (Some write) may is = (may, sym is)

  -- what is found by the specification and the update alone is so for the change
  pub prevents_same : (spec : Spec) (update : Update) → c.spec ≡ spec → c.update ≡ update → prevents_rule spec update rule ≡ preventing c rule
  prevents_same spec update spec_is update_is =
      ap (λ s. prevents_rule s update rule) (sym spec_is) ∙ ap (λ u. prevents_rule c.spec u rule) (sym update_is)

-- the candidates of a template's one update compensate it
pub if_compensated : (owner : Owner) (template : Template) (update : Update) (result : Result (Vec Write Global) NoMemory) → compensated template ≡ Some update → IfOk result (λ writes. AreCandidates owner template.goal update writes.items) → IfOk result (λ writes. AreCompensations owner template writes.items)
if_compensated owner template update (Ok writes) is found =
    subst (AreCompensations owner template) (sym found.writes_are) (some update found.all is found.are_preventing)
if_compensated owner template update (Err fault) is found = found
