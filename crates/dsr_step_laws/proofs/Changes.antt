-- What the model gains and loses by the steps of the examples.
use Rattle.std.proofs.Common.{◌≡◌, ◌∙◌, ◌⊎◌, ℕ, List, [], ◌∷◌, Some, inl, inr, refl, sym, subst, arith}
use Rattle.std.proofs.lemmas.Option.{same_Some}
use Rattle.std.specs.Prelude.{slice_get}
use Rattle.dsr_ir.specs.declared.rules.Rule.{Rule}
use Rattle.dsr_ir.specs.declared.tuples.Fact.{Fact}
use Rattle.dsr_ir.specs.declared.tuples.Fact.TheVariants.{Member, Pair}
use Rattle.dsr_ir.specs.declared.tuples.Instance.{Instance}
use Rattle.dsr_ir.specs.declared.tuples.Target.TheVariants.{Elem, Num}
use Rattle.dsr_meaning.specs.Cells.{value_at}
use Rattle.dsr_meaning.specs.Instances.{Gives}
use Rattle.dsr_meaning.specs.Models.{Chain, IsDerived, IsDerivedBy}
use Rattle.dsr_meaning.specs.Models.Chain.{begin, follow}
use Rattle.dsr_meaning.specs.Truth.{head}
use Rattle.dsr_repair_theory.specs.Changed.{IsGained, IsLost, IsNewlyGiven}
use Rattle.dsr_step_laws.proofs.Given.{example, from_head, image, layout, marked, of_node, path_to, rules, slot}
use Rattle.dsr_step_laws.proofs.Giving.{at, head_fires, head_gives, marked_fires, marked_gives, next_fires, next_gives, value_fires}
use Rattle.dsr_step_laws.proofs.Model.{chain_of, in_marked, in_model, in_second, slots_differ, to_itself}
use Rattle.dsr_step_laws.proofs.Stepping.{joined, parted, supplied, trimmed, unmarked, valued}
use Rattle.dsr_step_laws.proofs.Violated.{no_target}

-- ---- gained: the instance gives the fact now, and the fact wasn't in the model

newly_given : (new : List ℕ) (i : Instance) (fact : Fact) → IsDerivedBy example layout new i fact → (IsDerived example layout image fact → ⊥) → IsNewlyGiven example layout image new fact
newly_given new i fact by none = (i, by, λ old. none (i ∷ old.0, old.1))

-- slot 0 is in A as long as the head's first leads to it
first_chain : (bytes : List ℕ) → value_at layout bytes head 0 (path_to 0 0) ≡ Some 1 → Chain example layout bytes (at 0 head ∷ []) (Member 0 (slot 0))
first_chain bytes read = begin (at 0 head) (from_head 0) refl (head_fires bytes 0 0 0 refl refl (omega arith) read)

pub gains_member : IsGained example layout image valued (Member 1 (slot 0))
gains_member =
    newly_given valued (at 2 (slot 0)) (Member 1 (slot 0))
    (_, follow (at 2 (slot 0)) marked 0 (first_chain valued refl) refl (marked_fires valued 0 (omega arith) refl))
    (λ before. slots_differ (in_model (Member 1 (slot 0)) before))

pub gains_pair : IsGained example layout image joined (Pair 0 (slot 0) (Elem (slot 0)))
gains_pair =
    newly_given joined (at 3 (slot 0)) (Pair 0 (slot 0) (Elem (slot 0)))
    (_, follow (at 3 (slot 0)) (of_node 0 0) 0 (first_chain joined refl) refl (next_fires joined 0 0 (omega arith) (omega arith) refl))
    (no_target (Elem (slot 0)))

other_value : ((slot 0 ≡ slot 0) × (Num 1 ≡ Num 0)) ⊎ ((slot 0 ≡ slot 1) × (Num 1 ≡ Num 1)) → ⊥
other_value (inl same) = (let numbers : ◌≡◌ {A = ℕ} 1 0 = cc (same.1) in omega (arith, numbers))
other_value (inr same) = slots_differ same.0

pub gains_value : IsGained example layout image valued (Pair 1 (slot 0) (Num 1))
gains_value =
    newly_given valued (at 4 (slot 0)) (Pair 1 (slot 0) (Num 1))
    (_, follow (at 4 (slot 0)) (of_node 1 1) 0 (first_chain valued refl) refl (value_fires valued 0 1 (omega arith) refl))
    (λ before. other_value (in_model (Pair 1 (slot 0) (Num 1)) before))

pub gains_fresh : IsGained example layout image supplied (Pair 0 (slot 0) (Elem (slot 2)))
gains_fresh =
    newly_given supplied (at 3 (slot 0)) (Pair 0 (slot 0) (Elem (slot 2)))
    (_, follow (at 3 (slot 0)) (of_node 0 0) 0 (first_chain supplied refl) refl (next_fires supplied 0 2 (omega arith) (omega arith) refl))
    (no_target (Elem (slot 2)))

-- ---- lost: the instance gave the fact, and gives it no more

-- the last instance of a chain gives its fact
abbrev LastGives : List ℕ → List Instance → Fact → Type 0
LastGives bytes [] fact = ⊥
LastGives bytes (i ∷ is) fact = (rule : Rule) × Gives example layout bytes i rule fact

last_gives : (bytes : List ℕ) (is : List Instance) (fact : Fact) → Chain example layout bytes is fact → LastGives bytes is fact
last_gives bytes is fact (begin i rule none gives) = (rule, gives)
last_gives bytes is fact (follow i rule set chain some gives) = (rule, gives)

-- where the instance of the rule gives nothing, no chain ends in it
not_given : (bytes : List ℕ) (i : Instance) (rule : Rule) (fact : Fact) → slice_get rules i.rule ≡ Some rule → (Gives example layout bytes i rule fact → ⊥) → IsDerivedBy example layout bytes i fact → ⊥
not_given bytes i rule fact found none by =
    let last = last_gives bytes (i ∷ by.0) fact by.1 in
    let same : last.0 ≡ rule = same_Some last.0 rule (sym last.1.is_instance.rule_is ∙ found) in
    none (subst (λ r. Gives example layout bytes i r fact) same last.1)

pub loses_pair : IsLost example layout image parted (Pair 0 (slot 1) (Elem (slot 1)))
loses_pair = (at 3 (slot 1), chain_of to_itself, not_given parted (at 3 (slot 1)) (of_node 0 0) (Pair 0 (slot 1) (Elem (slot 1))) refl nothing) where
  nothing : Gives example layout parted (at 3 (slot 1)) (of_node 0 0) (Pair 0 (slot 1) (Elem (slot 1))) → ⊥
  nothing gives =
      let none = (next_gives parted (at 3 (slot 1)) (Pair 0 (slot 1) (Elem (slot 1))) 0 refl gives).led.slot in
      omega (arith, none)

pub loses_second : IsLost example layout image trimmed (Member 0 (slot 1))
loses_second = (at 1 head, chain_of in_second, not_given trimmed (at 1 head) (from_head 1) (Member 0 (slot 1)) refl nothing) where
  nothing : Gives example layout trimmed (at 1 head) (from_head 1) (Member 0 (slot 1)) → ⊥
  nothing gives =
      let none = (head_gives trimmed (at 1 head) 1 (Member 0 (slot 1)) 0 refl refl gives).led.slot in
      omega (arith, none)

pub loses_marked : IsLost example layout image unmarked (Member 1 (slot 1))
loses_marked = (at 2 (slot 1), chain_of in_marked, not_given unmarked (at 2 (slot 1)) marked (Member 1 (slot 1)) refl nothing) where
  nothing : Gives example layout unmarked (at 2 (slot 1)) marked (Member 1 (slot 1)) → ⊥
  nothing gives =
      let one : 0 ≡ 1 = (marked_gives unmarked (at 2 (slot 1)) (Member 1 (slot 1)) 0 refl gives).0 in
      omega (arith, one)
