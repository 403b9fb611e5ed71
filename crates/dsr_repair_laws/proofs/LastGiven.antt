-- The last instance of a chain gives the fact at its end.
use Rattle.std.proofs.Common.{◌≡◌, ◌∙◌, ℕ, List, [], ◌∷◌, Some, refl, sym, ap, subst, slice_get}
use Rattle.std.proofs.lemmas.Option.{same_Some}
use Rattle.dsr_ir.specs.declared.declarations.Spec.{Spec}
use Rattle.dsr_ir.specs.declared.layouts.Layout.{Layout}
use Rattle.dsr_ir.specs.declared.rules.Rule.{Rule}
use Rattle.dsr_ir.specs.declared.tuples.Fact.{Fact}
use Rattle.dsr_ir.specs.declared.tuples.Instance.{Instance}
use Rattle.dsr_meaning.specs.Instances.{Gives}
use Rattle.dsr_meaning.specs.Models.{Chain, IsDerivedBy, begin, follow}

-- the instance gives the fact
pub record IsGivenAt (spec : Spec) (layout : Layout) (bytes : List ℕ) (i : Instance) (fact : Fact) : Type 0 where
  pub rule : Rule
  pub gives : Gives spec layout bytes i rule fact

first_same : (j i : Instance) (js is : List Instance) → j ∷ js ≡ i ∷ is → j ≡ i
first_same j i js is e = same_Some j i (ap (λ xs. slice_get xs 0) e)

last_gives : (spec : Spec) (layout : Layout) (bytes : List ℕ) (i : Instance) (all rest : List Instance) (fact : Fact) → all ≡ i ∷ rest → Chain spec layout bytes all fact → IsGivenAt spec layout bytes i fact
last_gives spec layout bytes i all rest fact e (begin j rule premise gives) =
    let same : j ≡ i = first_same j i [] rest e in
    record { rule = rule; gives = subst (λ k. Gives spec layout bytes k rule fact) same gives }
last_gives spec layout bytes i all rest fact e (follow {is = js} j rule set chain premise gives) =
    let same : j ≡ i = first_same j i js rest e in
    record { rule = rule; gives = subst (λ k. Gives spec layout bytes k rule fact) same gives }

pub derived_by : (spec : Spec) (layout : Layout) (bytes : List ℕ) (i : Instance) (fact : Fact) → IsDerivedBy spec layout bytes i fact → IsGivenAt spec layout bytes i fact
derived_by spec layout bytes i fact by = last_gives spec layout bytes i (i ∷ by.0) by.0 fact refl by.1

-- by the rule with the instance's number
pub given_by : (spec : Spec) (layout : Layout) (bytes : List ℕ) (i : Instance) (fact : Fact) (rule : Rule) → slice_get spec.rules i.rule ≡ Some rule → IsDerivedBy spec layout bytes i fact → Gives spec layout bytes i rule fact
given_by spec layout bytes i fact rule is by =
    let given = derived_by spec layout bytes i fact by in
    subst (λ r. Gives spec layout bytes i r fact) (same_Some given.rule rule (sym given.gives.is_instance.rule_is ∙ is)) given.gives
