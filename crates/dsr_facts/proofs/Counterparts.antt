-- When a rule is a counterpart of another one, by the derived `==` of their parts.
use Rattle.std.proofs.Common.{◌≡◌, ℕ, nat_eq, Bool, true, List, Option, None, Some, Decides, refl, ap}
use Rattle.std.specs.Option.{option_eq}
use Rattle.std.proofs.lemmas.Bool.{eqb-true}
use Rattle.std.proofs.lemmas.Bool.Decides.{Decides-like}
use Rattle.dsr_ir.specs.declared.rules.Guard.{Guard}
use Rattle.dsr_ir.specs.declared.rules.Rule.{Rule}
use Rattle.dsr_ir.specs.contracts.rules.SpanPartialEq.TheImpl as span
use Rattle.dsr_meaning.specs.Counting.{IsIn}
use Rattle.dsr_meaning.proofs.SameItems.{span_decides}
use Rattle.dsr_update_theory.specs.KnownSets.{IsCounterpart}
use Rattle.dsr_facts.specs.Marks.{GivesTargetOf}

premise_same : (a b : Option ℕ) → option_eq nat_eq a b ≡ true → a ≡ b
premise_same None None e = refl
premise_same (Some a) (Some b) e = ap Some (eqb-true a b e)
premise_same None (Some b) e = absurd cc
premise_same (Some a) None e = absurd cc

pub counterpart_decides : (rule other : Rule) (set : ℕ) (r : Bool)
    → option_eq nat_eq other.premise rule.premise ≡ true → span.ghosts.eq other.span rule.span ≡ true
    → GivesTargetOf rule.inc other.inc set
    → Decides r ((one : Guard) → IsIn one other.guards → IsIn one rule.guards)
    → Decides r (IsCounterpart rule other set)
counterpart_decides rule other set r premise spans_same gives guards =
    Decides-like r (λ all. record {
      premise_same = premise_same other.premise rule.premise premise;
      span_same = (span_decides other.span rule.span).0 spans_same;
      path = gives.path;
      target_is = gives.target_is;
      gives_it = gives.gives_it;
      guards = all;
    }) (λ counterpart. counterpart.guards) guards
