-- What the tests tell of a rule that asks all that another one asks.
use Rattle.std.proofs.Common.{◌≡◌, ◌∙◌, ℕ, Bool, true, nat_eq, Option, None, Some, IsSomeAnd, Decides, refl, sym, ap, subst}
use Rattle.std.specs.Option.{option_eq}
use Rattle.std.specs.Prelude.{slice_get}
use Rattle.std.proofs.lemmas.Bool.{eqb-true}
use Rattle.std.proofs.lemmas.Bool.Decides.{Decides-like}
use Rattle.std.proofs.lemmas.Option.{same_Some}
use Rattle.dsr_meaning.proofs.SameItems.{path_decides}
use Rattle.dsr_ir.specs.Rules.{target_of}
use Rattle.dsr_ir.specs.contracts.rules.PathPartialEq.TheImpl as path
use Rattle.dsr_ir.specs.declared.rules.Guard.{Guard}
use Rattle.dsr_ir.specs.declared.rules.Path.{Path}
use Rattle.dsr_ir.specs.declared.rules.Rule.{Rule}
use Rattle.dsr_ir.specs.declared.rules.Span.TheVariants.{Single}
use Rattle.dsr_ir.specs.declared.updates.Goal.TheVariants.{AddSet, Supply}
use Rattle.dsr_meaning.specs.Counting.{IsIn}
use Rattle.dsr_update_theory.specs.Changes.{Change}
use Rattle.dsr_update_theory.specs.Touching.{AsksAllOf, IsQuiet, MakesFire}
use Rattle.dsr_effect.specs.Told.{AsksAllButTarget}

pub premise_same : (a b : Option ℕ) → option_eq nat_eq a b ≡ true → a ≡ b
premise_same None None e = refl
premise_same (Some a) (Some b) e = ap Some (eqb-true a b e)
premise_same None (Some b) e = absurd cc
premise_same (Some a) None e = absurd cc

pub asks_decides : (rule other : Rule) (r : Bool) → option_eq nat_eq rule.premise other.premise ≡ true → rule.span ≡ Single → Decides r ((guard : Guard) → IsIn guard other.guards → IsIn guard rule.guards) → Decides r (AsksAllButTarget rule other)
asks_decides rule other r premise single guards =
    Decides-like r (λ all. record { premise = premise_same rule.premise other.premise premise; single = single; guards = all })
    (λ asks. asks.guards) guards

pub targets_decide : (a b : Option Path) → Decides (option_eq path.ghosts.eq a b) (a ≡ b)
targets_decide None None = (λ _. refl, λ _. refl)
targets_decide (Some a) (Some b) = Decides-like _ (λ e. ap Some e) (λ e. same_Some a b e) (path_decides a b)
targets_decide None (Some b) = (λ e. absurd cc, λ e. absurd cc)
targets_decide (Some a) None = (λ e. absurd cc, λ e. absurd cc)

module _ (c : Change) (rule own : Rule) (is : slice_get c.spec.rules c.update.rule ≡ Some own) where
  pub asked_of : IsQuiet c rule → AsksAllOf rule own c.goal
  asked_of quiet = subst (λ o. IsSomeAnd o (λ other. AsksAllOf rule other c.goal)) is quiet.asks

  pub but_target : IsQuiet c rule → AsksAllButTarget rule own
  but_target quiet =
      let asked = asked_of quiet in
      record { premise = asked.premise; single = asked.single; guards = asked.guards }

  quiet_by : MakesFire c.goal → AsksAllButTarget rule own → (c.goal ≡ Supply → target_of rule.inc ≡ target_of own.inc) → IsQuiet c rule
  quiet_by fires asks target = record {
    goal = fires;
    asks = subst (λ o. IsSomeAnd o (λ other. AsksAllOf rule other c.goal)) (sym is)
        (record { premise = asks.premise; single = asks.single; guards = asks.guards; target = target });
  }

  -- an update that adds a member
  pub quiet_adding : (r : Bool) → c.goal ≡ AddSet → Decides r (AsksAllButTarget rule own) → Decides r (IsQuiet c rule)
  quiet_adding r adds asks =
      Decides-like r
      (λ a. quiet_by (subst MakesFire (sym adds) tt) a (λ supplies. let same : AddSet ≡ Supply = sym adds ∙ supplies in absurd cc))
      but_target asks

  -- one that supplies a record
  pub quiet_supplying : (r : Bool) → c.goal ≡ Supply → AsksAllButTarget rule own → Decides r (target_of rule.inc ≡ target_of own.inc) → Decides r (IsQuiet c rule)
  quiet_supplying r supplies asks target =
      Decides-like r (λ same. quiet_by (subst MakesFire (sym supplies) tt) asks (λ _. same)) (λ quiet. (asked_of quiet).target supplies) target
