-- Which goals add, and which take away.
use Rattle.std.proofs.Common.{ℕ, Bool, subst}
use Rattle.dsr_repair_theory.specs.Choices.{Adds, TakesAway}
use Rattle.dsr_ir.specs.declared.constraints.Atom.{Atom}
use Rattle.dsr_ir.specs.declared.tuples.Binding.{Binding}
use Rattle.dsr_ir.specs.declared.tuples.Fact.{Fact}
use Rattle.dsr_ir.specs.declared.updates.Goal.{Goal}
use Rattle.dsr_ir.specs.declared.updates.Goal.TheVariants as goals
use Rattle.dsr_ir.specs.declared.declarations.Spec.{Spec}
use Rattle.dsr_ir.specs.declared.updates.Update.{Update}
use Rattle.dsr_update_theory.specs.Templates.{KnownSets}
use Rattle.dsr_repair_laws.proofs.TriedTemplates.{GoalAdds, IsTakenBy}
use Rattle.dsr_repair_laws.proofs.TriedUpdates.{IsAdder}

pub adding_adds : (is_fact : Fact → Type 0) (b : Binding) (atom : Atom) (goal : Goal) → GoalAdds goal → Adds is_fact b atom goal
adding_adds is_fact b atom goals.AddSet adds = tt
adding_adds is_fact b atom goals.AddTuple adds = tt
adding_adds is_fact b atom goals.SetValue adds = tt
adding_adds is_fact b atom goals.Supply adds = tt
adding_adds is_fact b atom goals.RemoveSet adds = absurd adds
adding_adds is_fact b atom goals.RemoveTuple adds = absurd adds
adding_adds is_fact b atom goals.Trim adds = absurd adds
adding_adds is_fact b atom goals.ExactlyOne adds = absurd adds

pub adding_takes_none : (goal : Goal) (n : ℕ) → GoalAdds goal → TakesAway goal n → ⊥
adding_takes_none goals.AddSet n adds takes = takes
adding_takes_none goals.AddTuple n adds takes = takes
adding_takes_none goals.SetValue n adds takes = takes
adding_takes_none goals.Supply n adds takes = takes
adding_takes_none goals.RemoveSet n adds takes = adds
adding_takes_none goals.RemoveTuple n adds takes = adds
adding_takes_none goals.Trim n adds takes = adds
adding_takes_none goals.ExactlyOne n adds takes = adds

pub taking_adds_none : (is_fact : Fact → Type 0) (b : Binding) (atom : Atom) (negated : Bool) (goal : Goal) → IsTakenBy goal atom negated → Adds is_fact b atom goal → ⊥
taking_adds_none is_fact b atom negated goals.AddSet takes adds = takes
taking_adds_none is_fact b atom negated goals.AddTuple takes adds = takes
taking_adds_none is_fact b atom negated goals.SetValue takes adds = takes
taking_adds_none is_fact b atom negated goals.Supply takes adds = takes
taking_adds_none is_fact b atom negated goals.RemoveSet takes adds = adds
taking_adds_none is_fact b atom negated goals.RemoveTuple takes adds = adds
taking_adds_none is_fact b atom negated goals.Trim takes adds = adds
taking_adds_none is_fact b atom negated goals.ExactlyOne takes adds = takes

pub taking_takes : (atom : Atom) (negated : Bool) (goal : Goal) (n : ℕ) → IsTakenBy goal atom negated → TakesAway goal n
taking_takes atom negated goals.AddSet n takes = absurd takes
taking_takes atom negated goals.AddTuple n takes = absurd takes
taking_takes atom negated goals.SetValue n takes = absurd takes
taking_takes atom negated goals.Supply n takes = absurd takes
taking_takes atom negated goals.RemoveSet n takes = tt
taking_takes atom negated goals.RemoveTuple n takes = tt
taking_takes atom negated goals.Trim n takes = tt
taking_takes atom negated goals.ExactlyOne n takes = absurd takes

-- no update is both the first one of a template that adds and one that takes away
pub adds_take_none : (is_fact : Fact → Type 0) (b : Binding) (atom : Atom) (goal : Goal) → Adds is_fact b atom goal → TakesAway goal 0 → ⊥
adds_take_none is_fact b atom goals.AddSet adds takes = takes
adds_take_none is_fact b atom goals.AddTuple adds takes = takes
adds_take_none is_fact b atom goals.SetValue adds takes = takes
adds_take_none is_fact b atom goals.Supply adds takes = takes
adds_take_none is_fact b atom goals.ExactlyOne adds takes = takes
adds_take_none is_fact b atom goals.RemoveSet adds takes = adds
adds_take_none is_fact b atom goals.RemoveTuple adds takes = adds
adds_take_none is_fact b atom goals.Trim adds takes = adds

pub adder_takes_none : (spec : Spec) (known : KnownSets) (goal : Goal) (atom : Atom) (u : Update) → IsAdder spec known goal atom u → TakesAway goal 0 → ⊥
adder_takes_none spec known goal atom u (IsAdder.joins j) takes = subst (λ g. TakesAway g 0) j.goal_is takes
adder_takes_none spec known goal atom u (IsAdder.relates r) takes = subst (λ g. TakesAway g 0) r.goal_is takes
adder_takes_none spec known goal atom u (IsAdder.supplies_some measure is atom_is s) takes = subst (λ g. TakesAway g 0) is takes
adder_takes_none spec known goal atom u (IsAdder.supplies_one measure is atom_is s) takes = subst (λ g. TakesAway g 0) is takes
adder_takes_none spec known goal atom u (IsAdder.sets s) takes = subst (λ g. TakesAway g 0) s.goal_is takes
