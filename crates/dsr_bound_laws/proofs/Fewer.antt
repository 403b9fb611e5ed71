-- Fewer instances are active where none becomes so and one isn't any more.
use Rattle.std.proofs.Common.{◌≡◌, ◌<◌, ◌⊎◌, ℕ, List, ◌∷◌, inl, inr, sym, subst, arith}
use Rattle.dsr_repair_theory.specs.Choices.{TakesAway}
use Rattle.dsr_ir.specs.declared.constraints.Literal.{Literal}
use Rattle.dsr_ir.specs.declared.declarations.Spec.{Spec}
use Rattle.dsr_ir.specs.declared.layouts.Layout.{Layout}
use Rattle.dsr_ir.specs.declared.updates.Goal.{Goal}
use Rattle.dsr_ir.specs.declared.updates.Goal.TheVariants as goals
use Rattle.dsr_ir.specs.declared.updates.Symbol.{Symbol}
use Rattle.dsr_ir.specs.declared.updates.Template.{Template}
use Rattle.dsr_graph_theory.specs.Sides.{atom_symbol}
use Rattle.dsr_meaning.proofs.Counts.{no_more}
use Rattle.dsr_meaning.specs.Counting.{AreMany, IsIn}
use Rattle.dsr_meaning.specs.Models.{IsFact}
use Rattle.dsr_meaning.specs.Truth.{LiteralHolds}
use Rattle.dsr_step_theory.specs.declared.steps.Step.{Step}
use Rattle.dsr_template_laws.specs.Helping.{HasFewer, Helps, IsActiveFor}

-- the template takes facts away, or may do so
abbrev pub Stops : Goal → Type 0
Stops goals.RemoveSet = Unit {0}
Stops goals.RemoveTuple = Unit {0}
Stops goals.Trim = Unit {0}
Stops goals.ExactlyOne = Unit {0}
Stops _ = ⊥

-- fewer instances of the symbol's rules are active by the new bytes than were by the old ones
abbrev pub AreFewer : Spec → Layout → List ℕ → List ℕ → Symbol → Type 0
AreFewer spec layout old new symbol =
    (n m : ℕ) → AreMany (IsActiveFor spec layout old symbol) n → AreMany (IsActiveFor spec layout new symbol) m → m < n

-- the template takes facts away, and fewer instances are left that give them
pub record StopsSome (spec : Spec) (layout : Layout) (old new : List ℕ) (symbol : Symbol) (goal : Goal) : Type 0 where
  pub stops : Stops goal
  pub fewer : AreFewer spec layout old new symbol

-- of a kind that has no other things and lacks one there are fewer
pub many_fewer : {A : Type 0} (P Q : A → Type 0) (n m : ℕ) (x : A) → ((y : A) → Q y → P y) → P x → (Q x → ⊥) → AreMany P n → AreMany Q m → m < n
many_fewer P Q n m x fewer has lacks a b =
    let less = no_more (x ∷ b.things) a.things (λ i. lacks (b.enumerated.only x i), b.enumerated.distinct)
    (λ y i. elim i as (λ _. IsIn y a.things) [ inl e ↦ a.enumerated.all y (subst P (sym e) has) | inr j ↦ a.enumerated.all y (fewer y (b.enumerated.only y j)) ]) in
    let n_is = a.counted in
    let m_is = b.counted in
    omega (arith, less, n_is, m_is)

pub are_fewer : (spec : Spec) (layout : Layout) (old new : List ℕ) (symbol : Symbol) → HasFewer spec layout old new symbol → AreFewer spec layout old new symbol
are_fewer spec layout old new symbol h n m = many_fewer (IsActiveFor spec layout old symbol) (IsActiveFor spec layout new symbol) n m h.stopped h.none_new h.was h.no_more

taking_stops : (goal : Goal) (n : ℕ) → TakesAway goal n → Stops goal
taking_stops goals.RemoveSet n takes = tt
taking_stops goals.RemoveTuple n takes = tt
taking_stops goals.Trim n takes = tt
taking_stops goals.ExactlyOne n takes = tt
taking_stops goals.AddSet n takes = absurd takes
taking_stops goals.AddTuple n takes = absurd takes
taking_stops goals.SetValue n takes = absurd takes
taking_stops goals.Supply n takes = absurd takes

pub in_counts : (spec : Spec) (layout : Layout) (template : Template) (step : Step) (old new : List ℕ) (literal : Literal) → Helps spec layout template step old new literal
    → LiteralHolds (IsFact spec layout new) step.binding literal ⊎ StopsSome spec layout old new (atom_symbol literal.atom) template.goal
in_counts spec layout template step old new literal (inl holds) = inl holds
in_counts spec layout template step old new literal (inr less) = inr (record { stops = taking_stops template.goal step.update less.0; fewer = are_fewer spec layout old new (atom_symbol literal.atom) less.1 })
