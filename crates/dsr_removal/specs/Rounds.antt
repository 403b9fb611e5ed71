-- Rounds in which constraints are placed.
use Rattle.std.specs.Prelude.{◌≡◌, ◌<◌, ◌+◌, ℕ, suc, nat_le, Bool, true, false, IsTrue, List, [], ◌∷◌, Option, None, Some, MatchOption, length, slice_get, slice_index_or}
use Rattle.std.specs.Option.{option_map_or}
use Rattle.dsr_graph.specs.Paired.{ArePaired}
use Rattle.dsr_ir.specs.declared.constraints.Constraint.{Constraint}
use Rattle.dsr_ir.specs.declared.declarations.Spec.{Spec}
use Rattle.dsr_plan_theory.specs.Stuck.{IsHeld, MayBeFirst}

-- a constraint with this round, or none, is left when the round with the number begins
abbrev pub is_late : ℕ → Option ℕ → Bool
is_late number None = true
is_late number (Some round) = nat_le number round

abbrev pub is_left_at : List (Option ℕ) → ℕ → ℕ → Bool
is_left_at rounds number n = option_map_or (is_late number) (slice_get rounds n) false

abbrev pub IsLeftAt : List (Option ℕ) → ℕ → ℕ → Type 0
IsLeftAt rounds number n = IsTrue (is_left_at rounds number n)

-- the constraint with the number n is placed in this round
abbrev pub IsPlacedIn : List (Option ℕ) → ℕ → ℕ → Type 0
IsPlacedIn rounds round n = slice_get rounds n ≡ Some (Some round)

-- how many constraints have no round
abbrev pub unplaced : List (Option ℕ) → ℕ
unplaced [] = 0
unplaced (None ∷ rounds) = suc (unplaced rounds)
unplaced (Some round ∷ rounds) = unplaced rounds

-- ---- one round

-- a constraint keeps its round, is placed where it may be first, or is held
abbrev pub IsNext : Spec → (ℕ → Type 0) → ℕ → ℕ → Constraint → Option ℕ → Option ℕ → Type 0
IsNext spec Member number n constraint (Some round) after = after ≡ Some round
IsNext spec Member number n constraint None after =
    MatchOption after (IsHeld spec Member n constraint)
    (λ round. (round ≡ number) × MayBeFirst spec Member n constraint)

abbrev pub AreNext : Spec → List (Option ℕ) → ℕ → List (Option ℕ) → Type 0
AreNext spec rounds number next =
    ArePaired (λ n constraint after.
    IsNext spec (IsLeftAt rounds number) number n constraint (slice_index_or rounds n None) after)
    spec.constraints next

-- ---- all rounds

-- so many rounds: each places those that may be first among the ones that are left, and no others,
-- and none is idle
pub record AreRounds (spec : Spec) (rounds : List (Option ℕ)) (count : ℕ) : Type 0 where
  pub as_many : length rounds ≡ length spec.constraints
  pub below : (n round : ℕ) → IsPlacedIn rounds round n → round < count
  pub first :
      (n round : ℕ) (constraint : Constraint) → IsPlacedIn rounds round n
      → slice_get spec.constraints n ≡ Some constraint
      → MayBeFirst spec (IsLeftAt rounds round) n constraint
  pub held :
      (n round : ℕ) (constraint : Constraint) → round < count → IsLeftAt rounds (round + 1) n
      → slice_get spec.constraints n ≡ Some constraint
      → IsHeld spec (IsLeftAt rounds round) n constraint
  pub used : (round : ℕ) → round < count → (n : ℕ) × IsPlacedIn rounds round n

-- and one more would place none
pub record AreSettled (spec : Spec) (rounds : List (Option ℕ)) (count : ℕ) : Type 0 where
  pub rounds_are : AreRounds spec rounds count
  pub ends :
      (n : ℕ) (constraint : Constraint) → IsLeftAt rounds count n
      → slice_get spec.constraints n ≡ Some constraint
      → IsHeld spec (IsLeftAt rounds count) n constraint
