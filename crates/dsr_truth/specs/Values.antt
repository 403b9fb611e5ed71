-- Numbers that a relation gives to an element, compared with another number.
use Rattle.std.specs.Prelude.{◌≤◌, ℕ, Option, MatchOption}
use Rattle.dsr_ir.specs.declared.rules.Op.{Op}
use Rattle.dsr_meaning.specs.Instances.{Compares}

-- the value is one of these, and none of them is greater
pub record IsGreatestValue (Values : ℕ → Type 0) (value : ℕ) : Type 0 where
  pub held : Values value
  pub greatest : (other : ℕ) → Values other → other ≤ value

-- the answer is the greatest of the values, and None where there is none
abbrev pub FindsGreatestValue : (ℕ → Type 0) → Option ℕ → Type 0
FindsGreatestValue Values answer = MatchOption answer ((other : ℕ) → Values other → ⊥) (IsGreatestValue Values)

-- no value is greater than one number that meets the comparison
abbrev pub ReachUp : (ℕ → Type 0) → Op → ℕ → Type 0
ReachUp Values op number =
    (value : ℕ) → Values value → (last : ℕ) × (value ≤ last) × Compares op last number

-- no value is less than one number that meets it
abbrev pub ReachDown : (ℕ → Type 0) → Op → ℕ → Type 0
ReachDown Values op number =
    (value : ℕ) → Values value → (first : ℕ) × (first ≤ value) × Compares op first number

-- some value doesn't meet it
abbrev pub SomeFails : (ℕ → Type 0) → Op → ℕ → Type 0
SomeFails Values op number = (value : ℕ) × Values value × (Compares op value number → ⊥)
