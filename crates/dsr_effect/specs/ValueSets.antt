-- What sets of values hold, as the code keeps them.
use Rattle.std.specs.Prelude.{◌<◌, ◌≤◌, ◌^◌, ◌⊎◌, ℕ, Bool, IsTrue}
use Rattle.dsr_effect.specs.declared.values.Range.{Range}
use Rattle.dsr_effect.specs.declared.values.Values.{Values}
use Rattle.dsr_ir.specs.declared.declarations.Width.{Width}
use Rattle.dsr_ir.specs.declared.rules.Op.{Op}
use Rattle.dsr_ir.specs.declared.rules.Test.{Test}
use Rattle.dsr_meaning.specs.Cells.{width_bits}
use Rattle.dsr_meaning.specs.Instances.{Compares}
use Rattle.dsr_update_theory.specs.Values.{CellValue, ComesOut, IllegalReference, LegalReference, NoneReference, Number}

abbrev pub IsInRange : Range → ℕ → Type 0
IsInRange range n = (range.first ≤ n) × (n ≤ range.last)

abbrev pub HasNumber : Values → ℕ → Type 0
HasNumber values n = IsInRange values.low n ⊎ IsInRange values.high n

-- the set has the value
abbrev pub Has : Values → CellValue → Type 0
Has values (Number n) = HasNumber values n
Has values LegalReference = IsTrue values.legal
Has values IllegalReference = IsTrue values.illegal
Has values NoneReference = IsTrue values.none

-- a number of either range
abbrev pub IsNumberIn : Range → Range → CellValue → Type 0
IsNumberIn low high (Number n) = IsInRange low n ⊎ IsInRange high n
IsNumberIn low high _ = ⊥

-- a reference of a marked kind
abbrev pub IsReferenceOf : Bool → Bool → Bool → CellValue → Type 0
IsReferenceOf legal illegal none (Number n) = ⊥
IsReferenceOf legal illegal none LegalReference = IsTrue legal
IsReferenceOf legal illegal none IllegalReference = IsTrue illegal
IsReferenceOf legal illegal none NoneReference = IsTrue none

-- a number up to the limit of which the comparison holds
abbrev pub IsComparing : Op → ℕ → ℕ → CellValue → Type 0
IsComparing op k limit (Number n) = (n ≤ limit) × Compares op n k
IsComparing op k limit _ = ⊥

-- a number of the width with which the test comes out as wanted
abbrev pub IsNumberWanted : Width → Test → Bool → CellValue → Type 0
IsNumberWanted width test wanted (Number n) = (n < 2 ^ width_bits width) × ComesOut wanted test (Number n)
IsNumberWanted width test wanted _ = ⊥

-- a reference with which the test comes out as wanted
abbrev pub IsReferenceWanted : Test → Bool → CellValue → Type 0
IsReferenceWanted test wanted (Number n) = ⊥
IsReferenceWanted test wanted value = ComesOut wanted test value

-- the test comes out as wanted for each reference of the set
pub record AllReferencesComeOut (values : Values) (test : Test) (wanted : Bool) : Type 0 where
  pub legal : IsTrue values.legal → ComesOut wanted test LegalReference
  pub illegal : IsTrue values.illegal → ComesOut wanted test IllegalReference
  pub none : IsTrue values.none → ComesOut wanted test NoneReference
