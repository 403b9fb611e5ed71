-- What a fault of a formula says.
use Rattle.std.specs.Prelude.{◌≡◌, false, Option, None, Some}
use Rattle.dsr_ir.specs.Formulas.{FormulaShape}
use Rattle.dsr_language_theory.specs.NormalForms.{Refusal, negated_value, too_many_conjunctions, too_many_atoms, refusal_of, distributed, negates, is_too_large}
use Rattle.dsr_normal.specs.declared.faults.NormalFault.{NormalFault}
use Rattle.dsr_normal.specs.declared.faults.NormalFault.TheVariants as faults

-- the refusal that a fault tells; want of memory tells none
abbrev pub refusal_told : NormalFault → Option Refusal
refusal_told faults.NegatedValue = Some negated_value
refusal_told faults.TooManyConjunctions = Some too_many_conjunctions
refusal_told faults.TooManyAtoms = Some too_many_atoms
refusal_told faults.NoMemory = None

-- the fault is the first one of the formula; want of memory is met only where the first two faults
-- are not there
abbrev pub IsTold : FormulaShape → NormalFault → Type 0
IsTold formula faults.NoMemory =
    (negates false formula ≡ false) × (is_too_large (distributed false false formula) ≡ false)
IsTold formula fault = refusal_of formula ≡ refusal_told fault
