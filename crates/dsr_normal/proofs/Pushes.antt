-- Pushing `not` down first and distributing then gives the same list.
use Rattle.std.proofs.Common.{◌≡◌, Bool, true, false, not, ◌++◌, refl}
use Rattle.dsr_ir.specs.Formulas.{FormulaShape, AnyOf, EveryOf, NotOf, GivenOf, LeafOf, FormulaShapes, NoneOf, MoreOf}
use Rattle.dsr_language_theory.specs.NormalForms.{joined, distributed, any_row, every_row}
use Rattle.dsr_normal.specs.Pushing.{pushed, pushed_row, spread, spread_any, spread_every}

mutual
  pub same_form : (n g : Bool) (s : FormulaShape) → distributed n g s ≡ spread (pushed n g s)
  same_form true g (AnyOf parts) = every_form true g parts
  same_form false g (AnyOf parts) = any_form false g parts
  same_form true g (EveryOf parts) = any_form true g parts
  same_form false g (EveryOf parts) = every_form false g parts
  same_form n g (NotOf part) = same_form (not n) g part
  same_form n g (GivenOf part) = same_form n true part
  same_form n g (LeafOf atom) = refl

  any_form : (n g : Bool) (parts : FormulaShapes) → any_row n g parts ≡ spread_any (pushed_row n g parts)
  any_form n g NoneOf = refl
  any_form n g (MoreOf first rest) = λ i. same_form n g first i ++ any_form n g rest i

  every_form : (n g : Bool) (parts : FormulaShapes) → every_row n g parts ≡ spread_every (pushed_row n g parts)
  every_form n g NoneOf = refl
  every_form n g (MoreOf first rest) = λ i. joined (same_form n g first i) (every_form n g rest i)
