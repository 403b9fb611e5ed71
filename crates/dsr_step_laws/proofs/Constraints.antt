-- The constraints of the examples, each by its own name.
use Rattle.std.proofs.Common.{◌≡◌, true, false, codes, Some, slice_get, refl}
use Rattle.dsr_ir.specs.declared.constraints.Atom.TheVariants as atoms
use Rattle.dsr_ir.specs.declared.constraints.Bound.TheVariants as bounds
use Rattle.dsr_ir.specs.declared.constraints.Constraint.{Constraint}
use Rattle.dsr_ir.specs.declared.constraints.Measure.TheVariants.{Whole, Out}
use Rattle.dsr_ir.specs.declared.constraints.Quant.TheVariants.{Once, Each}
use Rattle.dsr_ir.specs.declared.constraints.Var.TheVariants.{First}
use Rattle.dsr_ir.specs.declared.rules.Op.TheVariants.{Eq, Le, Ge}
use Rattle.dsr_step_laws.proofs.Given.{constraint_of, constraints}

-- forall x in A : x in B
abbrev pub constraint_0 : Constraint
constraint_0 = constraint_of (codes "add") (Each 0) (atoms.Member First 1) false

-- forall x in A : <x, x> in N
abbrev pub constraint_1 : Constraint
constraint_1 = constraint_of (codes "relate") (Each 0) (atoms.Pair First First 0) false

-- forall x in A : not <x, x> in N
abbrev pub constraint_2 : Constraint
constraint_2 = constraint_of (codes "part") (Each 0) (atoms.Pair First First 0) true

-- forall x in A : x.V = 1
abbrev pub constraint_3 : Constraint
constraint_3 = constraint_of (codes "set") (Each 0) (atoms.Value First 1 Eq (bounds.Num 1)) false

-- size(A) <= 1
abbrev pub constraint_4 : Constraint
constraint_4 = constraint_of (codes "trim") Once (atoms.Count (Whole 0) Le 1) false

-- forall x in A : size(x.N) >= 1
abbrev pub constraint_5 : Constraint
constraint_5 = constraint_of (codes "supply") (Each 0) (atoms.Count (Out First 0) Ge 1) false

-- forall x in A : size(x.N) = 1
abbrev pub constraint_6 : Constraint
constraint_6 = constraint_of (codes "one") (Each 0) (atoms.Count (Out First 0) Eq 1) false

-- size(A) = 1
abbrev pub constraint_7 : Constraint
constraint_7 = constraint_of (codes "single") Once (atoms.Count (Whole 0) Eq 1) false

-- forall x in A : not x in B
abbrev pub constraint_8 : Constraint
constraint_8 = constraint_of (codes "remove") (Each 0) (atoms.Member First 1) true

-- each stands among the constraints, at the place of its number

pub stands_0 : slice_get constraints 0 ≡ Some constraint_0
stands_0 = refl

pub stands_1 : slice_get constraints 1 ≡ Some constraint_1
stands_1 = refl

pub stands_2 : slice_get constraints 2 ≡ Some constraint_2
stands_2 = refl

pub stands_3 : slice_get constraints 3 ≡ Some constraint_3
stands_3 = refl

pub stands_4 : slice_get constraints 4 ≡ Some constraint_4
stands_4 = refl

pub stands_5 : slice_get constraints 5 ≡ Some constraint_5
stands_5 = refl

pub stands_6 : slice_get constraints 6 ≡ Some constraint_6
stands_6 = refl

pub stands_7 : slice_get constraints 7 ≡ Some constraint_7
stands_7 = refl

pub stands_8 : slice_get constraints 8 ≡ Some constraint_8
stands_8 = refl
