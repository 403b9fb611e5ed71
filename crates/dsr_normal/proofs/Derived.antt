-- What the derived `==` says of two atoms.
use Rattle.std.proofs.Common.{◌≡◌, eqb, refl, ap}
use Rattle.std.specs.Prelude.{◌&&◌}
use Rattle.dsr_ir.specs.declared.constraints.Atom.{Atom}
use Rattle.dsr_ir.specs.declared.constraints.Atom.TheVariants as atoms
use Rattle.dsr_ir.specs.declared.constraints.Bound.{Bound}
use Rattle.dsr_ir.specs.declared.constraints.Bound.TheVariants as bounds
use Rattle.dsr_ir.specs.declared.constraints.Measure.{Measure}
use Rattle.dsr_ir.specs.declared.constraints.Measure.TheVariants as measures
use Rattle.dsr_ir.specs.declared.constraints.Var.{Var}
use Rattle.dsr_ir.specs.declared.constraints.Var.TheVariants as vars
use Rattle.dsr_ir.specs.declared.rules.Op.{Op}
use Rattle.dsr_ir.specs.declared.rules.Op.TheVariants as ops
use Rattle.dsr_ir.specs.contracts.constraints.AtomPartialEq.TheImpl as atom
use Rattle.dsr_ir.specs.contracts.constraints.BoundPartialEq.TheImpl as bound
use Rattle.dsr_ir.specs.contracts.constraints.MeasurePartialEq.TheImpl as measure
use Rattle.dsr_ir.specs.contracts.constraints.VarPartialEq.TheImpl as variable
use Rattle.dsr_ir.specs.contracts.rules.OpPartialEq.TheImpl as op
use Rattle.dsr_language_theory.specs.NormalForms.{is_same_var, is_same_op, is_same_measure, is_same_bound, is_same_atom}

var_eq : (v w : Var) → variable.ghosts.eq v w ≡ is_same_var v w
var_eq vars.Head vars.Head = refl
var_eq vars.First vars.First = refl
var_eq vars.Second vars.Second = refl
var_eq _ _ = refl

op_eq : (o p : Op) → op.ghosts.eq o p ≡ is_same_op o p
op_eq ops.Eq ops.Eq = refl
op_eq ops.Ne ops.Ne = refl
op_eq ops.Lt ops.Lt = refl
op_eq ops.Le ops.Le = refl
op_eq ops.Gt ops.Gt = refl
op_eq ops.Ge ops.Ge = refl
op_eq _ _ = refl

measure_eq : (m n : Measure) → measure.ghosts.eq m n ≡ is_same_measure m n
measure_eq (measures.Whole s) (measures.Whole t) = refl
measure_eq (measures.Out v r) (measures.Out w q) = ap (λ x. x && eqb r q) (var_eq v w)
measure_eq (measures.Into r v) (measures.Into q w) = ap (λ x. eqb r q && x) (var_eq v w)
measure_eq _ _ = refl

bound_eq : (b c : Bound) → bound.ghosts.eq b c ≡ is_same_bound b c
bound_eq (bounds.Num m) (bounds.Num n) = refl
bound_eq (bounds.Size m) (bounds.Size n) = measure_eq m n
bound_eq _ _ = refl

pub atom_eq : (a b : Atom) → atom.ghosts.eq a b ≡ is_same_atom a b
atom_eq (atoms.Member v s) (atoms.Member w t) = ap (λ x. x && eqb s t) (var_eq v w)
atom_eq (atoms.Pair a b r) (atoms.Pair c d q) = λ i. var_eq a c i && (var_eq b d i && eqb r q)
atom_eq (atoms.Count m o k) (atoms.Count n p l) = λ i. measure_eq m n i && (op_eq o p i && eqb k l)
atom_eq (atoms.Value v r o b) (atoms.Value w q p c) = λ i. var_eq v w i && (eqb r q && (op_eq o p i && bound_eq b c i))
atom_eq _ _ = refl
