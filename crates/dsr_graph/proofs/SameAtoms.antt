-- What a derived `==` says of two atoms: that they are the same.
use Rattle.std.proofs.Common.{◌≡◌, ◌&&◌, true, false, eqb, ap, subst, Decides}
use Rattle.std.proofs.lemmas.Bool.{false≢true, and_parts, eqb-true}
use Rattle.dsr_ir.specs.contracts.constraints.AtomEq.TheImpl.Laws.{laws-law}
use Rattle.dsr_ir.specs.contracts.constraints.AtomPartialEq.TheImpl as atom
use Rattle.dsr_ir.specs.contracts.constraints.BoundPartialEq.TheImpl as bound
use Rattle.dsr_ir.specs.contracts.constraints.MeasurePartialEq.TheImpl as measure
use Rattle.dsr_ir.specs.contracts.constraints.VarPartialEq.TheImpl as variable
use Rattle.dsr_ir.specs.contracts.rules.OpPartialEq.TheImpl as op
use Rattle.dsr_ir.specs.declared.constraints.Atom.{Atom}
use Rattle.dsr_ir.specs.declared.constraints.Atom.TheVariants as atoms
use Rattle.dsr_ir.specs.declared.constraints.Bound.{Bound}
use Rattle.dsr_ir.specs.declared.constraints.Bound.TheVariants as bounds
use Rattle.dsr_goal.proofs.Decided.{measure_is, op_is, var_is}

bound_is : (a b : Bound) → bound.ghosts.eq a b ≡ true → a ≡ b
bound_is (bounds.Num m) (bounds.Num n) e = ap bounds.Num (eqb-true m n e)
bound_is (bounds.Size m) (bounds.Size n) e = ap bounds.Size (measure_is m n e)
bound_is _ _ e = absurd (false≢true e)

atom_is : (a b : Atom) → atom.ghosts.eq a b ≡ true → a ≡ b
atom_is (atoms.Member v s) (atoms.Member w t) e =
    let h = and_parts (variable.ghosts.eq v w) (eqb s t) e in
    λ i. atoms.Member (var_is v w h.0 i) (eqb-true s t h.1 i)
atom_is (atoms.Pair a b r) (atoms.Pair c d q) e =
    let h = and_parts (variable.ghosts.eq a c) (variable.ghosts.eq b d && eqb r q) e in
    let k = and_parts (variable.ghosts.eq b d) (eqb r q) h.1 in
    λ i. atoms.Pair (var_is a c h.0 i) (var_is b d k.0 i) (eqb-true r q k.1 i)
atom_is (atoms.Count m o k) (atoms.Count n p l) e =
    let h = and_parts (measure.ghosts.eq m n) (op.ghosts.eq o p && eqb k l) e in
    let g = and_parts (op.ghosts.eq o p) (eqb k l) h.1 in
    λ i. atoms.Count (measure_is m n h.0 i) (op_is o p g.0 i) (eqb-true k l g.1 i)
atom_is (atoms.Value v r o b) (atoms.Value w q p c) e =
    let h = and_parts (variable.ghosts.eq v w) (eqb r q && (op.ghosts.eq o p && bound.ghosts.eq b c)) e in
    let k = and_parts (eqb r q) (op.ghosts.eq o p && bound.ghosts.eq b c) h.1 in
    let l = and_parts (op.ghosts.eq o p) (bound.ghosts.eq b c) k.1 in
    λ i. atoms.Value (var_is v w h.0 i) (eqb-true r q k.0 i) (op_is o p l.0 i) (bound_is b c l.1 i)
atom_is _ _ e = absurd (false≢true e)

pub atom_decides : (a b : Atom) → Decides (atom.ghosts.eq a b) (a ≡ b)
atom_decides a b = (atom_is a b, λ e. subst (λ x. atom.ghosts.eq a x ≡ true) e (laws-law.refl a))
