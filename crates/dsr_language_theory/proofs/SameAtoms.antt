-- Atoms are told apart exactly where they differ, and an atom is found in a list exactly where it stands there.
use Rattle.std.proofs.Common.{◌≡◌, ℕ, Bool, true, false, eqb, List, [], ◌∷◌, ◌⊎◌, inl, inr, refl, ap, sym, ◌∙◌}
use Rattle.std.specs.Prelude.{if◌then◌else◌, ◌↔◌, ◌&&◌, IsTrue}
use Rattle.std.proofs.lemmas.Bool.{eqb-true, eq-eqb, and_parts, and_from}
use Rattle.dsr_ir.specs.declared.constraints.Atom.{Atom}
use Rattle.dsr_ir.specs.declared.constraints.Atom.TheVariants as atoms
use Rattle.dsr_ir.specs.declared.constraints.Bound.{Bound}
use Rattle.dsr_ir.specs.declared.constraints.Bound.TheVariants as bounds
use Rattle.dsr_ir.specs.declared.constraints.Measure.{Measure}
use Rattle.dsr_ir.specs.declared.constraints.Measure.TheVariants as measures
use Rattle.dsr_ir.specs.declared.constraints.Var.{Var}
use Rattle.dsr_ir.specs.declared.constraints.Var.TheVariants as vars
use Rattle.dsr_ir.specs.declared.rules.Op.{Op}
use Rattle.dsr_ir.specs.declared.rules.Op.TheVariants as ops
use Rattle.dsr_meaning.specs.Counting.{IsIn}
use Rattle.dsr_language_theory.specs.NormalForms.{is_same_var, is_same_op, is_same_measure, is_same_bound, is_same_atom, has_atom}

-- ---- what is told to be the same is the same

same_var : (v w : Var) → is_same_var v w ≡ true → v ≡ w
same_var vars.Head vars.Head e = refl
same_var vars.First vars.First e = refl
same_var vars.Second vars.Second e = refl
same_var _ _ e = absurd cc

same_op : (o p : Op) → is_same_op o p ≡ true → o ≡ p
same_op ops.Eq ops.Eq e = refl
same_op ops.Ne ops.Ne e = refl
same_op ops.Lt ops.Lt e = refl
same_op ops.Le ops.Le e = refl
same_op ops.Gt ops.Gt e = refl
same_op ops.Ge ops.Ge e = refl
same_op _ _ e = absurd cc

same_measure : (m n : Measure) → is_same_measure m n ≡ true → m ≡ n
same_measure (measures.Whole s) (measures.Whole t) e = ap measures.Whole (eqb-true s t e)
same_measure (measures.Out v r) (measures.Out w q) e =
    let p = and_parts (is_same_var v w) (eqb r q) e in
    let f = same_var v w p.0 in
    let g = eqb-true r q p.1 in
    λ i. measures.Out (f i) (g i)
same_measure (measures.Into r v) (measures.Into q w) e =
    let p = and_parts (eqb r q) (is_same_var v w) e in
    let f = eqb-true r q p.0 in
    let g = same_var v w p.1 in
    λ i. measures.Into (f i) (g i)
same_measure _ _ e = absurd cc

same_bound : (b c : Bound) → is_same_bound b c ≡ true → b ≡ c
same_bound (bounds.Num m) (bounds.Num n) e = ap bounds.Num (eqb-true m n e)
same_bound (bounds.Size m) (bounds.Size n) e = ap bounds.Size (same_measure m n e)
same_bound _ _ e = absurd cc

pub same_atom : (a b : Atom) → is_same_atom a b ≡ true → a ≡ b
same_atom (atoms.Member v s) (atoms.Member w t) e =
    let p = and_parts (is_same_var v w) (eqb s t) e in
    let f = same_var v w p.0 in
    let g = eqb-true s t p.1 in
    λ i. atoms.Member (f i) (g i)
same_atom (atoms.Pair a b r) (atoms.Pair c d q) e =
    let p = and_parts (is_same_var a c) (is_same_var b d && eqb r q) e in
    let more = and_parts (is_same_var b d) (eqb r q) p.1 in
    let f = same_var a c p.0 in
    let g = same_var b d more.0 in
    let h = eqb-true r q more.1 in
    λ i. atoms.Pair (f i) (g i) (h i)
same_atom (atoms.Count m o k) (atoms.Count n p l) e =
    let q = and_parts (is_same_measure m n) (is_same_op o p && eqb k l) e in
    let more = and_parts (is_same_op o p) (eqb k l) q.1 in
    let f = same_measure m n q.0 in
    let g = same_op o p more.0 in
    let h = eqb-true k l more.1 in
    λ i. atoms.Count (f i) (g i) (h i)
same_atom (atoms.Value v r o b) (atoms.Value w q p c) e =
    let x = and_parts (is_same_var v w) (eqb r q && (is_same_op o p && is_same_bound b c)) e in
    let y = and_parts (eqb r q) (is_same_op o p && is_same_bound b c) x.1 in
    let z = and_parts (is_same_op o p) (is_same_bound b c) y.1 in
    let f = same_var v w x.0 in
    let g = eqb-true r q y.0 in
    let h = same_op o p z.0 in
    let k = same_bound b c z.1 in
    λ i. atoms.Value (f i) (g i) (h i) (k i)
same_atom _ _ e = absurd cc

-- ---- each is the same as itself

var_self : (v : Var) → is_same_var v v ≡ true
var_self vars.Head = refl
var_self vars.First = refl
var_self vars.Second = refl

op_self : (o : Op) → is_same_op o o ≡ true
op_self ops.Eq = refl
op_self ops.Ne = refl
op_self ops.Lt = refl
op_self ops.Le = refl
op_self ops.Gt = refl
op_self ops.Ge = refl

number_self : (n : ℕ) → eqb n n ≡ true
number_self n = eq-eqb n n refl

measure_self : (m : Measure) → is_same_measure m m ≡ true
measure_self (measures.Whole s) = number_self s
measure_self (measures.Out v r) = and_from (is_same_var v v) (eqb r r) (var_self v) (number_self r)
measure_self (measures.Into r v) = and_from (eqb r r) (is_same_var v v) (number_self r) (var_self v)

bound_self : (b : Bound) → is_same_bound b b ≡ true
bound_self (bounds.Num n) = number_self n
bound_self (bounds.Size m) = measure_self m

atom_self : (a : Atom) → is_same_atom a a ≡ true
atom_self (atoms.Member v s) = and_from (is_same_var v v) (eqb s s) (var_self v) (number_self s)
atom_self (atoms.Pair v w r) = and_from (is_same_var v v) (is_same_var w w && eqb r r) (var_self v) (and_from (is_same_var w w) (eqb r r) (var_self w) (number_self r))
atom_self (atoms.Count m o k) = and_from (is_same_measure m m) (is_same_op o o && eqb k k) (measure_self m) (and_from (is_same_op o o) (eqb k k) (op_self o) (number_self k))
atom_self (atoms.Value v r o b) = and_from (is_same_var v v) (eqb r r && (is_same_op o o && is_same_bound b b)) (var_self v) (and_from (eqb r r) (is_same_op o o && is_same_bound b b) (number_self r) (and_from (is_same_op o o) (is_same_bound b b) (op_self o) (bound_self b)))

pub told_apart : (a b : Atom) → IsTrue (is_same_atom a b) ↔ (a ≡ b)
told_apart a b = (λ e. same_atom a b e, λ e. ap (is_same_atom a) (sym e) ∙ atom_self a)

-- ---- an atom in a list

pub has_is : (atoms : List Atom) (a : Atom) → has_atom atoms a ≡ true → IsIn a atoms
has_is [] a e = absurd cc
has_is (x ∷ xs) a e = elim (is_same_atom x a) as (λ t. is_same_atom x a ≡ t → (if t then true else has_atom xs a) ≡ true → (a ≡ x) ⊎ IsIn a xs) [
  | true ↦ λ p q. inl (sym (same_atom x a p))
  | false ↦ λ p q. inr (has_is xs a q)
] refl e

first_or : (b c : Bool) → c ≡ true → (if b then true else c) ≡ true
first_or true c e = refl
first_or false c e = e

pub in_has : (atoms : List Atom) (a : Atom) → IsIn a atoms → has_atom atoms a ≡ true
in_has [] a h = absurd h
in_has (x ∷ xs) a (inl e) = ap (λ t. if t then true else has_atom xs a) (ap (is_same_atom x) e ∙ atom_self x)
in_has (x ∷ xs) a (inr h) = first_or (is_same_atom x a) (has_atom xs a) (in_has xs a h)

pub found : (atoms : List Atom) (a : Atom) → IsTrue (has_atom atoms a) ↔ IsIn a atoms
found atoms a = (has_is atoms a, in_has atoms a)
