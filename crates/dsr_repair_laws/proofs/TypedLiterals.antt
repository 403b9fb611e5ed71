-- A literal that stands in a typed specification is typed.
use Rattle.std.proofs.Common.{◌≡◌, ℕ, Some, slice_get}
use Rattle.dsr_ir.specs.declared.constraints.Conj.{Conj}
use Rattle.dsr_ir.specs.declared.constraints.Constraint.{Constraint}
use Rattle.dsr_ir.specs.declared.constraints.Literal.{Literal}
use Rattle.dsr_ir.specs.declared.declarations.Spec.{Spec}
use Rattle.dsr_layout.proofs.Meanings.{found_holds}
use Rattle.dsr_meaning.specs.Counting.{IsIn}
use Rattle.dsr_meaning.specs.Typed.{IsTyped, IsTypedConj, IsTypedConstraint, IsTypedLiteral, IsTypedQuant}
use Rattle.dsr_update_theory.specs.Templates.{literal_at}
use Rattle.dsr_meaning.proofs.Items.{item_at}
use Rattle.dsr_meaning.proofs.Options.{chained_from}

-- the literal stands in a conjunction of the constraint, which is one of the specification
pub record IsLiteralOf (spec : Spec) (c : Constraint) (its : Literal) : Type 0 where
  pub conj : Conj
  pub in_spec : IsIn c spec.constraints
  pub in_constraint : IsIn conj c.conjs
  pub in_conj : IsIn its conj.literals

pub record IsTypedIn (spec : Spec) (c : Constraint) (its : Literal) : Type 0 where
  pub literal : IsLiteralOf spec c its
  pub literal_typed : IsTypedLiteral spec c.quant its
  pub quant_typed : IsTypedQuant spec.base c.quant

pub typed_in : (spec : Spec) (typed : IsTyped spec) (n : ℕ) (c : Constraint) (conj literal : ℕ) (its : Literal) → slice_get spec.constraints n ≡ Some c → literal_at c conj literal ≡ Some its → IsTypedIn spec c its
typed_in spec typed n c conj literal its declared is =
    let of = found_holds (IsTypedConstraint spec) spec.constraints n c typed.constraints declared in
    let found = chained_from (λ (l : Conj). slice_get l.literals literal) (slice_get c.conjs conj) its is in
    let of_conj = found_holds (IsTypedConj spec c.quant) c.conjs conj found.0 of.conjs found.1.0 in
    record {
      literal = record {
        conj = found.0;
        in_spec = item_at spec.constraints n c declared;
        in_constraint = item_at c.conjs conj found.0 found.1.0;
        in_conj = item_at found.0.literals literal its found.1.1;
      };
      literal_typed = found_holds (IsTypedLiteral spec c.quant) found.0.literals literal its of_conj.literals found.1.1;
      quant_typed = of.quant;
    }
