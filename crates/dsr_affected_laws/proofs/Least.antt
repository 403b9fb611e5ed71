-- What is closed has all that are affected.
use Rattle.std.proofs.Common.{◌≡◌, Bool, true, List, ap, subst}
use Rattle.std.specs.Prelude.{IsTrue}
use Rattle.std.proofs.lemmas.Bool.{eqb-true}
use Rattle.dsr_affected_laws.specs.Affected.{IsAffected, PassesAffected}
use Rattle.dsr_affected_laws.specs.Affected.IsAffected.{handed_on, read, swapped}
use Rattle.dsr_ir.specs.Rules.{is_same_symbol, symbol_of}
use Rattle.dsr_ir.specs.declared.declarations.FieldRef.{FieldRef}
use Rattle.dsr_ir.specs.declared.declarations.Spec.{Spec}
use Rattle.dsr_ir.specs.declared.updates.Symbol.{Symbol}
use Rattle.dsr_ir.specs.declared.updates.Symbol.TheVariants.{Set, Rel}

pub symbols_same : (a b : Symbol) → is_same_symbol a b ≡ true → a ≡ b
symbols_same (Set s) (Set t) e = ap Set (eqb-true s t e)
symbols_same (Set s) (Rel t) e = absurd cc
symbols_same (Rel s) (Set t) e = absurd cc
symbols_same (Rel s) (Rel t) e = ap Rel (eqb-true s t e)

module _ (spec : Spec) (fields : List FieldRef) (such : Symbol → Bool) (closed : PassesAffected spec fields such) where
  pub passed : (symbol : Symbol) → IsAffected spec fields symbol → IsTrue (such symbol)
  passed symbol (read s k rule giver reads) =
      subst (λ x. IsTrue (such x)) (symbols_same (symbol_of rule.inc) s giver.gives) (closed.read k rule giver.rule_is reads)
  passed symbol (handed_on s k rule premise giver is affected) =
      subst (λ x. IsTrue (such x)) (symbols_same (symbol_of rule.inc) s giver.gives)
      (closed.handed_on k rule premise giver.rule_is is (passed (Set premise) affected))
  passed symbol (swapped set base is affected) = closed.swapped set base is (passed (Set base) affected)
