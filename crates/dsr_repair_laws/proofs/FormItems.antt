-- Items of what rules of a symbol give.
use Rattle.std.proofs.Common.{◌≡◌, ℕ, true, List, [], Option, None, Some, inl, inr, sym, ap, subst, arith}
use Rattle.std.specs.Prelude.{slice_get, if◌then◌else◌}
use Rattle.std.proofs.lemmas.Bool.{eqb-true, false≢true}
use Rattle.dsr_ir.specs.Rules.{gives, is_same_symbol}
use Rattle.dsr_ir.specs.declared.updates.Symbol.TheVariants as symbols
use Rattle.dsr_ir.specs.declared.declarations.Spec.{Spec}
use Rattle.dsr_ir.specs.declared.rules.Rule.{Rule}
use Rattle.dsr_ir.specs.declared.updates.Symbol.{Symbol}
use Rattle.dsr_meaning.specs.Counting.{IsIn}
use Rattle.dsr_update_theory.specs.Templates.{listed}
use Rattle.dsr_update_theory.specs.Givers.{IsGiver, each_giver}
use Rattle.dsr_meaning.proofs.Items.{in_each_at, passed_in}

-- what is listed of an option
pub of_listed : {T : Type 0} (o : Option T) (x : T) → IsIn x (listed o) → o ≡ Some x
of_listed None x is_in = absurd is_in
of_listed (Some y) x (inl same) = ap Some (sym same)
of_listed (Some y) x (inr none) = absurd none

-- ---- what rules of a symbol give

-- of equal symbols
pub symbols_same : (a b : Symbol) → is_same_symbol a b ≡ true → a ≡ b
symbols_same (symbols.Set s) (symbols.Set t) e = ap symbols.Set (eqb-true s t e)
symbols_same (symbols.Rel r) (symbols.Rel q) e = ap symbols.Rel (eqb-true r q e)
symbols_same (symbols.Set s) (symbols.Rel q) e = absurd (false≢true e)
symbols_same (symbols.Rel r) (symbols.Set t) e = absurd (false≢true e)

pub record IsOfGiver {T : Type 0} (spec : Spec) (symbol : Symbol) (f : ℕ → Rule → List T) (y : T) : Type 0 where
  pub number : ℕ
  pub rule : Rule
  pub giver : IsGiver spec symbol number rule
  pub is_in : IsIn y (f number rule)

pub in_giver : {T : Type 0} (spec : Spec) (symbol : Symbol) (f : ℕ → Rule → List T) (y : T) → IsIn y (each_giver spec symbol f) → IsOfGiver spec symbol f y
in_giver spec symbol f y is_in =
    let found = in_each_at (λ k rule. if gives symbol rule.inc then f k rule else []) 0 spec.rules y is_in in
    let given = passed_in (gives symbol found.item.inc) (f found.number found.item) y found.is_in in
    let is = found.number_is in
    let number : found.at ≡ found.number = omega (arith, is) in
    record {
      number = found.number;
      rule = found.item;
      giver = record { rule_is = subst (λ k. slice_get spec.rules k ≡ Some found.item) number found.item_is; gives = given.0 };
      is_in = given.1;
    }
