-- What a derived `==` says of two causes: that they are the same.
use Rattle.std.proofs.Common.{◌≡◌, true, ap, subst, Decides}
use Rattle.std.specs.Option.{option_eq}
use Rattle.std.proofs.lemmas.Bool.{and_parts, eqb-true}
use Rattle.dsr_graph_theory.specs.contracts.causes.CauseEq.TheImpl.Laws.{laws-law}
use Rattle.dsr_graph_theory.specs.contracts.causes.CausePartialEq.TheImpl as cause
use Rattle.dsr_graph_theory.specs.contracts.causes.ReasonPartialEq.TheImpl as reason
use Rattle.dsr_graph_theory.specs.declared.causes.Cause.{Cause}
use Rattle.dsr_graph_theory.specs.declared.causes.Reason.{Reason}
use Rattle.dsr_graph_theory.specs.declared.causes.Reason.TheVariants as reasons
use Rattle.dsr_ir.specs.contracts.constraints.VarPartialEq.TheImpl as variable
use Rattle.dsr_ir.specs.contracts.updates.SymbolPartialEq.TheImpl as symbol
use Rattle.dsr_ir.specs.declared.updates.Symbol.{Symbol}
use Rattle.dsr_ir.specs.declared.updates.Symbol.TheVariants as symbols
use Rattle.dsr_goal.proofs.Decided.{maybe, var_is}

symbol_is : (a b : Symbol) → symbol.ghosts.eq a b ≡ true → a ≡ b
symbol_is (symbols.Set a) (symbols.Set b) e = ap symbols.Set (eqb-true a b e)
symbol_is (symbols.Rel a) (symbols.Rel b) e = ap symbols.Rel (eqb-true a b e)
symbol_is _ _ e = absurd cc

reason_is : (a b : Reason) → reason.ghosts.eq a b ≡ true → a ≡ b
reason_is (reasons.Gain a) (reasons.Gain b) e = ap reasons.Gain (symbol_is a b e)
reason_is (reasons.Loss a) (reasons.Loss b) e = ap reasons.Loss (symbol_is a b e)
reason_is _ _ e = absurd cc

cause_is : (a b : Cause) → cause.ghosts.eq a b ≡ true → a ≡ b
cause_is a b e =
    let h = and_parts (reason.ghosts.eq a.reason b.reason) (option_eq variable.ghosts.eq a.at b.at) e in
    λ i. record { reason = reason_is a.reason b.reason h.0 i; at = maybe variable.ghosts.eq var_is a.at b.at h.1 i }

pub cause_decides : (a b : Cause) → Decides (cause.ghosts.eq a b) (a ≡ b)
cause_decides a b = (cause_is a b, λ e. subst (λ x. cause.ghosts.eq a x ≡ true) e (laws-law.refl a))
