-- The next fact of a symbol may be asked for the one behind it.
use Rattle.std.proofs.Common.{IfSome, Option, None, Some}
use Rattle.dsr_ir.specs.declared.tuples.Fact.{Fact}
use Rattle.dsr_ir.specs.declared.updates.Symbol.{Symbol}
use Rattle.dsr_meaning.specs.Looking.{FindsNextFact, IsOf}
use Rattle.dsr_model.specs.Facts.{IsInModel, MayBeOf}
use Rattle.dsr_model.specs.Views.{ModelView}

pub next_kind : (m : ModelView) (symbol : Symbol) (before answer : Option Fact)
    → ((fact : Fact) → IsOf (IsInModel m) symbol fact → MayBeOf m symbol fact)
    → FindsNextFact (IsInModel m) symbol before answer
    → IfSome answer (MayBeOf m symbol)
next_kind m symbol before None kinds h = tt
next_kind m symbol before (Some fact) kinds h = kinds fact h.of_kind.0
