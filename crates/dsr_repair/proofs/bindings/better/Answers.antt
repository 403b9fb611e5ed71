use Rattle.std.proofs.Common.{sym, ◌∙◌}
use Rattle.std.proofs.lemmas.Bool.{false≢true}
use Rattle.dsr_repair.proofs.Best.{becomes_of, stands_lower, stays_low, stays_none}
use Rattle.dsr_model.specs.Facts.{IsInModel}
use Rattle.dsr_repair.proofs.bindings.better.Goals as goal

pub returns-then-is_as_low : goal.returns-then-is_as_low
returns-then-is_as_low c = λ choice at best.
    stays_low (IsInModel c.args.model.now) c.args.spec.now choice c.args.number c.args.row.now at c.args.best
    (c.is_as_low.ensures.0 c.if-is_as_low.true) best

pub returns-in-Some : goal.returns-in-Some
returns-in-Some c = λ choice at best.
    becomes_of (IsInModel c.args.model.now) c.args.spec.now choice c.args.number c.args.row.now at c.args.best
    (record { constraint = c.in-Some.constraint; binding = c.in-Some.binding })
    (stands_lower (IsInModel c.args.model.now) c.args.spec.now choice c.args.number c.args.row.now at c.args.best
    (λ low. false≢true (sym c.if-is_as_low.false ∙ c.is_as_low.ensures.1 low)))
    best c.in-Some.ensures

pub returns-in-None : goal.returns-in-None
returns-in-None c = λ choice at best.
    stays_none (IsInModel c.args.model.now) c.args.spec.now choice c.args.number c.args.row.now at
    c.in-None.ensures c.args.best best
