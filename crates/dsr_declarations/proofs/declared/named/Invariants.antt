use Rattle.std.proofs.Common.{◌≡◌, drop}
use Rattle.dsr_declarations.specs.Finding.{first_named}
use Rattle.dsr_declarations.proofs.declared.named.Given as goal

-- what is left tells the same
abbrev pub invariant-loop-item : goal.invariant-loop-item
invariant-loop-item g l = first_named g.T.Named.own_name l.name (drop l.item-index l.items) ≡ first_named g.T.Named.own_name l.name l.items
