use Rattle.std.proofs.Common.{◌≡◌, ◌<◌, ℕ, Some, slice_get}
use Rattle.dsr_ir.specs.declared.declarations.SetDecl.{SetDecl}
use Rattle.dsr_lost.specs.Lost.{Holds}
use Rattle.dsr_lost.proofs.records.is_free.Given as goal

-- no set so far has the member
abbrev pub invariant-loop-number : goal.invariant-loop-number
invariant-loop-number l =
    (set : ℕ) (decl : SetDecl) → set < l.number → slice_get l.spec.base.sets set ≡ Some decl → Holds l.model set decl l.elem → ⊥
