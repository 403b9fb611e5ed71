-- The fields that are reset already.
use Rattle.std.proofs.Common.{drop}
use Rattle.dsr_meaning.specs.Lists.{each_at}
use Rattle.dsr_step_theory.specs.Resets.{field_puts}
use Rattle.dsr_update.proofs.Putting.{IsPutting}
use Rattle.dsr_update.proofs.resets.reset_structure.Given as goal

-- the fields so far are reset
abbrev pub invariant-loop-field : goal.invariant-loop-field
invariant-loop-field g l =
    IsPutting (each_at (λ k field. field_puts l.layout l.elem (record { structure = l.number; field = k }) field) 0 l.declared-items)
    (each_at (λ k field. field_puts l.layout l.elem (record { structure = l.number; field = k }) field) l.field (drop l.field l.declared-items))
    (g.I.ImageBytes.bytes l.fn.image) (g.I.ImageBytes.bytes l.image) (g.I.ImageBytes.claimed l.fn.image) (g.I.ImageBytes.claimed l.image)
