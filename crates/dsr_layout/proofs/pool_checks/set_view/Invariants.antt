use Rattle.std.proofs.Common.{◌≡◌, nat_eq, drop, [], if◌then◌else◌}
use Rattle.dsr_meaning.specs.Lists.{each_at}
use Rattle.dsr_layout.specs.Tables.{size_in}
use Rattle.dsr_layout.specs.Telling.{told_of}
use Rattle.dsr_meaning.specs.Refusals.{view_refusals, set_refusals}
use Rattle.dsr_layout.proofs.pool_checks.set_view.Given as goal

abbrev pub invariant-loop-set : goal.invariant-loop-set
invariant-loop-set l = told_of (each_at (λ _ s. if nat_eq s.pool l.pool then view_refusals (size_in l.ends) l.layout l.pool s.structure else []) l.set-index (drop l.set-index l.sets)) ≡ told_of (set_refusals (size_in l.ends) l.layout l.pool l.sets)
