use Rattle.std.proofs.Common.{sym}
use Rattle.dsr_overlay.proofs.Views.{are_bytes, as_long}
use Rattle.dsr_overlay.proofs.overlay.Overlay.length.Goals as goal

pub returns-clause-count : goal.returns-clause-count
returns-clause-count c = sym (as_long _ _ _ c.self.view_is c.self.invariant)

pub returns-clause-bytes : goal.returns-clause-bytes
returns-clause-bytes c = are_bytes _ _ _ c.self.view_is c.self.invariant
