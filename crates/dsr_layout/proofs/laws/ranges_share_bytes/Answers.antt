use Rattle.dsr_layout.proofs.SharedBytes.{shared_byte, byte_shared}
use Rattle.dsr_layout.proofs.laws.ranges_share_bytes.Goals as goal

pub returns : goal.returns
returns c a b = (shared_byte a b, λ found. byte_shared a b found.0 found.1 found.2)
