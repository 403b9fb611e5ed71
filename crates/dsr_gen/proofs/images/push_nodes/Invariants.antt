use Rattle.std.proofs.Common.{◌≡◌, ◌++◌, take}
use Rattle.dsr_gen.specs.Images.{nodes_bytes}
use Rattle.dsr_gen.proofs.images.push_nodes.Given as goal

abbrev pub invariant-loop-value : goal.invariant-loop-value
invariant-loop-value l = l.bytes.items ≡ l.fn.bytes.items ++ nodes_bytes 0 (take l.value l.links)
