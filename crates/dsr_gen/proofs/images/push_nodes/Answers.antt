use Rattle.std.proofs.Common.{sym, append-nil}
use Rattle.dsr_gen.proofs.Nodes.{node_pushed}
use Rattle.dsr_gen.proofs.images.push_nodes.Goals as goal

pub loop-value-init : goal.loop-value-init
loop-value-init c = sym (append-nil c.args.bytes.now.items)

pub loop-value-preserved : goal.loop-value-preserved
loop-value-preserved c =
    node_pushed c.args.links.now c.loop-value.value c.loop-value-test.true _ _ _ _ _ _ c.loop-value.invariant c.in_ok-extend_from_slice.ensures.items c.to_le_bytes.ensures c.in_ok-extend_from_slice-2.ensures.items c.to_le_bytes-in-loop-value.ensures
