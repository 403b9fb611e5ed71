-- Bytes become 0, one after the other.
use Rattle.std.proofs.Common.{◌≤◌, ◌+◌, ◌/◌, ◌∙◌, inl, refl, ap, arith}
use Rattle.dsr_step_theory.specs.Resets.{byte_cell}
use Rattle.dsr_update.proofs.Left.{zeros_begin, zeros_end, zeros_next}
use Rattle.dsr_update.proofs.Putting.{put_all, put_none, put_one}
use Rattle.dsr_update.proofs.resets.zero_bytes.Goals as goal

pub overflow_add-byte-end : goal.overflow_add-byte-end
overflow_add-byte-end g c = omega (arith, c.requires.small)

pub loop-byte-init : goal.loop-byte-init
loop-byte-init g c = put_none (zeros_begin c.args.at c.args.count)

pub overflow_mul-cell : goal.overflow_mul-cell
overflow_mul-cell g c = omega (arith, c.requires.small, c.loop-byte-test.true)

pub put-requires-clause-cell : goal.put-requires-clause-cell
put-requires-clause-cell g c = record {
  form = (inl refl, omega arith);
  within = omega (arith, c.requires.within, c.loop-byte-test.true, c.loop-byte.invariant.long);
}

pub put-requires-clause-claimed : goal.put-requires-clause-claimed
put-requires-clause-claimed g c j from before =
    let first : c.loop-byte.byte ≤ j / 8 = omega (arith, from) in
    let last : j / 8 ≤ c.loop-byte.byte = omega (arith, before) in
    ap (λ claims. claims (j / 8)) c.loop-byte.invariant.kept
    ∙ c.requires.claimed (j / 8) (omega (arith, first, c.loop-byte.auto.byte)) (omega (arith, last, c.loop-byte-test.true))

pub loop-byte-preserved : goal.loop-byte-preserved
loop-byte-preserved g c =
    put_one (byte_cell c.loop-byte.byte) 0 c.loop-byte.invariant (zeros_next c.loop-byte.byte (c.args.at + c.args.count) c.loop-byte-test.true) (record { puts = c.put.ensures.put; beside = c.put.ensures.beside; bytes = c.put.ensures.bytes }) c.put.ensures.kept

pub returns-clause-put : goal.returns-clause-put
returns-clause-put g c =
    let past : c.args.at + c.args.count ≤ c.loop-byte.byte = omega (arith, c.loop-byte-test.false) in
    put_all c.loop-byte.invariant (zeros_end c.loop-byte.byte (c.args.at + c.args.count) past)

pub returns-clause-long : goal.returns-clause-long
returns-clause-long g c = c.loop-byte.invariant.long

pub returns-clause-claimed : goal.returns-clause-claimed
returns-clause-claimed g c = c.loop-byte.invariant.kept
