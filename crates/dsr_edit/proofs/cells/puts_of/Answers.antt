use Rattle.std.proofs.Common.{subst, sym, ◌+◌}
use Rattle.dsr_edit.proofs.Judged.{ArePutTo, first_unwritable, puts_begin, puts_end, puts_more}
use Rattle.dsr_edit.proofs.cells.puts_of.Goals as goal

pub loop-place-init : goal.loop-place-init
loop-place-init c = subst (ArePutTo c.args.spec.now c.args.layout.now c.args.group.now 0) (sym c.in_ok-puts.ensures.items) (puts_begin c.args.spec.now c.args.layout.now c.args.group.now)

pub loop-place-preserved : goal.loop-place-preserved
loop-place-preserved c =
    subst (ArePutTo c.args.spec.now c.args.layout.now c.args.group.now (c.loop-place.place + 1)) (sym c.in_ok-push.ensures.items)
    (puts_more c.args.spec.now c.args.layout.now c.args.group.now c.loop-place.place c.loop-place.puts.items
    (record { write = c.write_at-write.result; cell = c.in-Some.cell; update = c.in_ok-update.update })
    c.write_at-write.ensures (record { may = c.in-Some.ensures; update = c.in_ok-update.ensures }) c.loop-place.invariant)

pub returns-in_default-clause-refused : goal.returns-in_default-clause-refused
returns-in_default-clause-refused c = first_unwritable c.args.spec.now c.args.layout.now c.args.group.now c.loop-place.place c.loop-place.puts.items c.write_at-write.result c.write_at-write.ensures c.in_default.ensures c.loop-place.invariant

pub returns-clause-writes : goal.returns-clause-writes
returns-clause-writes c = puts_end c.args.spec.now c.args.layout.now c.args.group.now c.loop-place.place c.loop-place.puts.items c.loop-place-test.false c.loop-place.invariant

pub returns-clause-ready : goal.returns-clause-ready
returns-clause-ready c = c.loop-place.invariant.ready
