-- Entries of a field get a value, one after the other.
use Rattle.std.proofs.Common.{◌≤◌, ◌+◌, ◌*◌, ◌/◌, ◌∙◌, sym, ap, subst, arith}
use Rattle.dsr_update.proofs.Left.{entries_begin, entries_end, entries_next}
use Rattle.dsr_update.proofs.Putting.{put_all, put_none, put_one}
use Rattle.dsr_update.proofs.RecordSlots.{entry_claimed, value_fits}
use Rattle.dsr_update.proofs.resets.put_entries.Goals as goal

pub loop-index-init : goal.loop-index-init
loop-index-init g c = put_none (entries_begin c.args.layout.now c.args.elem c.args.field c.args.value c.args.count)

pub put-requires-clause-cell : goal.put-requires-clause-cell
put-requires-clause-cell g c = record {
  form = c.cell.ensures.form;
  within = subst (λ n. c.cell.result.bit + c.cell.result.width ≤ 8 * n) (sym (c.loop-index.invariant.long ∙ c.requires.long)) c.cell.ensures.within;
}

pub put-requires-clause-claimed : goal.put-requires-clause-claimed
put-requires-clause-claimed g c j from before =
    ap (λ claims. claims (j / 8)) c.loop-index.invariant.kept
    ∙ entry_claimed (g.I.ImageBytes.claimed c.args.image.now) c.args.layout.now c.args.elem c.args.field c.loop-index.index c.cell.result c.requires.slot c.requires.claimed
    (c.requires.entries c.loop-index.index c.loop-index-test.true) c.cell.ensures.cell j from before

pub put-requires-clause-fits : goal.put-requires-clause-fits
put-requires-clause-fits g c =
    value_fits c.args.layout.now c.args.elem c.args.field c.loop-index.index c.args.value c.cell.result (c.requires.entries c.loop-index.index c.loop-index-test.true) c.cell.ensures.cell c.requires.fits

pub loop-index-preserved : goal.loop-index-preserved
loop-index-preserved g c =
    put_one c.cell.result c.args.value c.loop-index.invariant
    (entries_next c.args.layout.now c.args.elem c.args.field c.args.value c.loop-index.index c.args.count c.cell.result c.loop-index-test.true c.cell.ensures.cell)
    (record { puts = c.put.ensures.put; beside = c.put.ensures.beside; bytes = c.put.ensures.bytes }) c.put.ensures.kept

pub returns-clause-put : goal.returns-clause-put
returns-clause-put g c =
    let past : c.args.count ≤ c.loop-index.index = omega (arith, c.loop-index-test.false) in
    put_all c.loop-index.invariant (entries_end c.args.layout.now c.args.elem c.args.field c.args.value c.loop-index.index c.args.count past)

pub returns-clause-long : goal.returns-clause-long
returns-clause-long g c = c.loop-index.invariant.long

pub returns-clause-claimed : goal.returns-clause-claimed
returns-clause-claimed g c = c.loop-index.invariant.kept
