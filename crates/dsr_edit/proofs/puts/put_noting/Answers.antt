use Rattle.dsr_edit.proofs.Stepping.{cell_there}
use Rattle.dsr_edit.proofs.Taking.{noting_back, noting_begins, noting_made, noting_more, ready_at}
use Rattle.dsr_edit.proofs.puts.put_noting.Goals as goal

pub loop-place-init : goal.loop-place-init
loop-place-init c = noting_begins c.args.spec.now c.args.layout.now c.args.rules.now c.args.puts.now c.args.was.now c.args.image.now c.args.model.now c.requires.room c.requires.between

pub get-noted-requires : goal.get-noted-requires
get-noted-requires c =
    let ready = ready_at c.args.spec.now c.args.layout.now c.args.puts.now c.loop-place.place c.put_at-put.result.now c.put_at-put.ensures c.requires.ready in
    cell_there c.args.spec.now c.args.layout.now c.loop-place.image c.put_at-put.result.now c.loop-place.invariant.between.image ready

pub put_one-changed-requires : goal.put_one-changed-requires
put_one-changed-requires c =
    let ready = ready_at c.args.spec.now c.args.layout.now c.args.puts.now c.loop-place.place c.put_at-put.result.now c.put_at-put.ensures c.requires.ready in
    record { between = c.loop-place.invariant.between; ready = ready; fits = ready.may.fits }

pub loop-place-preserved : goal.loop-place-preserved
loop-place-preserved c =
    let ready = ready_at c.args.spec.now c.args.layout.now c.args.puts.now c.loop-place.place c.put_at-put.result.now c.put_at-put.ensures c.requires.ready in
    noting_more c.args.spec.now c.args.layout.now c.args.rules.now c.args.puts.now c.loop-place.place c.loop-place.was c.args.image.now c.loop-place.image c.put_one-changed.new.image c.loop-place.model c.put_one-changed.new.model c.loop-place.changed c.put_one-changed.result c.put_at-put.result.now
    c.put_at-put.ensures c.loop-place-test.true ready.may c.get-noted.result c.get-noted.ensures.value c.get-noted.ensures.fits
    c.put_one-changed.ensures.put c.put_one-changed.ensures.between c.loop-place.invariant

pub settle-requires : goal.settle-requires
settle-requires c = record { between = c.loop-place.invariant.between }

pub returns : goal.returns
returns c = record {
  made = noting_made c.args.spec.now c.args.layout.now c.args.rules.now c.args.puts.now c.loop-place.place c.loop-place.was c.args.image.now c.loop-place.image c.loop-place.model c.loop-place.changed c.loop-place-test.false c.loop-place.invariant;
  room = c.loop-place.invariant.room;
  back = noting_back c.args.spec.now c.args.layout.now c.args.rules.now c.args.puts.now c.loop-place.place c.loop-place.was c.args.image.now c.loop-place.image c.loop-place.model c.loop-place.changed c.loop-place-test.false c.loop-place.invariant;
  between = c.settle.ensures.between;
}
