use Rattle.std.proofs.Common.{◌≡◌, ◌-◌, ℕ, suc, arith}
use Rattle.dsr_edit.proofs.Stepping.{cell_there}
use Rattle.dsr_edit.proofs.Taking.{ready_at, taken_fits, taking_begins, taking_ends, taking_more}
use Rattle.dsr_edit.proofs.puts.put_back.Goals as goal

pub loop-place-init : goal.loop-place-init
loop-place-init c = taking_begins c.args.spec.now c.args.layout.now c.args.rules.now c.args.puts.now c.args.was.now c.args.image.now c.args.model.now c.requires.between

pub put_at-put-requires : goal.put_at-put-requires
put_at-put-requires c = let low = c.loop-place.invariant.low in omega (arith, low, c.loop-place-test.true)

pub value_at-value-requires : goal.value_at-value-requires
value_at-value-requires c = let low = c.loop-place.invariant.low in omega (arith, low, c.loop-place-test.true, c.requires.room)

pub put_one-changed-requires : goal.put_one-changed-requires
put_one-changed-requires c =
    let left : ℕ = c.loop-place.place - 1 in
    let left_is : c.loop-place.place ≡ suc left = omega (arith, c.loop-place-test.true) in
    record {
      between = c.loop-place.invariant.between;
      ready = ready_at c.args.spec.now c.args.layout.now c.args.puts.now left c.put_at-put.result.now c.put_at-put.ensures c.requires.ready;
      fits = taken_fits c.args.spec.now c.args.layout.now c.args.rules.now c.args.puts.now c.args.was.now c.args.image.now c.loop-place.place left left_is c.loop-place.image c.loop-place.model c.loop-place.changed c.loop-place.invariant c.put_at-put.result.now c.put_at-put.ensures c.value_at-value.result c.value_at-value.ensures c.requires.back;
    }

pub loop-place-preserved : goal.loop-place-preserved
loop-place-preserved c =
    let left : ℕ = c.loop-place.place - 1 in
    let left_is : c.loop-place.place ≡ suc left = omega (arith, c.loop-place-test.true) in
    let ready = ready_at c.args.spec.now c.args.layout.now c.args.puts.now left c.put_at-put.result.now c.put_at-put.ensures c.requires.ready in
    let form = (cell_there c.args.spec.now c.args.layout.now c.loop-place.image c.put_at-put.result.now c.loop-place.invariant.between.image ready).form in
    taking_more c.args.spec.now c.args.layout.now c.args.rules.now c.args.puts.now c.args.was.now c.args.image.now c.loop-place.place left left_is c.loop-place.image c.loop-place.model c.loop-place.changed c.loop-place.invariant c.put_at-put.result.now c.put_at-put.ensures c.value_at-value.result c.value_at-value.ensures
    c.put_one-changed.new.image c.put_one-changed.new.model c.put_one-changed.result form c.put_one-changed.ensures.put c.put_one-changed.ensures.between

pub settle-requires : goal.settle-requires
settle-requires c = record { between = c.loop-place.invariant.between }

pub returns : goal.returns
returns c = record {
  back = taking_ends c.args.spec.now c.args.layout.now c.args.rules.now c.args.puts.now c.args.was.now c.args.image.now c.loop-place.place c.loop-place.image c.loop-place.model c.loop-place.changed c.loop-place-test.false c.loop-place.invariant;
  between = c.settle.ensures.between;
}
