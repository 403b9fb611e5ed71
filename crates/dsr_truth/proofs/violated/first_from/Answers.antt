use Rattle.std.proofs.Common.{◌+◌, ◌-◌, drop, get_or, length, take}
use Rattle.std.proofs.lemmas.Option.{slice_get-get_or}
use Rattle.dsr_model.specs.Facts.{IsInModel}
use Rattle.dsr_truth.proofs.Satisfying.{rest_behind}
use Rattle.dsr_truth.proofs.Searching.{from_finds, from_rest}
use Rattle.dsr_truth.proofs.violated.first_from.Goals as goal

pub returns-in-Some : goal.returns-in-Some
returns-in-Some c =
    let order = c.args.order.now in
    let at = c.args.at in
    let here = slice_get-get_or order at 0 c.requires.place in
    from_finds (IsInModel c.args.model.now) c.args.spec.now order at (get_or order at 0) here c.args.binding.now
    c.requires.before c.in-Some.found c.in-Some.ensures

pub returns : goal.returns
returns c =
    let order = c.args.order.now in
    let at = c.args.at in
    let here = slice_get-get_or order at 0 c.requires.place in
    let rest = take (length order - (at + 1)) (drop (at + 1) order) in
    from_rest (IsInModel c.args.model.now) c.args.spec.now order at (get_or order at 0) here c.args.binding.now
    c.requires.before c.in_default.ensures rest (rest_behind order (at + 1)) c.first_violated.result
    c.first_violated.ensures
