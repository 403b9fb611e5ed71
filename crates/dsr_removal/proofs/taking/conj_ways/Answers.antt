use Rattle.std.proofs.Common.{◌∙◌, Some, slice_get, sym, ap, arith}
use Rattle.std.proofs.lemmas.Grind.{common_steps}
use Rattle.std.specs.Prelude.{option_and_then}
use Rattle.std.proofs.lemmas.Option.{slice_get-get_or}
use Rattle.dsr_removal.proofs.taking.conj_ways.Goals as goal

pub literal_way-requires-clause-there : goal.literal_way-requires-clause-there
literal_way-requires-clause-there c =
    let place = c.loop-place.place in
    let here = sym (ap (λ xs. slice_get xs place) c.items-literal-items.ensures) ∙ slice_get-get_or c.items-literal-items.result.now place _ c.loop-place-test.true in
    let its = c.requires.there in
    record { its = its.its; in_graph = its.in_graph; literal_is = ap (option_and_then (λ l. slice_get l.literals place)) its.conj_is ∙ here }

pub returns : goal.returns
returns c = grind (arith, common_steps)
