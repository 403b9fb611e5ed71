use Rattle.std.proofs.Common.{sym, ◌∙◌, arith}
use Rattle.std.proofs.lemmas.Grind.{common_steps}
use Rattle.dsr_store.proofs.Places.{get-found, get-absent}
use Rattle.dsr_store.proofs.keeping.front_of.Goals as goal

pub returns-in-None : goal.returns-in-None
returns-in-None c = get-absent c.args.name.now c.args.files.now (sym c.place_of.ensures.first ∙ c.in-None.is)

pub returns-in_ok-from_slice-in-Some : goal.returns-in_ok-from_slice-in-Some
returns-in_ok-from_slice-in-Some c =
    rw (get-found c.args.name.now c.args.files.now c.in-Some.place c.index-files-place.result (sym c.place_of.ensures.first ∙ c.in-Some.is))
    (grind (arith, common_steps))

pub returns-in_ok-from_slice-in-Some-2 : goal.returns-in_ok-from_slice-in-Some-2
returns-in_ok-from_slice-in-Some-2 c =
    rw (get-found c.args.name.now c.args.files.now c.in-Some.place c.index-files-place.result (sym c.place_of.ensures.first ∙ c.in-Some.is))
    (grind (arith, common_steps))
