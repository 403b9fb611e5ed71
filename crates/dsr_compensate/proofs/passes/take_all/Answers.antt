use Rattle.std.proofs.Common.{◌++◌, map}
use Rattle.std.specs.List.{flat_map}
use Rattle.dsr_compensate.specs.Taking.{ones_of}
use Rattle.dsr_compensate.proofs.passes.take_all.Goals as goal

pub returns-clause-taken : goal.returns-clause-taken
returns-clause-taken c = λ all before.
    let plain = all ++ map (λ x. x.template) c.args.tried.now in
    c.in_ok-take_all_twos.ensures.taken (plain ++ flat_map ones_of c.args.tried.now)
    (c.in_ok-take_all_ones.ensures.taken plain (c.in_ok-take_plain.ensures.taken all before))
