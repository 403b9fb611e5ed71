use Rattle.std.proofs.Common.{length, nat_eq, rules, tests}
use Rattle.std.proofs.lemmas.Iterator.{YieldsList-from_slice}
use Rattle.std.proofs.lemmas.Iterator.Search.{any_from_yields_List}
use Rattle.dsr_goal.proofs.removing.lacks_option.Goals as goal

pub returns : goal.returns
returns c =
    any_from_yields_List (λ r. nat_eq (length r.options) 0) _ _ _ c.any.ensures.ran
    (YieldsList-from_slice c.args.removals.now cc)
    (λ x b q k. search (rules, tests))
