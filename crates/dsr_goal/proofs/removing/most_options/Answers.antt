use Rattle.std.proofs.Common.{length, max, rules, tests}
use Rattle.std.proofs.lemmas.Iterator.{YieldsList-from_slice}
use Rattle.std.proofs.lemmas.Iterator.Consumers.{fold_from_yields_List}
use Rattle.dsr_goal.proofs.removing.most_options.Goals as goal

pub returns : goal.returns
returns c =
    fold_from_yields_List _ (λ most r. max most (length r.options)) 0 _ c.fold.ensures.ran
    (YieldsList-from_slice c.args.removals.now cc)
    (λ a x b q k. search (rules, tests))
