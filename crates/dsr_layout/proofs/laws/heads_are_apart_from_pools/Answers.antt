use Rattle.dsr_layout.proofs.Fitting.{head_apart}
use Rattle.dsr_layout.proofs.laws.heads_are_apart_from_pools.Goals as goal

pub returns : goal.returns
returns c spec bytes layout is p at n numbers in_head in_pool = head_apart spec bytes is.accepted layout is.numbers p n numbers at in_head in_pool
