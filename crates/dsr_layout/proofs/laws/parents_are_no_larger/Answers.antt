use Rattle.std.proofs.Common.{◌≤◌, IfSome}
use Rattle.dsr_meaning.specs.Places.{size_of}
use Rattle.dsr_layout.proofs.Enclosed.{parent_within}
use Rattle.dsr_layout.proofs.Items.{if_some}
use Rattle.dsr_layout.proofs.laws.parents_are_no_larger.Goals as goal

pub returns : goal.returns
returns c fixed structures child parent extends =
    let size = size_of fixed structures in
    if_some (λ smaller. IfSome (size child) (λ larger. smaller ≤ larger)) (size parent) (λ smaller small.
    if_some (λ larger. smaller ≤ larger) (size child) (λ larger large.
    parent_within fixed structures child parent extends.structure larger smaller extends.declared extends.parent_is extends.before large small))
