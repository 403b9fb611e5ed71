use Rattle.dsr_plan_laws.proofs.Unique.{listed_one}
use Rattle.dsr_plan_laws.proofs.lists.a_literal_has_one_list.Goals as goal

pub returns : goal.returns
returns c = λ owner conj literal ts us a b. listed_one owner conj literal ts us a b
