use Rattle.dsr_cert.proofs.Unflawed.{plan_of}
use Rattle.dsr_cert.proofs.laws.flawless_choices_are_plans.Goals as goal

pub returns : goal.returns
returns c = λ spec graph choice graph_is fits none. plan_of spec choice fits graph graph_is none
