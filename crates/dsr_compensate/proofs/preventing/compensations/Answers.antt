use Rattle.std.proofs.Common.{◌≡◌, IfOk, Ok, Err, Result, Vec, Global, option_map, [], List, refl, sym, ap, subst, ◌∙◌}
use Rattle.dsr_compensate.proofs.Later.{if_compensated}
use Rattle.dsr_graph_theory.specs.Candidates.{AreCompensations, none}
use Rattle.dsr_compensate.specs.Owned.{owner_of}
use Rattle.dsr_compensate.proofs.preventing.compensations.Goals as goal

pub returns-in-Some : goal.returns-in-Some
returns-in-Some c =
    if_compensated (owner_of c.args.owner.now) c.args.template.now c.in-Some.update.now c.candidates.result
    (sym c.compensated.ensures ∙ ap (option_map (λ u. u.now)) c.in-Some.is) c.candidates.ensures

pub returns-in-None : goal.returns-in-None
returns-in-None c =
    subst (AreCompensations (owner_of c.args.owner.now) c.args.template.now) (sym c.new.ensures.items)
    (none (sym c.compensated.ensures ∙ ap (option_map (λ u. u.now)) c.in-None.is))
