use Rattle.std.proofs.Common.{◌≡◌, IfOk, arith, map, subst}
use Rattle.dsr_answers.proofs.Refusing.{told_is}
use Rattle.dsr_meaning.specs.Consistency.{AreViolations, bound_constraint}
use Rattle.dsr_meaning.specs.Models.{IsFact}
use Rattle.dsr_command_image.specs.Repaired.{empty_answer, stopped_answer}
use Rattle.dsr_repair_theory.specs.Runs.{IsRun}
use Rattle.dsr_report.specs.Reports.{entries_text}
use Rattle.dsr_script.specs.Moves.{shown}
use Rattle.dsr_command_trial.specs.Trials.{IsTrial}
use Rattle.dsr_command_trial.proofs.Tried.{laid_out, trial_done, trial_stopped}
use Rattle.dsr_command_trial.proofs.trials.try_image.Goals as goal

pub violations_of-requires : goal.violations_of-requires
violations_of-requires c =
    laid_out c.args.plan.now.0 c.spec.result.now c.args.layout.now c.args.image.items c.new-image.result
    c.spec.ensures.is c.new-image.ensures c.requires.image c.requires.legal

pub returns-in-Consistent : goal.returns-in-Consistent
returns-in-Consistent c =
    let run = c.in_ok-run.run' in
    let told = c.in_ok-run.ensures.run in
    let vs = map bound_constraint c.in_ok-violated.violated.items in
    told_is (IsTrial c.args.number) c.trial_told.result _ c.trial_told.ensures
    (trial_done c.args.number c.args.plan.now.0 c.args.plan.now.1 c.args.layout.now c.args.image.items
    c.requires.made c.requires.meant c.requires.taken c.requires.image told.entries run.image run.outcome
    (subst (λ b. IsRun c.args.plan.now.0 c.args.plan.now.1 c.args.layout.now b told.entries run.image run.outcome)
    c.new-image.ensures told.is)
    c.in_ok-violated.violated.items _ _ _
    (subst (λ b. AreViolations (IsFact c.args.plan.now.0 c.args.layout.now b) c.args.plan.now.0 vs) c.new-image.ensures
    (subst (λ s. AreViolations (IsFact s c.args.layout.now c.new-image.result) s vs) c.spec.ensures.is
    c.in_ok-violated.ensures))
    c.in-Consistent.is (omega (arith, c.len-bytes.ensures, c.args.image.ok))
    (omega (arith, c.len.ensures, c.in_ok-violated.violated.ok)) told.counted)

pub returns : goal.returns
returns c =
    let run = c.in_ok-run.run' in
    let told = c.in_ok-run.ensures.run in
    let spec = c.args.plan.now.0 in
    told_is (IsTrial c.args.number) c.need_told.result (empty_answer spec told.entries c.in-Empty.need)
    (subst (λ n. IfOk c.need_told.result (λ told'. shown told' ≡ stopped_answer spec (entries_text spec told.entries) n c.in-Empty.need)) told.counted
    (subst (λ ls. IfOk c.need_told.result (λ told'. shown told' ≡ stopped_answer spec ls run.count c.in-Empty.need)) told.told
    (subst (λ s. IfOk c.need_told.result (λ told'. shown told' ≡ stopped_answer s run.text.items run.count c.in-Empty.need)) c.spec-in-Empty.ensures.is c.need_told.ensures)))
    (trial_stopped c.args.number spec c.args.plan.now.1 c.args.layout.now c.args.image.items
    c.requires.made c.requires.meant c.requires.taken c.requires.image told.entries run.image run.outcome
    (subst (λ b. IsRun spec c.args.plan.now.1 c.args.layout.now b told.entries run.image run.outcome)
    c.new-image.ensures told.is)
    c.in-Empty.need c.in-Empty.is)
