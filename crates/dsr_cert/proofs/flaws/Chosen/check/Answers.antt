use Rattle.std.proofs.Common.{[]}
use Rattle.std.proofs.lemmas.Result.{err_from_is_err_and}
use Rattle.dsr_cert.proofs.Ranks.{none_more, none_yet, searches_last, tells_found}
use Rattle.dsr_cert.proofs.flaws.Chosen.check.Goals as goal

pub returns-in_err-check_coverage : goal.returns-in_err-check_coverage
returns-in_err-check_coverage c =
    let spec = c.args.self.now.spec.now in
    let choice = c.args.self.now.choice.now in
    let p = err_from_is_err_and c.from_residual.result c.from_residual.ensures.1 in
    rw (p.1, p.2) (tells_found spec choice [] 0 c.in_err-check_coverage.field-0.0 (none_yet spec choice []) c.in_err-check_coverage.ensures)

pub returns-in_err-check_templates : goal.returns-in_err-check_templates
returns-in_err-check_templates c =
    let spec = c.args.self.now.spec.now in
    let choice = c.args.self.now.choice.now in
    let before = none_more spec choice [] 0 c.in_ok-check_coverage.ensures (none_yet spec choice []) in
    let p = err_from_is_err_and c.from_residual-in_err-check_templates.result c.from_residual-in_err-check_templates.ensures.1 in
    rw (p.1, p.2) (tells_found spec choice [] 1 c.in_err-check_templates.field-0.0 before c.in_err-check_templates.ensures)

pub returns-in_err-check_templates-2 : goal.returns-in_err-check_templates-2
returns-in_err-check_templates-2 c =
    let spec = c.args.self.now.spec.now in
    let choice = c.args.self.now.choice.now in
    let before = none_more spec choice [] 1 c.in_ok-check_templates.ensures (none_more spec choice [] 0 c.in_ok-check_coverage.ensures (none_yet spec choice [])) in
    let p = err_from_is_err_and c.from_residual-in_err-check_templates-2.result c.from_residual-in_err-check_templates-2.ensures.1 in
    rw (p.1, p.2) (tells_found spec choice [] 2 c.in_err-check_templates-2.field-0.0 before c.in_err-check_templates-2.ensures)

pub returns-in_err-check_templates-3 : goal.returns-in_err-check_templates-3
returns-in_err-check_templates-3 c =
    let spec = c.args.self.now.spec.now in
    let choice = c.args.self.now.choice.now in
    let before = none_more spec choice [] 2 c.in_ok-check_templates-2.ensures (none_more spec choice [] 1 c.in_ok-check_templates.ensures (none_more spec choice [] 0 c.in_ok-check_coverage.ensures (none_yet spec choice []))) in
    let p = err_from_is_err_and c.from_residual-in_err-check_templates-3.result c.from_residual-in_err-check_templates-3.ensures.1 in
    rw (p.1, p.2) (tells_found spec choice [] 3 c.in_err-check_templates-3.field-0.0 before c.in_err-check_templates-3.ensures)

pub returns : goal.returns
returns c =
    let spec = c.args.self.now.spec.now in
    let choice = c.args.self.now.choice.now in
    let before = none_more spec choice [] 2 c.in_ok-check_templates-2.ensures (none_more spec choice [] 1 c.in_ok-check_templates.ensures (none_more spec choice [] 0 c.in_ok-check_coverage.ensures (none_yet spec choice []))) in
    searches_last spec choice c.check_reliances.result (none_more spec choice [] 3 c.in_ok-check_templates-3.ensures before) c.check_reliances.ensures
