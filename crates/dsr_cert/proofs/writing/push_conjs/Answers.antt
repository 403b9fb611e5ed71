use Rattle.std.proofs.Common.{◌≡◌, ◌<◌, ◌++◌, ◌∙◌, length, get_or, ap, subst}
use Rattle.dsr_cert.proofs.Appended.{text_more}
use Rattle.dsr_cert.specs.Certificates.{conj_lines, ended_lines}
use Rattle.dsr_cert.proofs.writing.push_conjs.Goals as goal

pub loop-conj-preserved : goal.loop-conj-preserved
loop-conj-preserved c =
    let i = c.loop-conj.conj in
    let ways = c.ways-item.result in
    let same = c.items-ways-items.ensures in
    text_more conj_lines c.args.row.now.ways i ways (subst (λ xs. i < length xs) same c.loop-conj-test.true) (subst (λ xs. ways ≡ get_or xs i ways) same c.ways-item.is) c.args.text.now.items c.loop-conj.text.items c.push_conj.new.text.items c.loop-conj.invariant
    (c.in_ok-push_conj.ensures ∙ ap (λ its. c.loop-conj.text.items ++ ended_lines (conj_lines i its)) c.items.ensures)
