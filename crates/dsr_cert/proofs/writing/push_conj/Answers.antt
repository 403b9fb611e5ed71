use Rattle.std.proofs.Common.{◌++◌, [], ◌∷◌, ap, sym, ◌∙◌, append-nil, arith}
use Rattle.std.proofs.lemmas.Grind.{common_steps}
use Rattle.dsr_cert.proofs.Appended.{text_more}
use Rattle.dsr_cert.specs.Certificates.{ended, way_line}
use Rattle.dsr_cert.proofs.writing.push_conj.Goals as goal

pub loop-literal-preserved : goal.loop-literal-preserved
loop-literal-preserved c =
    let i = c.loop-literal.literal in
    let way = c.index-ways-literal.result in
    let text = c.loop-literal.text.items in
    text_more (λ literal its. way_line c.args.conj literal its ∷ []) c.args.ways.now i way c.loop-literal-test.true c.index-ways-literal.is c.args.text.now.items text c.push_literal.new.text.items c.loop-literal.invariant
    (c.in_ok-push_literal.ensures ∙ ap (λ t. text ++ t) (sym (append-nil (ended (way_line c.args.conj i way)))))

pub returns : goal.returns
returns c = grind (arith, common_steps)
