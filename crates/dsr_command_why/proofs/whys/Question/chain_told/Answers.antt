use Rattle.std.proofs.Common.{◌≡◌, Option, List, Vec, Global, MatchOption, length, sym, subst, arith}
use Rattle.std.specs.Prelude.{reverse}
use Rattle.dsr_chain_laws.specs.Shortest.{FirstChain}
use Rattle.dsr_command_why.proofs.Whying.{told_text}
use Rattle.dsr_command_why.specs.Whys.{AreLines, IsWhyAnswer}
use Rattle.dsr_command_why.specs.Whys.IsWhyAnswer.{chained}
use Rattle.dsr_ir.specs.declared.tuples.Instance.{Instance}
use Rattle.dsr_meaning.specs.Models.{IsDerived}
use Rattle.dsr_script.specs.declared.status.Verdict.TheVariants as verdicts
use Rattle.dsr_command_why.proofs.whys.Question.chain_told.Goals as goal

pub returns : goal.returns
returns c =
    let q = c.args.self.now in
    let first : FirstChain q.spec.now q.layout.now q.image.now (reverse c.in-Some.chain.items) c.args.fact.now =
    subst (λ (o : Option (Vec Instance Global)). MatchOption o (IsDerived q.spec.now q.layout.now q.image.now c.args.fact.now → ⊥) (λ is. FirstChain q.spec.now q.layout.now q.image.now (reverse is.items) c.args.fact.now)) c.in-Some.is c.in_ok-chain.ensures in
    let many : c.len.result ≡ length c.in-Some.chain.items = omega (arith, c.len.ensures, c.in-Some.chain.ok.0) in
    let lines = subst (λ (xs : List Instance). AreLines q.spec.now q.layout.now q.image.now xs c.in_ok-text.text.items) c.deref.ensures.value c.in_ok-text.ensures in
    subst (λ text. IsWhyAnswer q.spec.now q.image.now q.word.now (record { verdict = verdicts.Ok; text = text }))
    (sym (told_text c.in_ok-text.text.items c.push.new.text.items c.push_number.new.text.items c.push-2.new.text.items c.len.result (length c.in-Some.chain.items)
    c.in_ok-push.ensures c.in_ok-push_number.ensures c.in_ok-push-2.ensures many))
    (chained q.layout.now c.args.fact.now c.in-Some.chain.items c.in_ok-text.text.items c.requires.image.layout_is c.requires.text first lines)
