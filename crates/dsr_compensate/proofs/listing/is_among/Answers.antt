use Rattle.std.proofs.Common.{◌≡◌, refl, sym, ◌∙◌}
use Rattle.std.proofs.lemmas.Bool.{false≢true}
use Rattle.dsr_compensate.proofs.Each.{each_ends, each_more, item_at}
use Rattle.dsr_compensate.proofs.Taken.{among_at, among_none}
use Rattle.dsr_goal.proofs.Decided.{template_decides}
use Rattle.dsr_compensate.proofs.listing.is_among.Goals as goal

pub returns-then-eq : goal.returns-then-eq
returns-then-eq c = (
  λ _. among_at c.args.template.now c.args.listed.now c.loop-judged.judged-index c.judged-item.result (item_at c.args.listed.now c.loop-judged.judged-index c.judged-item.result c.loop-judged-test.true c.judged-item.is) ((template_decides c.judged-item.result.template c.args.template.now).0 (sym c.eq.ensures ∙ c.if-eq.true)),
  λ _. refl,
)

pub loop-judged-preserved : goal.loop-judged-preserved
loop-judged-preserved c =
    each_more (λ _ judged. judged.template ≡ c.args.template.now → ⊥) c.args.listed.now c.loop-judged.judged-index c.judged-item.result
    (item_at c.args.listed.now c.loop-judged.judged-index c.judged-item.result c.loop-judged-test.true c.judged-item.is)
    (λ same. false≢true (sym c.if-eq.false ∙ (c.eq.ensures ∙ (template_decides c.judged-item.result.template c.args.template.now).1 same))) c.loop-judged.invariant

pub returns : goal.returns
returns c = (
  λ no. absurd (false≢true no),
  λ found. absurd (among_none c.args.template.now c.args.listed.now (each_ends (λ _ judged. judged.template ≡ c.args.template.now → ⊥) c.args.listed.now c.loop-judged.judged-index c.loop-judged-test.false c.loop-judged.invariant) found),
)
