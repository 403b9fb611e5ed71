use Rattle.std.proofs.Common.{◌++◌, sym, ap, subst, ◌∙◌, arith}
use Rattle.dsr_cert.proofs.Naming.{test_right, way_read, way_wrong}
use Rattle.dsr_cert.proofs.Saying.{few_forms}
use Rattle.dsr_cert.specs.Certificates.{before_way}
use Rattle.dsr_cert.specs.Flaws.{Tells}
use Rattle.dsr_cert.specs.Parts.{IsFirstFrom, IsSaidAt, texts_of}
use Rattle.dsr_cert.specs.declared.lines.Said.TheVariants as saids
use Rattle.dsr_cert.proofs.reading.Reader.read_way.Goals as goal

pub returns-in-Test : goal.returns-in-Test
returns-in-Test c =
    let spec = c.args.self.now.spec.now in
    let lines = texts_of c.args.self.now.lines.now in
    let at = c.args.at in
    let front = c.deref.ensures.value ∙ (c.in_ok-push_position.ensures ∙ ap (λ t. t ++ before_way at.conj at.literal) c.new-front.ensures.items) in
    (test_right spec lines c.args.line at.constraint at.conj at.literal c.requires.stands (subst (λ f. IsSaidAt lines c.args.line f saids.Test) front c.in-Test.ensures), λ constraint is. tt)

pub returns-in-Numbered : goal.returns-in-Numbered
returns-in-Numbered c =
    let spec = c.args.self.now.spec.now in
    let lines = texts_of c.args.self.now.lines.now in
    let at = c.args.at in
    let front = c.deref.ensures.value ∙ (c.in_ok-push_position.ensures ∙ ap (λ t. t ++ before_way at.conj at.literal) c.new-front.ensures.items) in
    let said = subst (λ f. IsSaidAt lines c.args.line f (saids.Numbered c.in-Numbered.digits)) front c.in-Numbered.ensures in
    way_read spec lines c.args.line at.constraint at.conj at.literal c.requires.stands c.args.literal.now c.requires.literal c.in-Numbered.digits.now said.1 said.0 c.named_way.result c.named_way.ensures

pub faulty-requires : goal.faulty-requires
faulty-requires c =
    let inside = c.requires.stands.inside in
    let few = few_forms c.args.self.now.spec.now c.requires.typed in
    record { small = omega (arith, inside, few) }

pub returns : goal.returns
returns c =
    let spec = c.args.self.now.spec.now in
    let lines = texts_of c.args.self.now.lines.now in
    let at = c.args.at in
    let front = c.deref.ensures.value ∙ (c.in_ok-push_position.ensures ∙ ap (λ t. t ++ before_way at.conj at.literal) c.new-front.ensures.items) in
    let said = subst (λ f. IsSaidAt lines c.args.line f saids.Other) front c.in-Other.ensures in
    subst (Tells (IsFirstFrom spec lines c.args.line)) (sym c.faulty.ensures) (way_wrong spec lines c.args.line at.constraint at.conj at.literal c.requires.stands said.0 said.1)
