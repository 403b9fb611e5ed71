use Rattle.std.proofs.Common.{◌<◌, ◌++◌, ℕ, sym, ap, subst, ◌∙◌, arith}
use Rattle.std.specs.Prelude.{decimal}
use Rattle.dsr_cert.proofs.Naming.{level_right, level_wrong}
use Rattle.dsr_cert.proofs.Saying.{few_forms}
use Rattle.dsr_cert.specs.Certificates.{before_level, level_bound}
use Rattle.dsr_cert.specs.Flaws.{Tells}
use Rattle.dsr_cert.specs.Parts.{IsFirstFrom, Says, texts_of}
use Rattle.dsr_cert.proofs.reading.Reader.read_level.Goals as goal

pub returns-in-Some : goal.returns-in-Some
returns-in-Some c =
    let spec = c.args.self.now.spec.now in
    let lines = texts_of c.args.self.now.lines.now in
    let front = c.deref.ensures.value ∙ (c.in_ok-push_name.ensures ∙ ap (λ t. t ++ before_level spec c.args.number) c.new-front.ensures.items) in
    let told = c.in-Some.ensures in
    let less = told.0 in (
      level_right spec lines c.args.at c.args.number c.requires.stands c.in-Some.level less (subst (λ f. Says lines c.args.at f (decimal c.in-Some.level)) front told.1),
      less,
    )

pub faulty-requires : goal.faulty-requires
faulty-requires c =
    let inside = c.requires.stands.inside in
    let few = few_forms c.args.self.now.spec.now c.requires.typed in
    record { small = omega (arith, inside, few) }

pub returns : goal.returns
returns c =
    let spec = c.args.self.now.spec.now in
    let lines = texts_of c.args.self.now.lines.now in
    let front = c.deref.ensures.value ∙ (c.in_ok-push_name.ensures ∙ ap (λ t. t ++ before_level spec c.args.number) c.new-front.ensures.items) in
    subst (Tells (IsFirstFrom spec lines c.args.at)) (sym c.faulty.ensures)
    (level_wrong spec lines c.args.at c.args.number c.requires.stands (subst (λ f. (level : ℕ) → level < level_bound spec → Says lines c.args.at f (decimal level) → ⊥) front c.in-None.ensures))
