use Rattle.std.proofs.Common.{[], ◌∷◌, sym, subst, arith}
use Rattle.dsr_cert.proofs.Joined.{part_joined, stands_back, stands_front}
use Rattle.dsr_cert.proofs.Saying.{few_forms}
use Rattle.dsr_cert.specs.Certificates.{conjs_lines, constraint_line}
use Rattle.dsr_cert.specs.Forms.{OfConstraint, conjs_forms, constraint_forms}
use Rattle.dsr_cert.specs.Parts.{AreNamed, IsPart, texts_of}
use Rattle.dsr_plan_theory.specs.Plans.{owner_at}
use Rattle.dsr_cert.proofs.reading.Reader.read_row.Goals as goal

pub read_level-requires-clause-stands : goal.read_level-requires-clause-stands
read_level-requires-clause-stands c = stands_front c.args.self.now.spec.now c.args.line (OfConstraint c.args.number ∷ []) (conjs_forms c.args.number c.args.constraint.now) c.requires.stands

pub overflow_add-line : goal.overflow_add-line
overflow_add-line c =
    let inside = c.requires.stands.inside in
    let few = few_forms c.args.self.now.spec.now c.requires.typed in
    omega (arith, inside, few)

pub read_conjs-requires-clause-stands : goal.read_conjs-requires-clause-stands
read_conjs-requires-clause-stands c = stands_back c.args.self.now.spec.now c.args.line (OfConstraint c.args.number ∷ []) (conjs_forms c.args.number c.args.constraint.now) c.requires.stands

pub returns : goal.returns
returns c =
    let spec = c.args.self.now.spec.now in
    let lines = texts_of c.args.self.now.lines.now in
    let n = c.args.number in
    let forms = conjs_forms n c.args.constraint.now in
    let first = constraint_line spec n c.in_ok-level.level in
    let level = c.in_ok-level.ensures in
    let conjs = c.in_ok-ways.ensures in
    let joined = part_joined spec lines c.args.line (OfConstraint n ∷ []) forms (first ∷ []) (conjs_lines c.in_ok-ways.ways.items) level.0 conjs.0 in
    let next = conjs.1.1 in (
      subst (λ ws. IsPart spec lines c.args.line (constraint_forms n c.args.constraint.now) (first ∷ conjs_lines ws)) (sym c.new.ensures) joined,
      (record { level = level.1; ways = subst (AreNamed (owner_at spec n c.args.constraint.now)) (sym c.new.ensures) conjs.1.0 }, omega (arith, next)),
    )
