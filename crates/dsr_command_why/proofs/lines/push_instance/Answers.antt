use Rattle.std.proofs.Common.{◌≡◌, ◌∙◌, Some, length, slice_get, get_or, refl, sym, ap, subst, arith}
use Rattle.std.proofs.lemmas.Option.{slice_get_read}
use Rattle.dsr_command_why.proofs.Chained.{declared_within, given, line_pushed, never_none, no_rule, reads, rule_within}
use Rattle.dsr_ir.specs.declared.rules.Rule.{Rule}
use Rattle.dsr_command_why.proofs.lines.push_instance.Goals as goal

pub bounds-rules-instance : goal.bounds-rules-instance
bounds-rules-instance c = rule_within c.args.spec.now c.args.layout.now c.args.image.now c.requires.image c.requires.legal c.args.rules.now c.requires.rules c.args.instance.now c.requires.gives no_rule

pub fact-requires : goal.fact-requires
fact-requires c = reads c.args.spec.now c.args.layout.now c.args.image.now c.requires.image c.requires.legal c.args.rules.now c.requires.rules c.args.instance.now c.requires.gives no_rule

pub unreachable-requires : goal.unreachable-requires
unreachable-requires c = never_none c.args.spec.now c.args.layout.now c.args.image.now c.requires.image c.requires.legal c.args.rules.now c.requires.rules c.args.instance.now c.requires.gives no_rule (sym c.fact.ensures ∙ c.in_default.is)

pub bounds-items-instance-in-Some : goal.bounds-items-instance-in-Some
bounds-items-instance-in-Some c =
    let inside = declared_within c.args.spec.now c.args.layout.now c.args.image.now c.requires.image c.requires.legal c.args.rules.now c.requires.rules c.args.instance.now c.requires.gives no_rule in
    omega (arith, inside, ap length c.items.ensures)

pub returns : goal.returns
returns c =
    let inside = declared_within c.args.spec.now c.args.layout.now c.args.image.now c.requires.image c.requires.legal c.args.rules.now c.requires.rules c.args.instance.now c.requires.gives no_rule in
    let at : slice_get c.args.spec.now.rules c.args.instance.now.rule ≡ Some c.index-items-instance.result =
    ap (λ rs. slice_get rs c.args.instance.now.rule) (sym c.items.ensures) ∙ slice_get_read c.items.result.now (length c.items.result.now) c.args.instance.now.rule c.index-items-instance.result refl
    (omega (arith, inside, ap length c.items.ensures)) c.index-items-instance.is in
    line_pushed c.args.spec.now c.args.layout.now c.args.image.now c.push_line.result c.args.number c.args.instance.now c.requires.gives (get_or c.items.result.now c.args.instance.now.rule c.index-items-instance.result) c.in-Some.fact c.args.text.now.items c.push_line.new.text.items
    (subst (λ (r : Rule). slice_get c.args.spec.now.rules c.args.instance.now.rule ≡ Some r) c.index-items-instance.is at)
    (given c.args.spec.now c.args.layout.now c.args.image.now c.requires.image c.requires.legal c.args.rules.now c.requires.rules c.args.instance.now c.requires.gives no_rule c.in-Some.fact (sym c.fact.ensures ∙ c.in-Some.is)) c.push_line.ensures
