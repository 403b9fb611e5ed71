use Rattle.std.proofs.Common.{sym, subst}
use Rattle.std.proofs.lemmas.Option.{slice_get-get_or}
use Rattle.dsr_command_why.proofs.Chained.{all_lines, gives_some, line_more}
use Rattle.dsr_command_why.specs.Whys.{AreLines}
use Rattle.dsr_command_why.specs.Whys.AreLines.{none}
use Rattle.dsr_resolve.specs.Rules.{AreResolved}
use Rattle.dsr_command_why.proofs.lines.lines.Goals as goal

pub loop-place-init : goal.loop-place-init
loop-place-init c = subst (AreLines c.args.spec.now c.args.layout.now c.args.image.now _) (sym c.new-text.ensures.items) none

pub push_instance-requires-clause-rules : goal.push_instance-requires-clause-rules
push_instance-requires-clause-rules c = subst (AreResolved c.args.spec.now c.args.layout.now) (sym c.items.ensures) c.in_ok-rules.ensures

pub push_instance-requires-clause-gives : goal.push_instance-requires-clause-gives
push_instance-requires-clause-gives c =
    gives_some c.args.spec.now c.args.layout.now c.args.image.now c.args.chain.now c.args.fact.now c.requires.chain c.loop-place.place _ (slice_get-get_or c.args.chain.now c.loop-place.place _ c.loop-place-test.true)

pub loop-place-preserved : goal.loop-place-preserved
loop-place-preserved c =
    line_more c.args.spec.now c.args.layout.now c.args.image.now c.args.chain.now c.loop-place.place _ c.loop-place.text.items c.push_instance.new.text.items c.loop-place-test.true c.loop-place.invariant c.in_ok-push_instance.ensures

pub returns : goal.returns
returns c = all_lines c.args.spec.now c.args.layout.now c.args.image.now c.args.chain.now c.loop-place.place c.loop-place.text.items c.loop-place-test.false c.loop-place.invariant
