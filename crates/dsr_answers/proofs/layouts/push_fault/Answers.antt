use Rattle.std.proofs.Common.{arith}
use Rattle.std.proofs.lemmas.Grind.{common_steps}
use Rattle.dsr_layout.specs.declared.faults.LayoutFault.TheVariants as faults
use Rattle.dsr_meaning.specs.Refusals as meaning
use Rattle.dsr_answers.proofs.layouts.push_fault.Goals as goal

pub returns-in-Outside-clause-told : goal.returns-in-Outside-clause-told
returns-in-Outside-clause-told c = grind (arith, common_steps)

pub returns-in-Overlap-clause-told : goal.returns-in-Overlap-clause-told
returns-in-Overlap-clause-told c = grind (arith, common_steps)

pub returns-in-Subtype-clause-told : goal.returns-in-Subtype-clause-told
returns-in-Subtype-clause-told c = grind (arith, common_steps)

pub returns-in-Zero-clause-told : goal.returns-in-Zero-clause-told
returns-in-Zero-clause-told c = grind (arith, common_steps)

pub returns-in-NoneIsCode-clause-told : goal.returns-in-NoneIsCode-clause-told
returns-in-NoneIsCode-clause-told c = grind (arith, common_steps)

pub returns-in_ok-push_names-in-CodeTooWide-clause-told :
    goal.returns-in_ok-push_names-in-CodeTooWide-clause-told
returns-in_ok-push_names-in-CodeTooWide-clause-told c = grind (arith, common_steps)

pub returns-in-CountTooWide-clause-told : goal.returns-in-CountTooWide-clause-told
returns-in-CountTooWide-clause-told c = grind (arith, common_steps)
