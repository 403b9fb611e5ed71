use Rattle.std.proofs.Common.{Option, length, sym, subst}
use Rattle.std.proofs.lemmas.Result.{IfOk-weaker}
use Rattle.dsr_command_why.proofs.Whying.{no_fact}
use Rattle.dsr_command_why.specs.Whys.{IsWhyAnswer, TellsBelow}
use Rattle.dsr_command_why.specs.Whys.IsWhyAnswer.{no_chain}
use Rattle.dsr_ir.specs.declared.updates.Symbol.TheVariants as symbols
use Rattle.dsr_script.specs.declared.moves.Told.{Told}
use Rattle.dsr_command_why.proofs.whys.laid_out_told.Goals as goal

pub returns : goal.returns
returns c =
    let nothing = no_fact c.args.spec.now c.args.layout.now c.args.image.now c.requires.image c.requires.legal c.args.word.now
    (subst (λ (o : Option Told). TellsBelow c.args.spec.now c.args.layout.now c.args.image.now c.args.word.now (λ k. symbols.Set k) (length c.args.spec.now.base.sets) o) c.in_default.is c.in_ok-answer.ensures)
    (subst (λ (o : Option Told). TellsBelow c.args.spec.now c.args.layout.now c.args.image.now c.args.word.now (λ k. symbols.Rel k) (length c.args.spec.now.base.rels) o) c.in_default-2.is c.in_ok-answer-2.ensures) in
    IfOk-weaker c.told.result _ _
    (λ t says. subst (IsWhyAnswer c.args.spec.now c.args.image.now c.args.word.now) (sym says) (no_chain c.args.layout.now c.requires.image.layout_is nothing)) c.told.ensures
