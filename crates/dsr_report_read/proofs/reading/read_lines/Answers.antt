use Rattle.std.proofs.Common.{◌+◌, refl, sym, subst, arith}
use Rattle.dsr_report_read.proofs.Ahead.{refused}
use Rattle.dsr_report_read.proofs.Row.{AreRead, all_read, no_end, none_read, one_read, texts_long, wrong_here}
use Rattle.dsr_report_read.specs.Forms.{IsFirstWrong}
use Rattle.dsr_report_read.specs.Lines.{moved, start}
use Rattle.dsr_report_read.specs.Reads.{ReadsLine, texts_of}
use Rattle.dsr_report_read.proofs.reading.read_lines.Goals as goal

pub loop-place-init : goal.loop-place-init
loop-place-init c = subst (λ ls. AreRead c.args.spec.now (texts_of c.args.texts.now) 0 ls start) (sym c.new-lines.ensures.items) (none_read c.args.spec.now (texts_of c.args.texts.now))

pub returns-in_default : goal.returns-in_default
returns-in_default c =
    wrong_here c.args.spec.now (texts_of c.args.texts.now) c.loop-place.place c.loop-place.lines.items c.loop-place.state c.loop-place.invariant
    c.text_at-text.result.now c.text_at-text.ensures
    (subst (λ o. ReadsLine c.args.spec.now c.loop-place.state c.text_at-text.result.now o) c.in_default.is c.in_ok-line.ensures)

pub loop-place-preserved : goal.loop-place-preserved
loop-place-preserved c =
    let text = c.text_at-text.result.now in
    let read = subst (λ o. ReadsLine c.args.spec.now c.loop-place.state text o) c.in-Some.is c.in_ok-line.ensures in
    let line = c.in-Some.line in
    subst (λ s. AreRead c.args.spec.now (texts_of c.args.texts.now) (c.loop-place.place + 1) c.push.new.self.items s) (sym c.moved-state.ensures)
    (subst (λ ls. AreRead c.args.spec.now (texts_of c.args.texts.now) (c.loop-place.place + 1) ls (moved c.loop-place.state line)) (sym c.in_ok-push.ensures.items)
    (one_read c.args.spec.now (texts_of c.args.texts.now) c.loop-place.place c.loop-place.lines.items c.loop-place.state c.loop-place.invariant text
    c.text_at-text.ensures line read.0 read.1))

pub returns-then-not-is_ended : goal.returns-then-not-is_ended
returns-then-not-is_ended c =
    let long = texts_long c.args.texts.now in
    let test = c.loop-place-test.false in
    subst (λ n. IsFirstWrong c.args.spec.now (texts_of c.args.texts.now) (n + 1)) long
    (no_end c.args.spec.now (texts_of c.args.texts.now) c.loop-place.place c.loop-place.lines.items c.loop-place.state c.loop-place.invariant
    (omega (arith, long, test)) (λ ended. refused c.if-not-is_ended.ensures ended))

pub returns : goal.returns
returns c =
    let long = texts_long c.args.texts.now in
    let test = c.loop-place-test.false in
    all_read c.args.spec.now (texts_of c.args.texts.now) c.loop-place.place c.loop-place.lines.items c.loop-place.state c.loop-place.invariant
    (omega (arith, long, test)) (c.if-not-is_ended.ensures.0 refl)
