use Rattle.std.proofs.Common.{◌≡◌, ◌+◌, ◌-◌, ◌∙◌, suc, drop, length, refl, sym, subst, arith}
use Rattle.dsr_image.specs.Images.{AreClaimed}
use Rattle.dsr_undo_laws.specs.TakingBack.{AreLinesBack, IsRefusedIn}
use Rattle.dsr_undo.proofs.Walking.{lines_more, lines_refused, lines_start}
use Rattle.dsr_undo.proofs.lines.lines_back.Goals as goal

pub loop-done-init : goal.loop-done-init
loop-done-init g c = record { back = lines_start c.args.fixed.now c.args.lines.now (length c.args.lines.now - 0) (g.I.ImageBytes.bytes c.args.image.now) (omega arith); long = refl; kept = refl }

pub line_back-requires-clause-claimed : goal.line_back-requires-clause-claimed
line_back-requires-clause-claimed g c =
    subst (λ n. AreClaimed (g.I.ImageBytes.claimed c.loop-done.image) 0 n) (sym c.loop-done.invariant.long)
    (subst (λ claimed. AreClaimed claimed 0 (length (g.I.ImageBytes.bytes c.args.image.now))) (sym c.loop-done.invariant.kept) c.requires.claimed)

pub returns-in-Err-clause-refused : goal.returns-in-Err-clause-refused
returns-in-Err-clause-refused g c =
    let next : length c.args.lines.now - c.loop-done.done ≡ suc (length c.args.lines.now - 1 - c.loop-done.done) = omega (arith, c.loop-done-test.true) in
    subst (λ bytes. IsRefusedIn c.args.fixed.now c.args.entry c.args.lines.now (g.I.ImageBytes.bytes c.args.image.now) bytes c.in-Err.fault) (sym c.in-Err.ensures.stays)
    (lines_refused c.args.fixed.now c.args.entry c.args.lines.now (length c.args.lines.now - 1 - c.loop-done.done) (length c.args.lines.now - c.loop-done.done) (record { place = 0; old = 0; new = 0 }) (g.I.ImageBytes.bytes c.args.image.now) (g.I.ImageBytes.bytes c.loop-done.image) c.in-Err.fault
    (omega (arith, c.loop-done-test.true)) next c.loop-done.invariant.back c.in-Err.ensures.refused)

pub loop-done-preserved : goal.loop-done-preserved
loop-done-preserved g c =
    let next : length c.args.lines.now - c.loop-done.done ≡ suc (length c.args.lines.now - 1 - c.loop-done.done) = omega (arith, c.loop-done-test.true) in
    let at : length c.args.lines.now - 1 - c.loop-done.done ≡ length c.args.lines.now - (c.loop-done.done + 1) = omega (arith, c.loop-done-test.true) in
    record {
      back = subst (λ n. AreLinesBack c.args.fixed.now (drop n c.args.lines.now) (g.I.ImageBytes.bytes c.args.image.now) (g.I.ImageBytes.bytes c.line_back.new.image)) at
          (lines_more c.args.fixed.now c.args.lines.now (length c.args.lines.now - 1 - c.loop-done.done) (length c.args.lines.now - c.loop-done.done) (record { place = 0; old = 0; new = 0 }) (g.I.ImageBytes.bytes c.args.image.now) (g.I.ImageBytes.bytes c.loop-done.image) (g.I.ImageBytes.bytes c.line_back.new.image)
          (omega (arith, c.loop-done-test.true)) next c.loop-done.invariant.back c.in_default.ensures.back);
      long = c.line_back.ensures.long ∙ c.loop-done.invariant.long;
      kept = c.line_back.ensures.kept ∙ c.loop-done.invariant.kept;
    }

pub returns-clause-back : goal.returns-clause-back
returns-clause-back g c =
    let all : length c.args.lines.now - c.loop-done.done ≡ 0 = omega (arith, c.loop-done-test.false) in
    subst (λ n. AreLinesBack c.args.fixed.now (drop n c.args.lines.now) (g.I.ImageBytes.bytes c.args.image.now) (g.I.ImageBytes.bytes c.loop-done.image)) all c.loop-done.invariant.back
