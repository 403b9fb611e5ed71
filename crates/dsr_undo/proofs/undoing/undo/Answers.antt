use Rattle.std.proofs.Common.{◌≡◌, ◌+◌, ◌-◌, ◌∙◌, [], ◌∷◌, length, refl, ap, subst, sym, arith, length-append}
use Rattle.dsr_undo.proofs.Walking.{IsWalkedBack, walk_ends, walk_more, walk_refused, walk_starts}
use Rattle.dsr_undo_laws.specs.TakingBack.{AreLinesBack, IsRefusedIn}
use Rattle.dsr_undo.proofs.undoing.undo.Goals as goal

pub loop-done-init : goal.loop-done-init
loop-done-init c = record {
  walked = subst (λ es. IsWalkedBack c.args.spec.now.base c.args.log.now.entries es c.args.image.now c.args.image.now) (sym c.entries-entries.ensures)
      (walk_starts c.args.spec.now.base c.args.log.now.entries c.args.image.now);
  left = ap length c.entries-entries.ensures ∙ omega arith;
  long = refl;
}

pub unreachable-requires : goal.unreachable-requires
unreachable-requires c =
    let none : length c.loop-done.entries ≡ 0 = ap length c.in_default.ensures.steps.0 in
    absurd (omega (arith, none, c.loop-done.invariant.left, c.loop-done-test.true, c.len-done-end.ensures))

pub returns-in-Err-clause-refused : goal.returns-in-Err-clause-refused
returns-in-Err-clause-refused c =
    let base = c.args.spec.now.base in
    let number : c.len.result - c.loop-done.done ≡ length c.loop-done.entries = omega (arith, c.len.ensures, c.loop-done.invariant.left) in
    walk_refused base c.args.log.now.entries c.loop-done.entries c.next_back.new.self c.in-Some.entry c.args.image.now c.loop-done.image c.lines_back.new.image
    c.loop-done.invariant.walked c.in-Some.ensures.steps c.in-Err.fault
    (subst (λ b. IsRefusedIn b (length c.loop-done.entries) c.in-Some.entry.bytes c.loop-done.image c.lines_back.new.image c.in-Err.fault) c.new-fixed.ensures
    (subst (λ n. IsRefusedIn c.new-fixed.result n c.in-Some.entry.bytes c.loop-done.image c.lines_back.new.image c.in-Err.fault) number
    (subst (λ ls. IsRefusedIn c.new-fixed.result (c.len.result - c.loop-done.done) ls c.loop-done.image c.lines_back.new.image c.in-Err.fault) c.bytes.ensures c.in-Err.ensures.refused)))

pub loop-done-preserved : goal.loop-done-preserved
loop-done-preserved c =
    let base = c.args.spec.now.base in
    let last = ap length c.in-Some.ensures.steps ∙ length-append c.next_back.new.self (c.in-Some.entry ∷ []) in
    record {
      walked = walk_more base c.args.log.now.entries c.loop-done.entries c.next_back.new.self c.in-Some.entry c.args.image.now c.loop-done.image c.lines_back.new.image
          c.loop-done.invariant.walked c.in-Some.ensures.steps
          (subst (λ b. AreLinesBack b c.in-Some.entry.bytes c.loop-done.image c.lines_back.new.image) c.new-fixed.ensures
          (subst (λ ls. AreLinesBack c.new-fixed.result ls c.loop-done.image c.lines_back.new.image) c.bytes.ensures c.in_default-lines_back.ensures.back));
      left = omega (arith, last, c.loop-done.invariant.left);
      long = c.lines_back.ensures.long ∙ c.loop-done.invariant.long;
    }

pub returns-clause-back : goal.returns-clause-back
returns-clause-back c =
    let none : length c.loop-done.entries ≡ 0 = omega (arith, c.loop-done.invariant.left, c.loop-done-test.false, c.len-done-end.ensures) in
    walk_ends c.args.spec.now.base c.args.log.now.entries c.loop-done.entries c.args.image.now c.loop-done.image none c.loop-done.invariant.walked
