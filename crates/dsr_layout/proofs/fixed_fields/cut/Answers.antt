use Rattle.std.proofs.Common.{refl, sym, ap, ◌∙◌}
use Rattle.dsr_layout.specs.Tables.{known}
use Rattle.dsr_layout.specs.Telling.{told_of}
use Rattle.dsr_layout.proofs.Cutting.{cut_next, cut_here, cut_all}
use Rattle.dsr_layout.proofs.fixed_fields.cut.Goals as goal

pub loop-number-init : goal.loop-number-init
loop-number-init c = refl

pub returns-then-is_cut_at : goal.returns-then-is_cut_at
returns-then-is_cut_at c =
    let is = sym c.is_cut_at.ensures ∙ c.if-is_cut_at.true in
    sym (cut_here (known c.args.cells.now) c.args.length c.args.fields.now c.loop-number.number c.loop-number-test.true is) ∙ c.loop-number.invariant

pub loop-number-preserved : goal.loop-number-preserved
loop-number-preserved c =
    let is = sym c.is_cut_at.ensures ∙ c.if-is_cut_at.false in
    sym (ap told_of (cut_next (known c.args.cells.now) c.args.length c.args.fields.now c.loop-number.number c.loop-number-test.true is)) ∙ c.loop-number.invariant

pub returns : goal.returns
returns c = sym (ap told_of (cut_all (known c.args.cells.now) c.args.length c.args.fields.now c.loop-number.number c.loop-number-test.false)) ∙ c.loop-number.invariant
