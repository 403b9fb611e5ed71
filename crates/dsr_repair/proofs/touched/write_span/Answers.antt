-- The bytes of a written cell.
use Rattle.std.proofs.Common.{◌∙◌, Some, ap, option_map, subst, sym}
use Rattle.dsr_repair.proofs.StepSpans.{cell_within}
use Rattle.dsr_repair.specs.Spans.{IsWithin, cell_span}
use Rattle.dsr_repair.proofs.touched.write_span.Goals as goal

pub returns : goal.returns
returns c =
    let cell = c.written_cell.result in
    record {
      is = ap (option_map cell_span) c.written_cell.ensures.cell ∙ ap Some (sym c.cell_span.ensures);
      within = subst (IsWithin c.args.layout.now.length) (sym c.cell_span.ensures)
          (cell_within cell c.args.layout.now.length c.written_cell.ensures.within);
    }
