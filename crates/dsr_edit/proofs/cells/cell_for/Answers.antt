use Rattle.std.proofs.Common.{refl, sym, ap, subst, ◌∙◌}
use Rattle.dsr_edit.proofs.Entries.{fits_cell, has_entry}
use Rattle.dsr_edit.specs.Edits.{entry_of}
use Rattle.dsr_meaning.specs.Cells.{cell_of}
use Rattle.dsr_meaning.specs.Legal.{HasEntry}
use Rattle.dsr_edit.proofs.cells.cell_for.Goals as goal

pub cell-requires-clause-entry : goal.cell-requires-clause-entry
cell-requires-clause-entry c =
    subst (HasEntry c.args.layout.now c.args.write.now.elem c.args.write.now.field) (sym c.unwrap_or.ensures)
    (has_entry c.args.spec.now c.requires.layout.0 c.args.layout.now c.requires.layout.1 c.requires.typed c.args.write.now.elem c.args.write.now.field c.in-Some.field.now (entry_of c.args.write.now) c.in-Some-entry_place.place c.in-Some.ensures (c.if-not-has_record.ensures.0 refl) c.in-Some-entry_place.ensures.place_is c.in-Some-entry_place.ensures.index_below)

pub returns : goal.returns
returns c =
    let cell_is = ap (cell_of c.args.layout.now c.args.write.now.elem c.args.write.now.field) (sym c.unwrap_or.ensures) ∙ c.cell.ensures.cell in
    record {
      field = c.in-Some.field.now;
      names = record {
        is_field = c.in-Some.ensures;
        slot_below = c.if-not-has_record.ensures.0 refl;
        place = c.in-Some-entry_place.place;
        entry = c.in-Some-entry_place.ensures;
        cell_is = cell_is;
      };
      free = c.if-field.false;
      fits = fits_cell c.args.spec.now c.requires.layout.0 c.args.layout.now c.requires.layout.1 c.requires.typed c.args.write.now.elem c.args.write.now.field (entry_of c.args.write.now) c.in-Some-entry_place.place c.cell.result c.args.write.now.value c.in-Some-entry_place.ensures.place_is cell_is (sym c.fits.ensures ∙ c.if-not-fits.false);
    }
