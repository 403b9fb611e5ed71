-- What `add_change` leaves to show.
use Rattle.std.proofs.Common.{ap, ◌∙◌}
use Rattle.dsr_effect.specs.Rows.{no_tags}
use Rattle.dsr_effect.specs.Table.{row_number}
use Rattle.dsr_effect.specs.Told.{change_of}
use Rattle.dsr_effect.proofs.ChangedRows.{is_added}
use Rattle.dsr_effect.proofs.RowNumbers.{given_declared, row_below}
use Rattle.dsr_ir.specs.Rules.{symbol_of}
use Rattle.dsr_effect.proofs.rows.add_change.Goals as goal

pub slice_copy_out-joined : goal.slice_copy_out-joined
slice_copy_out-joined c = rw (c.row_of-row.ensures, c.symbol.ensures, c.requires.places) (row_below c.args.change.now.spec.now.base c.args.direction (symbol_of c.args.rule.now.inc) (given_declared c.args.change.now.spec.now c.requires.told.typed c.args.rule.now c.requires.among))

pub bounds-rows-row : goal.bounds-rows-row
bounds-rows-row c = rw (c.row_of-row.ensures, c.symbol.ensures, c.requires.places) (row_below c.args.change.now.spec.now.base c.args.direction (symbol_of c.args.rule.now.inc) (given_declared c.args.change.now.spec.now c.requires.told.typed c.args.rule.now c.requires.among))

pub returns-clause-exactly : goal.returns-clause-exactly
returns-clause-exactly c =
    is_added (change_of c.args.change.now) c.args.rule.now c.args.direction c.args.rows.now c.row_of-row.result no_tags c.may_change.result c.joined.result
    (bounds-rows-row c)
    (c.row_of-row.ensures ∙ ap (row_number c.args.change.now.spec.now.base c.args.direction) c.symbol.ensures) c.joined.ensures c.may_change.ensures
