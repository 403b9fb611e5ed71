use Rattle.std.proofs.Common.{◌≡◌, ℕ, [], ap, sym, ◌∙◌, subst}
use Rattle.std.specs.Prelude.{slice_get, option_map}
use Rattle.std.proofs.lemmas.Option.{slice_get_past}
use Rattle.std.proofs.lemmas.Result.{IfOk-weaker}
use Rattle.dsr_meaning.specs.FixedFields.{fixed_cell}
use Rattle.dsr_layout.specs.FixedCells.{clipped_cell}
use Rattle.dsr_layout.specs.Tables.{known, clip_cell, HoldsEnds}
use Rattle.dsr_layout.proofs.FixedHeads.{head_table, no_cells}
use Rattle.dsr_layout.proofs.Items.{item_at}
use Rattle.dsr_layout.proofs.fixed_fields.fixed_cells.Goals as goal

pub returns-in-Some : goal.returns-in-Some
returns-in-Some c =
    let base = c.args.base.now in
    let found = c.in-Some.ensures.lookup in
    let declared = c.items-structures.ensures in
    let at = ap (λ ss. slice_get ss base.head) (sym declared) ∙ item_at c.items-structures.result.now base.head c.in-Some.head.now found.3.0 found.1 in
    let holds = subst (λ ss. HoldsEnds (known []) ss c.in_ok-ends.ends.items) declared c.in_ok-ends.ensures in
    IfOk-weaker c.cells_from.result
    (λ cells. (k : ℕ) → known cells.items k ≡ clipped_cell base.order c.start_in-start.result c.items.result.now k)
    (λ cells. (k : ℕ) → known cells.items k ≡ option_map clip_cell (fixed_cell base k))
    (λ cells held. head_table base c.in_ok-ends.ends.items c.deref.result.now c.in-Some.head.now c.start_in-start.result c.items.result.now holds at c.deref.ensures.value c.start_in-start.ensures c.items.ensures cells.items held)
    c.cells_from.ensures

pub returns : goal.returns
returns c = λ k.
    let base = c.args.base.now in
    let missed = c.in-None.ensures.lookup in
    let nothing = ap (λ ss. slice_get ss base.head) (sym c.items-structures.ensures) ∙ slice_get_past c.items-structures.result.now base.head missed.3 in
    ap (λ cells. known cells k) c.new.ensures.items ∙ no_cells base nothing k
