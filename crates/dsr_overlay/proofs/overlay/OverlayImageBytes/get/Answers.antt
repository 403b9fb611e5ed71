use Rattle.std.proofs.Common.{◌/◌, refl, sym, ◌∙◌, arith}
use Rattle.dsr_overlay.proofs.Moved.{cell_moved}
use Rattle.dsr_overlay.proofs.Pages.{part_byte}
use Rattle.dsr_overlay.proofs.overlay.OverlayImageBytes.get.Goals as goal

pub page-page-requires : goal.page-page-requires
page-page-requires c = omega arith

pub window-requires-clause-within : goal.window-requires-clause-within
window-requires-clause-within c = omega arith

pub returns-then-at-count-clause-value : goal.returns-then-at-count-clause-value
returns-then-at-count-clause-value c =
    let cell = c.args.cell.now in
    c.front_value.ensures.value
    ∙ sym (cell_moved c.args.self.now.bytes _ (cell.bit / 8) c.span-count.result (λ q lt. part_byte c.args.self.now.bytes c.page-page.result.now (cell.bit / 8) c.span-count.result q c.page-page.ensures c.if-at-count.true lt) cell refl c.span-count.ensures.enough c.requires.form)

pub returns-else-at-count-clause-value : goal.returns-else-at-count-clause-value
returns-else-at-count-clause-value c =
    let cell = c.args.cell.now in
    c.front_value-else-at-count.ensures.value
    ∙ sym (cell_moved c.args.self.now.bytes c.window.result (cell.bit / 8) c.span-count.result c.window.ensures.bytes cell refl c.span-count.ensures.enough c.requires.form)
