use Rattle.std.proofs.Common.{◌++◌, ◌*◌, take, ap, sym, ◌∙◌, arith}
use Rattle.std.proofs.lemmas.List.{take_all}
use Rattle.std.proofs.lemmas.Slice.{pushed}
use Rattle.dsr_overlay.proofs.Pages.{page_more}
use Rattle.dsr_overlay.proofs.Views.{as_long}
use Rattle.dsr_overlay.proofs.overlay.Overlay.bytes.Goals as goal

pub page-requires : goal.page-requires
page-requires c = omega (arith, as_long _ _ _ c.self.view_is c.self.invariant, c.div_ceil-number-end.ensures)

pub loop-number-preserved : goal.loop-number-preserved
loop-number-preserved c =
    let bs = c.args.self.now.bytes in
    pushed c.page.result.now c.loop-number.invariant c.in_ok-extend_from_slice.was c.extend_from_slice.ensures.items
    ∙ ap (λ p. take (4096 * c.loop-number.number) bs ++ p) c.page.ensures ∙ sym (page_more 4096 c.loop-number.number bs)

pub returns : goal.returns
returns c =
    c.loop-number.invariant
    ∙ take_all (4096 * c.loop-number.number) c.args.self.now.bytes (omega (arith, as_long _ _ _ c.self.view_is c.self.invariant, c.div_ceil-number-end.ensures))
