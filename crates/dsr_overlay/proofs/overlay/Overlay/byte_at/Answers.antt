use Rattle.std.proofs.Common.{◌≡◌, ◌+◌, ◌*◌, ◌/◌, ◌%◌, length, drop, get_or, ap, ◌∙◌, arith}
use Rattle.std.proofs.lemmas.List.{length-drop, length-take}
use Rattle.dsr_overlay.proofs.Pages.{page_byte}
use Rattle.dsr_overlay.proofs.overlay.Overlay.byte_at.Goals as goal

pub page-page-requires : goal.page-page-requires
page-page-requires c = omega arith

pub bounds-page-at : goal.bounds-page-at
bounds-page-at c =
    let bs = c.args.self.now.bytes in
    omega (arith, ap length c.page-page.ensures, length-take 4096 (drop (4096 * (c.args.at / 4096)) bs), length-drop (4096 * (c.args.at / 4096)) bs)

pub returns : goal.returns
returns c =
    let place : 4096 * (c.args.at / 4096) + c.args.at % 4096 ≡ c.args.at = omega arith in
    ap (λ p. get_or p (c.args.at % 4096) 0) c.page-page.ensures ∙ page_byte 4096 (c.args.at / 4096) (c.args.at % 4096) c.args.self.now.bytes (omega arith)
    ∙ ap (λ k. get_or c.args.self.now.bytes k 0) place
