use Rattle.std.proofs.Common.{◌≡◌, ◌+◌, ◌-◌, ◌*◌, min, length, take, drop, ap, ◌∙◌, arith}
use Rattle.std.proofs.lemmas.List.{length-drop, take_min}
use Rattle.dsr_overlay.proofs.page.page_in.Goals as goal

pub returns : goal.returns
returns c =
    let rest = drop (4096 * c.args.number) c.args.bytes.now in
    let count : 4096 * c.args.number + c.min.result - 4096 * c.args.number ≡ min 4096 (length rest) = omega (arith, c.min.ensures, length-drop (4096 * c.args.number) c.args.bytes.now) in
    ap (λ n. take n rest) count ∙ take_min 4096 rest
