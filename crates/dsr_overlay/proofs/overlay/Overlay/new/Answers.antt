use Rattle.std.proofs.Common.{List, [], ◌∷◌, ◌≡◌, ◌/◌, ℕ, length, None, map, get_or, false, sym, ap, subst, ◌∙◌, arith}
use Rattle.std.proofs.lemmas.List.{length-replicate, replicate_more}
use Rattle.std.proofs.lemmas.Slice.{pushed}
use Rattle.std.specs.Option.{is_some}
use Rattle.dsr_meaning.specs.Writes.{AreBytes}
use Rattle.dsr_overlay.proofs.Pages.{none_fit, none_is, none_owned}
use Rattle.dsr_overlay.specs.Overlays.{AllFit, overlaid}
use Rattle.dsr_overlay.proofs.overlay.Overlay.new.Goals as goal

pub loop-preserved : goal.loop-preserved
loop-preserved c = pushed (None ∷ []) c.loop.invariant c.in_ok-push.was c.push.ensures.items ∙ replicate_more c.loop.counter None

pub invariant_of-result : goal.invariant_of-result
invariant_of-result c =
    let o = c.args.bytes.now in
    let many : length c.loop.pages.items ≡ c.loop.counter = ap length c.loop.invariant ∙ length-replicate c.loop.counter None in
    record {
      covered = omega (arith, many);
      fit = subst (AllFit 4096 o) (sym c.loop.invariant) (none_fit 4096 c.loop.counter o);
      bytes = let P : List ℕ → Type 0 = AreBytes in subst P (sym (ap (overlaid 4096 o) c.loop.invariant ∙ none_owned 4096 c.loop.counter o)) (λ q. omega (arith, c.type_inv.bytes q));
    }

pub returns-clause-bytes : goal.returns-clause-bytes
returns-clause-bytes c = ap (overlaid 4096 c.args.bytes.now) c.loop.invariant ∙ none_owned 4096 c.loop.counter c.args.bytes.now

pub returns-clause-unowned : goal.returns-clause-unowned
returns-clause-unowned c =
    λ at. ap (λ ps. get_or (map is_some ps) (at / 4096) false) c.loop.invariant ∙ none_is c.loop.counter (at / 4096)
