use Rattle.std.proofs.Common.{◌+◌, ◌/◌, false, get_or, refl, ap, ◌∙◌, arith}
use Rattle.dsr_overlay.proofs.Written.{begins, ends, more}
use Rattle.dsr_overlay.proofs.overlay.Overlay.write.Goals as goal

pub loop-i-init : goal.loop-i-init
loop-i-init c = begins c.args.first c.args.part.now c.args.self.now c.requires.before

pub set-requires-clause-owned : goal.set-requires-clause-owned
set-requires-clause-owned c =
    ap (λ xs. get_or xs ((c.args.first + c.loop-i.i) / 4096) false) c.loop-i.invariant.owned ∙ c.requires.claimed (c.args.first + c.loop-i.i) (omega arith) (omega arith)

pub set-requires-clause-within : goal.set-requires-clause-within
set-requires-clause-within c = omega (arith, c.loop-i.invariant.long)

pub loop-i-preserved : goal.loop-i-preserved
loop-i-preserved c =
    more c.args.first c.loop-i.i _ c.args.part.now _ _ _ c.requires.within c.loop-i.invariant (omega arith) refl c.set.ensures.bytes c.set.ensures.owned c.set.ensures.after

pub returns-clause-bytes : goal.returns-clause-bytes
returns-clause-bytes c = ends c.args.first c.loop-i.i c.args.part.now _ _ c.loop-i.invariant (omega arith)

pub returns-clause-owned : goal.returns-clause-owned
returns-clause-owned c = c.loop-i.invariant.owned

pub returns-clause-after : goal.returns-clause-after
returns-clause-after c = c.loop-i.invariant.are
