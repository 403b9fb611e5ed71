-- One span after the other.
use Rattle.std.proofs.Common.{[], ◌++◌, length, sym, subst, arith}
use Rattle.std.proofs.lemmas.List.{append-nil}
use Rattle.dsr_repair.proofs.Noting.{span_noted}
use Rattle.dsr_repair.specs.Notes.{AreNoted}
use Rattle.dsr_repair.proofs.notes.note_all.Goals as goal

pub loop-span-init : goal.loop-span-init
loop-span-init g c = λ rest are.
    subst (λ ns. AreNoted c.args.spans.now (g.I.ImageBytes.bytes c.args.image.now) 0 (ns ++ rest)) (sym c.clear.ensures.items) are

pub note_span-requires-clause-ordered : goal.note_span-requires-clause-ordered
note_span-requires-clause-ordered g c = omega (arith, c.in-Some.ensures.some)

pub note_span-requires-clause-inside : goal.note_span-requires-clause-inside
note_span-requires-clause-inside g c = c.in-Some.ensures.within (length (g.I.ImageBytes.bytes c.args.image.now)) c.requires.within

pub loop-span-preserved : goal.loop-span-preserved
loop-span-preserved g c =
    let bytes = g.I.ImageBytes.bytes c.args.image.now in
    let span = c.in-Some.span in
    span_noted c.args.spans.now bytes c.loop-span.from span.start span.end c.loop-span.notes.items c.in-Some.ensures.from
    (omega (arith, c.in-Some.ensures.some)) (c.in-Some.ensures.within (length bytes) c.requires.within) c.in-Some.ensures.before
    c.loop-span.invariant c.note_span.new.notes.items c.in_ok-note_span.ensures

pub loop-span-smaller : goal.loop-span-smaller
loop-span-smaller g c =
    let inside = c.in-Some.ensures.within (length (g.I.ImageBytes.bytes c.args.image.now)) c.requires.within in
    omega (arith, inside, c.in-Some.ensures.from, c.in-Some.ensures.some)

pub returns : goal.returns
returns g c =
    subst (AreNoted c.args.spans.now (g.I.ImageBytes.bytes c.args.image.now) 0) (append-nil c.loop-span.notes.items)
    (c.loop-span.invariant [] c.in_default.ensures)
