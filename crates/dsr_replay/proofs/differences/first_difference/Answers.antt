-- The first place at which the bytes differ, found byte for byte.
use Rattle.std.proofs.Common.{◌≡◌, ◌<◌, ◌∙◌, ◌≤◌, true, false, get_or, take, length, refl, sym, subst, arith}
use Rattle.dsr_replay.proofs.Differing.{alike_here, differs_here, goes_on, whole_same}
use Rattle.dsr_replay.proofs.differences.first_difference.Goals as goal

pub returns-then-not-has_byte : goal.returns-then-not-has_byte
returns-then-not-has_byte g c =
    differs_here c.args.bytes.now (g.I.ImageBytes.bytes c.args.image.now) c.loop-place.place (get_or c.args.bytes.now c.loop-place.place 0) 0
    c.loop-place.invariant c.loop-place-test.true refl
    (λ there. absurd (let both : false ≡ true = sym c.if-not-has_byte.true ∙ c.has_byte.ensures.1 there in cc))

pub loop-place-preserved : goal.loop-place-preserved
loop-place-preserved g c =
    alike_here c.args.bytes.now (g.I.ImageBytes.bytes c.args.image.now) c.loop-place.place (get_or c.args.bytes.now c.loop-place.place 0) 0
    c.loop-place.invariant c.loop-place-test.true refl (c.has_byte.ensures.0 c.if-not-has_byte.false)

pub returns-then-count-len : goal.returns-then-count-len
returns-then-count-len g c =
    let xs = c.args.bytes.now in
    let ys = g.I.ImageBytes.bytes c.args.image.now in
    let all : c.loop-place.place ≡ length xs = omega (arith, c.loop-place-test.false, c.loop-place.auto.place-end) in
    goes_on xs ys (subst (λ n. take n xs ≡ take n ys) all c.loop-place.invariant) (omega (arith, c.if-count-len.true, c.len.ensures.count))

pub returns-else-count-len : goal.returns-else-count-len
returns-else-count-len g c =
    let xs = c.args.bytes.now in
    let ys = g.I.ImageBytes.bytes c.args.image.now in
    let all : c.loop-place.place ≡ length xs = omega (arith, c.loop-place-test.false, c.loop-place.auto.place-end) in
    whole_same xs ys (length xs) (omega arith) (omega (arith, c.if-count-len.false, c.len.ensures.count)) (subst (λ n. take n xs ≡ take n ys) all c.loop-place.invariant)
