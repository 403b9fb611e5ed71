use Rattle.std.proofs.Common.{◌≡◌, length, ap, ◌∙◌, arith}
use Rattle.dsr_language_theory.specs.NormalForms.{different}
use Rattle.dsr_normal.proofs.AtomLists.{one_too_many, seen_more, seen_again, seen_all}
use Rattle.dsr_normal.proofs.atoms.are_many.Goals as goal
use Rattle.dsr_normal.proofs.atoms.are_many.Goals.{then-not-is_among+else-len-eq-MOST_ATOMS+in_ok-push, else-not-is_among}

pub returns-then-len-eq-MOST_ATOMS : goal.returns-then-len-eq-MOST_ATOMS
returns-then-len-eq-MOST_ATOMS c =
    let full : length c.loop-atom.seen.items ≡ 8 = omega (arith, c.loop-atom.seen.ok) in
    one_too_many c.loop-atom.seen.items c.deref.result.now c.args.atoms.now c.loop-atom.atom-index _ c.is_among.result c.loop-atom-test.true full c.deref.ensures.value c.is_among.ensures c.if-not-is_among.true c.loop-atom.invariant.1

pub loop-atom-init : goal.loop-atom-init
loop-atom-init c =
    let none = ap length c.new-seen.ensures.items in
    (omega (arith, none), ap (λ s. different s c.args.atoms.now) c.new-seen.ensures.items)

pub loop-atom-preserved : goal.loop-atom-preserved
loop-atom-preserved c =
    let seen = c.loop-atom.seen.items in
    let atoms = c.args.atoms.now in
    let i = c.loop-atom.atom-index in
    elim c.if-not-is_among.branch [
      | then-not-is_among+else-len-eq-MOST_ATOMS+in_ok-push w ↦
          let next = seen_more seen c.deref.result.now c.if-not-is_among.seen.items atoms i _ c.is_among.result c.loop-atom-test.true c.deref.ensures.value c.is_among.ensures w.if-not-is_among.true (ap (λ v. v.items) w.seen-is ∙ w.in_ok-push.ensures.items) (omega (arith, c.loop-atom.seen.ok)) c.loop-atom.invariant.1 in
          (next.few, next.same)
      | else-not-is_among w ↦
          let next = seen_again seen c.deref.result.now c.if-not-is_among.seen.items atoms i _ c.is_among.result c.loop-atom-test.true c.deref.ensures.value c.is_among.ensures w.if-not-is_among.false (ap (λ v. v.items) w.seen-is) c.loop-atom.invariant.0 c.loop-atom.invariant.1 in
          (next.few, next.same)
    ]

pub returns : goal.returns
returns c = seen_all c.loop-atom.seen.items c.args.atoms.now c.loop-atom.atom-index c.loop-atom-test.false c.loop-atom.invariant.0 c.loop-atom.invariant.1
