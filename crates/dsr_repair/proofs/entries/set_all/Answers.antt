-- The writes, one after the other.
use Rattle.std.proofs.Common.{◌∙◌, ◌+◌, [], All, refl, sym, subst, take, arith}
use Rattle.std.proofs.lemmas.Grind.{common_steps}
use Rattle.std.specs.Prelude.{IfSome}
use Rattle.dsr_image.specs.Images.{IsCellClaimed}
use Rattle.dsr_repair.proofs.Sets.{sets_next}
use Rattle.dsr_repair_theory.specs.Entries.{AreSet}
use Rattle.dsr_repair_theory.specs.Entries.AreSet.{done}
use Rattle.dsr_step_theory.specs.Steps.{written_cell}
use Rattle.dsr_repair.proofs.entries.set_all.Goals as goal

pub loop-write-init : goal.loop-write-init
loop-write-init g c = record {
  set = subst (AreSet c.args.spec.now c.args.layout.now c.args.step.now [] (g.I.ImageBytes.bytes c.args.image.now) (g.I.ImageBytes.bytes c.args.image.now)) (sym c.requires.none) done;
  long = refl;
  kept = refl;
  claimed = c.requires.claimed;
  room = omega (arith, c.requires.room);
}

pub loop-write-preserved : goal.loop-write-preserved
loop-write-preserved g c = record {
  set = subst (AreSet c.args.spec.now c.args.layout.now c.args.step.now (take (c.loop-write.write-index + 1) c.args.writes.now) (g.I.ImageBytes.bytes c.args.image.now) (g.I.ImageBytes.bytes c.set.new.image))
      (sym c.push_set.ensures.items)
      (sets_next c.args.spec.now c.args.layout.now c.args.step.now c.args.writes.now c.loop-write.write-index _ c.loop-write-test.true
      c.loop-write.invariant.set c.set.ensures.set);
  long = c.set.ensures.long ∙ c.loop-write.invariant.long;
  kept = c.set.ensures.kept ∙ c.loop-write.invariant.kept;
  claimed = subst (λ f. All (λ w. IfSome (written_cell c.args.layout.now c.args.step.now w) (IsCellClaimed f)) c.args.writes.now) (sym c.set.ensures.kept) c.loop-write.invariant.claimed;
  room = omega (arith, c.push_set.ensures.longer, c.push_set.ensures.room, c.loop-write.invariant.room, c.loop-write-test.true);
}

pub returns-clause-set : goal.returns-clause-set
returns-clause-set g c = grind (arith, common_steps)
