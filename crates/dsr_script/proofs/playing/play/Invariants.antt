use Rattle.dsr_script.specs.Moves.{IsReady, script_of, loads_of}
use Rattle.dsr_script.specs.Outside.{told_by}
use Rattle.dsr_script.specs.Runs.{Continues}
use Rattle.dsr_script.proofs.playing.play.Given as goal

-- the move that is due is ready, and however the run goes on from it, the first move runs so
abbrev pub invariant-loop-next : goal.invariant-loop-next
invariant-loop-next g l = record {
  ready : IsReady g.S.Stage.ready l.due;
  continues : Continues
      (script_of g.S.Stage.due l.fn.first) (told_by g.F.Shelf g.O.Sink l.fn.shelf l.fn.out)
      (script_of g.S.Stage.due l.due) (told_by g.F.Shelf g.O.Sink l.shelf l.out);
}

abbrev pub decreases-loop-next : goal.decreases-loop-next
decreases-loop-next g l = loads_of g.S.Stage.left l.due
