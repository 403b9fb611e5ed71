use Rattle.dsr_script.proofs.playing.play.Goals as goal

pub loop-next-preserved : goal.loop-next-preserved
loop-next-preserved g c = record {
  ready = c.in-Ok.ensures.ready;
  continues = λ after status runs.
      c.loop-next.invariant.continues after status (c.in-Ok.ensures.continues after status runs);
}

pub returns-in-Err : goal.returns-in-Err
returns-in-Err g c = c.loop-next.invariant.continues _ c.in-Err.status c.in-Err.ensures.ends
