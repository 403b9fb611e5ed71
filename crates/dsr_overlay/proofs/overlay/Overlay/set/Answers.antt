use Rattle.dsr_overlay.proofs.Views.{byte_inside, is_there, set_are_bytes, set_bytes, set_overlay, set_owned}
use Rattle.dsr_overlay.proofs.overlay.Overlay.set.Goals as goal
use Rattle.dsr_overlay.proofs.overlay.Overlay.set.Goals.{in-Some, in_default}

pub set-requires : goal.set-requires
set-requires c = byte_inside _ _ _ c.self.view_is c.self.invariant c.args.at c.requires.within _ c.index_mut.ensures.value _ c.in-Some.is

pub invariant_of-self : goal.invariant_of-self
invariant_of-self c = elim c.match-index_mut.branch [
  | in-Some w ↦ rw w.self-inside-is (set_overlay _ _ _ c.self.view_is c.self.invariant c.args.at c.requires.within _ c.index_mut.ensures.value _ w.in-Some.is c.args.byte c.ranges.byte.fits _ w.set.ensures)
  | in_default w ↦ absurd (is_there _ _ _ c.self.view_is c.self.invariant c.args.at c.requires.within _ c.index_mut.ensures.value c.requires.owned w.in_default.is)
]

pub returns-clause-bytes : goal.returns-clause-bytes
returns-clause-bytes c = elim c.match-index_mut.branch [
  | in-Some w ↦ rw w.self-inside-is (set_bytes _ _ _ c.self.view_is c.self.invariant c.args.at c.requires.within _ c.index_mut.ensures.value _ w.in-Some.is c.args.byte c.ranges.byte.fits _ w.set.ensures)
  | in_default w ↦ absurd (is_there _ _ _ c.self.view_is c.self.invariant c.args.at c.requires.within _ c.index_mut.ensures.value c.requires.owned w.in_default.is)
]

pub returns-clause-owned : goal.returns-clause-owned
returns-clause-owned c = elim c.match-index_mut.branch [
  | in-Some w ↦ rw w.self-inside-is (set_owned _ _ _ c.self.view_is c.self.invariant c.args.at c.requires.within _ c.index_mut.ensures.value _ w.in-Some.is c.args.byte c.ranges.byte.fits _ w.set.ensures)
  | in_default w ↦ absurd (is_there _ _ _ c.self.view_is c.self.invariant c.args.at c.requires.within _ c.index_mut.ensures.value c.requires.owned w.in_default.is)
]

pub returns-clause-after : goal.returns-clause-after
returns-clause-after c = elim c.match-index_mut.branch [
  | in-Some w ↦ rw w.self-inside-is (set_are_bytes _ _ _ c.self.view_is c.self.invariant c.args.at c.requires.within _ c.index_mut.ensures.value _ w.in-Some.is c.args.byte c.ranges.byte.fits _ w.set.ensures)
  | in_default w ↦ absurd (is_there _ _ _ c.self.view_is c.self.invariant c.args.at c.requires.within _ c.index_mut.ensures.value c.requires.owned w.in_default.is)
]
