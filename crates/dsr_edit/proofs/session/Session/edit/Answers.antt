use Rattle.std.proofs.Common.{refl}
use Rattle.dsr_edit.proofs.session.Session.edit.Goals as goal

pub returns : goal.returns
returns c = record {
  spec = rw (← c.self.view_is) refl;
  layout = rw (← c.self.view_is) refl;
  edited = rw (← c.self.view_is) c.edit_group.ensures.edited;
  kept = rw (← c.self.view_is) c.edit_group.ensures.kept;
  refused = rw (← c.self.view_is) c.edit_group.ensures.refused;
}

pub edit_group-requires : goal.edit_group-requires
edit_group-requires c = record { session = c.self.invariant }

pub invariant_of-self : goal.invariant_of-self
invariant_of-self c = c.edit_group.ensures.session
