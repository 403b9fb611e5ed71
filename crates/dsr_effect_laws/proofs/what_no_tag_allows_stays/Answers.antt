use Rattle.dsr_effect_laws.proofs.FactChanges.{gives_as_before, not_gained, not_lost, still_gives}
use Rattle.dsr_effect_laws.proofs.what_no_tag_allows_stays.Goals as goal

pub returns-clause-gains : goal.returns-clause-gains
returns-clause-gains c = not_gained

pub returns-clause-given : goal.returns-clause-given
returns-clause-given c = gives_as_before

pub returns-clause-losses : goal.returns-clause-losses
returns-clause-losses c = not_lost

pub returns-clause-still : goal.returns-clause-still
returns-clause-still c = still_gives
