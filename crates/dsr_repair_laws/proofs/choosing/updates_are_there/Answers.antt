use Rattle.dsr_meaning.specs.Models.{IsFact}
use Rattle.dsr_repair_laws.proofs.DueForms.{form_of}
use Rattle.dsr_repair_laws.proofs.Updates.{first_there, taking_there}
use Rattle.dsr_repair_laws.proofs.choosing.updates_are_there.Goals as goal

pub returns : goal.returns
returns c = record {
  adds = λ spec choice layout bytes v conj literal its template image plan due.
      first_there (IsFact spec layout bytes) spec v.binding its template (form_of (IsFact spec layout bytes) spec choice v conj literal its template image.typed plan due);
  takes_away = λ spec choice layout bytes v conj literal its template fact i image plan due.
      taking_there spec layout bytes v.binding its template (form_of (IsFact spec layout bytes) spec choice v conj literal its template image.typed plan due) fact i;
}
