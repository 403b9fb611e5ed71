use Rattle.dsr_meaning.specs.Models.{IsFact}
use Rattle.dsr_repair_laws.proofs.Complete.{chosen_complete}
use Rattle.dsr_repair_laws.proofs.DueForms.{form_of}
use Rattle.dsr_repair_laws.proofs.choosing.choices_are_complete.Goals as goal

pub returns : goal.returns
returns c spec choice layout bytes v conj literal its template n update stopped image plan due is =
    chosen_complete spec layout bytes v.binding its template (form_of (IsFact spec layout bytes) spec choice v conj literal its template image.typed plan due) n update stopped is
