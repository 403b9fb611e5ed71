use Rattle.dsr_meaning.specs.Models.{IsFact}
use Rattle.dsr_repair_laws.proofs.DueForms.{form_of}
use Rattle.dsr_repair_laws.proofs.ToGo.{to_go_there}
use Rattle.dsr_repair_laws.proofs.choosing.facts_to_go_are_there.Goals as goal

pub returns : goal.returns
returns c spec choice layout bytes v conj literal its template image plan due =
    to_go_there spec layout bytes v.binding its template image.typed (form_of (IsFact spec layout bytes) spec choice v conj literal its template image.typed plan due)
