use Rattle.dsr_meaning.specs.Models.{IsFact}
use Rattle.dsr_repair_laws.proofs.DueForms.{form_of}
use Rattle.dsr_repair_laws.proofs.Few.{few_of}
use Rattle.dsr_repair_laws.proofs.choosing.templates_have_few_updates.Goals as goal

pub returns : goal.returns
returns c spec choice layout bytes v conj literal its template image plan due =
    few_of (IsFact spec layout bytes) spec v.binding its template image.typed
    (form_of (IsFact spec layout bytes) spec choice v conj literal its template image.typed plan due)
