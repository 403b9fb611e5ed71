use Rattle.std.proofs.Common.{ap, not, sym, ◌∙◌, is_none}
use Rattle.std.proofs.Math.Bool.{not-not}
use Rattle.dsr_struct.specs.Known.{known_of}
use Rattle.dsr_names.proofs.Finding.{finds_when}
use Rattle.dsr_struct.proofs.lookups.Names.check_head.Goals as goal

pub returns : goal.returns
returns c =
    let is_missing = sym (not-not c.is_none.result) ∙ ap not (sym c.is_none.ensures) in
    finds_when _ _ (is_missing ∙ ap is_none (c.structure-found.ensures ∙ ap (known_of c.args.self.now).structure c.requires)) c.note_if.ensures
