use Rattle.std.proofs.Common.{ap, sym}
use Rattle.dsr_names.specs.Tables.{known_of}
use Rattle.dsr_language_theory.specs.Constraints.{quantifier_faults}
use Rattle.dsr_names.proofs.Finding.{finds_same, finds_then, finds_when}
use Rattle.dsr_constraint.proofs.checks.check_quantifier.Goals as goal

pub returns-in-Some : goal.returns-in-Some
returns-in-Some c =
    finds_same (ap (quantifier_faults (known_of c.args.known.now)) (sym c.in-Some.is))
    (finds_then c.check_symbol.ensures (finds_then c.check_binder.ensures (finds_when _ _ c.gives_numbers-is_mismatch.ensures c.note_if.ensures)))
