use Rattle.std.proofs.Common.{ap, not, ◌∙◌, is_none}
use Rattle.dsr_language_theory.specs.Declarations.{unknown_name}
use Rattle.dsr_meaning.specs.Lists.{each_at}
use Rattle.dsr_language_theory.specs.Names.{is_at, plain_set}
use Rattle.dsr_struct.specs.Known.{known_of}
use Rattle.dsr_names.proofs.Finding.{finds_same, finds_then, finds_when}
use Rattle.dsr_struct.proofs.lookups.Names.check_supply.Goals as goal

pub returns : goal.returns
returns c =
    let rest = finds_same (ap (each_at (λ _ q. unknown_name (plain_set (known_of c.args.self.now)) q) 1) c.items.ensures) c.check_plain_sets.ensures in
    finds_then (finds_when _ _ (ap not (c.is_at-is_first.ensures ∙ ap (is_at c.args.number) c.supply.ensures)) c.note_if.ensures)
    (finds_then (finds_when _ _ (ap is_none c.pool.ensures) c.note_unknown.ensures)
    (finds_then (finds_then c.check_plain_set.ensures rest) (finds_when _ _ c.is_supply_mismatch.ensures c.note_if-2.ensures)))
