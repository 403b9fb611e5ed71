use Rattle.std.proofs.Common.{◌≡◌, ◌++◌, drop, map}
use Rattle.dsr_compensate.specs.Preventing.{reads_field}
use Rattle.dsr_meaning.specs.Lists.{any_of}
use Rattle.dsr_update_theory.specs.Changes.{target_paths}
use Rattle.dsr_update_theory.specs.Templates.{is_same_field}
use Rattle.dsr_compensate.proofs.preventing.reads_field.Given as goal

abbrev pub invariant-loop-guard : goal.invariant-loop-guard
invariant-loop-guard l =
    any_of (λ p. is_same_field p.field l.field) (map (λ g. g.path) (drop l.guard-index l.guard-items) ++ target_paths l.rule) ≡ reads_field l.rule l.field
