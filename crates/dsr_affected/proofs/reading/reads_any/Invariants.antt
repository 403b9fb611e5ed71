use Rattle.std.proofs.Common.{◌≡◌, ◌++◌, drop, map}
use Rattle.dsr_affected_laws.specs.Affected.{reads_any}
use Rattle.dsr_leaf_laws.specs.Leaves.{may_change}
use Rattle.dsr_meaning.specs.Lists.{any_of}
use Rattle.dsr_update_theory.specs.Changes.{target_paths}
use Rattle.dsr_affected.proofs.reading.reads_any.Given as goal

-- those that are left tell the same
abbrev pub invariant-loop-guard : goal.invariant-loop-guard
invariant-loop-guard l =
    any_of (λ path. any_of (λ written. may_change l.spec.base written path.field) l.fields) (map (λ g. g.path) (drop l.guard-index l.guard-items) ++ target_paths l.rule)
    ≡ reads_any l.spec.base l.fields l.rule
