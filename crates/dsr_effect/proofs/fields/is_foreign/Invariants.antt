use Rattle.std.proofs.Common.{◌≡◌, drop}
use Rattle.dsr_effect.specs.Told.{is_foreign_structure}
use Rattle.dsr_effect.proofs.fields.is_foreign.Given as goal

-- the writes that are left tell the same
abbrev pub invariant-loop-write : goal.invariant-loop-write
invariant-loop-write l =
    is_foreign_structure l.structures (drop l.write-index l.writes) l.structure ≡ is_foreign_structure l.structures l.writes l.structure
