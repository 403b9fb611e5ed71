-- What the write is that makes a guard true, or false.
use Rattle.std.proofs.Common.{◌≡◌, Bool, true, false, Option, None, Some, refl, sym}
use Rattle.std.specs.Prelude.{option_map, if◌then◌else◌}
use Rattle.std.specs.Option.{option_and_then}
use Rattle.std.proofs.lemmas.Option.{same_Some}
use Rattle.dsr_ir.specs.declared.declarations.Field.{Field}
use Rattle.dsr_ir.specs.declared.declarations.Structures.{Structures}
use Rattle.dsr_ir.specs.declared.rules.Guard.{Guard}
use Rattle.dsr_ir.specs.declared.updates.Pick.{Pick}
use Rattle.dsr_ir.specs.declared.updates.Write.{Write}
use Rattle.dsr_meaning.specs.Instances.{declared_field}
use Rattle.dsr_update_theory.specs.Guards.{guard_write, pick_wanted}

-- the write of what is picked so that the guard's test comes out as wanted
abbrev pub wanted_write : Bool → Guard → Pick → Write
wanted_write wanted guard pick = record { path = guard.path; pick = pick; wants = Some (guard.test, wanted) }

pub record IsGuardWrite (wanted : Bool) (guard : Guard) (write : Write) : Type 0 where
  pub field : Field
  pub pick : Pick
  pub picks : pick_wanted wanted field guard.test ≡ Some pick
  pub is : write ≡ wanted_write wanted guard pick

of_pick : (wanted : Bool) (guard : Guard) (f : Field) (write : Write) (o : Option Pick) → pick_wanted wanted f guard.test ≡ o → option_map (wanted_write wanted guard) o ≡ Some write → IsGuardWrite wanted guard write
of_pick wanted guard f write None e q = absurd cc
of_pick wanted guard f write (Some pick) e q = record { field = f; pick = pick; picks = e; is = sym (same_Some _ write q) }

of_open : (wanted : Bool) (guard : Guard) (f : Field) (write : Write) (b : Bool) → (if b then None else option_map (wanted_write wanted guard) (pick_wanted wanted f guard.test)) ≡ Some write → IsGuardWrite wanted guard write
of_open wanted guard f write true q = absurd cc
of_open wanted guard f write false q = of_pick wanted guard f write (pick_wanted wanted f guard.test) refl q

pub guard_written : (base : Structures) (wanted : Bool) (guard : Guard) (write : Write) → guard_write base wanted guard ≡ Some write → IsGuardWrite wanted guard write
guard_written base wanted guard write e = by_field (declared_field base guard.path.field) e where
  by_field : (o : Option Field) → option_and_then (λ f. if f.fixed then None else option_map (wanted_write wanted guard) (pick_wanted wanted f guard.test)) o ≡ Some write → IsGuardWrite wanted guard write
  by_field None q = absurd cc
  by_field (Some f) q = of_open wanted guard f write f.fixed q
