-- What the write of a reference is.
use Rattle.std.proofs.Common.{◌≡◌, ◌∙◌, ℕ, Bool, true, false, Option, None, Some, refl, sym, ap}
use Rattle.std.specs.Prelude.{option_map, if◌then◌else◌}
use Rattle.std.specs.Option.{option_and_then}
use Rattle.std.proofs.lemmas.Option.{same_Some}
use Rattle.dsr_ir.specs.declared.declarations.Field.{Field}
use Rattle.dsr_ir.specs.declared.declarations.Spec.{Spec}
use Rattle.dsr_ir.specs.declared.rules.Path.{Path}
use Rattle.dsr_ir.specs.declared.updates.Pick.{Pick}
use Rattle.dsr_ir.specs.declared.updates.Write.{Write}
use Rattle.dsr_meaning.specs.Instances.{declared_field, kind_pool, referred_pool}
use Rattle.dsr_update_theory.specs.Options.{open_pool, reference_write}

-- the write of what is picked, which wants no test
abbrev pub plain_write : Pick → Path → Write
plain_write pick path = record { path = path; pick = pick; wants = None }

-- it is the write, and the field refers to a pool
pub record IsReferenceWrite (spec : Spec) (pick : Pick) (path : Path) (write : Write) : Type 0 where
  pub field : Field
  pub pool : ℕ
  pub refers : referred_pool spec path.field ≡ Some pool
  pub is : write ≡ plain_write pick path

of_pool : (spec : Spec) (pick : Pick) (path : Path) (write : Write) (f : Field) (b : Bool) → declared_field spec.base path.field ≡ Some f → option_map (λ pool. plain_write pick path) (if b then None else kind_pool f.kind) ≡ Some write → IsReferenceWrite spec pick path write
of_pool spec pick path write f true at q = absurd cc
of_pool spec pick path write f false at q = by_kind (kind_pool f.kind) refl q where
  by_kind : (o : Option ℕ) → kind_pool f.kind ≡ o → option_map (λ pool. plain_write pick path) o ≡ Some write → IsReferenceWrite spec pick path write
  by_kind None e r = absurd cc
  by_kind (Some pool) e r = record {
    field = f;
    pool = pool;
    refers = ap (option_and_then (λ g. kind_pool g.kind)) at ∙ e;
    is = sym (same_Some (plain_write pick path) write r);
  }

pub reference_written : (spec : Spec) (pick : Pick) (path : Path) (write : Write) → reference_write spec.base pick path ≡ Some write → IsReferenceWrite spec pick path write
reference_written spec pick path write e = by_field (declared_field spec.base path.field) refl e where
  by_field : (o : Option Field) → declared_field spec.base path.field ≡ o → option_and_then (λ f. option_map (λ pool. plain_write pick path) (open_pool f)) o ≡ Some write → IsReferenceWrite spec pick path write
  by_field None at q = absurd cc
  by_field (Some f) at q = of_pool spec pick path write f f.fixed at q
