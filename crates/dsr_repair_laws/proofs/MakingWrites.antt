-- What is written: to a path of a field that isn't fixed.
use Rattle.std.proofs.Common.{◌≡◌, ◌<◌, ◌^◌, ℕ, Bool, true, false, nat_lt, Option, None, Some, IsSome, IsSomeAnd, refl, sym, ap, subst, if◌then◌else◌, arith}
use Rattle.std.specs.Prelude.{option_map}
use Rattle.std.specs.Option.{option_and_then}
use Rattle.std.proofs.lemmas.Bool.Decides.{nat_tests}
use Rattle.std.proofs.lemmas.Option.{same_Some}
use Rattle.dsr_ir.specs.declared.declarations.Field.{Field}
use Rattle.dsr_ir.specs.declared.declarations.Spec.{Spec}
use Rattle.dsr_ir.specs.declared.declarations.Structures.{Structures}
use Rattle.dsr_ir.specs.declared.rules.Guard.{Guard}
use Rattle.dsr_ir.specs.declared.rules.Path.{Path}
use Rattle.dsr_ir.specs.declared.rules.Test.{Test}
use Rattle.dsr_ir.specs.declared.rules.Test.TheVariants as tests
use Rattle.dsr_ir.specs.declared.updates.Pick.{Pick}
use Rattle.dsr_ir.specs.declared.updates.Pick.TheVariants as picks
use Rattle.dsr_ir.specs.declared.updates.Write.{Write}
use Rattle.dsr_meaning.specs.Cells.{width_bits}
use Rattle.dsr_meaning.specs.Instances.{declared_field, kind_pool}
use Rattle.dsr_meaning.specs.Typed.{IsTypedTest}
use Rattle.dsr_step_theory.specs.Images.{IsFree}
use Rattle.dsr_update_theory.specs.Guards.{fitting, guard_write, number_false, number_true, pick_wanted}
use Rattle.dsr_update_theory.specs.Options.{open_pool, reference_write}
use Rattle.dsr_update_theory.specs.Templates.{value_write}
use Rattle.dsr_meaning.proofs.Options.{chained_from, failed_from, mapped_from}

-- the write is of this pick to this path, whose field is declared and not fixed
pub record IsOpenWrite (base : Structures) (path : Path) (pick : Pick) (write : Write) : Type 0 where
  pub field : Field
  pub declared : declared_field base path.field ≡ Some field
  pub open_field : field.fixed ≡ false
  pub path_is : write.path ≡ path
  pub pick_is : write.pick ≡ pick

pub is_free : (spec : Spec) (path : Path) (pick : Pick) (write : Write) → IsOpenWrite spec.base path pick write → IsFree spec write
is_free spec path pick write by =
    subst (λ (p : Path). IsSomeAnd (declared_field spec.base p.field) (λ f. f.fixed ≡ false)) (sym by.path_is)
    (subst (λ o. IsSomeAnd o (λ f. f.fixed ≡ false)) (sym by.declared) by.open_field)

-- ---- of a guard

pub record IsGuardWritten (base : Structures) (wanted : Bool) (guard : Guard) (write : Write) : Type 0 where
  pub pick : Pick
  pub open_write : IsOpenWrite base guard.path pick write
  pub picks : pick_wanted wanted open_write.field guard.test ≡ Some pick

pub of_guard : (base : Structures) (wanted : Bool) (guard : Guard) (write : Write) → guard_write base wanted guard ≡ Some write → IsGuardWritten base wanted guard write
of_guard base wanted guard write e =
    let made : Pick → Write = λ pick. record { path = guard.path; pick = pick; wants = Some (guard.test, wanted) } in
    let found = chained_from (λ (f : Field). if f.fixed then None else option_map made (pick_wanted wanted f guard.test)) (declared_field base guard.path.field) write e in
    let test = failed_from found.0.fixed (option_map made (pick_wanted wanted found.0 guard.test)) write found.1.1 in
    let pick = mapped_from made (pick_wanted wanted found.0 guard.test) write test.1 in
    record {
      pick = pick.0;
      open_write = record {
        field = found.0;
        declared = found.1.0;
        open_field = test.0;
        path_is = ap (λ (w : Write). w.path) pick.1.1;
        pick_is = ap (λ (w : Write). w.pick) pick.1.1;
      };
      picks = pick.1.0;
    }

-- the pick of a typed test is a number that fits, or none of the pool to which the field refers
pub data IsFitPick (f : Field) : Pick → Type 0 where
  num : (n : ℕ) → n < 2 ^ width_bits f.width → IsFitPick f (picks.Num n)
  none : (pool : ℕ) → kind_pool f.kind ≡ Some pool → IsFitPick f picks.NoneCode

fitting_fits : (f : Field) (m n : ℕ) → fitting f m ≡ Some n → n < 2 ^ width_bits f.width
fitting_fits f m n e =
    elim (nat_lt m (2 ^ width_bits f.width)) as (λ b. nat_lt m (2 ^ width_bits f.width) ≡ b → (if b then Some m else None) ≡ Some n → n < 2 ^ width_bits f.width) [
      | true ↦ λ less q. let same : m ≡ n = same_Some m n q in subst (λ k. k < 2 ^ width_bits f.width) same (grind (arith, nat_tests, less))
      | false ↦ λ _ q. absurd cc
    ] refl e

num_fits : (f : Field) (o : Option ℕ) (pick : Pick) → option_map picks.Num (option_and_then (fitting f) o) ≡ Some pick → IsFitPick f pick
num_fits f o pick e =
    let found = mapped_from picks.Num (option_and_then (fitting f) o) pick e in
    let from = chained_from (fitting f) o found.0 found.1.0 in
    subst (IsFitPick f) (sym found.1.1) (IsFitPick.num found.0 (fitting_fits f from.0 found.0 from.1.1))

none_picked : (f : Field) (pick : Pick) → IsSome (kind_pool f.kind) → Some picks.NoneCode ≡ Some pick → IsFitPick f pick
none_picked f pick refers e =
    elim (kind_pool f.kind) as (λ o. kind_pool f.kind ≡ o → IsSome o → IsFitPick f pick) [
      | None ↦ λ _ no. absurd cc
      | Some pool ↦ λ is _. subst (IsFitPick f) (same_Some picks.NoneCode pick e) (IsFitPick.none pool is)
    ] refl refers

pub fit_pick : (wanted : Bool) (f : Field) (test : Test) (pick : Pick) → IsTypedTest f test → pick_wanted wanted f test ≡ Some pick → IsFitPick f pick
fit_pick true f (tests.Cmp op k) pick typed e = num_fits f (number_true op k) pick e
fit_pick true f tests.IsNone pick typed e = none_picked f pick typed e
fit_pick true f tests.IsSome pick typed e = absurd cc
fit_pick true f tests.Legal pick typed e = absurd cc
fit_pick true f tests.Illegal pick typed e = absurd cc
fit_pick false f (tests.Cmp op k) pick typed e = num_fits f (number_false op k) pick e
fit_pick false f tests.IsNone pick typed e = absurd cc
fit_pick false f tests.IsSome pick typed e = none_picked f pick typed e
fit_pick false f tests.Legal pick typed e = none_picked f pick typed e
fit_pick false f tests.Illegal pick typed e = none_picked f pick typed e

-- ---- of a reference, and of a value

pub record IsReferenceWritten (base : Structures) (pick : Pick) (path : Path) (write : Write) : Type 0 where
  pub open_write : IsOpenWrite base path pick write
  pub pool : ℕ
  pub refers : kind_pool open_write.field.kind ≡ Some pool

pub of_reference : (base : Structures) (pick : Pick) (path : Path) (write : Write) → reference_write base pick path ≡ Some write → IsReferenceWritten base pick path write
of_reference base pick path write e =
    let made : Write = record { path = path; pick = pick; wants = None } in
    let found = chained_from (λ (f : Field). option_map (λ (pool : ℕ). made) (open_pool f)) (declared_field base path.field) write e in
    let pool = mapped_from (λ (pool : ℕ). made) (open_pool found.0) write found.1.1 in
    let test = failed_from found.0.fixed (kind_pool found.0.kind) pool.0 pool.1.0 in
    record {
      open_write = record {
        field = found.0;
        declared = found.1.0;
        open_field = test.0;
        path_is = ap (λ (w : Write). w.path) pool.1.1;
        pick_is = ap (λ (w : Write). w.pick) pool.1.1;
      };
      pool = pool.0;
      refers = test.1;
    }

pub of_value : (base : Structures) (pick : Pick) (path : Path) (write : Write) → value_write base pick path ≡ Some write → IsOpenWrite base path pick write
of_value base pick path write e =
    let made : Write = record { path = path; pick = pick; wants = None } in
    let found = chained_from (λ (f : Field). if f.fixed then None else Some made) (declared_field base path.field) write e in
    let test = failed_from found.0.fixed (Some made) write found.1.1 in
    let same = same_Some made write test.1 in
    record {
      field = found.0;
      declared = found.1.0;
      open_field = test.0;
      path_is = sym (ap (λ (w : Write). w.path) same);
      pick_is = sym (ap (λ (w : Write). w.pick) same);
    }
