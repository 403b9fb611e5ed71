-- Which numbers of a width come out as wanted in a test.
use Rattle.std.proofs.Common.{arith, ◌≡◌, ◌<◌, ◌≤◌, ◌^◌, ◌⊎◌, ◌↔◌, inl, inr, ℕ, None, Bool, false}
use Rattle.dsr_ir.specs.declared.declarations.Field.{Field}
use Rattle.dsr_ir.specs.declared.declarations.Kind.TheVariants as kinds
use Rattle.dsr_ir.specs.declared.declarations.Width.{Width}
use Rattle.dsr_ir.specs.declared.rules.Op.{Op}
use Rattle.dsr_ir.specs.declared.rules.Test.{Test}
use Rattle.dsr_ir.specs.declared.rules.Test.TheVariants.{Cmp, Legal, Illegal, IsNone, IsSome}
use Rattle.dsr_meaning.specs.Cells.{width_bits}
use Rattle.dsr_meaning.specs.Instances.{Compares, kind_pool}
use Rattle.dsr_update_theory.specs.Values.{CellValue, ComesOut, IllegalReference, LegalReference, MayHold, NoneReference, Number, Passes}
use Rattle.dsr_effect.specs.ValueSets.{Has, IsComparing, IsInRange, IsNumberIn, IsNumberWanted}
use Rattle.dsr_effect.specs.declared.values.Values.{Values}

-- a number passes no test of references
pub passes_none : (test : Test) → ((test ≡ Legal) ⊎ ((test ≡ Illegal) ⊎ ((test ≡ IsNone) ⊎ (test ≡ IsSome)))) → (n : ℕ) → Passes test (Number n) → ⊥
passes_none test (inl e) n = rw e (λ p. p)
passes_none test (inr (inl e)) n = rw e (λ p. p)
passes_none test (inr (inr (inl e))) n = rw e (λ p. p)
passes_none test (inr (inr (inr e))) n = rw e (λ p. p)

pub numbers_compared : (values : Values) (width : Width) (op kept : Op) (number limit : ℕ) (wanted : Bool) → ((n : ℕ) → (n ≤ limit) ↔ (n < 2 ^ width_bits width)) → ((a b : ℕ) → Compares kept a b ↔ ComesOut wanted (Cmp op b) (Number a)) → ((v : CellValue) → Has values v ↔ IsComparing kept number limit v) → (v : CellValue) → Has values v ↔ IsNumberWanted width (Cmp op number) wanted v
numbers_compared values width op kept number limit wanted within out has (Number n) = ((λ p. let q : (n ≤ limit) × Compares kept n number = (has (Number n)).0 p in ((within n).0 q.0, (out n number).0 q.1)), (λ p. (has (Number n)).1 ((within n).1 p.0, (out n number).1 p.1)))
numbers_compared values width op kept number limit wanted within out has LegalReference = has LegalReference
numbers_compared values width op kept number limit wanted within out has IllegalReference = has IllegalReference
numbers_compared values width op kept number limit wanted within out has NoneReference = has NoneReference

-- the numbers up to a limit
up_to : (n limit : ℕ) → (IsInRange (record { first = 0; last = limit }) n ⊎ IsInRange (record { first = 1; last = 0 }) n) ↔ (n ≤ limit)
up_to n limit = (from, λ le. inl (omega arith, le)) where
  from : (IsInRange (record { first = 0; last = limit }) n ⊎ IsInRange (record { first = 1; last = 0 }) n) → n ≤ limit
  from (inl p) = p.1
  from (inr p) = absurd (omega arith)

-- what a field that doesn't refer may hold
pub numbers_held : (values : Values) (field : Field) (limit : ℕ) → ((n : ℕ) → (n ≤ limit) ↔ (n < 2 ^ width_bits field.width)) → (((x : ℕ) × (field.kind ≡ kinds.Number x)) ⊎ (field.kind ≡ kinds.Gap)) → ((v : CellValue) → Has values v ↔ IsNumberIn (record { first = 0; last = limit }) (record { first = 1; last = 0 }) v) → (v : CellValue) → Has values v ↔ MayHold field v
numbers_held values field limit within kind has = held (refers kind) where
  refers : (((x : ℕ) × (field.kind ≡ kinds.Number x)) ⊎ (field.kind ≡ kinds.Gap)) → kind_pool field.kind ≡ None
  refers (inl (x, e)) = rw e
  refers (inr e) = rw e

  held : kind_pool field.kind ≡ None → (v : CellValue) → Has values v ↔ MayHold field v
  held none (Number n) = ((λ p. (none, (within n).0 ((up_to n limit).0 ((has (Number n)).0 p)))), (λ p. (has (Number n)).1 ((up_to n limit).1 ((within n).1 p.1))))
  held none LegalReference = rw none ((λ p. absurd ((has LegalReference).0 p)), (λ q. absurd cc))
  held none IllegalReference = rw none ((λ p. absurd ((has IllegalReference).0 p)), (λ q. absurd cc))
  held none NoneReference = rw none ((λ p. absurd ((has NoneReference).0 p)), (λ q. absurd cc))

-- a test of references doesn't hold of any number
pub numbers_failed : (values : Values) (width : Width) (test : Test) (limit : ℕ) → ((n : ℕ) → (n ≤ limit) ↔ (n < 2 ^ width_bits width)) → ((n : ℕ) → Passes test (Number n) → ⊥) → ((v : CellValue) → Has values v ↔ IsNumberIn (record { first = 0; last = limit }) (record { first = 1; last = 0 }) v) → (v : CellValue) → Has values v ↔ IsNumberWanted width test false v
numbers_failed values width test limit within fails has (Number n) = ((λ p. ((within n).0 ((up_to n limit).0 ((has (Number n)).0 p)), fails n)), (λ p. (has (Number n)).1 ((up_to n limit).1 ((within n).1 p.0))))
numbers_failed values width test limit within fails has LegalReference = has LegalReference
numbers_failed values width test limit within fails has IllegalReference = has IllegalReference
numbers_failed values width test limit within fails has NoneReference = has NoneReference
