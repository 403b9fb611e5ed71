-- Sets without numbers, and the set of none alone.
use Rattle.std.proofs.Common.{◌≡◌, ◌↔◌, inl, inr, ℕ, Bool, true, false, refl, Decides}
use Rattle.dsr_ir.specs.declared.rules.Test.{Test}
use Rattle.dsr_update_theory.specs.Values.{CellValue, ComesOut, IllegalReference, LegalReference, NoneReference, Number, Passes}
use Rattle.dsr_effect.specs.ValueSets.{Has, HasNumber, IsInRange}
use Rattle.dsr_effect.specs.declared.values.Values.{Values}

-- where the low range is empty, the high one tells
pub high_tells : (values : Values) (b : Bool) → ((n : ℕ) → IsInRange values.low n → ⊥) → Decides b ((n : ℕ) → IsInRange values.high n → ⊥) → Decides b ((n : ℕ) → HasNumber values n → ⊥)
high_tells values b low high = ((λ t. neither (high.0 t)), (λ f. high.1 (λ n q. f n (inr q)))) where
  neither : ((n : ℕ) → IsInRange values.high n → ⊥) → (n : ℕ) → HasNumber values n → ⊥
  neither up n (inl p) = low n p
  neither up n (inr q) = up n q

pub low_tells : (values : Values) (b : Bool) → b ≡ false → Decides b ((n : ℕ) → IsInRange values.low n → ⊥) → Decides b ((n : ℕ) → HasNumber values n → ⊥)
low_tells values b is low = ((λ t. absurd cc), (λ f. low.1 (λ n p. f n (inl p))))

-- a test that no number passes comes out true for each number just where there is none
pub none_passes : (values : Values) (test : Test) (b : Bool) → ((n : ℕ) → Passes test (Number n) → ⊥) → Decides b ((n : ℕ) → HasNumber values n → ⊥) → Decides b ((n : ℕ) → HasNumber values n → ComesOut true test (Number n))
none_passes values test b fails empty = ((λ t n p. absurd (empty.0 t n p)), (λ f. empty.1 (λ n p. fails n (f n p))))

off : (b : Bool) → (b ≡ true → ⊥) → b ≡ false
off true f = absurd (f refl)
off false f = refl

alone : (values : Values) → (values.legal ≡ false) × (values.illegal ≡ false) × (values.none ≡ true) → ((n : ℕ) → HasNumber values n → ⊥) → (v : CellValue) → Has values v ↔ (v ≡ NoneReference)
alone values marks empty (Number n) = ((λ p. absurd (empty n p)), (λ e. absurd cc))
alone values marks empty LegalReference = ((λ p. absurd cc), (λ e. absurd cc))
alone values marks empty IllegalReference = ((λ p. absurd cc), (λ e. absurd cc))
alone values marks empty NoneReference = ((λ p. refl), (λ e. marks.2))

-- where none is the only reference, it is the only value just where there is no number
pub numbers_tell : (values : Values) (b : Bool) → (values.legal ≡ false) × (values.illegal ≡ false) × (values.none ≡ true) → Decides b ((n : ℕ) → HasNumber values n → ⊥) → Decides b ((v : CellValue) → Has values v ↔ (v ≡ NoneReference))
numbers_tell values b marks empty = ((λ t. alone values marks (empty.0 t)), (λ f. empty.1 (λ n p. let e : Number n ≡ NoneReference = (f (Number n)).0 p in absurd cc)))

pub marks_tell : (values : Values) (b : Bool) → b ≡ false → Decides b ((values.legal ≡ false) × (values.illegal ≡ false) × (values.none ≡ true)) → Decides b ((v : CellValue) → Has values v ↔ (v ≡ NoneReference))
marks_tell values b is marks = (
  (λ t. absurd cc),
  (λ f. marks.1 (
    off values.legal (λ t. let e : LegalReference ≡ NoneReference = (f LegalReference).0 t in absurd cc),
    off values.illegal (λ t. let e : IllegalReference ≡ NoneReference = (f IllegalReference).0 t in absurd cc),
    (f NoneReference).1 refl,
  )),
)
