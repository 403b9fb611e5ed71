-- Which literals a row tests, by marks, and whether they cover its constraint.
use Rattle.std.proofs.Common.{◌≡◌, ◌↔◌, ◌<◌, ◌+◌, ◌++◌, ap, get_or, length, take, ℕ, zero, suc, Bool, true, false, IsTrue, List, [], ◌∷◌, Some, map, slice_get, slice_index_or, refl, sym, subst, ◌∙◌}
use Rattle.std.specs.Prelude.{Decides, not, option_and_then}
use Rattle.std.proofs.lemmas.Bool.{false≢true}
use Rattle.std.proofs.lemmas.List.{map-append, take_more}
use Rattle.dsr_placement.specs.Atoms as marked
use Rattle.dsr_cert.specs.Flaws.{IsUncovered}
use Rattle.dsr_cert.specs.Searches.{is_test, marks_of}
use Rattle.dsr_ir.specs.declared.constraints.Constraint.{Constraint}
use Rattle.dsr_ir.specs.declared.declarations.Spec.{Spec}
use Rattle.dsr_plan_theory.specs.Plans.{Covers, IsRowOf, IsTested}
use Rattle.dsr_plan_theory.specs.declared.choices.Choice.{Choice}
use Rattle.dsr_plan_theory.specs.declared.choices.Row.{Row}
use Rattle.dsr_plan_theory.specs.declared.choices.Way.{Way}
use Rattle.dsr_plan_theory.specs.declared.choices.Way.TheVariants.{Test, By}

mark_in : (ways : List Way) (n : ℕ) → IsTrue (slice_index_or (map is_test ways) n false) ↔ (slice_get ways n ≡ Some Test)
mark_in [] n = (λ e. absurd (false≢true e), λ e. absurd cc)
mark_in (Test ∷ ways) zero = (λ _. refl, λ _. refl)
mark_in (By number template ∷ ways) zero = (λ e. absurd (false≢true e), λ e. absurd cc)
mark_in (way ∷ ways) (suc n) = mark_in ways n

mark_at : (rows : List (List Way)) (conj n : ℕ) → marked.IsTested (map (λ ways. map is_test ways) rows) conj n ↔ (option_and_then (λ ways. slice_get ways n) (slice_get rows conj) ≡ Some Test)
mark_at [] conj n = (λ e. absurd (false≢true e), λ e. absurd cc)
mark_at (ways ∷ rows) zero n = mark_in ways n
mark_at (ways ∷ rows) (suc conj) n = mark_at rows conj n

-- fewer tests are passed where more are
fewer : (constraint : Constraint) (More Fewer : ℕ → ℕ → Type 0) → ((conj n : ℕ) → Fewer conj n → More conj n) → Covers constraint More → Covers constraint Fewer
fewer constraint More Fewer to covers truth =
    let s = covers truth in
    record { number = s.number; conj = s.conj; conj_is = s.conj_is; passes = λ n l l_is tested. s.passes n l l_is (to s.number n tested) }

pub covered_by : (constraint : Constraint) (row : Row) → Covers constraint (marked.IsTested (marks_of row)) ↔ Covers constraint (IsTested row)
covered_by constraint row = (
  fewer constraint (marked.IsTested (marks_of row)) (IsTested row) (λ conj n. (mark_at row.ways conj n).1),
  fewer constraint (IsTested row) (marked.IsTested (marks_of row)) (λ conj n. (mark_at row.ways conj n).0),
)

pub uncovered_if : (spec : Spec) (choice : Choice) (n : ℕ) (constraint : Constraint) (row : Row) → IsRowOf spec choice n constraint row → (b : Bool) → Decides b (Covers constraint (marked.IsTested (marks_of row))) → Decides (not b) (IsUncovered spec choice n)
uncovered_if spec choice n constraint row row_of true told = (
  λ e. absurd (false≢true e),
  λ flaw. absurd (flaw.uncovered (here flaw ((covered_by constraint row).0 (told.0 refl)))),
) where
  same : (flaw : IsUncovered spec choice n) → constraint ≡ flaw.constraint
  same flaw = let both : Some constraint ≡ Some flaw.constraint = sym row_of.constraint_is ∙ flaw.row_of.constraint_is in cc

  same_row : (flaw : IsUncovered spec choice n) → row ≡ flaw.row
  same_row flaw = let both : Some row ≡ Some flaw.row = sym row_of.row_is ∙ flaw.row_of.row_is in cc

  here : (flaw : IsUncovered spec choice n) → Covers constraint (IsTested row) → Covers flaw.constraint (IsTested flaw.row)
  here flaw covers = subst (λ r. Covers flaw.constraint (IsTested r)) (same_row flaw) (subst (λ c. Covers c (IsTested row)) (same flaw) covers)
uncovered_if spec choice n constraint row row_of false told = (
  λ _. record { constraint = constraint; row = row; row_of = row_of; uncovered = λ covers. false≢true (told.1 ((covered_by constraint row).1 covers)) },
  λ _. refl,
)

-- what is told of the next item is put behind the others
pub marked_more : {S T : Type 0} (f : S → T) (xs : List S) (i : ℕ) (x : S) → i < length xs → x ≡ get_or xs i x → (old new : List T) → old ≡ map f (take i xs) → new ≡ old ++ f x ∷ [] → new ≡ map f (take (i + 1) xs)
marked_more f xs i x less is old new old_is new_is =
    new_is ∙ (ap (λ ys. ys ++ f x ∷ []) old_is ∙ (sym (map-append f (take i xs) (x ∷ [])) ∙ ap (map f) (sym (take_more xs i x less ∙ ap (λ y. take i xs ++ y ∷ []) (sym is)))))
