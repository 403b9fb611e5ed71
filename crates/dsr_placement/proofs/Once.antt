-- What a template breaks and falsifies is one answer.
use Rattle.std.proofs.Common.{◌≡◌, ◌↔◌, ℕ, true, false, IsTrue, List, Option, None, Some, refl, sym}
use Rattle.std.specs.Prelude.{is_some}
use Rattle.std.proofs.lemmas.Bool.{false≢true}
use Rattle.dsr_graph_theory.specs.Breaks.{Breaks, Falsifies, IsFirstReason, first, later, none}
use Rattle.dsr_graph_theory.specs.declared.causes.Cause.{Cause}
use Rattle.dsr_graph_theory.specs.declared.causes.Reason.{Reason}
use Rattle.dsr_ir.specs.declared.constraints.Constraint.{Constraint}
use Rattle.dsr_ir.specs.declared.updates.Template.{Template}
use Rattle.dsr_graph_theory.specs.Owners.{Owner}
use Rattle.dsr_placement.specs.Placing.{BreaksLeft}
use Rattle.dsr_plan_theory.specs.Plans.{owner_at}

reason_one : {Such : Cause → Type 0} {causes : List Cause} {r s : Option Reason} → IsFirstReason Such causes r → IsFirstReason Such causes s → r ≡ s
reason_one none none = refl
reason_one (first cause such) (first cause_too such_too) = refl
reason_one (first cause such) (later cause_too not_such b) = absurd (not_such such)
reason_one (later cause not_such a) (first cause_too such) = absurd (not_such such)
reason_one (later cause not_such a) (later cause_too not_too b) = reason_one a b

-- where it is told why the template breaks a member, it does so exactly where there is a reason
pub breaks_if : (owner : Owner) (Member : ℕ → Type 0) (template : Template) (n : ℕ) (other : Constraint) (r : Option Reason) → Member n → Breaks owner (owner_at owner.spec n other) template r → IsTrue (is_some r) ↔ BreaksLeft owner Member template n other
breaks_if owner Member template n other None member told = (
  λ no. absurd (false≢true no),
  λ breaks. let both = reason_one told breaks.breaks in absurd cc,
)
breaks_if owner Member template n other (Some reason) member told = (λ _. record { member = member; reason = reason; breaks = told }, λ _. refl)

-- where it is told that it falsifies a literal, it isn't so that it falsifies none
pub falsifies_none : (owner : Owner) (conj own : ℕ) (template : Template) (f : Option ℕ) → Falsifies owner conj own template f → is_some f ≡ true → Falsifies owner conj own template None → ⊥
falsifies_none owner conj own template None told some nothing = false≢true some
falsifies_none owner conj own template (Some n) told some nothing = nothing n told.may

pub falsifies_is : (owner : Owner) (conj own : ℕ) (template : Template) (f : Option ℕ) → Falsifies owner conj own template f → is_some f ≡ false → Falsifies owner conj own template None
falsifies_is owner conj own template None told some = told
falsifies_is owner conj own template (Some n) told some = absurd (false≢true (sym some))
