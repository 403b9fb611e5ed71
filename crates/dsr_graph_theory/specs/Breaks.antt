-- Which constraints a template may break, which literal it may falsify, and on which constraints
-- one relies.
use Rattle.std.specs.Prelude.{◌≡◌, ◌≢◌, ◌<◌, ℕ, nat_eq, List, [], ◌∷◌, Option, None, Some, MatchOption}
use Rattle.dsr_ir.specs.declared.constraints.Literal.{Literal}
use Rattle.dsr_ir.specs.declared.declarations.Spec.{Spec}
use Rattle.dsr_ir.specs.declared.updates.Template.{Template}
use Rattle.dsr_graph_theory.specs.Owners.{IsJudgedAt, Owner}
use Rattle.dsr_meaning.specs.Counting.{IsIn}
use Rattle.dsr_update_theory.specs.Changes.{Change}
use Rattle.dsr_update_theory.specs.Facts.{from}
use Rattle.dsr_update_theory.specs.Templates.{literal_at}
use Rattle.dsr_graph_theory.specs.Causes.{constraint_causes, literal_causes}
use Rattle.dsr_graph_theory.specs.Excuses.{IsExcused, MayHappen}
use Rattle.dsr_graph_theory.specs.declared.causes.Cause.{Cause}
use Rattle.dsr_graph_theory.specs.declared.causes.Reason.{Reason}

-- one of the template's updates is such a one
abbrev pub SomeUpdate : Owner → Template → (Change → Type 0) → Type 0
SomeUpdate owner template Such = (n : ℕ) × (c : Change) × IsJudgedAt owner template n c × Such c

-- ---- breaking constraints

-- by this cause the update may break the other constraint
pub record MayBreakBy (owner other : Owner) (cause : Cause) (c : Change) : Type 0 where
  pub happens : MayHappen c cause.reason
  pub not_excused : IsExcused owner other c cause → ⊥

-- the reason of the first such cause, if there is one; of a template with several updates the first
-- cause in order counts, whichever of them it comes from
pub data IsFirstReason (Such : Cause → Type 0) : List Cause → Option Reason → Type 0 where
  none : IsFirstReason Such [] None
  first : {causes : List Cause} → (cause : Cause) → Such cause → IsFirstReason Such (cause ∷ causes) (Some cause.reason)
  later :
      {causes : List Cause} {reason : Option Reason} → (cause : Cause) → (Such cause → ⊥)
      → IsFirstReason Such causes reason → IsFirstReason Such (cause ∷ causes) reason

-- the first reason for which the template of the one constraint breaks the other; none where it
-- can't
abbrev pub Breaks : Owner → Owner → Template → Option Reason → Type 0
Breaks owner other template reason =
    IsFirstReason (λ cause. SomeUpdate owner template (MayBreakBy owner other cause))
    (constraint_causes (nat_eq owner.number other.number) other.constraint) reason

-- ---- falsifying literals

-- one of the updates may turn the literal false
pub record MayFalsify (owner : Owner) (template : Template) (literal : Literal) : Type 0 where
  pub cause : Cause
  pub among : IsIn cause (literal_causes literal)
  pub happens : SomeUpdate owner template (λ c. MayHappen c cause.reason)

-- the template of the conjunction's own literal may turn the other one false
pub record MayFalsifyOther (owner : Owner) (conj own : ℕ) (template : Template) (n : ℕ) : Type 0 where
  pub other : n ≢ own
  pub literal : Literal
  pub literal_is : literal_at owner.constraint conj n ≡ Some literal
  pub may : MayFalsify owner template literal

pub record IsFirstFalsified (owner : Owner) (conj own : ℕ) (template : Template) (n : ℕ) : Type 0 where
  pub may : MayFalsifyOther owner conj own template n
  pub none_before : (m : ℕ) → m < n → MayFalsifyOther owner conj own template m → ⊥

-- the first other literal of its conjunction that the template may falsify; none where it can't
abbrev pub Falsifies : Owner → ℕ → ℕ → Template → Option ℕ → Type 0
Falsifies owner conj own template falsified =
    MatchOption falsified ((n : ℕ) → MayFalsifyOther owner conj own template n → ⊥)
    (IsFirstFalsified owner conj own template)

-- ---- relying

-- the constraint uses a fact that the other one gives
abbrev pub Relies : Spec → ℕ → ℕ → Type 0
Relies spec constraint on = IsIn on (from spec constraint)
