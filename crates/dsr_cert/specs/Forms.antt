-- What each line of a certificate is asked to be, and the first line that isn't.
use Rattle.std.specs.Prelude.{◌≡◌, ◌⊎◌, ◌≤◌, ◌<◌, ◌+◌, ◌++◌, ℕ, All, true, List, [], ◌∷◌, None, Some, codes, decimal, length, slice_get}
use Rattle.bstr.specs.Text.{lines_of}
use Rattle.dsr_cert.specs.Certificates.{constraint_line, ended, first_line, last_line, level_bound, literal_line}
use Rattle.dsr_cert.specs.declared.faults.CertFault.{CertFault}
use Rattle.dsr_cert.specs.declared.faults.CertFault.TheVariants.{Text, NotATemplate}
use Rattle.dsr_ir.specs.declared.constraints.Conj.{Conj}
use Rattle.dsr_ir.specs.declared.constraints.Constraint.{Constraint}
use Rattle.dsr_ir.specs.declared.constraints.Literal.{Literal}
use Rattle.dsr_ir.specs.declared.declarations.Spec.{Spec}
use Rattle.dsr_ir.specs.declared.updates.Template.{Template}
use Rattle.dsr_graph_theory.specs.Owners.{Owner}
use Rattle.dsr_meaning.specs.Lists.{each_at}
use Rattle.dsr_plan_theory.specs.Plans.{IsListedAt, owner_at}
use Rattle.dsr_update_theory.specs.Templates.{literal_at}

-- ---- forms

-- what a line is asked to be: the first one, a constraint's, a literal's, or the last one
pub data Form : Type 0 where
  Heading : Form
  OfConstraint : (n : ℕ) → Form
  OfLiteral : (n conj literal : ℕ) → Form
  Ending : Form

abbrev pub conj_forms : ℕ → ℕ → Conj → List Form
conj_forms n conj its = each_at (λ literal _. OfLiteral n conj literal ∷ []) 0 its.literals

abbrev pub conjs_forms : ℕ → Constraint → List Form
conjs_forms n constraint = each_at (conj_forms n) 0 constraint.conjs

abbrev pub constraint_forms : ℕ → Constraint → List Form
constraint_forms n constraint = OfConstraint n ∷ conjs_forms n constraint

abbrev pub constraints_forms : Spec → List Form
constraints_forms spec = each_at constraint_forms 0 spec.constraints

-- Those of all lines. They follow from the specification alone, so the first line that is wrong is
-- one definition, and a text that ends early is wrong at the line that isn't there.
abbrev pub forms : Spec → List Form
forms spec = Heading ∷ (constraints_forms spec ++ Ending ∷ [])

-- ---- lines of a form

abbrev pub IsDigit : ℕ → Type 0
IsDigit b = (48 ≤ b) × (b ≤ 57)

-- decimal digits, with no zero in front of others
pub record IsNumeral (digits : List ℕ) : Type 0 where
  pub first : ℕ
  pub first_is : slice_get digits 0 ≡ Some first
  pub not_padded : first ≡ 48 → length digits ≡ 1
  pub are : All IsDigit digits

-- `way` with a number
abbrev pub numbered : List ℕ → List ℕ
numbered digits = codes "way " ++ digits

pub data IsOfForm (spec : Spec) : Form → List ℕ → Type 0 where
  heading : IsOfForm spec Heading first_line
  of_constraint : (n level : ℕ) → level < level_bound spec → IsOfForm spec (OfConstraint n) (constraint_line spec n level)
  test : (n conj literal : ℕ) → IsOfForm spec (OfLiteral n conj literal) (literal_line conj literal (codes "test"))
  way :
      (n conj literal : ℕ) (digits : List ℕ) → IsNumeral digits
      → IsOfForm spec (OfLiteral n conj literal) (literal_line conj literal (numbered digits))
  ending : IsOfForm spec Ending last_line

-- ---- templates

-- No template has this number among those that are listed. `way 0`, or any number for which no
-- template is listed, of however many digits, is of the form; one with a zero in front isn't.
abbrev pub NamesNone : Owner → ℕ → ℕ → List ℕ → Type 0
NamesNone owner conj literal digits =
    (number : ℕ) (template : Template) → IsListedAt owner conj literal number template
    → digits ≡ decimal number → ⊥

-- the line names a template for the literal, which is `given` or has no such template
pub record IsNoTemplate (spec : Spec) (n conj literal : ℕ) (line : List ℕ) : Type 0 where
  pub constraint : Constraint
  pub constraint_is : slice_get spec.constraints n ≡ Some constraint
  pub its : Literal
  pub literal_is : literal_at constraint conj literal ≡ Some its
  pub digits : List ℕ
  pub numeral : IsNumeral digits
  pub line_is : line ≡ literal_line conj literal (numbered digits)
  pub not_there : (its.given ≡ true) ⊎ NamesNone (owner_at spec n constraint) conj literal digits

-- ---- what is wrong with a text

-- the line with this place is of the form, and ends
pub record IsFormed (spec : Spec) (lines : List (List ℕ)) (k : ℕ) (form : Form) : Type 0 where
  pub line : List ℕ
  pub line_is : slice_get lines k ≡ Some (ended line)
  pub of_form : IsOfForm spec form line

-- of these lines, the one with this place, counted from 0, has this fault
pub data IsWrongIn (spec : Spec) (lines : List (List ℕ)) : ℕ → CertFault → Type 0 where
  malformed :
      (k : ℕ) (form : Form) → slice_get (forms spec) k ≡ Some form → (IsFormed spec lines k form → ⊥)
      → IsWrongIn spec lines k (Text (k + 1))
  beyond :
      (k : ℕ) (line : List ℕ) → slice_get (forms spec) k ≡ None → slice_get lines k ≡ Some line
      → IsWrongIn spec lines k (Text (k + 1))
  no_template :
      (k n conj literal : ℕ) (line : List ℕ) → slice_get (forms spec) k ≡ Some (OfLiteral n conj literal)
      → slice_get lines k ≡ Some (ended line) → IsNoTemplate spec n conj literal line
      → IsWrongIn spec lines k (NotATemplate n conj literal)

abbrev pub IsWrongAt : Spec → List ℕ → ℕ → CertFault → Type 0
IsWrongAt spec text k fault = IsWrongIn spec (lines_of text) k fault

-- some line has the fault, and none before it has any
pub record IsFirstWrong (spec : Spec) (text : List ℕ) (fault : CertFault) : Type 0 where
  pub k : ℕ
  pub wrong : IsWrongAt spec text k fault
  pub none_before :
      (before : ℕ) (other : CertFault) → before < k → IsWrongAt spec text before other → ⊥

abbrev pub HasNoWrongLine : Spec → List ℕ → Type 0
HasNoWrongLine spec text = (k : ℕ) (fault : CertFault) → IsWrongAt spec text k fault → ⊥
