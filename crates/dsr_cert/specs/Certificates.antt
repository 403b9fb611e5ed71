-- The text of a choice, and which text is that of which choice.
use Rattle.std.specs.Prelude.{◌≡◌, ◌+◌, ◌++◌, ℕ, false, List, [], ◌∷◌, Some, length, codes, decimal, slice_get, ◌<◌, nat_eq, if◌then◌else◌, map}
use Rattle.std.specs.List.{flat_map}
use Rattle.bstr.specs.Text.{lines_of}
use Rattle.dsr_answers.specs.Texts.{constraint_name}
use Rattle.dsr_graph.specs.Paired.{ArePaired}
use Rattle.dsr_ir.specs.declared.constraints.Constraint.{Constraint}
use Rattle.dsr_ir.specs.declared.constraints.Literal.{Literal}
use Rattle.dsr_ir.specs.declared.declarations.Spec.{Spec}
use Rattle.dsr_ir.specs.declared.updates.Template.{Template}
use Rattle.dsr_graph_theory.specs.Owners.{Owner}
use Rattle.dsr_meaning.specs.Lists.{each_at}
use Rattle.dsr_plan_theory.specs.Plans.{IsListedAt, IsRowOf, owner_at, way_at}
use Rattle.dsr_plan_theory.specs.declared.choices.Choice.{Choice}
use Rattle.dsr_plan_theory.specs.declared.choices.Row.{Row}
use Rattle.dsr_plan_theory.specs.declared.choices.Way.{Way}
use Rattle.dsr_plan_theory.specs.declared.choices.Way.TheVariants.{Test, By}
use Rattle.dsr_update_theory.specs.Templates.{literal_at}

-- ---- lines

-- conjunction and literal, counted from 1
abbrev pub position_text : ℕ → ℕ → List ℕ
position_text conj literal = decimal (conj + 1) ++ codes "." ++ decimal (literal + 1)

abbrev pub way_text : Way → List ℕ
way_text Test = codes "test"
way_text (By number template) = codes "way " ++ decimal number

-- the line of a literal, which says this of it
abbrev pub before_way : ℕ → ℕ → List ℕ
before_way conj literal = codes "  " ++ position_text conj literal ++ codes " "

abbrev pub literal_line : ℕ → ℕ → List ℕ → List ℕ
literal_line conj literal said = before_way conj literal ++ said

abbrev pub way_line : ℕ → ℕ → Way → List ℕ
way_line conj literal way = literal_line conj literal (way_text way)

-- the line of a constraint, which says its level
abbrev pub before_level : Spec → ℕ → List ℕ
before_level spec n = codes "constraint " ++ constraint_name spec n ++ codes " "

abbrev pub constraint_line : Spec → ℕ → ℕ → List ℕ
constraint_line spec n level = before_level spec n ++ decimal level

-- those of a conjunction's literals
abbrev pub conj_lines : ℕ → List Way → List (List ℕ)
conj_lines conj ways = each_at (λ literal way. way_line conj literal way ∷ []) 0 ways

-- those of a constraint's literals
abbrev pub conjs_lines : List (List Way) → List (List ℕ)
conjs_lines rows = each_at conj_lines 0 rows

abbrev pub row_lines : Spec → ℕ → Row → List (List ℕ)
row_lines spec n row = constraint_line spec n row.level ∷ conjs_lines row.ways

abbrev pub rows_lines : Spec → List Row → List (List ℕ)
rows_lines spec rows = each_at (row_lines spec) 0 rows

abbrev pub first_line : List ℕ
first_line = codes "certificate 1"

abbrev pub last_line : List ℕ
last_line = codes "end"

-- all lines, without line feeds
abbrev pub certificate_lines : Spec → Choice → List (List ℕ)
certificate_lines spec choice =
    first_line ∷ (rows_lines spec choice.rows ++ last_line ∷ [])

-- ---- the text

-- the line with its line feed
abbrev pub ended : List ℕ → List ℕ
ended line = line ++ codes "\n"

abbrev pub ended_lines : List (List ℕ) → List ℕ
ended_lines lines = flat_map ended lines

abbrev pub certificate_text : Spec → Choice → List ℕ
certificate_text spec choice = ended_lines (certificate_lines spec choice)

-- ---- which text is that of a choice

-- the levels that a certificate may say are below this: no plan has more levels than there may be
-- constraints, so every plan that is taken can be written and read back
abbrev pub level_bound : Spec → ℕ
level_bound spec = if nat_eq spec.base.version 2 then 128 else 64

-- for each conjunction a list of ways, for each of its literals one
abbrev pub FitsRow : Constraint → Row → Type 0
FitsRow constraint row =
    ArePaired (λ conj its ways. length ways ≡ length its.literals) constraint.conjs row.ways

-- a row for each constraint
abbrev pub Fits : Spec → Choice → Type 0
Fits spec choice =
    ArePaired (λ n constraint row. FitsRow constraint row) spec.constraints choice.rows

-- the literal isn't `given`, and the template is listed for it with this number
pub record IsNamed (owner : Owner) (conj literal : ℕ) (its : Literal) (number : ℕ) (template : Template) : Type 0 where
  pub free : its.given ≡ false
  pub listed : IsListedAt owner conj literal number template

abbrev pub NamesWay : Owner → ℕ → ℕ → Literal → Way → Type 0
NamesWay owner conj literal its Test = Unit {0}
NamesWay owner conj literal its (By number template) = IsNamed owner conj literal its number template

-- the template of each literal is there
abbrev pub NamesWays : Owner → Row → Type 0
NamesWays owner row =
    (conj literal : ℕ) (its : Literal) (way : Way)
    → literal_at owner.constraint conj literal ≡ Some its → way_at row conj literal ≡ Some way
    → NamesWay owner conj literal its way

-- the text is that of the choice, line by line, which has no level that is too high and no template
-- that isn't listed
pub record IsReadAs (spec : Spec) (text : List ℕ) (choice : Choice) : Type 0 where
  pub fits : Fits spec choice
  pub text_is : text ≡ certificate_text spec choice
  pub lines_are : lines_of text ≡ map ended (certificate_lines spec choice)
  pub levels : (n : ℕ) (row : Row) → slice_get choice.rows n ≡ Some row → row.level < level_bound spec
  pub ways :
      (n : ℕ) (constraint : Constraint) (row : Row) → IsRowOf spec choice n constraint row
      → NamesWays (owner_at spec n constraint) row
