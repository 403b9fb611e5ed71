-- Each line of the text of a choice that may be said is of its form, so the text is read as that choice.
use Rattle.std.proofs.Common.{◌≡◌, ◌≤◌, ◌<◌, ◌+◌, ◌-◌, ◌++◌, ◌⊎◌, ◌∙◌, ℕ, true, All, List, [], ◌∷◌, Option, None, Some, inl, inr, length, map, get_or, slice_get, refl, sym, ap, subst, arith}
use Rattle.std.specs.Prelude.{codes, decimal, option_and_then}
use Rattle.std.specs.Option.{option_map_or}
use Rattle.std.specs.Str.Parse.{AllDigits}
use Rattle.std.proofs.lemmas.Bool.{false≢true}
use Rattle.std.proofs.lemmas.Fmt.{decimal_is_IsNumeral, first_decimal}
use Rattle.std.proofs.lemmas.List.Elements.{All-cons, All-nil}
use Rattle.std.proofs.lemmas.Str.Parse.{digit_from_value}
use Rattle.std.proofs.lemmas.Option.{slice_get_within}
use Rattle.dsr_ir.specs.declared.constraints.Conj.{Conj}
use Rattle.dsr_ir.specs.declared.constraints.Constraint.{Constraint}
use Rattle.dsr_ir.specs.declared.constraints.Literal.{Literal}
use Rattle.dsr_ir.specs.declared.declarations.Spec.{Spec}
use Rattle.dsr_ir.specs.declared.updates.Template.{Template}
use Rattle.dsr_graph_theory.proofs.FirstKept.{few_listed}
use Rattle.dsr_graph_theory.specs.Owners.{Owner}
use Rattle.dsr_meaning.proofs.Firing.{found_fits}
use Rattle.dsr_plan_theory.proofs.Fitting.{ways_many}
use Rattle.dsr_plan_theory.specs.Plans.{IsListedAt, IsPlan, IsRowOf, IsWayFor, owner_at, way_at}
use Rattle.dsr_plan_theory.specs.declared.choices.Choice.{Choice}
use Rattle.dsr_plan_theory.specs.declared.choices.Row.{Row}
use Rattle.dsr_plan_theory.specs.declared.choices.Way.{Way}
use Rattle.dsr_plan_theory.specs.declared.choices.Way.TheVariants.{Test, By}
use Rattle.dsr_language_laws.specs.Spellings.{HasSpelledNames, IsSpelled}
use Rattle.dsr_update_theory.specs.Templates.{literal_at}
use Rattle.dsr_cert.specs.Certificates.{FitsRow, IsNamed, IsReadAs, NamesWay, ended, before_level, before_way, certificate_lines, certificate_text, conj_lines, constraint_line, last_line, level_bound, position_text, row_lines, rows_lines, way_line, way_text}
use Rattle.dsr_cert.specs.Forms.{HasNoWrongLine, IsWrongIn, OfConstraint, OfLiteral, Ending, IsDigit, IsNoTemplate, IsNumeral, NamesNone, conj_forms, constraint_forms, constraints_forms, ending, forms, heading, numbered, of_constraint, test, way}
use Rattle.dsr_cert.specs.declared.faults.CertFault.{CertFault}
use Rattle.bstr.specs.Text.{lines_of}
use Rattle.dsr_answers.specs.Texts.{constraint_name}
use Rattle.dsr_command_certify.specs.Verified.{IsCertificate, IsReadOnce}
use Rattle.dsr_cert.proofs.Naming.{test_numbers}
use Rattle.dsr_cert.proofs.ReadOnce.{choice_once}
use Rattle.dsr_cert.proofs.Saying.{cancel_front}
use Rattle.dsr_command_certify.specs.LowLevels.{HasLowLevels}
use Rattle.dsr_command_certify.specs.Said.{MayBeSaid}
use Rattle.dsr_command_certify.proofs.Feedless.{IsFeedless, decimal_feedless, feedless_joined, lines_are, name_feedless}
use Rattle.dsr_command_certify.proofs.Formed.{AreRight, IsRight, each_right, none_wrong, right_feedless, right_joined}
use Rattle.dsr_cert.proofs.Taken.{one_item}

-- ---- numbers of templates

all_digits : (ds : List ℕ) → AllDigits 10 ds → All IsDigit ds
all_digits [] are = All-nil IsDigit
all_digits (d ∷ ds) are = All-cons IsDigit d ds (digit_from_value d are.0) (all_digits ds are.1)

first_there : (ds : List ℕ) → 0 < length ds → slice_get ds 0 ≡ Some (get_or ds 0 0)
first_there [] some = absurd (omega (arith, some))
first_there (d ∷ ds) some = refl

numeral : (n : ℕ) → 0 < n → n ≤ 64 → IsNumeral (decimal n)
numeral n some few =
    let is = decimal_is_IsNumeral n (omega (arith, few)) in
    let above = first_decimal n some (omega (arith, few)) in
    record {
      first = get_or (decimal n) 0 0;
      first_is = first_there (decimal n) is.0.0;
      not_padded = λ same. absurd (omega (arith, above, same));
      are = all_digits (decimal n) is.0.1;
    }

-- ---- lines

position_feedless : (conj literal : ℕ) → IsFeedless (before_way conj literal)
position_feedless conj literal =
    feedless_joined (codes "  ") (position_text conj literal ++ codes " ") refl
    (feedless_joined (position_text conj literal) (codes " ")
    (feedless_joined (decimal (conj + 1) ++ codes ".") (decimal (literal + 1))
    (feedless_joined (decimal (conj + 1)) (codes ".") (decimal_feedless (conj + 1)) refl) (decimal_feedless (literal + 1))) refl)

way_feedless : (its : Way) → IsFeedless (way_text its)
way_feedless Test = refl
way_feedless (By number template) = feedless_joined (codes "way ") (decimal number) refl (decimal_feedless number)

module _ (spec : Spec) (spelled : HasSpelledNames spec) where
  name_in_line : (n : ℕ) → IsFeedless (constraint_name spec n)
  name_in_line n = by (slice_get spec.constraints n) refl where
    by : (o : Option Constraint) → slice_get spec.constraints n ≡ o → IsFeedless (option_map_or (λ c. c.name) o [])
    by None none = refl
    by (Some c) is = name_feedless c.name (found_fits (λ c. IsSpelled c.name) spec.constraints n c spelled.constraints is)

  level_right : (n level : ℕ) → level < level_bound spec → IsRight spec (OfConstraint n) (constraint_line spec n level)
  level_right n level low = record {
    of_form = of_constraint n level low;
    feedless = feedless_joined (before_level spec n) (decimal level)
        (feedless_joined (codes "constraint ") (constraint_name spec n ++ codes " ") refl (feedless_joined (constraint_name spec n) (codes " ") (name_in_line n) refl))
        (decimal_feedless level);
    named = tt;
  }

  module _ (n : ℕ) (constraint : Constraint) (at : slice_get spec.constraints n ≡ Some constraint) (conj literal : ℕ) (its : Literal) (its_is : literal_at constraint conj literal ≡ Some its) where
    there : (number : ℕ) (template : Template) → IsNamed (owner_at spec n constraint) conj literal its number template → IsNoTemplate spec n conj literal (way_line conj literal (By number template)) → ⊥
    there number template may none = by none.not_there where
      same : none.constraint ≡ constraint
      same = one_item (slice_get spec.constraints n) none.constraint constraint none.constraint_is at

      same_its : none.its ≡ its
      same_its = one_item (literal_at constraint conj literal) none.its its (ap (λ c. literal_at c conj literal) (sym same) ∙ none.literal_is) its_is

      same_digits : none.digits ≡ decimal number
      same_digits = sym (cancel_front (codes "way ") (decimal number) none.digits (cancel_front (before_way conj literal) (numbered (decimal number)) (numbered none.digits) none.line_is))

      by : (none.its.given ≡ true) ⊎ NamesNone (owner_at spec n none.constraint) conj literal none.digits → ⊥
      by (inl given) = false≢true (sym may.free ∙ (ap (λ l. l.given) (sym same_its) ∙ given))
      by (inr nothing) = nothing number template (subst (λ c. IsListedAt (owner_at spec n c) conj literal number template) (sym same) may.listed) same_digits

    pub way_right : (w : Way) → NamesWay (owner_at spec n constraint) conj literal its w → IsRight spec (OfLiteral n conj literal) (way_line conj literal w)
    way_right Test is = record {
      of_form = test n conj literal;
      feedless = feedless_joined (before_way conj literal) (codes "test") (position_feedless conj literal) refl;
      named = λ none. test_numbers none.digits (cancel_front (before_way conj literal) (codes "test") (numbered none.digits) none.line_is);
    }
    way_right (By number template) may =
        let from_one = may.listed.from_one in
        let below = slice_get_within may.listed.templates (number - 1) template may.listed.template_is in
        let few = few_listed (owner_at spec n constraint) conj literal may.listed.templates may.listed.listed in
        record {
          of_form = way n conj literal (decimal number) (numeral number (omega (arith, from_one)) (omega (arith, below, few)));
          feedless = feedless_joined (before_way conj literal) (way_text (By number template)) (position_feedless conj literal) (way_feedless (By number template));
          named = there number template may;
        }

  -- ---- a choice that may be said

  module _ (choice : Choice) (said : MayBeSaid spec choice) where
    row_right : (n : ℕ) (constraint : Constraint) (row : Row) → IsRowOf spec choice n constraint row → AreRight spec (constraint_forms n constraint) (row_lines spec n row)
    row_right n constraint row row_of = (level_right n row.level (said.low n row row_of.row_is), each_right spec (conj_forms n) conj_lines 0 constraint.conjs row.ways fit_row.as_many of_conj) where
      fit_row : FitsRow constraint row
      fit_row = said.fits.are n constraint row row_of.constraint_is row_of.row_is

      of_conj : (k i : ℕ) (c : Conj) (ways : List Way) → k ≡ 0 + i → slice_get constraint.conjs i ≡ Some c → slice_get row.ways i ≡ Some ways → AreRight spec (conj_forms n k c) (conj_lines k ways)
      of_conj k i c ways k_is c_is ways_is =
          let same : i ≡ k = omega (arith, k_is) in
          let c_there : slice_get constraint.conjs k ≡ Some c = ap (slice_get constraint.conjs) (sym same) ∙ c_is in
          let ways_there : slice_get row.ways k ≡ Some ways = ap (slice_get row.ways) (sym same) ∙ ways_is in
          each_right spec (λ literal _. OfLiteral n k literal ∷ []) (λ literal w. way_line k literal w ∷ []) 0 c.literals ways (fit_row.are k c ways c_there ways_there)
          (λ m j its w m_is its_is w_is.
          let also : j ≡ m = omega (arith, m_is) in
          let its_there : literal_at constraint k m ≡ Some its = ap (λ o. option_and_then (λ x. slice_get x.literals m) o) c_there ∙ (ap (slice_get c.literals) (sym also) ∙ its_is) in
          let w_there : way_at row k m ≡ Some w = ap (λ o. option_and_then (λ ws. slice_get ws m) o) ways_there ∙ (ap (slice_get ways) (sym also) ∙ w_is) in
          (way_right n constraint row_of.constraint_is k m its its_there w (said.named n constraint row row_of k m its w its_there w_there), tt))

    rows_right : AreRight spec (constraints_forms spec) (rows_lines spec choice.rows)
    rows_right = each_right spec constraint_forms (row_lines spec) 0 spec.constraints choice.rows said.fits.as_many
        (λ k n constraint row k_is at is.
        let same : n ≡ k = omega (arith, k_is) in
        subst (λ m. AreRight spec (constraint_forms m constraint) (row_lines spec m row)) same (row_right n constraint row (record { constraint_is = at; row_is = is })))

    lines_right : AreRight spec (forms spec) (certificate_lines spec choice)
    lines_right = (
      record { of_form = heading; feedless = refl; named = tt },
      right_joined spec (constraints_forms spec) (Ending ∷ []) (rows_lines spec choice.rows) (last_line ∷ []) rows_right (record { of_form = ending; feedless = refl; named = tt }, tt),
    )

    lines_apart : lines_of (certificate_text spec choice) ≡ map ended (certificate_lines spec choice)
    lines_apart = lines_are (certificate_lines spec choice) (right_feedless spec (forms spec) (certificate_lines spec choice) lines_right)

    pub said_right : HasNoWrongLine spec (certificate_text spec choice)
    said_right = subst (λ ls. (k : ℕ) (fault : CertFault) → IsWrongIn spec ls k fault → ⊥) (sym lines_apart) (none_wrong spec (certificate_lines spec choice) lines_right)

    pub said_read : IsReadAs spec (certificate_text spec choice) choice
    said_read = record {
      fits = said.fits;
      text_is = refl;
      lines_are = lines_apart;
      levels = said.low;
      ways = said.named;
    }

    pub said_once : IsReadOnce spec (certificate_text spec choice) choice
    said_once = record { read = said_read; only = λ other its. choice_once spec (certificate_text spec choice) other choice its said_read }

-- ---- plans

module _ (spec : Spec) (choice : Choice) (plan : IsPlan spec choice) where
  row_fits : (n : ℕ) (constraint : Constraint) (row : Row) → IsRowOf spec choice n constraint row → FitsRow constraint row
  row_fits n constraint row row_of =
      let its = plan.ways n constraint row row_of in
      record { as_many = its.as_many; are = λ k conj ways conj_is ways_are. ways_many (owner_at spec n constraint) row its k conj ways conj_is ways_are }

  names_way : (owner : Owner) (conj literal : ℕ) (its : Literal) (w : Way) → IsWayFor owner conj literal its w → NamesWay owner conj literal its w
  names_way owner conj literal its Test is = tt
  names_way owner conj literal its (By number template) may = record { free = may.free; listed = may.listed }

  pub plan_said : HasLowLevels spec choice → MayBeSaid spec choice
  plan_said low = record {
    fits = record { as_many = plan.as_many; are = λ n constraint row at is. row_fits n constraint row (record { constraint_is = at; row_is = is }) };
    low = low;
    named = λ n constraint row row_of conj literal its w its_is w_is.
        let found = (plan.ways n constraint row row_of).ways conj literal its its_is in
        names_way (owner_at spec n constraint) conj literal its w
        (subst (IsWayFor (owner_at spec n constraint) conj literal its) (one_item (way_at row conj literal) found.0 w found.1 w_is) found.2);
  }

pub plan_valid : (spec : Spec) → HasSpelledNames spec → (choice : Choice) → IsPlan spec choice → HasLowLevels spec choice → IsCertificate spec (certificate_text spec choice)
plan_valid spec spelled choice plan low =
    let said = plan_said spec choice plan low in
    record { right = said_right spec spelled choice said; choice = choice; read = said_read spec spelled choice said; plan = plan }
