-- A text whose lines are read.
use Rattle.std.proofs.Common.{◌≡◌, ◌≤◌, ◌<◌, ◌++◌, ℕ, zero, suc, List, [], ◌∷◌, Result, Ok, Err, IfOk, length, map, take, drop, slice_get, sym, ap, ◌∙◌, arith}
use Rattle.std.specs.Prelude.{IfErr, option_and_then}
use Rattle.std.specs.List.{flat_map}
use Rattle.std.proofs.lemmas.List.{length-drop, take-append-drop}
use Rattle.std.proofs.lemmas.List.Folds.{flat_map-map}
use Rattle.bstr.proofs.lemmas.LineLemmas.{line_len-bounds, lines-nil, lines-step}
use Rattle.bstr.specs.Text.{line_len, lines_of}
use Rattle.dsr_cert.specs.Certificates.{IsReadAs, Fits, FitsRow, NamesWays, certificate_lines, ended, ended_lines}
use Rattle.dsr_cert.specs.Flaws.{Tells}
use Rattle.dsr_cert.proofs.ReadOnce.{choice_once}
use Rattle.dsr_cert.specs.Forms.{HasNoWrongLine, IsFirstWrong}
use Rattle.dsr_cert.specs.Parts.{AreNamedIn, AreNamedRows, IsFirstFrom, IsNamedRow, ReadsAll}
use Rattle.dsr_cert.specs.declared.faults.CertFault.{CertFault}
use Rattle.dsr_cert.specs.declared.faults.CertFault.TheVariants as faults
use Rattle.dsr_graph.proofs.Paired.{paired_back, paired_got, paired_weaker}
use Rattle.dsr_ir.specs.declared.constraints.Constraint.{Constraint}
use Rattle.dsr_ir.specs.declared.declarations.Spec.{Spec}
use Rattle.dsr_placement.proofs.Marks.{parts_of}
use Rattle.dsr_plan_theory.specs.Plans.{IsRowOf, owner_at}
use Rattle.dsr_plan_theory.specs.declared.choices.Choice.{Choice}
use Rattle.dsr_plan_theory.specs.declared.choices.Row.{Row}

-- ---- the lines make up the text

lines_joined : (fuel : ℕ) (text : List ℕ) → length text ≤ fuel → flat_map (λ l. l) (lines_of text) ≡ text
lines_joined fuel [] le = ap (flat_map (λ l. l)) lines-nil
lines_joined zero (b ∷ rest) le = absurd (omega (arith, le))
lines_joined (suc fuel) (b ∷ rest) le =
    let text = b ∷ rest in
    let some : 0 < length text = omega arith in
    let bounds = line_len-bounds text some in
    let low = bounds.0 in
    let shorter = length-drop (line_len text) text in
    ap (flat_map (λ l. l)) (lines-step text some)
    ∙ (ap (λ z. take (line_len text) text ++ z) (lines_joined fuel (drop (line_len text) text) (omega (arith, le, low, shorter)))
    ∙ take-append-drop (line_len text) text)

text_is : (text : List ℕ) (lines : List (List ℕ)) → lines_of text ≡ map ended lines → text ≡ ended_lines lines
text_is text lines are =
    sym (lines_joined (length text) text (omega arith)) ∙ (ap (flat_map (λ l. l)) are ∙ flat_map-map (λ l. l) ended lines)

-- ---- the choice

module _ (spec : Spec) (choice : Choice) (named : AreNamedRows spec choice.rows) where
  fits : Fits spec choice
  fits = paired_weaker (λ n constraint row. IsNamedRow spec n constraint row) (λ n constraint row. FitsRow constraint row) spec.constraints choice.rows
      (λ n constraint row its. paired_weaker (λ conj c ways. AreNamedIn (owner_at spec n constraint) conj c ways) (λ conj c ways. length ways ≡ length c.literals) constraint.conjs row.ways (λ conj c ways are. are.as_many) its.ways) named

  ways : (n : ℕ) (constraint : Constraint) (row : Row) → IsRowOf spec choice n constraint row → NamesWays (owner_at spec n constraint) row
  ways n constraint row row_of conj literal its way literal_is way_is =
      let owner = owner_at spec n constraint in
      let row_named = named.are n constraint row row_of.constraint_is row_of.row_is in
      let parts = parts_of constraint conj literal its literal_is in
      let its_ways = paired_got (λ k c ws. AreNamedIn owner k c ws) constraint.conjs row.ways conj parts.0 row_named.ways parts.1 in
      its_ways.2.are literal its way parts.2 (sym (ap (option_and_then (λ ws. slice_get ws literal)) its_ways.1) ∙ way_is)

  pub read_as : (text : List ℕ) → lines_of text ≡ map ended (certificate_lines spec choice) → IsReadAs spec text choice
  read_as text are = record {
    fits = fits;
    text_is = text_is text (certificate_lines spec choice) are;
    lines_are = are;
    levels = λ n row is. (paired_back (λ k constraint r. IsNamedRow spec k constraint r) spec.constraints choice.rows n row named is).2.level;
    ways = ways;
  }

module _ (spec : Spec) (text : List ℕ) where
  pub read_all : (r : Result Choice CertFault) → ReadsAll spec (lines_of text) r → IfOk r (IsReadAs spec text)
  read_all (Ok choice) told = read_as spec choice told.0 text told.1
  read_all (Err fault) told = tt

  pub right_all : (r : Result Choice CertFault) → ReadsAll spec (lines_of text) r → IfOk r (λ _. HasNoWrongLine spec text)
  right_all (Ok choice) told = told.2
  right_all (Err fault) told = tt

  -- what is read is all that can be
  pub only_all : (r : Result Choice CertFault) → ReadsAll spec (lines_of text) r
      → IfOk r (λ choice. (other : Choice) → IsReadAs spec text other → other ≡ choice)
  only_all (Ok choice) told = λ other its. choice_once spec text other choice its (read_as spec choice told.0 text told.1)
  only_all (Err fault) told = tt

  first_wrong : (fault : CertFault) → IsFirstFrom spec (lines_of text) 0 fault → IsFirstWrong spec text fault
  first_wrong fault first = record {
    k = first.k;
    wrong = first.wrong;
    none_before = λ before other less is. first.none_before before other (omega arith) less is;
  }

  tells_wrong : (fault : CertFault) → Tells (IsFirstFrom spec (lines_of text) 0) fault → Tells (IsFirstWrong spec text) fault
  tells_wrong faults.NoMemory told = tt
  tells_wrong (faults.Text line) told = first_wrong (faults.Text line) told
  tells_wrong (faults.Coverage n) told = first_wrong (faults.Coverage n) told
  tells_wrong (faults.NotATemplate n c l) told = first_wrong (faults.NotATemplate n c l) told
  tells_wrong (faults.Falsifies n c l) told = first_wrong (faults.Falsifies n c l) told
  tells_wrong (faults.Edge n m) told = first_wrong (faults.Edge n m) told
  tells_wrong (faults.Reliance n m) told = first_wrong (faults.Reliance n m) told

  pub wrong_all : (r : Result Choice CertFault) → ReadsAll spec (lines_of text) r → IfErr r (Tells (IsFirstWrong spec text))
  wrong_all (Ok choice) told = tt
  wrong_all (Err fault) told = tells_wrong fault told
