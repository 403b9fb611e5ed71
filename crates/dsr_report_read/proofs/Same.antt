-- Lines of the form that have one text are one line.
use Rattle.std.proofs.Common.{◌≡◌, ◌<◌, ◌+◌, ◌^◌, ◌++◌, ◌∙◌, ◌==◌, ℕ, Bool, true, false, cond, List, [], ◌∷◌, None, Some, length, drop, nat_eq, refl, sym, ap, subst, arith}
use Rattle.std.specs.Prelude.{codes, decimal, is_some, nat_lt, option_and_then, slice_get, slice_index}
use Rattle.std.proofs.lemmas.Bool.Decides.{nat_tests}
use Rattle.dsr_answers.specs.Texts.{binding_text, constraint_name, element_text, field_name, pool_name}
use Rattle.dsr_ir.specs.declared.declarations.Field.{Field}
use Rattle.dsr_ir.specs.declared.declarations.FieldRef.{FieldRef}
use Rattle.dsr_ir.specs.declared.declarations.Spec.{Spec}
use Rattle.dsr_ir.specs.declared.tuples.Element.{Element}
use Rattle.dsr_meaning.specs.Instances.{declared_field}
use Rattle.dsr_meaning.specs.Typed.{HasName, IsTyped}
use Rattle.dsr_repair_theory.specs.declared.entries.ByteChange.{ByteChange}
use Rattle.dsr_repair_theory.specs.declared.entries.CellSet.{CellSet}
use Rattle.dsr_report.specs.Reports.{byte_line, reset_line, set_line, update_line}
use Rattle.dsr_report_read.proofs.FirstNamed.{name_told}
use Rattle.dsr_report_read.proofs.Fronts.{line_kind}
use Rattle.dsr_report_read.proofs.HeadsBack.{binding_rest, name_is}
use Rattle.dsr_report_read.proofs.LinesBack.{field_is, set_grouped}
use Rattle.dsr_report_read.proofs.ReadBack.{regroup}
use Rattle.dsr_report_read.proofs.Sole.{sole_change, sole_head, sole_reset, sole_set, told}
use Rattle.dsr_report_read.specs.Forms.{AreLines, IsChange, IsFirstSet, IsHead, IsLine, IsPoolField, IsRecord}
use Rattle.dsr_report_read.specs.Grouped.{entries_of}
use Rattle.dsr_report_read.specs.Lenient.{change_in, element_ahead, field_ahead, head_in, name_ahead, set_in}
use Rattle.dsr_report_read.specs.Lines.{bare, counted, line_text, line_texts, moved}
use Rattle.dsr_report_read.specs.declared.lines.Head.{Head}
use Rattle.dsr_report_read.specs.declared.lines.Line.{Line}
use Rattle.dsr_report_read.specs.declared.lines.Line.TheVariants as lines
use Rattle.dsr_report_read.specs.declared.lines.State.{State}
use Rattle.dsr_language_laws.specs.Spellings.{HasSpelledNames}
use Rattle.dsr_report_read.proofs.Clean.{all_counted}
use Rattle.dsr_report_read.proofs.Spelled.{behind_name, constraint_word, field_word, name_stops, named_first, pool_word, same_constraint, same_pool}
use Rattle.dsr_report_read.proofs.Words.{AreSame, Stops, same_words}

neither_less : (m n : ℕ) → (m < n → ⊥) → (n < m → ⊥) → m ≡ n
neither_less m n less more =
    elim (nat_eq m n) as (λ b. nat_eq m n ≡ b → m ≡ n) [
      | true ↦ λ e. grind (arith, nat_tests)
      | false ↦ λ e. elim (nat_lt m n) as (λ b. nat_lt m n ≡ b → m ≡ n) [
        | true ↦ λ t. absurd (less (grind (arith, nat_tests)))
        | false ↦ λ t. absurd (more (grind (arith, nat_tests)))
      ] refl
    ] refl

-- ---- what stands behind a name

-- a dot or a bracket
sign_alike : (b c : Bool) (r s x y : List ℕ) → cond b (codes "." ++ r) (codes "[" ++ x) ≡ cond c (codes "." ++ s) (codes "[" ++ y) → b ≡ c
sign_alike true true r s x y is = refl
sign_alike false false r s x y is = refl
sign_alike true false r s x y is = let e = ap (λ t. slice_index t 0) is in absurd (omega (arith, e))
sign_alike false true r s x y is = let e = ap (λ t. slice_index t 0) is in absurd (omega (arith, e))

-- the values of a line
abbrev values : CellSet → List ℕ
values set = codes " " ++ (decimal set.old ++ (codes " " ++ (decimal set.new ++ codes "\n")))

-- with the index, where there is one
abbrev behind_field : Bool → CellSet → List ℕ
behind_field indexed set = cond indexed ((codes "[" ++ decimal set.index) ++ codes "]") [] ++ values set

index_alike : (b c : Bool) (x y : CellSet) → behind_field b x ≡ behind_field c y → b ≡ c
index_alike true true x y is = refl
index_alike false false x y is = refl
index_alike true false x y is = let e = ap (λ t. slice_index t 0) is in absurd (omega (arith, e))
index_alike false true x y is = let e = ap (λ t. slice_index t 0) is in absurd (omega (arith, e))

field_stops : (b : Bool) (set : CellSet) → Stops (behind_field b set)
field_stops true set = refl
field_stops false set = refl

module _ (spec : Spec) (typed : IsTyped spec) (names : HasSpelledNames spec) where
  -- ---- updates

  module _ (count : ℕ) (small : count < 2 ^ 64) (a b : Head) (one : IsHead spec a) (two : IsHead spec b) (is : update_line spec count (bare a) ≡ update_line spec count (bare b)) where
    same_name : constraint_name spec a.constraint ≡ constraint_name spec b.constraint
    same_name =
        (same_words (constraint_name spec a.constraint) (constraint_name spec b.constraint)
        (codes " " ++ (binding_text spec a.binding ++ binding_rest spec one.constraint.quant count small a one.binding))
        (codes " " ++ (binding_text spec b.binding ++ binding_rest spec two.constraint.quant count small b two.binding))
        (constraint_word spec names a.constraint) (constraint_word spec names b.constraint) refl refl
        (sym (name_is spec one.constraint.quant count small a one.binding) ∙ (ap name_ahead is ∙ name_is spec two.constraint.quant count small b two.binding))).words

    same_head : a ≡ b
    same_head =
        let same = same_constraint spec typed a.constraint b.constraint one.constraint two.constraint one.constraint_is two.constraint_is same_name in
        let text = update_line spec count (bare a) in
        let read = head_in spec one.constraint.quant a.constraint text in
        sym (sole_head spec typed count a.constraint small text a (record { is_head = one; constraint_is = refl }) refl one.constraint one.constraint_is read refl)
        ∙ sole_head spec typed count a.constraint small text b (record { is_head = two; constraint_is = sym same }) is one.constraint one.constraint_is read refl

  -- ---- records

  module _ (a b : Element) (one : IsRecord spec a) (two : IsRecord spec b) (r s : List ℕ) (ends : Stops r) (stops : Stops s) (is : element_text spec a ++ r ≡ element_text spec b ++ s) where
    same_front : AreSame (pool_name spec a.pool) (pool_name spec b.pool) (behind_name spec a r) (behind_name spec b s)
    same_front =
        same_words (pool_name spec a.pool) (pool_name spec b.pool) (behind_name spec a r) (behind_name spec b s)
        (pool_word spec names a.pool) (pool_word spec names b.pool) (name_stops spec a r ends) (name_stops spec b s stops)
        (sym (named_first spec a r) ∙ (is ∙ named_first spec b s))

  module _ (a b : Element) (one : IsRecord spec a) (two : IsRecord spec b) (some : 0 < a.pool) (more : 0 < b.pool) (is : reset_line spec a ≡ reset_line spec b) where
    grouped : (e : Element) → reset_line spec e ≡ codes "  reset " ++ (element_text spec e ++ codes "\n")
    grouped e = regroup (codes "  reset ") (element_text spec e ∷ codes "\n" ∷ [])

    same_reset : a ≡ b
    same_reset =
        let text = reset_line spec a in
        let front = same_front a b one two (codes "\n") (codes "\n") refl refl (ap (drop 8) (sym (grouped a) ∙ (is ∙ grouped b))) in
        let pool = same_pool spec typed.base a.pool b.pool some more one.declared two.declared front.words in
        let read = element_ahead spec a.pool (drop 8 text) in
        sym (sole_reset spec a.pool text a (record { is_record = (one, some); pool_is = refl }) refl read refl)
        ∙ sole_reset spec a.pool text b (record { is_record = (two, more); pool_is = sym pool }) is read refl

  -- ---- values that are set

  -- one field of a structure has the name
  module _ (p q : FieldRef) (f g : Field) (one : declared_field spec.base p ≡ Some f) (two : declared_field spec.base q ≡ Some g) (named : HasName f) (called : HasName g) where
    same_field : f.name ≡ g.name → p.structure ≡ q.structure → p.field ≡ q.field
    same_field name structure =
        elim (slice_get spec.base.structures p.structure) as (λ o. slice_get spec.base.structures p.structure ≡ o → option_and_then (λ s. slice_get s.fields p.field) o ≡ Some f → p.field ≡ q.field) [
          | None ↦ λ e none. absurd cc
          | Some s ↦ λ e there.
              let other : slice_get s.fields q.field ≡ Some g =
              sym (ap (option_and_then (λ t. slice_get t.fields q.field)) e) ∙ (ap (λ n. option_and_then (λ t. slice_get t.fields q.field) (slice_get spec.base.structures n)) structure ∙ two) in
              sym ((((typed.base.structures p.structure s e).fields p.field f there).own_name named).own q.field g other called (sym name))
        ] refl one

  module _ (a b : CellSet) (one : IsFirstSet spec a) (two : IsFirstSet spec b) (is : set_line spec a ≡ set_line spec b) where
    abbrev name : CellSet → List ℕ
    name set = field_name spec set.path.field.structure set.path.field.field

    abbrev behind : CellSet → List ℕ
    behind set = codes "." ++ (name set ++ behind_field set.path.indexed set)

    same_elem : element_text spec a.elem ++ behind a ≡ element_text spec b.elem ++ behind b
    same_elem = ap (drop 6) (sym (set_grouped spec a) ∙ (is ∙ set_grouped spec b))

    same_pools : a.elem.pool ≡ b.elem.pool
    same_pools =
        let front = same_front a.elem b.elem one.is_set.elem two.is_set.elem (behind a) (behind b) refl refl same_elem in
        let alike : (a.elem.pool == 0) ≡ (b.elem.pool == 0) =
        sign_alike (a.elem.pool == 0) (b.elem.pool == 0) (name a ++ behind_field a.path.indexed a) (name b ++ behind_field b.path.indexed b)
        (decimal a.elem.slot ++ (codes "]" ++ behind a)) (decimal b.elem.slot ++ (codes "]" ++ behind b)) front.rests in
        elim (a.elem.pool == 0) as (λ t. (a.elem.pool == 0) ≡ t → a.elem.pool ≡ b.elem.pool) [
          | true ↦ λ e.
              let other : (b.elem.pool == 0) ≡ true = sym alike ∙ e in
              grind (arith, nat_tests)
          | false ↦ λ e.
              let other : (b.elem.pool == 0) ≡ false = sym alike ∙ e in
              same_pool spec typed.base a.elem.pool b.elem.pool (grind (arith, nat_tests)) (grind (arith, nat_tests)) one.is_set.elem.declared two.is_set.elem.declared front.words
        ] refl

    same_fields : AreSame (name a) (name b) (behind_field a.path.indexed a) (behind_field b.path.indexed b)
    same_fields =
        same_words (name a) (name b) (behind_field a.path.indexed a) (behind_field b.path.indexed b)
        (field_word spec names a.path.field one.is_set.field one.is_set.is_field.declared one.is_set.is_field.named)
        (field_word spec names b.path.field two.is_set.field two.is_set.is_field.declared two.is_set.is_field.named)
        (field_stops a.path.indexed a) (field_stops b.path.indexed b)
        (sym (field_is spec a one.is_set) ∙ (ap (λ p. field_ahead spec p (set_line spec a)) same_pools ∙ (ap (field_ahead spec b.elem.pool) is ∙ field_is spec b two.is_set)))

    same_indexed : a.path.indexed ≡ b.path.indexed
    same_indexed = index_alike a.path.indexed b.path.indexed a b same_fields.rests

    same_spelling : one.is_set.field.name ≡ two.is_set.field.name
    same_spelling = sym (name_told spec a.path.field one.is_set.field one.is_set.is_field.declared) ∙ (same_fields.words ∙ name_told spec b.path.field two.is_set.field two.is_set.is_field.declared)

    same_shape : is_some one.is_set.field.len ≡ is_some two.is_set.field.len
    same_shape = sym (told a.path.indexed one.is_set.field.len one.is_set.indexed) ∙ (same_indexed ∙ told b.path.indexed two.is_set.field.len two.is_set.indexed)

    same_structure : a.path.field.structure ≡ b.path.field.structure
    same_structure =
        neither_less a.path.field.structure b.path.field.structure
        (two.is_first.none_before a.path.field one.is_set.field (subst (λ p. IsPoolField spec.base p a.path.field one.is_set.field) same_pools one.is_set.is_field) same_spelling same_shape)
        (one.is_first.none_before b.path.field two.is_set.field (subst (λ p. IsPoolField spec.base p b.path.field two.is_set.field) (sym same_pools) two.is_set.is_field) (sym same_spelling) (sym same_shape))

    same_place : a.path.field ≡ b.path.field
    same_place =
        let field = same_field a.path.field b.path.field one.is_set.field two.is_set.field one.is_set.is_field.declared two.is_set.is_field.declared one.is_set.is_field.named two.is_set.is_field.named same_spelling same_structure in
        λ i. record { structure = same_structure i; field = field i }

    same_path : a.path ≡ b.path
    same_path = λ i. record { field = same_place i; indexed = same_indexed i }

    same_set : a ≡ b
    same_set =
        let text = set_line spec a in
        let read = set_in spec a.elem.pool a.path text in
        sym (sole_set spec a.elem.pool a.path.field text a (record { is_set = one.is_set; pool_is = refl; place_is = refl }) refl a.path refl read refl)
        ∙ sole_set spec a.elem.pool a.path.field text b (record { is_set = two.is_set; pool_is = sym same_pools; place_is = sym same_place }) is a.path same_path read refl

  -- ---- lines

  same_change : (a b : ByteChange) → IsChange a → IsChange b → byte_line a ≡ byte_line b → a ≡ b
  same_change a b one two is =
      let read = change_in (byte_line a) in
      sym (sole_change (byte_line a) read refl a one refl) ∙ sole_change (byte_line a) read refl b two is

  same_line : (count : ℕ) (a b : Line) → counted count a < 2 ^ 64 → IsLine spec a → IsLine spec b → line_text spec count a ≡ line_text spec count b → a ≡ b
  same_line count (lines.Update a) (lines.Update b) few one two is = ap lines.Update (same_head (count + 1) few a b one two is)
  same_line count (lines.Reset a) (lines.Reset b) few one two is = ap lines.Reset (same_reset a b one.0 two.0 one.1 two.1 is)
  same_line count (lines.Set a) (lines.Set b) few one two is = ap lines.Set (same_set a b one two is)
  same_line count (lines.Byte a) (lines.Byte b) few one two is = ap lines.Byte (same_change a b one two is)
  same_line count lines.End lines.End few one two is = refl
  same_line count a b few one two is = let kind = line_kind spec count a b is in absurd cc

  -- one list of lines has these texts
  pub same_lines : (s : State) (ls ks : List Line) → s.count + length (entries_of ls) < 2 ^ 64 → AreLines spec s ls → AreLines spec s ks → line_texts spec s ls ≡ line_texts spec s ks → ls ≡ ks
  same_lines s [] [] few one two is = refl
  same_lines s [] (b ∷ ks) few one two is = absurd cc
  same_lines s (a ∷ ls) [] few one two is = absurd cc
  same_lines s (a ∷ ls) (b ∷ ks) few one two is =
      let many = all_counted s.count a ls in
      let first : line_text spec s.count a ≡ line_text spec s.count b = cc in
      let rest : line_texts spec (moved s a) ls ≡ line_texts spec (moved s b) ks = cc in
      let same = same_line s.count a b (omega (arith, many, few)) one.0.is_line two.0.is_line first in
      let others = same_lines (moved s a) ls ks (omega (arith, many, few)) one.1 (subst (λ l. AreLines spec (moved s l) ks) (sym same) two.1)
      (rest ∙ ap (λ l. line_texts spec (moved s l) ks) (sym same)) in
      ap (λ l. l ∷ ls) same ∙ ap (λ ts. b ∷ ts) others
