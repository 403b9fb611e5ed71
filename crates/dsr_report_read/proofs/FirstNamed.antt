-- The first field of a name.
use Rattle.std.proofs.Common.{◌≡◌, ◌<◌, ◌+◌, ◌++◌, ◌∙◌, ℕ, zero, suc, IsTrue, true, List, [], Option, None, Some, sym, ap, subst, arith}
use Rattle.std.specs.Prelude.{is_some, codes, decimal, option_and_then, slice_get}
use Rattle.std.specs.Option.{option_map_or}
use Rattle.dsr_answers.specs.Texts.{element_text, field_name}
use Rattle.dsr_ir.specs.declared.declarations.Field.{Field}
use Rattle.dsr_ir.specs.declared.declarations.FieldRef.{FieldRef}
use Rattle.dsr_ir.specs.declared.declarations.Spec.{Spec}
use Rattle.dsr_meaning.specs.Instances.{declared_field}
use Rattle.dsr_repair_theory.specs.declared.entries.CellSet.{CellSet}
use Rattle.dsr_report.specs.Reports.{index_text, set_line}
use Rattle.dsr_report_read.proofs.Sole.{tells, told}
use Rattle.dsr_report_read.proofs.Sought.{NoneBefore}
use Rattle.dsr_report_read.specs.Forms.{IsFirstSet, IsFormed, IsLine, IsNext, IsPoolField, IsSet}
use Rattle.dsr_report_read.specs.Lines.{kind_of, line_text, may_follow}
use Rattle.dsr_report_read.specs.Reads.{IsFirstSetIn, IsSetIn, IsSetUnder, Reads}
use Rattle.dsr_report_read.specs.declared.lines.Line.{Line}
use Rattle.dsr_report_read.specs.declared.lines.Line.TheVariants as lines
use Rattle.dsr_report_read.specs.declared.lines.State.{State}

module _ (spec : Spec) where
  -- a declared field has its name
  pub name_told : (place : FieldRef) (field : Field) → declared_field spec.base place ≡ Some field → field_name spec place.structure place.field ≡ field.name
  name_told place field declared =
      elim (slice_get spec.base.structures place.structure) as (λ o. option_and_then (λ s. slice_get s.fields place.field) o ≡ Some field
      → option_map_or (λ s. option_map_or (λ f. f.name) (slice_get s.fields place.field) []) o [] ≡ field.name) [
        | None ↦ λ none. absurd cc
        | Some s ↦ λ there. ap (λ o. option_map_or (λ f. f.name) o []) there
      ] declared

  -- the same values, of another field
  abbrev pub of_field : FieldRef → CellSet → CellSet
  of_field place set = record {
    elem = set.elem;
    path = record { field = place; indexed = set.path.indexed };
    index = set.index;
    old = set.old;
    new = set.new;
  }

  -- where it has the same name, the line is the same
  same_line : (place : FieldRef) (set : CellSet) → field_name spec place.structure place.field ≡ field_name spec set.path.field.structure set.path.field.field
      → set_line spec set ≡ set_line spec (of_field place set)
  same_line place set same =
      ap (λ name. ((((codes "  set " ++ (((element_text spec set.elem ++ codes ".") ++ name) ++ index_text set)) ++ codes " ") ++ decimal set.old) ++ codes " " ++ decimal set.new) ++ codes "\n") (sym same)

  -- and it may be told as well
  of_field_is : (place : FieldRef) (its : Field) (set : CellSet) (is : IsSet spec set) → IsPoolField spec.base set.elem.pool place its → is_some its.len ≡ is_some is.field.len
      → IsSet spec (of_field place set)
  of_field_is place its set is is_field shape = record {
    elem = is.elem;
    field = its;
    is_field = is_field;
    indexed = tells set.path.indexed its.len (told set.path.indexed is.field.len is.indexed ∙ sym shape);
    index = is.index;
    no_index = is.no_index;
    old = is.old;
    new = is.new;
  }

  -- what is found in the first structure that gives such a line is of the first field of its name
  module _ (pool number : ℕ) (text : List ℕ) (before : NoneBefore (IsSetIn spec pool) (λ set. set.path.field.structure) (set_line spec) text number) where
    first_found : (set : CellSet) → IsSetUnder spec pool number set → text ≡ set_line spec set → IsFirstSetIn spec pool set
    first_found set its is = record {
      is_first = record {
        is_set = its.is_set;
        is_first = record {
          none_before = λ other field is_field name shape low.
              before (of_field other set)
              (record { is_set = of_field_is other field set its.is_set is_field shape; pool_is = its.pool_is })
              (subst (λ n. other.structure < n) its.structure_is low)
              (is ∙ same_line other set (name_told other field is_field.declared ∙ (name ∙ sym (name_told set.path.field its.is_set.field its.is_set.is_field.declared))));
        };
      };
      pool_is = its.pool_is;
    }

    pub found_first : (o : Option CellSet) → Reads (IsSetUnder spec pool number) (set_line spec) text o → is_some o ≡ true → Reads (IsFirstSetIn spec pool) (set_line spec) text o
    found_first None none e = absurd cc
    found_first (Some set) its e = (first_found set its.0 its.1, its.1)

  pub as_set_in : (pool : ℕ) (set : CellSet) → IsFirstSetIn spec pool set → IsSetIn spec pool set
  as_set_in pool set its = record { is_set = its.is_first.is_set; pool_is = its.pool_is }

  -- ---- a text that no first field gives, none gives

  none_below : (n : ℕ) (text : List ℕ) → ((set : CellSet) → IsFirstSet spec set → text ≡ set_line spec set → ⊥)
      → (set : CellSet) → set.path.field.structure < n → IsSet spec set → text ≡ set_line spec set → ⊥
  none_below zero text none set low its is = omega (arith, low)
  none_below (suc n) text none set low its is =
      none set
      (record {
        is_set = its;
        is_first = record {
          none_before = λ other field is_field name shape less.
              none_below n text none (of_field other set) (omega (arith, low, less)) (of_field_is other field set its is_field shape)
              (is ∙ same_line other set (name_told other field is_field.declared ∙ (name ∙ sym (name_told set.path.field its.field its.is_field.declared))));
        };
      })
      is

  pub none_formed : (s : State) (text : List ℕ) → ((line : Line) → IsNext spec s line → text ≡ line_text spec s.count line → ⊥)
      → (line : Line) → IsTrue (may_follow s.last (kind_of line)) → IsFormed spec line → text ≡ line_text spec s.count line → ⊥
  none_formed s text none (lines.Update head) follows its is = none (lines.Update head) (record { follows = follows; is_line = its }) is
  none_formed s text none (lines.Reset elem) follows its is = none (lines.Reset elem) (record { follows = follows; is_line = its }) is
  none_formed s text none (lines.Set set) follows its is =
      none_below (set.path.field.structure + 1) text (λ other first same. none (lines.Set other) (record { follows = follows; is_line = first }) same) set (omega arith) its is
  none_formed s text none (lines.Byte change) follows its is = none (lines.Byte change) (record { follows = follows; is_line = its }) is
  none_formed s text none lines.End follows its is = none lines.End (record { follows = follows; is_line = its }) is

  pub formed : (line : Line) → IsLine spec line → IsFormed spec line
  formed (lines.Update head) its = its
  formed (lines.Reset elem) its = its
  formed (lines.Set set) its = its.is_set
  formed (lines.Byte change) its = its
  formed lines.End its = its
