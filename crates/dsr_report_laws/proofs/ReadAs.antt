-- What is told in the place of the entries of a run: each set is of the first field of its name, and the text is the same.
use Rattle.std.proofs.Common.{◌≡◌, ◌+◌, ◌++◌, ◌∙◌, ℕ, suc, Bool, true, false, List, [], ◌∷◌, All, Option, None, Some, IsSome, MatchBool, is_some, length, codes, decimal, refl, sym, ap, arith}
use Rattle.std.specs.List.{flat_map}
use Rattle.std.specs.Option.{option_map_or}
use Rattle.std.specs.Prelude.{if◌then◌else◌}
use Rattle.std.proofs.lemmas.List.Elements.{All-cons, All-head, All-nil, All-tail}
use Rattle.dsr_answers.specs.Texts.{binding_text, constraint_name, element_text, field_name}
use Rattle.dsr_ir.specs.Exprs.{ExprShape}
use Rattle.dsr_ir.specs.declared.declarations.FieldRef.{FieldRef}
use Rattle.dsr_ir.specs.declared.declarations.Spec.{Spec}
use Rattle.dsr_ir.specs.declared.tuples.Element.{Element}
use Rattle.dsr_meaning.specs.Lists.{each_at}
use Rattle.dsr_repair_theory.specs.declared.entries.ByteChange.{ByteChange}
use Rattle.dsr_repair_theory.specs.declared.entries.CellSet.{CellSet}
use Rattle.dsr_repair_theory.specs.declared.entries.Entry.{Entry}
use Rattle.dsr_report.specs.Reports.{byte_line, end_line, entry_text, report_text, reset_line, set_line}
use Rattle.dsr_report_read.proofs.FirstNamed.{name_told}
use Rattle.dsr_report_read.specs.Forms.{IsFirstSet, IsReported, IsSet, IsTold}
use Rattle.dsr_report_read.specs.declared.lines.Head.{Head}
use Rattle.dsr_report_laws.proofs.EntriesTold.{IsFormedEntry}
use Rattle.dsr_report_laws.proofs.FirstFields.{first_field}
use Rattle.dsr_report_laws.specs.Readings.{AreReadAs, EachWith, HasOwnFieldNames, IsReadAs, IsSetReadAs}

-- ---- one set

as_array : (indexed : Bool) (len other : Option ExprShape) → is_some other ≡ is_some len → MatchBool indexed (IsSome len) (len ≡ None) → MatchBool indexed (IsSome other) (other ≡ None)
as_array true len other same is = same ∙ is
as_array false len None same is = refl
as_array false len (Some e) same is = let no_len : is_some len ≡ false = ap is_some is in let wrong : true ≡ false = same ∙ no_len in absurd cc

module _ (spec : Spec) where
  -- what a reader takes in the place of a set
  record IsSetRead (set other : CellSet) : Type 0 where
    first : IsFirstSet spec other
    read : IsSetReadAs spec set other

  set_read : (set : CellSet) → IsSet spec set → (other : CellSet) × IsSetRead set other
  set_read set its =
      let field = its.field in
      let found = first_field spec.base set.elem.pool field.name (is_some field.len) set.path.field field its.is_field refl refl in
      let place = found.0 in
      let first = found.2 in (
        record { elem = set.elem; path = record { field = place; indexed = set.path.indexed }; index = set.index; old = set.old; new = set.new },
        record {
          first = record {
            is_set = record {
              elem = its.elem;
              field = found.1;
              is_field = first.is_field;
              indexed = as_array set.path.indexed field.len found.1.len first.shape_is its.indexed;
              index = its.index;
              no_index = its.no_index;
              old = its.old;
              new = its.new;
            };
            is_first = record {
              none_before = λ other alike is_field name shape low. first.none_before other alike is_field (name ∙ first.name_is) (shape ∙ first.shape_is) low;
            };
          };
          read = record {
            elem = refl;
            fields = record {
              field = field;
              its = found.1;
              is_field = its.is_field;
              is_other = first.is_field;
              name = first.name_is;
              shape = first.shape_is;
            };
            indexed = refl;
            index = refl;
            old = refl;
            new = refl;
          };
        },
      )

  -- ---- all of them

  record AreSetsRead (sets others : List CellSet) : Type 0 where
    first : All (IsFirstSet spec) others
    read : EachWith (IsSetReadAs spec) sets others

  sets_read : (sets : List CellSet) → All (IsSet spec) sets → (others : List CellSet) × AreSetsRead sets others
  sets_read [] all = ([], record { first = All-nil (IsFirstSet spec); read = tt })
  sets_read (set ∷ sets) all =
      let one = set_read set (All-head (IsSet spec) set sets all) in
      let rest = sets_read sets (All-tail (IsSet spec) set sets all) in
      (one.0 ∷ rest.0, record { first = All-cons (IsFirstSet spec) one.0 rest.0 one.1.first rest.1.first; read = (one.1.read, rest.1.read) })

  record IsEntryRead (entry other : Entry) : Type 0 where
    told : IsTold spec other
    read : IsReadAs spec entry other

  entry_read : (entry : Entry) → IsFormedEntry spec entry → (other : Entry) × IsEntryRead entry other
  entry_read entry its =
      let sets = sets_read entry.sets its.sets in (
        record {
          constraint = entry.constraint;
          binding = entry.binding;
          conj = entry.conj;
          literal = entry.literal;
          rule = entry.rule;
          reset = entry.reset;
          sets = sets.0;
          bytes = entry.bytes;
        },
        record {
          told = record { head = its.head; reset = its.reset; sets = sets.1.first; bytes = its.bytes };
          read = record { head = refl; reset = refl; sets = sets.1.read; bytes = refl };
        },
      )

  pub record AreEntriesRead (entries others : List Entry) : Type 0 where
    pub reported : IsReported spec others
    pub read : AreReadAs spec entries others

  pub entries_read : (entries : List Entry) → All (IsFormedEntry spec) entries → (others : List Entry) × AreEntriesRead entries others
  entries_read [] all = ([], record { reported = All-nil (IsTold spec); read = tt })
  entries_read (entry ∷ entries) all =
      let one = entry_read entry (All-head (IsFormedEntry spec) entry entries all) in
      let rest = entries_read entries (All-tail (IsFormedEntry spec) entry entries all) in
      (one.0 ∷ rest.0, record { reported = All-cons (IsTold spec) one.0 rest.0 one.1.told rest.1.reported; read = (one.1.read, rest.1.read) })

  -- ---- one text

  -- the line of a set, by its parts
  abbrev line_of : Element → List ℕ → Bool → ℕ → ℕ → ℕ → List ℕ
  line_of elem name indexed index old new =
      codes "  set " ++ (element_text spec elem ++ codes "." ++ name ++ (if indexed then codes "[" ++ decimal index ++ codes "]" else [])) ++ codes " " ++ decimal old
      ++ codes " " ++ decimal new ++ codes "\n"

  set_text : (set other : CellSet) → IsSetReadAs spec set other → set_line spec other ≡ set_line spec set
  set_text set other its =
      let here = set.path.field in
      let there = other.path.field in
      let name : field_name spec there.structure there.field ≡ field_name spec here.structure here.field =
      name_told spec there its.fields.its its.fields.is_other.declared ∙ (its.fields.name ∙ sym (name_told spec here its.fields.field its.fields.is_field.declared)) in
      λ i. line_of (its.elem i) (name i) (its.indexed i) (its.index i) (its.old i) (its.new i)

  sets_text : (sets others : List CellSet) → EachWith (IsSetReadAs spec) sets others → flat_map (set_line spec) others ≡ flat_map (set_line spec) sets
  sets_text [] [] each = refl
  sets_text [] (other ∷ others) each = absurd each
  sets_text (set ∷ sets) [] each = absurd each
  sets_text (set ∷ sets) (other ∷ others) each =
      let one = set_text set other each.0 in
      let rest = sets_text sets others each.1 in
      λ i. one i ++ rest i

  -- the lines of an entry, by its parts
  abbrev update_of : ℕ → Head → List ℕ
  update_of number head =
      codes "update " ++ decimal number ++ codes " " ++ constraint_name spec head.constraint
      ++ codes " " ++ binding_text spec head.binding ++ codes " " ++ (decimal (head.conj + 1) ++ codes "." ++ decimal (head.literal + 1))
      ++ codes " " ++ decimal (head.rule + 1) ++ codes "\n"

  abbrev entry_of : ℕ → Head → Option Element → List ℕ → List ByteChange → List ℕ
  entry_of number head reset sets bytes =
      update_of number head ++ option_map_or (reset_line spec) reset [] ++ sets ++ flat_map byte_line bytes

  pub text_of_entry : (number : ℕ) (entry other : Entry) → IsReadAs spec entry other → entry_text spec number other ≡ entry_text spec number entry
  text_of_entry number entry other its =
      let sets = sets_text entry.sets other.sets its.sets in
      λ i. entry_of number (its.head i) (its.reset i) (sets i) (its.bytes i)

  text_of_entries : (number : ℕ) (entries others : List Entry) → AreReadAs spec entries others → each_at (entry_text spec) number others ≡ each_at (entry_text spec) number entries
  text_of_entries number [] [] each = refl
  text_of_entries number [] (other ∷ others) each = absurd each
  text_of_entries number (entry ∷ entries) [] each = absurd each
  text_of_entries number (entry ∷ entries) (other ∷ others) each =
      let one = text_of_entry number entry other each.0 in
      let rest = text_of_entries (suc number) entries others each.1 in
      λ i. one i ++ rest i

  pub as_many : (entries others : List Entry) → AreReadAs spec entries others → length others ≡ length entries
  as_many [] [] each = refl
  as_many [] (other ∷ others) each = absurd each
  as_many (entry ∷ entries) [] each = absurd each
  as_many (entry ∷ entries) (other ∷ others) each = ap suc (as_many entries others each.1)

  pub one_text : (entries others : List Entry) → AreReadAs spec entries others → report_text spec others ≡ report_text spec entries
  one_text entries others each =
      let text = text_of_entries 1 entries others each in
      let many = as_many entries others each in
      λ i. text i ++ end_line (many i)

  -- ---- where no two fields are named alike, nothing else is told

  own_set : HasOwnFieldNames spec → (set : CellSet) → IsSet spec set → IsFirstSet spec set
  own_set own set its = record {
    is_set = its;
    is_first = record {
      none_before = λ other field is_field name shape low.
          let same : other ≡ set.path.field = own set.elem.pool set.path.field other
          (record { field = its.field; its = field; is_field = its.is_field; is_other = is_field; name = name; shape = shape }) in
          let at : other.structure ≡ set.path.field.structure = ap (λ (p : FieldRef). p.structure) same in
          absurd (omega (arith, low, at));
    };
  }

  own_sets : HasOwnFieldNames spec → (sets : List CellSet) → All (IsSet spec) sets → All (IsFirstSet spec) sets
  own_sets own [] all = All-nil (IsFirstSet spec)
  own_sets own (set ∷ sets) all =
      All-cons (IsFirstSet spec) set sets (own_set own set (All-head (IsSet spec) set sets all)) (own_sets own sets (All-tail (IsSet spec) set sets all))

  pub own_reported : HasOwnFieldNames spec → (entries : List Entry) → All (IsFormedEntry spec) entries → IsReported spec entries
  own_reported own [] all = All-nil (IsTold spec)
  own_reported own (entry ∷ entries) all =
      let its = All-head (IsFormedEntry spec) entry entries all in
      All-cons (IsTold spec) entry entries (record { head = its.head; reset = its.reset; sets = own_sets own entry.sets its.sets; bytes = its.bytes })
      (own_reported own entries (All-tail (IsFormedEntry spec) entry entries all))
