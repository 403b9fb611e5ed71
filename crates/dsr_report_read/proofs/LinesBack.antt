-- A printed line is read back.
use Rattle.std.proofs.Common.{◌≡◌, ◌<◌, ◌+◌, ◌^◌, ◌++◌, ◌∙◌, ℕ, zero, suc, Bool, true, false, cond, List, [], ◌∷◌, length, take, drop, refl, sym, ap, subst, arith, append_assoc, append-nil, nat_eq}
use Rattle.std.specs.Prelude.{codes, decimal, ◌==◌}
use Rattle.std.proofs.Math.Seq.{drop-append-add, drop-append_seam, take-append_seam}
use Rattle.std.proofs.lemmas.Bool.Decides.{nat_tests}
use Rattle.hex.proofs.HexLemmas.{decode_sized-encode_lower, length-encode_with}
use Rattle.hex.specs.Hex.{IsBytes, decode_sized, lower_digits}
use Rattle.dsr_answers.specs.Texts.{element_text, field_name, pool_name}
use Rattle.dsr_ir.specs.declared.declarations.Spec.{Spec}
use Rattle.dsr_ir.specs.declared.tuples.Element.{Element}
use Rattle.dsr_repair_theory.specs.declared.entries.ByteChange.{ByteChange}
use Rattle.dsr_repair_theory.specs.declared.entries.CellSet.{CellSet}
use Rattle.dsr_report.specs.Reports.{byte_line, byte_text, index_text, place_set, reset_line, set_line}
use Rattle.dsr_report_read.proofs.ReadBack.{ReadsNumber, narrow_small, number_back, regroup}
use Rattle.dsr_report_read.specs.Forms.{IsChange, IsRecord, IsSet}
use Rattle.dsr_report_read.specs.Lenient.{narrow, behind_element, behind_field, behind_index, behind_number, byte_ahead, change_in, element_ahead, field_ahead, first_or_0, index_ahead, number_ahead, reset_in, set_in, values_ahead}

-- ---- bytes

two_long : (byte : ℕ) → 2 ≡ length (byte_text byte)
two_long byte = sym (length-encode_with lower_digits (byte ∷ []))

two_digits : (byte : ℕ) (rest : List ℕ) → take 2 (byte_text byte ++ rest) ≡ byte_text byte
two_digits byte rest = ap (λ k. take k (byte_text byte ++ rest)) (two_long byte) ∙ take-append_seam (byte_text byte) rest

behind_digits : (byte : ℕ) (rest : List ℕ) → drop 3 (byte_text byte ++ rest) ≡ drop 1 rest
behind_digits byte rest = ap (λ k. drop (k + 1) (byte_text byte ++ rest)) (two_long byte) ∙ drop-append-add (byte_text byte) rest 1

one_byte : (byte : ℕ) → byte < 256 → IsBytes (byte ∷ [])
one_byte byte small zero = small
one_byte byte small (suc i) = omega arith

byte_back : (byte : ℕ) (rest : List ℕ) → byte < 256 → byte_ahead (byte_text byte ++ rest) ≡ byte
byte_back byte rest small =
    ap (λ ds. first_or_0 (decode_sized ds 1)) (two_digits byte rest)
    ∙ ap first_or_0 (decode_sized-encode_lower (byte ∷ []) 1 refl (one_byte byte small))

abbrev change_rest : ByteChange → List ℕ
change_rest change = codes " " ++ (byte_text change.old ++ (codes " " ++ (byte_text change.new ++ codes "\n")))

change_grouped : (change : ByteChange) → byte_line change ≡ codes "  byte " ++ (decimal change.place ++ change_rest change)
change_grouped change = regroup (codes "  byte ") (decimal change.place ∷ codes " " ∷ byte_text change.old ∷ codes " " ∷ byte_text change.new ∷ codes "\n" ∷ [])

pub change_back : (change : ByteChange) → IsChange change → change_in (byte_line change) ≡ change
change_back change its =
    let place = number_back change.place (change_rest change) its.place refl in
    let e = change_grouped change in
    let at : number_ahead (drop 7 (byte_line change)) ≡ change.place = ap (λ t. number_ahead (drop 7 t)) e ∙ place.value in
    let behind : behind_number (drop 7 (byte_line change)) ≡ change_rest change = ap (λ t. behind_number (drop 7 t)) e ∙ place.behind in
    let old : byte_ahead (drop 1 (behind_number (drop 7 (byte_line change)))) ≡ change.old = ap (λ t. byte_ahead (drop 1 t)) behind ∙ byte_back change.old (codes " " ++ (byte_text change.new ++ codes "\n")) its.old in
    let new : byte_ahead (drop 4 (behind_number (drop 7 (byte_line change)))) ≡ change.new = ap (λ t. byte_ahead (drop 4 t)) behind ∙ (ap byte_ahead (behind_digits change.old (codes " " ++ (byte_text change.new ++ codes "\n"))) ∙ byte_back change.new (codes "\n") its.new) in
    λ i. record { place = at i; old = old i; new = new i }

-- ---- records

-- what is read of a text
pub record ReadsElement (spec : Spec) (text : List ℕ) (elem : Element) (rest : List ℕ) : Type 0 where
  pub value : element_ahead spec elem.pool text ≡ elem
  pub behind : behind_element spec elem.pool text ≡ rest

module _ (spec : Spec) where
  pub slot_grouped : (pool slot : ℕ) (rest : List ℕ) → (((pool_name spec pool ++ codes "[") ++ decimal slot) ++ codes "]") ++ rest ≡ pool_name spec pool ++ (codes "[" ++ (decimal slot ++ (codes "]" ++ rest)))
  slot_grouped pool slot rest =
      regroup (pool_name spec pool) (codes "[" ∷ decimal slot ∷ codes "]" ∷ rest ∷ [])
      ∙ ap (λ t. pool_name spec pool ++ (codes "[" ++ (decimal slot ++ (codes "]" ++ t)))) (append-nil rest)

  slot_back : (pool slot : ℕ) (rest : List ℕ) → slot < 2 ^ 32
      → ReadsNumber (drop (length (pool_name spec pool) + 1) ((((pool_name spec pool ++ codes "[") ++ decimal slot) ++ codes "]") ++ rest)) slot (codes "]" ++ rest)
  slot_back pool slot rest small =
      subst (λ t. ReadsNumber t slot (codes "]" ++ rest))
      (sym (ap (drop (length (pool_name spec pool) + 1)) (slot_grouped pool slot rest) ∙ drop-append-add (pool_name spec pool) (codes "[" ++ (decimal slot ++ (codes "]" ++ rest))) 1))
      (number_back slot (codes "]" ++ rest) (omega (arith, small)) refl)

  pub element_back : (elem : Element) (rest : List ℕ) → IsRecord spec elem → ReadsElement spec (element_text spec elem ++ rest) elem rest
  element_back elem rest its =
      elim (nat_eq elem.pool 0) as (λ b. nat_eq elem.pool 0 ≡ b → ReadsElement spec (element_text spec elem ++ rest) elem rest) [
        | true ↦ λ e.
            let zero : elem.pool ≡ 0 = grind (arith, nat_tests) in
            let none : elem.slot ≡ 0 = its.head zero in
            let is : (elem.pool == 0) ≡ true = grind (arith, nat_tests) in
            let text : element_text spec elem ++ rest ≡ codes "head" ++ rest = ap (λ b. cond b (codes "head") (((pool_name spec elem.pool ++ codes "[") ++ decimal elem.slot) ++ codes "]") ++ rest) is in
            record {
              value = ap (λ b. cond b (record { pool = 0; slot = 0 }) (record { pool = elem.pool; slot = narrow (number_ahead (drop (length (pool_name spec elem.pool) + 1) (element_text spec elem ++ rest))) })) e ∙ (λ i. record { pool = sym zero i; slot = sym none i });
              behind = ap (λ b. cond b (drop 4 (element_text spec elem ++ rest)) (drop 1 (behind_number (drop (length (pool_name spec elem.pool) + 1) (element_text spec elem ++ rest))))) e ∙ ap (drop 4) text;
            }
        | false ↦ λ e.
            let is : (elem.pool == 0) ≡ false = grind (arith, nat_tests) in
            let text : element_text spec elem ++ rest ≡ (((pool_name spec elem.pool ++ codes "[") ++ decimal elem.slot) ++ codes "]") ++ rest = ap (λ b. cond b (codes "head") (((pool_name spec elem.pool ++ codes "[") ++ decimal elem.slot) ++ codes "]") ++ rest) is in
            let number = slot_back elem.pool elem.slot rest its.small in
            let value : narrow (number_ahead (drop (length (pool_name spec elem.pool) + 1) (element_text spec elem ++ rest))) ≡ elem.slot = ap (λ t. narrow (number_ahead (drop (length (pool_name spec elem.pool) + 1) t))) text ∙ (ap narrow number.value ∙ narrow_small elem.slot its.small) in
            record {
              value = ap (λ b. cond b (record { pool = 0; slot = 0 }) (record { pool = elem.pool; slot = narrow (number_ahead (drop (length (pool_name spec elem.pool) + 1) (element_text spec elem ++ rest))) })) e ∙ (λ i. record { pool = elem.pool; slot = value i });
              behind = ap (λ b. cond b (drop 4 (element_text spec elem ++ rest)) (drop 1 (behind_number (drop (length (pool_name spec elem.pool) + 1) (element_text spec elem ++ rest))))) e ∙ (ap (λ t. drop 1 (behind_number (drop (length (pool_name spec elem.pool) + 1) t))) text ∙ ap (drop 1) number.behind);
            }
      ] refl

  pub reset_back : (elem : Element) → IsRecord spec elem → reset_in spec elem.pool (reset_line spec elem) ≡ elem
  reset_back elem its =
      let grouped : reset_line spec elem ≡ codes "  reset " ++ (element_text spec elem ++ codes "\n") = regroup (codes "  reset ") (element_text spec elem ∷ codes "\n" ∷ []) in
      ap (λ t. element_ahead spec elem.pool (drop 8 t)) grouped ∙ (element_back elem (codes "\n") its).value

  -- ---- values that are set

  module _ (set : CellSet) where
    abbrev name : List ℕ
    name = field_name spec set.path.field.structure set.path.field.field

    abbrev old_rest : List ℕ
    old_rest = codes " " ++ (decimal set.new ++ codes "\n")

    abbrev values : List ℕ
    values = codes " " ++ (decimal set.old ++ old_rest)

    pub set_grouped : set_line spec set ≡ codes "  set " ++ (element_text spec set.elem ++ (codes "." ++ (name ++ (index_text set ++ values))))
    set_grouped =
        let place : place_set spec set ≡ element_text spec set.elem ++ (codes "." ++ (name ++ index_text set)) =
        regroup (element_text spec set.elem) (codes "." ∷ name ∷ index_text set ∷ [])
        ∙ ap (λ t. element_text spec set.elem ++ (codes "." ++ (name ++ t))) (append-nil (index_text set)) in
        regroup (codes "  set ") (place_set spec set ∷ codes " " ∷ decimal set.old ∷ codes " " ∷ decimal set.new ∷ codes "\n" ∷ [])
        ∙ ap (λ t. codes "  set " ++ t)
        (ap (λ t. t ++ values) place
        ∙ (append_assoc (element_text spec set.elem) (codes "." ++ (name ++ index_text set)) values
        ∙ ap (λ t. element_text spec set.elem ++ (codes "." ++ t)) (append_assoc name (index_text set) values)))

    module _ (its : IsSet spec set) where
      abbrev pool : ℕ
      pool = set.elem.pool

      abbrev line : List ℕ
      line = set_line spec set

      elem_read : ReadsElement spec (drop 6 line) set.elem (codes "." ++ (name ++ (index_text set ++ values)))
      elem_read = subst (λ t. ReadsElement spec (drop 6 t) set.elem (codes "." ++ (name ++ (index_text set ++ values)))) (sym set_grouped)
          (element_back set.elem (codes "." ++ (name ++ (index_text set ++ values))) its.elem)

      pub field_is : field_ahead spec pool line ≡ name ++ (index_text set ++ values)
      field_is = ap (drop 1) elem_read.behind

      behind_is : behind_field spec pool set.path line ≡ index_text set ++ values
      behind_is = ap (drop (length name)) field_is ∙ drop-append_seam name (index_text set ++ values)

      abbrev IsIndex : Bool → Type 0
      IsIndex b =
          let text = cond b ((codes "[" ++ decimal set.index) ++ codes "]") [] ++ values in
          (cond b (number_ahead (drop 1 text)) 0 ≡ set.index) × (cond b (drop 1 (behind_number (drop 1 text))) text ≡ values)

      index_read : IsIndex set.path.indexed
      index_read = elim set.path.indexed as (λ b. set.path.indexed ≡ b → IsIndex b) [
        | true ↦ λ e.
            let number = number_back set.index (codes "]" ++ values) its.index refl in
            let text : ((codes "[" ++ decimal set.index) ++ codes "]") ++ values ≡ codes "[" ++ (decimal set.index ++ (codes "]" ++ values)) =
            regroup (codes "[") (decimal set.index ∷ codes "]" ∷ values ∷ []) ∙ ap (λ t. codes "[" ++ (decimal set.index ++ (codes "]" ++ t))) (append-nil values) in
            (ap (λ t. number_ahead (drop 1 t)) text ∙ number.value, ap (λ t. drop 1 (behind_number (drop 1 t))) text ∙ ap (drop 1) number.behind)
        | false ↦ λ e. (sym (its.no_index e), refl)
      ] refl

      values_are : values_ahead spec pool set.path line ≡ decimal set.old ++ old_rest
      values_are = ap (λ t. drop 1 (behind_index set.path.indexed t)) behind_is ∙ ap (drop 1) index_read.1

      pub set_back : set_in spec pool set.path line ≡ set
      set_back =
          let old = number_back set.old old_rest its.old refl in
          let new = number_back set.new (codes "\n") its.new refl in
          let index_is : index_ahead set.path.indexed (behind_field spec pool set.path line) ≡ set.index = ap (index_ahead set.path.indexed) behind_is ∙ index_read.0 in
          let old_is : number_ahead (values_ahead spec pool set.path line) ≡ set.old = ap number_ahead values_are ∙ old.value in
          let new_is : number_ahead (drop 1 (behind_number (values_ahead spec pool set.path line))) ≡ set.new =
          ap (λ t. number_ahead (drop 1 (behind_number t))) values_are ∙ (ap (λ t. number_ahead (drop 1 t)) old.behind ∙ new.value) in
          λ i. record { elem = elem_read.value i; path = set.path; index = index_is i; old = old_is i; new = new_is i }
