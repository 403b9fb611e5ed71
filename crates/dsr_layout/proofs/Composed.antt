-- How the parts of all refusals are told, one after another.
use Rattle.std.proofs.Common.{◌≡◌, ℕ, List, [], ◌++◌, length, All, Option, None, Some, true, is_some, inl, inr, refl, sym, ap, ◌∙◌, subst}
use Rattle.std.specs.Option.{option_map_or}
use Rattle.std.proofs.lemmas.List.{append_assoc}
use Rattle.dsr_ir.specs.declared.declarations.Structures.{Structures}
use Rattle.dsr_ir.specs.declared.declarations.Spec.{Spec}
use Rattle.dsr_ir.specs.declared.declarations.Structure.{Structure}
use Rattle.dsr_ir.specs.declared.layouts.Layout.{Layout}
use Rattle.dsr_layout.proofs.LegalPools.{have_steps}
use Rattle.dsr_layout.proofs.Looking.{told_first, told_second, told_none}
use Rattle.dsr_layout.proofs.Sizes.{sizes_are}
use Rattle.dsr_layout.specs.Checks.{place_refusals, number_refusals}
use Rattle.dsr_layout.specs.Pools.{HasFewFields, HasStep}
use Rattle.dsr_layout.specs.Readings.{IsRead, IsMade}
use Rattle.dsr_layout.specs.Tables.{known, size_in, HoldsEnds}
use Rattle.dsr_layout.specs.Telling.{told_of, Tells}
use Rattle.dsr_layout.specs.declared.faults.LayoutFault.{LayoutFault}
use Rattle.dsr_meaning.proofs.Empty.{fourth_empty}
use Rattle.dsr_meaning.specs.FixedFields.{head_fields, fixed_cell, fixed_value}
use Rattle.dsr_meaning.specs.Layouts.{layout_with, layout_of}
use Rattle.dsr_meaning.specs.Places.{size_of}
use Rattle.dsr_meaning.specs.Refusals.{Refusal, cut_refusals, head_refusals, size_refusals, value_refusals, outside_refusals, overlap_refusals, subtype_refusals, zero_refusals, layout_refusals, refusals_with, refusals_by, refusals}
use Rattle.dsr_meaning.specs.Placeable.{IsPlaceableStructure}

-- placeable structures have few fields
pub few_fields : (ss : List Structure) → All IsPlaceableStructure ss → All HasFewFields ss
few_fields ss placeable k d lt = (placeable k d lt).few_fields

-- lists in a row, in two parts
in_two : (a b c d e : List Refusal) → a ++ (b ++ (c ++ (d ++ e))) ≡ (a ++ (b ++ (c ++ d))) ++ e
in_two a b c d e =
    ap (λ xs. a ++ (b ++ xs)) (sym (append_assoc c d e))
    ∙ ap (λ xs. a ++ xs) (sym (append_assoc b (c ++ d) e))
    ∙ sym (append_assoc a (b ++ (c ++ d)) e)

module _ (size : ℕ → Option ℕ) (spec : Spec) (base : Structures) (layout : Layout) where
  two_parts : layout_refusals size spec base layout ≡ place_refusals size base layout ++ number_refusals spec base layout
  two_parts = in_two (outside_refusals layout) (overlap_refusals size base.head layout) (subtype_refusals size base.sets base.pools layout) (zero_refusals layout) (number_refusals spec base layout)

  -- what is told of where pools lie is told of all
  pub first_part : {o : Option LayoutFault} → true ≡ is_some o → o ≡ told_of (place_refusals size base layout) → o ≡ told_of (layout_refusals size spec base layout)
  first_part some e = told_first (place_refusals size base layout) (number_refusals spec base layout) some e ∙ sym (ap told_of two_parts)

  pub second_part : None ≡ told_of (place_refusals size base layout) → told_of (number_refusals spec base layout) ≡ told_of (layout_refusals size spec base layout)
  second_part none = sym (told_second (place_refusals size base layout) (number_refusals spec base layout) none) ∙ sym (ap told_of two_parts)

  pub steps_of_none : None ≡ told_of (place_refusals size base layout) → All HasStep layout.pools
  steps_of_none none = have_steps layout (fourth_empty (outside_refusals layout) (overlap_refusals size base.head layout) (subtype_refusals size base.sets base.pools layout) (zero_refusals layout) (told_none (place_refusals size base layout) none))

pub tells_second : (a b : List Refusal) (e : LayoutFault) → a ≡ [] → Tells b e → Tells (a ++ b) e
tells_second a b e none tells = subst (λ xs. Tells (xs ++ b) e) (sym none) tells

pub tells_first : (a b : List Refusal) (e : LayoutFault) → Tells a e → Tells (a ++ b) e
tells_first a b e (inl is) = inl is
tells_first a b e (inr is) = inr (sym (told_first a b {o = Some e} refl (sym is)))

-- tables that are equal to those that were read
pub read_as : {base : Structures} {bytes : List ℕ} {fixed ends same_fixed same_ends : List (Option ℕ)} → same_fixed ≡ fixed → same_ends ≡ ends → IsRead base bytes fixed ends → IsRead base bytes same_fixed same_ends
read_as {base} {bytes} {ends} {same_fixed} fixed_is ends_is read = subst (IsRead base bytes same_fixed) (sym ends_is) (subst (λ t. IsRead base bytes t ends) (sym fixed_is) read)

-- the refusals behind those of cut fields, by what tables of values and ends tell
module _ (spec : Spec) (bytes : List ℕ) (fixed ends : List (Option ℕ)) where
  abbrev head_part : List Refusal
  head_part = head_refusals (size_in ends) spec.base.head (length bytes)

  abbrev size_part : List Refusal
  size_part = size_refusals (size_in ends) spec.base.structures

  abbrev value_part : List Refusal
  value_part = value_refusals (known fixed) (size_in ends) spec.base.pools

  abbrev layout_part : List Refusal
  layout_part = option_map_or (layout_refusals (size_in ends) spec spec.base) (layout_with (known fixed) spec.base (length bytes)) []

  module _ (values : (k : ℕ) → known fixed k ≡ fixed_value spec.base bytes k) (uncut : cut_refusals (fixed_cell spec.base) (head_fields spec.base) (length bytes) ≡ []) (holds : HoldsEnds (known fixed) spec.base.structures ends) where
    same_values : known fixed ≡ fixed_value spec.base bytes
    same_values = λ j k. values k j

    same_size : size_in ends ≡ size_of (known fixed) spec.base.structures
    same_size = λ j i. sizes_are (known fixed) spec.base.structures ends holds i j

    by_tables : refusals spec bytes ≡ head_part ++ (size_part ++ (value_part ++ layout_part))
    by_tables =
        sym (ap (λ f. refusals_by f spec spec.base (length bytes)) same_values)
        ∙ sym (ap (λ size. refusals_with (known fixed) size spec spec.base (length bytes)) same_size)
        ∙ ap (λ xs. xs ++ (head_part ++ (size_part ++ (value_part ++ layout_part)))) uncut

    pub head_told : (e : LayoutFault) → Tells head_part e → Tells (refusals spec bytes) e
    head_told e tells = subst (λ rs. Tells rs e) (sym by_tables) (tells_first head_part (size_part ++ (value_part ++ layout_part)) e tells)

  module _ (read : IsRead spec.base bytes fixed ends) where
    pub behind_head : refusals spec bytes ≡ (size_part ++ value_part) ++ layout_part
    behind_head =
        by_tables read.values read.uncut read.holds
        ∙ ap (λ xs. xs ++ (size_part ++ (value_part ++ layout_part))) read.whole
        ∙ sym (append_assoc size_part value_part layout_part)

    pub value_told : (e : LayoutFault) → Tells (size_part ++ value_part) e → Tells (refusals spec bytes) e
    value_told e tells = subst (λ rs. Tells rs e) (sym behind_head) (tells_first (size_part ++ value_part) layout_part e tells)

    module _ (layout : Layout) (made : IsMade spec.base (length bytes) fixed ends layout) where
      last_part : refusals spec bytes ≡ layout_refusals (size_in ends) spec spec.base layout
      last_part =
          behind_head
          ∙ ap (λ xs. (xs ++ value_part) ++ layout_part) made.sized
          ∙ ap (λ xs. xs ++ layout_part) made.valued
          ∙ ap (λ o. option_map_or (layout_refusals (size_in ends) spec spec.base) o []) made.made

      pub layout_told : (e : LayoutFault) → Some e ≡ told_of (layout_refusals (size_in ends) spec spec.base layout) → Tells (refusals spec bytes) e
      layout_told e is = inr (ap told_of last_part ∙ sym is)

      -- where nothing is told, there is no refusal
      pub accepted : None ≡ told_of (layout_refusals (size_in ends) spec spec.base layout) → refusals spec bytes ≡ []
      accepted none = last_part ∙ told_none (layout_refusals (size_in ends) spec spec.base layout) none

      pub layout_made : layout_of spec.base bytes ≡ Some layout
      layout_made = sym (ap (λ f. layout_with f spec.base (length bytes)) (same_values read.values read.uncut read.holds)) ∙ made.made
