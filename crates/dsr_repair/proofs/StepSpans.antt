-- What is so of the bytes that a step may change is so of its fresh record and of each cell that it writes.
use Rattle.std.proofs.Common.{◌≡◌, ◌≤◌, ◌<◌, ◌+◌, ◌*◌, ◌/◌, ℕ, zero, suc, Bool, List, [], ◌∷◌, ◌++◌, length, All, drop, get_or, Option, None, Some, inl, inr, refl, sym, ap, subst, ◌∙◌, append_assoc, arith}
use Rattle.std.proofs.lemmas.List.{append-nil, drop_all, drop_more}
use Rattle.std.proofs.lemmas.List.Elements.{All-nil, All-cons, All-head, All-tail}
use Rattle.std.specs.List.{cons_option, filter_map}
use Rattle.std.specs.Option.{option_map_or}
use Rattle.std.specs.Prelude.{IfSome, option_and_then, option_map, option_to_list}
use Rattle.dsr_image.specs.Images.{AreClaimed, IsCellClaimed}
use Rattle.dsr_ir.specs.Layouts.{pool_numbers}
use Rattle.dsr_ir.specs.declared.declarations.Spec.{Spec}
use Rattle.dsr_ir.specs.declared.layouts.Cell.{Cell}
use Rattle.dsr_ir.specs.declared.layouts.Layout.{Layout}
use Rattle.dsr_ir.specs.declared.tuples.Element.{Element}
use Rattle.dsr_ir.specs.declared.updates.Update.{Update}
use Rattle.dsr_ir.specs.declared.updates.Write.{Write}
use Rattle.dsr_layout.proofs.LegalLayout.{built}
use Rattle.dsr_repair.specs.Spans.{AreSpansClaimed, AreWithin, IsSpanClaimed, IsWithin, IsWriteSpan, cell_span, pool_span, slot_span, step_spans, write_span}
use Rattle.dsr_repair.specs.declared.spans.Span.{Span}
use Rattle.dsr_meaning.specs.Counting.{IsIn}
use Rattle.dsr_meaning.specs.FixedFields.{fixed_value}
use Rattle.dsr_meaning.specs.Legal.{HasEntry}
use Rattle.dsr_step_theory.specs.Steps.{CanStep, IsSlot, written_cell, written_index}
use Rattle.dsr_step_theory.specs.declared.steps.Step.{Step}
use Rattle.dsr_update.specs.Claims.{CanReset, IsSlotClaimed}

module _ (P : Span → Type 0) where
  others : (xs ys : List Span) → All P (xs ++ ys) → All P ys
  others [] ys all = all
  others (x ∷ xs) ys all = others xs ys (All-tail P x (xs ++ ys) all)

  first_picked : (o : Option Span) (rest : List Span) → All P (cons_option o rest) → IfSome o P
  first_picked None rest all = tt
  first_picked (Some s) rest all = All-head P s rest all

  rest_picked : (o : Option Span) (rest : List Span) → All P (cons_option o rest) → All P rest
  rest_picked None rest all = all
  rest_picked (Some s) rest all = All-tail P s rest all

  -- what a list picks
  each_picked : {X : Type 0} (f : X → Option Span) (xs : List X) → All P (filter_map f xs) → (x : X) → IsIn x xs → IfSome (f x) P
  each_picked f [] all x none = absurd none
  each_picked f (y ∷ xs) all x (inl same) = subst (λ z. IfSome (f z) P) (sym same) (first_picked (f y) (filter_map f xs) all)
  each_picked f (y ∷ xs) all x (inr later) = each_picked f xs (rest_picked (f y) (filter_map f xs) all) x later

  first_listed : (o : Option Span) (rest : List Span) → All P (option_to_list o ++ rest) → IfSome o P
  first_listed None rest all = tt
  first_listed (Some s) rest all = All-head P s rest all

  fresh_listed : (layout : Layout) (fresh : Option Element) (rest : List Span) → All P (option_to_list (option_and_then (slot_span layout) fresh) ++ rest) → IfSome fresh (λ e. IfSome (slot_span layout e) P)
  fresh_listed layout None rest all = tt
  fresh_listed layout (Some e) rest all = first_listed (slot_span layout e) rest all

  module _ (layout : Layout) (step : Step) (writes : List Write) (all : All P (step_spans layout step writes)) where
    pub of_fresh : IfSome step.fresh (λ e. IfSome (slot_span layout e) P)
    of_fresh = fresh_listed layout step.fresh (filter_map (write_span layout step) writes) all

    pub of_write : (w : Write) → IsIn w writes → IfSome (write_span layout step w) P
    of_write = each_picked (write_span layout step) writes (others (option_to_list (option_and_then (slot_span layout) step.fresh)) (filter_map (write_span layout step) writes) all)

-- an item of a list
pub item_in : {X : Type 0} (xs : List X) (k : ℕ) (d : X) → k < length xs → IsIn (get_or xs k d) xs
item_in [] k d below = absurd (omega (arith, below))
item_in (x ∷ xs) zero d below = inl refl
item_in (x ∷ xs) (suc k) d below = inr (item_in xs k d (omega (arith, below)))

-- ---- what is claimed

module _ (claimed : ℕ → Bool) where
  slot_claimed : (layout : Layout) (e : Element) → IfSome (slot_span layout e) (IsSpanClaimed claimed) → IsSlotClaimed claimed layout e
  slot_claimed layout e = elim (pool_numbers layout e.pool) as (λ o. IfSome (option_map (pool_span e) o) (IsSpanClaimed claimed) → IfSome o (λ n. AreClaimed claimed (option_map_or (λ m. m.start + e.slot * m.slot) o 0) n.slot)) [
    | None ↦ λ _. tt
    | Some n ↦ λ of. of
  ]

  cell_claimed : (cell : Cell) → IsSpanClaimed claimed (cell_span cell) → IsCellClaimed claimed cell
  cell_claimed cell of = λ j from before. of (j / 8) (omega (arith, from)) (omega (arith, before))

  found_claimed : (o : Option Cell) → IfSome (option_map cell_span o) (IsSpanClaimed claimed) → IfSome o (IsCellClaimed claimed)
  found_claimed None of = tt
  found_claimed (Some cell) of = cell_claimed cell of

  some_claimed : (layout : Layout) (fresh : Option Element) → IfSome fresh (λ e. IfSome (slot_span layout e) (IsSpanClaimed claimed)) → IfSome fresh (IsSlotClaimed claimed layout)
  some_claimed layout None of = tt
  some_claimed layout (Some e) of = slot_claimed layout e of

  module _ (layout : Layout) (step : Step) (writes : List Write) (all : AreSpansClaimed (step_spans layout step writes) claimed) where
    -- of the fresh record
    pub fresh_claimed : IfSome step.fresh (IsSlotClaimed claimed layout)
    fresh_claimed = some_claimed layout step.fresh (of_fresh (IsSpanClaimed claimed) layout step writes all)

    -- of each cell that is written
    pub writes_claimed : All (λ w. IfSome (written_cell layout step w) (IsCellClaimed claimed)) writes
    writes_claimed k d below =
        let w = get_or writes k d in
        found_claimed (written_cell layout step w) (of_write (IsSpanClaimed claimed) layout step writes all w (item_in writes k d below))

-- ---- the list, one after the other

pub cell_within : (cell : Cell) (bytes : ℕ) → cell.bit + cell.width ≤ 8 * bytes → IsWithin bytes (cell_span cell)
cell_within cell bytes inside = record { ordered = omega arith; inside = omega (arith, inside) }

pub fresh_within : (bytes : ℕ) (o : Option Span) → IfSome o (IsWithin bytes) → AreWithin (option_to_list o) bytes
fresh_within bytes None is = All-nil (IsWithin bytes)
fresh_within bytes (Some s) is = All-cons (IsWithin bytes) s [] is (All-nil (IsWithin bytes))

module _ (layout : Layout) (step : Step) (writes : List Write) where
  pub spans_next :
      (i : ℕ) (d : Write) (spans all : List Span) (span : Span) → i < length writes → IsWriteSpan layout step (get_or writes i d) span
      → spans ++ filter_map (write_span layout step) (drop i writes) ≡ all
      → (spans ++ span ∷ []) ++ filter_map (write_span layout step) (drop (i + 1) writes) ≡ all
  spans_next i d spans all span below of so_far =
      let rest = filter_map (write_span layout step) (drop (i + 1) writes) in
      let next : filter_map (write_span layout step) (drop i writes) ≡ span ∷ rest =
      ap (filter_map (write_span layout step)) (drop_more writes i d below) ∙ ap (λ o. cons_option o rest) of.is in
      append_assoc spans (span ∷ []) rest ∙ (ap (λ xs. spans ++ xs) (sym next) ∙ so_far)

  pub spans_end :
      (i : ℕ) (spans all : List Span) → length writes ≤ i → spans ++ filter_map (write_span layout step) (drop i writes) ≡ all → spans ≡ all
  spans_end i spans all past so_far =
      sym (ap (λ ws. spans ++ filter_map (write_span layout step) ws) (drop_all i writes past) ∙ append-nil spans) ∙ so_far

-- ---- what a step must be so that it can be made

module _ (spec : Spec) (layout : Layout) (step : Step) (update : Update) (bytes : ℕ) (can : CanStep spec layout step update bytes) where
  -- each write has its entry
  pub entries_there : (writes : List Write) → writes ≡ update.writes → All (λ w. HasEntry layout step.elem w.path.field (written_index step w)) writes
  entries_there writes same =
      subst (λ ws. All (λ w. HasEntry layout step.elem w.path.field (written_index step w)) ws) (sym same)
      (λ k d below. (can.writes k d below).entry)

  -- the image is as long as the layout says
  pub step_long : bytes ≡ layout.length
  step_long = can.as_long ∙ (built (fixed_value spec.base can.image) spec.base (length can.image) layout can.layout_is.numbers).bytes_are

  -- its fresh record can be reset
  pub can_reset : (count : ℕ) → count ≡ bytes → IfSome step.fresh (λ e. CanReset spec layout e count)
  can_reset count same = of_fresh_record step.fresh can.fresh
    where
      of_fresh_record : (fresh : Option Element) → IfSome fresh (IsSlot layout) → IfSome fresh (λ e. CanReset spec layout e count)
      of_fresh_record None slot = tt
      of_fresh_record (Some e) slot = record {
        typed = can.typed;
        image = can.image;
        layout_is = can.layout_is;
        as_long = same ∙ can.as_long;
        small = subst (λ n. n ≤ 67108864) (sym same) can.small;
        slot = slot;
      }
