use Rattle.std.proofs.Common.{◌≡◌, ◌<◌, ◌+◌, ◌-◌, ℕ, suc, List, ◌∷◌, drop, take, map, length, get_or, Option, true, is_some, None, sym, ap, ◌∙◌, add-one}
use Rattle.std.proofs.lemmas.List.{take_rest}
use Rattle.dsr_meaning.specs.Lists.{each_at}
use Rattle.dsr_meaning.specs.Refusals.{Overlap, refused_when, share_byte, overlaps}
use Rattle.dsr_layout.specs.Ranges.{range_of}
use Rattle.dsr_layout.specs.Telling.{told_of}
use Rattle.dsr_layout.specs.declared.faults.LayoutFault.{LayoutFault}
use Rattle.dsr_layout.specs.declared.pool_checks.ByteRange.{ByteRange}
use Rattle.dsr_layout.proofs.Items.{drop_item, item_is}
use Rattle.dsr_layout.proofs.Looking.{is_none, told_first, told_second}
use Rattle.dsr_layout.proofs.pool_checks.first_overlap.Goals as goal

module _ (ranges : List ByteRange) (i : ℕ) (range : ByteRange) (lt : i < length ranges) (is : range ≡ get_or ranges i range) {o : Option LayoutFault} (found : o ≡ told_of (each_at (λ q r. refused_when (share_byte (range_of range) r) (Overlap i q)) (suc i) (map range_of (take (length ranges - (i + 1)) (drop (i + 1) ranges))))) where
  -- what the range at i and the later ones give
  found_with : o ≡ told_of (each_at (λ q r. refused_when (share_byte (range_of range) r) (Overlap i q)) (suc i) (map range_of (drop (i + 1) ranges)))
  found_with = found ∙ ap (λ rs. told_of (each_at (λ q r. refused_when (share_byte (range_of range) r) (Overlap i q)) (suc i) (map range_of rs))) (take_rest ranges (i + 1))

  split : overlaps i (map range_of (drop i ranges)) ≡ overlaps i (map range_of (range ∷ drop (i + 1) ranges))
  split = ap (λ rs. overlaps i (map range_of rs)) (drop_item ranges i range lt is)

  told_here : true ≡ is_some o → o ≡ told_of (overlaps i (map range_of (drop i ranges)))
  told_here some = told_first _ (overlaps (suc i) (map range_of (drop (i + 1) ranges))) some found_with ∙ sym (ap told_of split)

  told_later : None ≡ o → told_of (overlaps (i + 1) (map range_of (drop (i + 1) ranges))) ≡ told_of (overlaps i (map range_of (drop i ranges)))
  told_later none =
      ap (λ n. told_of (overlaps n (map range_of (drop (i + 1) ranges)))) (add-one i)
      ∙ sym (told_second _ (overlaps (suc i) (map range_of (drop (i + 1) ranges))) (none ∙ found_with))
      ∙ sym (ap told_of split)

pub returns-then-is_some : goal.returns-then-is_some
returns-then-is_some c =
    told_here c.args.ranges.now c.loop-i.i _ c.loop-i-test.true (item_is c.args.ranges.now c.loop-i.i _ c.loop-i-test.true) c.overlap_with-fault.ensures c.if-is_some.ensures
    ∙ c.loop-i.invariant

pub loop-i-preserved : goal.loop-i-preserved
loop-i-preserved c =
    told_later c.args.ranges.now c.loop-i.i _ c.loop-i-test.true (item_is c.args.ranges.now c.loop-i.i _ c.loop-i-test.true) c.overlap_with-fault.ensures (is_none c.if-is_some.ensures)
    ∙ c.loop-i.invariant
