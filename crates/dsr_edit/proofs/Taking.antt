-- Writes that are put one after the other, and taken back by putting the values that were there, the
-- last one first.
use Rattle.std.proofs.Common.{◌≡◌, ◌<◌, ◌≤◌, ◌+◌, ◌^◌, ◌∙◌, ℕ, suc, zero, Bool, true, List, [], ◌∷◌, length, drop, take, set, Some, slice_get, refl, sym, ap, subst, arith}
use Rattle.std.proofs.lemmas.List.{length-set}
use Rattle.std.proofs.lemmas.Option.{same_Some}
use Rattle.dsr_edit.specs.Edits.{AreMade, MayWrite}
use Rattle.dsr_edit.specs.Edits.AreMade.{done, made}
use Rattle.dsr_edit.specs.Puts.{IsBetween, LeadsBack}
use Rattle.dsr_edit.specs.Updates.{AreReady, IsReady, writes_of}
use Rattle.dsr_edit.specs.declared.updates.CellPut.{CellPut}
use Rattle.dsr_ir.specs.declared.declarations.Spec.{Spec}
use Rattle.dsr_ir.specs.declared.layouts.Cell.{Cell}
use Rattle.dsr_ir.specs.declared.layouts.Layout.{Layout}
use Rattle.dsr_meaning.specs.Cells.{IsFieldCell, cell_value}
use Rattle.dsr_meaning.specs.Writes.{AreBytes}
use Rattle.dsr_model.specs.Views.{ModelView}
use Rattle.dsr_repair_laws.proofs.PutOnce.{put_once}
use Rattle.dsr_resolve.specs.declared.resolved.Resolved.{Resolved}
use Rattle.dsr_step_theory.specs.Puts.{IsPut}

-- a put is taken back by putting the value that was there
put_back : (cell : Cell) (value : ℕ) (old new : List ℕ) → AreBytes old → IsPut cell value old new → IsPut cell (cell_value old cell) new old
put_back cell value old new bytes one = record {
  puts = record { got = refl; others = λ j outside. sym (one.puts.others j outside); length = sym one.puts.length };
  beside = λ other form apart. sym (one.beside other form apart);
  bytes = bytes;
}

-- ---- items of lists

pub ready_at : (spec : Spec) (layout : Layout) (puts : List CellPut) (place : ℕ) (put : CellPut) → slice_get puts place ≡ Some put → AreReady spec layout puts → IsReady spec layout put
ready_at spec layout [] place put is are = absurd cc
ready_at spec layout (p ∷ puts) zero put is are = subst (IsReady spec layout) (same_Some p put is) are.0
ready_at spec layout (p ∷ puts) (suc place) put is are = ready_at spec layout puts place put is are.1

drop_all : {A : Type 0} (xs : List A) (n : ℕ) → length xs ≤ n → drop n xs ≡ []
drop_all [] zero less = refl
drop_all [] (suc n) less = refl
drop_all (x ∷ xs) zero less = absurd (omega (arith, less))
drop_all (x ∷ xs) (suc n) less = drop_all xs n (omega (arith, less))

drop_next : {A : Type 0} (xs : List A) (i : ℕ) (x : A) → slice_get xs i ≡ Some x → drop i xs ≡ x ∷ drop (suc i) xs
drop_next [] i x is = absurd cc
drop_next (y ∷ ys) zero x is = ap (λ z. z ∷ ys) (same_Some y x is)
drop_next (y ∷ ys) (suc i) x is = drop_next ys i x is

drop_got : {A : Type 0} (xs : List A) (i : ℕ) (x : A) → slice_get xs i ≡ Some x → drop i xs ≡ x ∷ drop (i + 1) xs
drop_got xs i x is = let next : suc i ≡ i + 1 = omega arith in subst (λ n. drop i xs ≡ x ∷ drop n xs) next (drop_next xs i x is)

pub take_whole : {A : Type 0} (xs : List A) (n : ℕ) → length xs ≤ n → take n xs ≡ xs
take_whole [] zero less = refl
take_whole [] (suc n) less = refl
take_whole (x ∷ xs) zero less = absurd (omega (arith, less))
take_whole (x ∷ xs) (suc n) less = ap (λ ys. x ∷ ys) (take_whole xs n (omega (arith, less)))

set_here : {A : Type 0} (xs : List A) (n : ℕ) (x : A) → n < length xs → slice_get (set xs n x) n ≡ Some x
set_here [] n x less = absurd (omega (arith, less))
set_here (y ∷ ys) zero x less = refl
set_here (y ∷ ys) (suc n) x less = set_here ys n x (omega (arith, less))

set_before : {A : Type 0} (xs : List A) (n k : ℕ) (x : A) → k < n → slice_get (set xs n x) k ≡ slice_get xs k
set_before [] zero k x less = absurd (omega (arith, less))
set_before [] (suc n) k x less = refl
set_before (y ∷ ys) zero k x less = absurd (omega (arith, less))
set_before (y ∷ ys) (suc n) zero x less = refl
set_before (y ∷ ys) (suc n) (suc k) x less = set_before ys n k x (omega (arith, less))

-- ---- values that are noted

back_stays : (puts : List CellPut) (was : List ℕ) (place value n : ℕ) (now first : List ℕ) → n ≤ place → LeadsBack puts was n now first → LeadsBack puts (set was place value) n now first
back_stays puts was place value zero now first less back = back
back_stays puts was place value (suc n) now first less back =
    let t = back.1 in (
      back.0,
      record {
        put = t.put;
        put_is = t.put_is;
        value = t.value;
        value_is = set_before was place n value (omega (arith, less)) ∙ t.value_is;
        fits = t.fits;
        taken = t.taken;
      },
      back_stays puts was place value n back.0 first (omega (arith, less)) back.2,
    )

-- so many writes are put, whatever putting the others leads to, all lead to; what is noted of them
-- leads back; and the model is that of the image where it was changed with it
pub record IsNoting (spec : Spec) (layout : Layout) (resolved : List Resolved) (puts : List CellPut) (place : ℕ) (was : List ℕ) (first now : List ℕ) (view : ModelView) (changed : Bool) : Type 0 where
  pub room : length was ≡ length puts
  pub low : place ≤ length puts
  pub goes_on : (end : List ℕ) → AreMade spec layout (writes_of (drop place puts)) now end → AreMade spec layout (writes_of puts) first end
  pub back : LeadsBack puts was place now first
  pub between : IsBetween spec layout resolved now view changed

module _ (spec : Spec) (layout : Layout) (resolved : List Resolved) (puts : List CellPut) where
  pub noting_begins : (was first : List ℕ) (view : ModelView) → length was ≡ length puts → IsBetween spec layout resolved first view true → IsNoting spec layout resolved puts 0 was first first view true
  noting_begins was first view room between = record { room = room; low = omega arith; goes_on = λ end more. more; back = refl; between = between }

  pub noting_more :
      (place : ℕ) (was first now next : List ℕ) (view later : ModelView) (changed still : Bool) (put : CellPut)
      → slice_get puts place ≡ Some put → place < length puts → MayWrite spec layout put.write put.cell
      → (noted : ℕ) → noted ≡ cell_value now put.cell → noted < 2 ^ put.cell.width
      → IsPut put.cell put.write.value now next → IsBetween spec layout resolved next later still
      → IsNoting spec layout resolved puts place was first now view changed
      → IsNoting spec layout resolved puts (place + 1) (set was place noted) first next later still
  noting_more place was first now next view later changed still put is below may noted noted_is fits one between so_far = record {
    room = length-set was place _ ∙ so_far.room;
    low = omega (arith, below);
    goes_on = λ end more. so_far.goes_on end (subst (λ ps. AreMade spec layout (writes_of ps) now end) (sym (drop_got puts place put is)) (made put.write put.cell may one more));
    back = subst (λ n. LeadsBack puts (set was place noted) n next first) after (
      now,
      record {
        put = put;
        put_is = is;
        value = noted;
        value_is = set_here was place noted (let room = so_far.room in omega (arith, below, room));
        fits = fits;
        taken = subst (λ n. IsPut put.cell n next now) (sym noted_is) (put_back put.cell put.write.value now next so_far.between.image.bytes one);
      },
      back_stays puts was place noted place now first (omega arith) so_far.back,
    );
    between = between;
  } where
    after : suc place ≡ place + 1
    after = omega arith

  module _ (place : ℕ) (was first now : List ℕ) (view : ModelView) (changed : Bool) (all : length puts ≤ place) (so_far : IsNoting spec layout resolved puts place was first now view changed) where
    pub noting_made : AreMade spec layout (writes_of puts) first now
    noting_made = so_far.goes_on now (subst (λ ps. AreMade spec layout (writes_of ps) now now) (sym (drop_all puts place all)) done)

    pub noting_back : LeadsBack puts was (length puts) now first
    noting_back = let same : place ≡ length puts = (let low = so_far.low in omega (arith, all, low)) in subst (λ n. LeadsBack puts was n now first) same so_far.back

-- ---- values that are taken back

-- where the values lead from the start, those that are left lead from here; and the model is that of
-- the image where it was changed with it
pub record IsTaking (spec : Spec) (layout : Layout) (resolved : List Resolved) (puts : List CellPut) (was : List ℕ) (place : ℕ) (start now : List ℕ) (view : ModelView) (changed : Bool) : Type 0 where
  pub low : place ≤ length puts
  pub leads : (first : List ℕ) → LeadsBack puts was (length puts) start first → LeadsBack puts was place now first
  pub between : IsBetween spec layout resolved now view changed

module _ (spec : Spec) (layout : Layout) (resolved : List Resolved) (puts : List CellPut) (was start : List ℕ) where
  pub taking_begins : (view : ModelView) → IsBetween spec layout resolved start view true → IsTaking spec layout resolved puts was (length puts) start start view true
  taking_begins view between = record { low = omega arith; leads = λ first back. back; between = between }

  module _ (place left : ℕ) (left_is : place ≡ suc left) (now : List ℕ) (view : ModelView) (changed : Bool) (so_far : IsTaking spec layout resolved puts was place start now view changed) (put : CellPut) (put_is : slice_get puts left ≡ Some put) (value : ℕ) (value_is : slice_get was left ≡ Some value) where
    -- what is taken back leads from here
    one_back : (first : List ℕ) → LeadsBack puts was (length puts) start first → LeadsBack puts was (suc left) now first
    one_back first back = subst (λ n. LeadsBack puts was n now first) left_is (so_far.leads first back)

    pub taken_fits : ((first : List ℕ) × LeadsBack puts was (length puts) start first) → value < 2 ^ put.cell.width
    taken_fits some =
        let t = (one_back some.0 some.1).1 in
        let same : t.put ≡ put = same_Some t.put put (sym t.put_is ∙ put_is) in
        let number : t.value ≡ value = same_Some t.value value (sym t.value_is ∙ value_is) in
        subst (λ (p : CellPut). value < 2 ^ p.cell.width) same (subst (λ n. n < 2 ^ t.put.cell.width) number t.fits)

    pub taking_more : (next : List ℕ) (later : ModelView) (still : Bool) → IsFieldCell put.cell → IsPut put.cell value now next → IsBetween spec layout resolved next later still → IsTaking spec layout resolved puts was left start next later still
    taking_more next later still form one between = record { low = (let low = so_far.low in omega (arith, low, left_is)); leads = leads; between = between } where
      leads : (first : List ℕ) → LeadsBack puts was (length puts) start first → LeadsBack puts was left next first
      leads first back =
          let h = one_back first back in
          let t = h.1 in
          let same : t.put ≡ put = same_Some t.put put (sym t.put_is ∙ put_is) in
          let number : t.value ≡ value = same_Some t.value value (sym t.value_is ∙ value_is) in
          let taken : IsPut put.cell value now h.0 = subst (λ n. IsPut put.cell n now h.0) number (subst (λ (p : CellPut). IsPut p.cell t.value now h.0) same t.taken) in
          subst (λ b. LeadsBack puts was left b first) (put_once put.cell value now h.0 next form taken one) h.2

  pub taking_ends : (place : ℕ) (now : List ℕ) (view : ModelView) (changed : Bool) → place ≤ 0 → IsTaking spec layout resolved puts was place start now view changed → (first : List ℕ) → LeadsBack puts was (length puts) start first → now ≡ first
  taking_ends zero now view changed none so_far first back = so_far.leads first back
  taking_ends (suc place) now view changed none so_far first back = absurd (omega (arith, none))
