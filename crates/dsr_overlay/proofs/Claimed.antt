-- Pages become owned one after the other.
use Rattle.std.proofs.Common.{◌≡◌, ◌⊎◌, ◌≤◌, ◌<◌, ◌+◌, ◌*◌, ◌/◌, ℕ, true, false, length, get_or, inl, inr, Result, Ok, Err, refl, sym, ap, ◌∙◌, arith}
use Rattle.std.proofs.Math.ListN.{set}
use Rattle.std.specs.Prelude.{OnErr}
use Rattle.std.proofs.lemmas.Bool.{cases_eq, cases_lt}
use Rattle.std.proofs.lemmas.List.{get_or-set_other, get_or-set_same}
use Rattle.dsr_image.specs.Images.{AreClaimed, StayClaimed}
use Rattle.dsr_overlay.specs.Overlays.{IsTouched, Overlaid, is_owned}

-- the pages from that of a byte on, before one, became owned, and nothing else changed
pub record Claims (at number : ℕ) (old new : Overlaid) : Type 0 where
  pub bytes : new.bytes ≡ old.bytes
  pub kept : (p : ℕ) → get_or old.owned p false ≡ true → get_or new.owned p false ≡ true
  pub owned : (p : ℕ) → at / 4096 ≤ p → p < number → get_or new.owned p false ≡ true
  pub only : (p : ℕ) → get_or new.owned p false ≡ true → (get_or old.owned p false ≡ true) ⊎ ((at / 4096 ≤ p) × (p < number))

pub begins : (at : ℕ) (v : Overlaid) → Claims at (at / 4096) v v
begins at v = record {
  bytes = refl;
  kept = λ p e. e;
  owned = λ p ge lt. absurd (omega arith);
  only = λ p e. inl e;
}

pub more : (at number : ℕ) (old mid new : Overlaid) → Claims at number old mid → at / 4096 ≤ number → number < length mid.owned → new.bytes ≡ mid.bytes → new.owned ≡ set mid.owned number true → Claims at (number + 1) old new
more at number old mid new so from there same e =
    let here : get_or new.owned number false ≡ true = ap (λ xs. get_or xs number false) e ∙ get_or-set_same mid.owned number true false there in
    record {
      bytes = same ∙ so.bytes;
      kept = λ p was. elim (cases_eq p number) [
        | inl is ↦ ap (λ k. get_or new.owned k false) is ∙ here
        | inr other ↦ ap (λ xs. get_or xs p false) e ∙ get_or-set_other mid.owned number p true false other ∙ so.kept p was
      ];
      owned = λ p ge lt. elim (cases_eq p number) [
        | inl is ↦ ap (λ k. get_or new.owned k false) is ∙ here
        | inr other ↦ ap (λ xs. get_or xs p false) e ∙ get_or-set_other mid.owned number p true false other ∙ so.owned p ge (omega arith)
      ];
      only = λ p now. elim (cases_eq p number) [
        | inl is ↦ inr (omega arith, omega arith)
        | inr other ↦ elim (so.only p (sym (ap (λ xs. get_or xs p false) e ∙ get_or-set_other mid.owned number p true false other) ∙ now)) [
          | inl was ↦ inl was
          | inr between ↦ inr (between.0, omega (arith, between.1))
        ]
      ];
    }

module _ (at count end : ℕ) (old new : Overlaid) (some : 1 ≤ count) (last : end ≡ (at + count + 4095) / 4096) where
  -- all that were to become owned are
  pub are_claimed : Claims at end old new → AreClaimed (is_owned 4096 new) at count
  are_claimed so i from before = so.owned (i / 4096) (omega arith) (omega arith)

  module _ (number : ℕ) (so : Claims at number old new) where
    pub stay : StayClaimed (is_owned 4096 old) (is_owned 4096 new)
    stay i was = so.kept (i / 4096) was

    pub touched : number ≤ end → (p : ℕ) → get_or new.owned p false ≡ true → (get_or old.owned p false ≡ true) ⊎ IsTouched 4096 at count p
    touched le p now = elim (so.only p now) [
      | inl was ↦ inl was
      | inr between ↦ inr (between.0, omega (arith, between.1))
    ]

    -- where the next one isn't owned not all of the range was
    pub not_all : at / 4096 ≤ number → number < end → get_or new.owned number false ≡ false → AreClaimed (is_owned 4096 old) at count → ⊥
    not_all from lt none all = elim (cases_lt at (4096 * number)) [
      | inl before ↦
          let place : 4096 * number / 4096 ≡ number = omega arith in
          let now : get_or new.owned number false ≡ true = so.kept number (ap (λ k. get_or old.owned k false) (sym place) ∙ all (4096 * number) (omega arith) (omega arith)) in
          cc
      | inr behind ↦
          let place : at / 4096 ≡ number = omega arith in
          let now : get_or new.owned number false ≡ true = so.kept number (ap (λ k. get_or old.owned k false) (sym place) ∙ all at (omega arith) (omega arith)) in
          cc
    ]

-- what holds anyway holds of an error
pub on_error : {T E P : Type 0} (r : Result T E) → P → OnErr r P
on_error (Ok x) p = tt
on_error (Err e) p = p
