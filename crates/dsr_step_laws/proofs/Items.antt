-- What holds of each item of a list that is written out, and names that differ.
use Rattle.std.proofs.Common.{◌≡◌, ◌&&◌, ◌∙◌, ℕ, zero, suc, nat_eq, Bool, true, false, List, [], ◌∷◌, Some, slice_get, All, refl, sym, ap, subst, arith}
use Rattle.std.proofs.lemmas.Bool.Decides.{nat_tests}
use Rattle.std.proofs.lemmas.List.Elements.{All-cons, All-nil}
use Rattle.std.proofs.lemmas.Option.{same_Some}
use Rattle.dsr_meaning.specs.Typed.{AreDifferent}

-- each item of the list is such a one, by its number
abbrev pub Each : {T : Type 0} → (ℕ → T → Type 0) → List T → Type 0
Each P [] = Unit {0}
Each P (x ∷ xs) = P zero x × Each (λ i. P (suc i)) xs

pub each_is : {T : Type 0} (P : ℕ → T → Type 0) (xs : List T) → Each P xs → (i : ℕ) (x : T) → slice_get xs i ≡ Some x → P i x
each_is P [] h i x e = absurd cc
each_is P (y ∷ ys) h zero x e = subst (P zero) (same_Some y x e) h.0
each_is P (y ∷ ys) h (suc i) x e = each_is (λ j. P (suc j)) ys h.1 i x e

-- each item of the list is such a one
abbrev pub Such : {T : Type 0} → (T → Type 0) → List T → Type 0
Such P [] = Unit {0}
Such P (x ∷ xs) = P x × Such P xs

pub all_such : {T : Type 0} (P : T → Type 0) (xs : List T) → Such P xs → All P xs
all_such P [] h = All-nil P
all_such P (x ∷ xs) h = All-cons P x xs h.0 (all_such P xs h.1)

-- ---- names

abbrev pub is_same : List ℕ → List ℕ → Bool
is_same [] [] = true
is_same (x ∷ xs) (y ∷ ys) = nat_eq x y && is_same xs ys
is_same _ _ = false

same_itself : (xs : List ℕ) → is_same xs xs ≡ true
same_itself [] = refl
same_itself (x ∷ xs) =
    let one : nat_eq x x ≡ true = grind (arith, nat_tests) in
    ap (λ b. b && is_same xs xs) one ∙ same_itself xs

pub differ : (a b : List ℕ) → is_same a b ≡ false → a ≡ b → ⊥
differ a b apart same =
    let bad : true ≡ false = sym (same_itself a) ∙ (ap (is_same a) same ∙ apart) in
    absurd cc

-- each name differs from those behind it
abbrev pub AreApart : List (List ℕ) → Type 0
AreApart [] = Unit {0}
AreApart (x ∷ xs) = Such (λ y. is_same x y ≡ false) xs × AreApart xs

apart_from : (x : List ℕ) (xs : List (List ℕ)) → Such (λ y. is_same x y ≡ false) xs → (i : ℕ) → slice_get xs i ≡ Some x → ⊥
apart_from x [] h i e = absurd cc
apart_from x (y ∷ ys) h zero e = differ x y h.0 (sym (same_Some y x e))
apart_from x (y ∷ ys) h (suc i) e = apart_from x ys h.1 i e

pub are_different : (names : List (List ℕ)) → AreApart names → AreDifferent names
are_different [] h i j name at_i at_j = absurd cc
are_different (x ∷ xs) h zero zero name at_i at_j = refl
are_different (x ∷ xs) h zero (suc j) name at_i at_j =
    absurd (apart_from x xs h.0 j (at_j ∙ ap Some (sym (same_Some x name at_i))))
are_different (x ∷ xs) h (suc i) zero name at_i at_j =
    absurd (apart_from x xs h.0 i (at_i ∙ ap Some (sym (same_Some x name at_j))))
are_different (x ∷ xs) h (suc i) (suc j) name at_i at_j = ap suc (are_different xs h.1 i j name at_i at_j)
