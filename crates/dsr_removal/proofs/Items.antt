-- One more behind those that stand in order.
use Rattle.std.proofs.Common.{◌≡◌, ◌++◌, inl, inr, ℕ, zero, suc, List, [], ◌∷◌, Some, slice_get, refl, sym, ap, subst}
use Rattle.dsr_meaning.proofs.Lists.{in_front_or_last}
use Rattle.dsr_meaning.specs.Counting.{IsDistinct, IsIn}
use Rattle.dsr_plan_theory.specs.StuckSets.{AreInOrder, numbers_of}
use Rattle.dsr_plan_theory.specs.declared.refusals.StuckMember.{StuckMember}

pub in_order_more : {A : Type 0} (Comes : A → A → Type 0) (xs : List A) (y : A) → AreInOrder Comes xs → ((x : A) → IsIn x xs → Comes x y) → AreInOrder Comes (xs ++ y ∷ [])
in_order_more Comes [] y order before = (λ z none. absurd none, tt)
in_order_more Comes (x ∷ xs) y order before = (
  λ z among. elim (in_front_or_last y z xs among) as (λ _. Comes x z) [
    | inl front ↦ order.0 z front
    | inr last ↦ subst (Comes x) (sym last) (before x (inl refl))
  ],
  in_order_more Comes xs y order.1 (λ w there. before w (inr there)),
)

pub distinct_more : {A : Type 0} (x : A) (xs : List A) → IsDistinct xs → (IsIn x xs → ⊥) → IsDistinct (xs ++ x ∷ [])
distinct_more x [] distinct other = (λ h. absurd h, tt)
distinct_more x (z ∷ xs) distinct other = (
  λ h. elim (in_front_or_last x z xs h) [
    | inl front ↦ distinct.0 front
    | inr last ↦ other (inl (sym last))
  ],
  distinct_more x xs distinct.1 (λ h. other (inr h)),
)

-- ---- numbers of members

pub numbers_more : (members : List StuckMember) (member : StuckMember) → numbers_of (members ++ member ∷ []) ≡ numbers_of members ++ member.constraint ∷ []
numbers_more [] member = refl
numbers_more (m ∷ members) member = ap (λ ns. m.constraint ∷ ns) (numbers_more members member)

-- a number is that of a member, and a member's number is among them
pub member_of : (members : List StuckMember) (n : ℕ) → IsIn n (numbers_of members) → (member : StuckMember) × IsIn member members × (member.constraint ≡ n)
member_of [] n among = absurd among
member_of (m ∷ members) n (inl same) = (m, inl refl, sym same)
member_of (m ∷ members) n (inr later) = let its = member_of members n later in (its.0, inr its.1, its.2)

pub number_in : (members : List StuckMember) (member : StuckMember) → IsIn member members → IsIn member.constraint (numbers_of members)
number_in [] member among = absurd among
number_in (m ∷ members) member (inl same) = inl (ap (λ x. x.constraint) same)
number_in (m ∷ members) member (inr later) = inr (number_in members member later)

pub first_in : (numbers : List ℕ) (n : ℕ) → slice_get numbers 0 ≡ Some n → IsIn n numbers
first_in [] n here = absurd cc
first_in (m ∷ numbers) n here = inl cc
