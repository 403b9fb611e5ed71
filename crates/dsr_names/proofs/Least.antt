-- The fault that is told is one that was found, and none that was found is before it.
use Rattle.std.proofs.Common.{◌≡◌, inl, inr, ℕ, Bool, true, false, ◌&&◌, ◌||◌, nat_eq, nat_lt, List, [], ◌∷◌, None, Some, if◌then◌else◌, refl, sym, ◌∙◌, subst, arith}
use Rattle.std.proofs.lemmas.Grind.{common_steps}
use Rattle.dsr_tree.specs.Faults.{kind_number, is_before}
use Rattle.dsr_tree.specs.declared.faults.Fault.{Fault}
use Rattle.dsr_meaning.specs.Counting.{IsIn}
use Rattle.dsr_language_theory.specs.Faults.{IsToldOf}
use Rattle.dsr_names.specs.Telling.{told_after}

-- by place, then by kind
abbrev earlier : ℕ → ℕ → ℕ → ℕ → Bool
earlier p k q l = nat_lt p q || (nat_eq p q && nat_lt k l)

-- this order is strict, and total where numbers differ
earlier_self : (p k : ℕ) → earlier p k p k ≡ false
earlier_self p k = grind (arith, common_steps)

earlier_once : (p k q l : ℕ) → earlier p k q l ≡ true → earlier q l p k ≡ false
earlier_once p k q l e = grind (arith, common_steps)

earlier_both : (p k q l r m : ℕ) → earlier q l p k ≡ true → earlier r m q l ≡ true → earlier r m p k ≡ true
earlier_both p k q l r m e f = grind (arith, common_steps)

earlier_never : (p k q l r m : ℕ) → earlier q l p k ≡ false → earlier r m q l ≡ false → earlier r m p k ≡ false
earlier_never p k q l r m e f = grind (arith, common_steps)

-- no fault is before itself
not_self : (f : Fault) → is_before f f ≡ false
not_self f = earlier_self f.place (kind_number f.condition)

-- of two faults one at most is before the other one
once : (f g : Fault) → is_before f g ≡ true → is_before g f ≡ false
once f g = earlier_once f.place (kind_number f.condition) g.place (kind_number g.condition)

-- where g is before f, and h before g, h is before f
pub both : (f g h : Fault) → is_before g f ≡ true → is_before h g ≡ true → is_before h f ≡ true
both f g h = earlier_both f.place (kind_number f.condition) g.place (kind_number g.condition) h.place (kind_number h.condition)

-- where g isn't before f, nor h before g, h isn't before f
pub never : (f g h : Fault) → is_before g f ≡ false → is_before h g ≡ false → is_before h f ≡ false
never f g h = earlier_never f.place (kind_number f.condition) g.place (kind_number g.condition) h.place (kind_number h.condition)

-- none of a list is before a fault where two and the others aren't
none_of : (a b f : Fault) (fs : List Fault) → is_before a f ≡ false → is_before b f ≡ false → ((g : Fault) → IsIn g fs → is_before g f ≡ false) → (g : Fault) → IsIn g (a ∷ b ∷ fs) → is_before g f ≡ false
none_of a b f fs p q r g (inl e) = subst (λ x. is_before x f ≡ false) (sym e) p
none_of a b f fs p q r g (inr (inl e)) = subst (λ x. is_before x f ≡ false) (sym e) q
none_of a b f fs p q r g (inr (inr i)) = r g i

-- behind a first fault that stands in the list, one more
held_in : (a b f : Fault) (fs : List Fault) → IsIn f (a ∷ fs) → IsIn f (a ∷ b ∷ fs)
held_in a b f fs (inl e) = inl e
held_in a b f fs (inr i) = inr (inr i)

-- alone with itself none is before it
only : (a f : Fault) → a ≡ f → (g : Fault) → IsIn g (a ∷ []) → is_before g f ≡ false
only a f is g (inl e) = subst (λ x. is_before x f ≡ false) (sym (e ∙ is)) (not_self f)
only a f is g (inr i) = absurd i

-- what is told behind a first fault is told of all
least : (a : Fault) (fs : List Fault) (f : Fault) → told_after (Some a) fs ≡ Some f → IsToldOf (a ∷ fs) f
least a [] f e = let is : a ≡ f = cc in record { held = inl (sym is); none_before = only a f is }
least a (b ∷ fs) f e =
    elim (is_before b a) as (λ t. is_before b a ≡ t → told_after (if t then Some b else Some a) fs ≡ Some f → IsToldOf (a ∷ b ∷ fs) f) [
      | true ↦ λ earlier h.
          let t = least b fs f h in
          let not_b = t.none_before b (inl refl) in
          record { held = inr t.held; none_before = none_of a b f fs (never f b a not_b (once b a earlier)) not_b (λ g i. t.none_before g (inr i)) }
      | false ↦ λ later h.
          let t = least a fs f h in
          let not_a = t.none_before a (inl refl) in
          record { held = held_in a b f fs t.held; none_before = none_of a b f fs not_a (never f a b not_a later) (λ g i. t.none_before g (inr i)) }
    ] refl e

-- what is told is told of the list
pub told : (fs : List Fault) (f : Fault) → told_after None fs ≡ Some f → IsToldOf fs f
told [] f e = absurd cc
told (a ∷ fs) f e = least a fs f e

-- where one was found, one is told
some_stays : (a : Fault) (fs : List Fault) → told_after (Some a) fs ≡ None → ⊥
some_stays a [] e = absurd cc
some_stays a (b ∷ fs) e = elim (is_before b a) as (λ t. told_after (if t then Some b else Some a) fs ≡ None → ⊥) [ true ↦ some_stays b fs | false ↦ some_stays a fs ] e

-- where none is told, none was found
pub none_told : (fs : List Fault) → told_after None fs ≡ None → fs ≡ []
none_told [] e = refl
none_told (a ∷ fs) e = absurd (some_stays a fs e)
