-- Which of some writes is that of a field, if any is.
use Rattle.std.proofs.Common.{◌≡◌, ◌∙◌, Bool, true, false, nat_eq, List, [], ◌∷◌, Option, None, Some, inl, inr, refl, sym, ap, subst}
use Rattle.std.specs.Prelude.{is_some, ◌&&◌, if◌then◌else◌}
use Rattle.std.specs.List.{find}
use Rattle.std.proofs.lemmas.Bool.{and_parts, eq-eqb, eqb-true, false≢true, or_cases}
use Rattle.std.proofs.lemmas.Option.{same_Some}
use Rattle.dsr_ir.specs.declared.declarations.FieldRef.{FieldRef}
use Rattle.dsr_ir.specs.declared.updates.Write.{Write}
use Rattle.dsr_meaning.specs.Counting.{IsIn}
use Rattle.dsr_meaning.specs.Lists.{any_of}
use Rattle.dsr_update_theory.specs.Templates.{is_same_field}

pub field_same : (a b : FieldRef) → is_same_field a b ≡ true → a ≡ b
field_same a b e =
    let both = and_parts (nat_eq a.structure b.structure) (nat_eq a.field b.field) e in
    let one = eqb-true a.structure b.structure both.0 in
    let two = eqb-true a.field b.field both.1 in
    λ k. record { structure = one k; field = two k }

pub same_field : (a b : FieldRef) → a ≡ b → is_same_field a b ≡ true
same_field a b e = subst (λ x. is_same_field a x ≡ true) e (itself a) where
  itself : (x : FieldRef) → is_same_field x x ≡ true
  itself x = subst (λ t. (t && nat_eq x.field x.field) ≡ true) (sym (eq-eqb x.structure x.structure refl)) (eq-eqb x.field x.field refl)

-- what is found is an item that passes, and where nothing is found none passes
pub found_in : (test : Write → Bool) (ws : List Write) (w : Write) → find test ws ≡ Some w → IsIn w ws × (test w ≡ true)
found_in test [] w e = absurd cc
found_in test (v ∷ ws) w e = elim (test v) as (λ b. test v ≡ b → (if b then Some v else find test ws) ≡ Some w → IsIn w (v ∷ ws) × (test w ≡ true)) [
  | true ↦ λ passes q. let same : v ≡ w = same_Some v w q in (inl (sym same), subst (λ x. test x ≡ true) same passes)
  | false ↦ λ _ q. let rest = found_in test ws w q in (inr rest.0, rest.1)
] refl e

pub not_found : (test : Write → Bool) (ws : List Write) → find test ws ≡ None → (w : Write) → IsIn w ws → test w ≡ false
not_found test [] e w i = absurd i
not_found test (v ∷ ws) e w i = elim (test v) as (λ b. test v ≡ b → (if b then Some v else find test ws) ≡ None → test w ≡ false) [
  | true ↦ λ _ q. absurd cc
  | false ↦ λ fails q. elim i as (λ _. test w ≡ false) [ inl same ↦ ap test same ∙ fails | inr later ↦ not_found test ws q w later ]
] refl e

-- some item passes
pub some_of : {A : Type 0} (test : A → Bool) (xs : List A) → any_of test xs ≡ true → (x : A) × IsIn x xs × (test x ≡ true)
some_of {A} test [] e = absurd cc
some_of {A} test (x ∷ xs) e = elim (or_cases (test x) (any_of test xs) e) as (λ _. (y : A) × IsIn y (x ∷ xs) × (test y ≡ true)) [
  | inl here ↦ (x, inl refl, here)
  | inr later ↦ let r = some_of test xs later in (r.0, inr r.1, r.2)
]

pub no_some : {A : Type 0} (o : Option A) → is_some o ≡ false → o ≡ None
no_some None e = refl
no_some (Some x) e = absurd (false≢true (sym e))

pub some_there : {A : Type 0} (o : Option A) → is_some o ≡ true → (x : A) × (o ≡ Some x)
some_there None e = absurd (false≢true e)
some_there (Some x) e = (x, refl)
