-- Items of lists: where they stand, and among those of lists that are made of others.
use Rattle.std.proofs.Common.{◌≡◌, ◌+◌, ◌⊎◌, ◌∙◌, ℕ, zero, suc, Bool, true, false, nat_eq, List, [], ◌∷◌, ◌++◌, length, map, take, All, Option, None, Some, inl, inr, refl, sym, ap, subst, arith, ◌<◌}
use Rattle.std.specs.Prelude.{slice_get, if◌then◌else◌, ◌||◌}
use Rattle.std.specs.List.{cons_option, filter_map, flat_map}
use Rattle.std.proofs.lemmas.Bool.{or_parts}
use Rattle.std.proofs.lemmas.Bool.Decides.{nat_tests}
use Rattle.std.proofs.lemmas.List.Elements.{All-cons, All-head, All-nil, All-tail}
use Rattle.std.proofs.lemmas.Option.{same_Some}
use Rattle.dsr_meaning.specs.Counting.{IsIn}
use Rattle.dsr_meaning.specs.Lists.{any_of, each_at}

-- ---- what holds of each item

-- what holds of all holds of each
pub of_all : {A : Type 0} (P : A → Type 0) (xs : List A) (x : A) → All P xs → IsIn x xs → P x
of_all P [] x all is_in = absurd is_in
of_all P (y ∷ xs) x all (inl same) = subst P (sym same) (All-head P y xs all)
of_all P (y ∷ xs) x all (inr later) = of_all P xs x (All-tail P y xs all) later

-- and what holds of each holds of all
pub all_of : {A : Type 0} (P : A → Type 0) (xs : List A) → ((x : A) → IsIn x xs → P x) → All P xs
all_of P [] each = All-nil P
all_of P (x ∷ xs) each = All-cons P x xs (each x (inl refl)) (all_of P xs (λ y later. each y (inr later)))

-- where not any passes, none does
pub none_of : {A : Type 0} (test : A → Bool) (xs : List A) → any_of test xs ≡ false → (x : A) → IsIn x xs → test x ≡ false
none_of test [] e x is_in = absurd is_in
none_of test (y ∷ ys) e x (inl same) = ap test same ∙ (or_parts (test y) (any_of test ys) e).0
none_of test (y ∷ ys) e x (inr later) = none_of test ys (or_parts (test y) (any_of test ys) e).1 x later

-- ---- places

-- an item stands at some place
pub place_of : {A : Type 0} (xs : List A) (x : A) → IsIn x xs → (i : ℕ) × (slice_get xs i ≡ Some x)
place_of [] x is_in = absurd is_in
place_of (y ∷ ys) x (inl same) = (zero, ap Some (sym same))
place_of (y ∷ ys) x (inr later) = let at = place_of ys x later in (suc at.0, at.1)

-- below its length a list has an item
pub item_there : {A : Type 0} (xs : List A) (i : ℕ) → i < length xs → (x : A) × (slice_get xs i ≡ Some x)
item_there [] i less = absurd (omega (arith, less))
item_there (x ∷ xs) zero less = (x, refl)
item_there (x ∷ xs) (suc i) less = item_there xs i (omega (arith, less))

-- and what stands at a place is an item
pub item_at : {A : Type 0} (xs : List A) (i : ℕ) (x : A) → slice_get xs i ≡ Some x → IsIn x xs
item_at [] i x is = absurd cc
item_at (y ∷ ys) zero x is = inl (sym (same_Some y x is))
item_at (y ∷ ys) (suc i) x is = inr (item_at ys i x is)

-- the only item of a list stands at 0
pub only_item : {A : Type 0} (x : A) (n : ℕ) (y : A) → slice_get (x ∷ []) n ≡ Some y → (n ≡ 0) × (y ≡ x)
only_item x zero y e = (refl, sym (same_Some x y e))
only_item x (suc n) y e = absurd cc

-- ---- lists of which one is a part

pub in_left : {A : Type 0} (x : A) (xs ys : List A) → IsIn x xs → IsIn x (xs ++ ys)
in_left x [] ys is_in = absurd is_in
in_left x (y ∷ xs) ys (inl same) = inl same
in_left x (y ∷ xs) ys (inr later) = inr (in_left x xs ys later)

pub in_right : {A : Type 0} (x : A) (xs ys : List A) → IsIn x ys → IsIn x (xs ++ ys)
in_right x [] ys is_in = is_in
in_right x (y ∷ xs) ys is_in = inr (in_right x xs ys is_in)

pub in_either : {A : Type 0} (x : A) (xs ys : List A) → IsIn x (xs ++ ys) → IsIn x xs ⊎ IsIn x ys
in_either x [] ys is_in = inr is_in
in_either x (y ∷ xs) ys (inl same) = inl (inl same)
in_either x (y ∷ xs) ys (inr later) = elim (in_either x xs ys later) as (λ _. IsIn x (y ∷ xs) ⊎ IsIn x ys) [ inl front ↦ inl (inr front) | inr behind ↦ inr behind ]

-- an item of the first so many
pub in_take : {A : Type 0} (n : ℕ) (xs : List A) (x : A) → IsIn x (take n xs) → IsIn x xs
in_take zero [] x is_in = absurd is_in
in_take zero (y ∷ ys) x is_in = absurd is_in
in_take (suc n) [] x is_in = absurd is_in
in_take (suc n) (y ∷ ys) x (inl same) = inl same
in_take (suc n) (y ∷ ys) x (inr later) = inr (in_take n ys x later)

-- where a list stands only if a test is passed, or only if it fails
pub passed_in : {T : Type 0} (b : Bool) (xs : List T) (y : T) → IsIn y (if b then xs else []) → (b ≡ true) × IsIn y xs
passed_in true xs y is_in = (refl, is_in)
passed_in false xs y is_in = absurd is_in

pub failed_in : {T : Type 0} (b : Bool) (xs : List T) (y : T) → IsIn y (if b then [] else xs) → IsIn y xs
failed_in true xs y is_in = absurd is_in
failed_in false xs y is_in = is_in

-- ---- items that are made of others

-- what an item of a mapped list is made of
pub record IsMapped {A B : Type 0} (f : A → B) (xs : List A) (y : B) : Type 0 where
  pub from : A
  pub among : IsIn from xs
  pub is : y ≡ f from

pub in_map : {A B : Type 0} (f : A → B) (xs : List A) (y : B) → IsIn y (map f xs) → IsMapped f xs y
in_map f [] y is_in = absurd is_in
in_map f (x ∷ xs) y (inl same) = record { from = x; among = inl refl; is = same }
in_map f (x ∷ xs) y (inr later) =
    let rest = in_map f xs y later in
    record { from = rest.from; among = inr rest.among; is = rest.is }

pub map_in : {A B : Type 0} (f : A → B) (x : A) (xs : List A) → IsIn x xs → IsIn (f x) (map f xs)
map_in f x [] is_in = absurd is_in
map_in f x (y ∷ xs) (inl same) = inl (ap f same)
map_in f x (y ∷ xs) (inr later) = inr (map_in f x xs later)

-- what stands at a place of a list that is mapped
pub mapped_at : {A B : Type 0} (f : A → B) (xs : List A) (n : ℕ) (y : B) → slice_get (map f xs) n ≡ Some y → (x : A) × ((slice_get xs n ≡ Some x) × (y ≡ f x))
mapped_at f [] n y e = absurd cc
mapped_at f (x ∷ xs) zero y e = (x, (refl, sym (same_Some (f x) y e)))
mapped_at f (x ∷ xs) (suc n) y e = mapped_at f xs n y e

-- an item of one of the lists that items are made to
pub record IsOfOne {A B : Type 0} (f : A → List B) (xs : List A) (y : B) : Type 0 where
  pub from : A
  pub among : IsIn from xs
  pub is_in : IsIn y (f from)

pub in_flat : {A B : Type 0} (f : A → List B) (xs : List A) (y : B) → IsIn y (flat_map f xs) → IsOfOne f xs y
in_flat f [] y is_in = absurd is_in
in_flat f (x ∷ xs) y is_in = elim (in_either y (f x) (flat_map f xs) is_in) [
  | inl here ↦ record { from = x; among = inl refl; is_in = here }
  | inr later ↦
      let rest = in_flat f xs y later in
      record { from = rest.from; among = inr rest.among; is_in = rest.is_in }
]

-- one of what the items with their numbers are made to
pub record IsOfNumbered {S T : Type 0} (f : ℕ → S → List T) (n : ℕ) (xs : List S) (y : T) : Type 0 where
  pub at : ℕ
  pub number : ℕ
  pub number_is : number ≡ n + at
  pub item : S
  pub item_is : slice_get xs at ≡ Some item
  pub is_in : IsIn y (f number item)

pub in_each_at : {S T : Type 0} (f : ℕ → S → List T) (n : ℕ) (xs : List S) (y : T) → IsIn y (each_at f n xs) → IsOfNumbered f n xs y
in_each_at f n [] y is_in = absurd is_in
in_each_at f n (x ∷ xs) y is_in = elim (in_either y (f n x) (each_at f (suc n) xs) is_in) [
  | inl here ↦ record { at = 0; number = n; number_is = omega arith; item = x; item_is = refl; is_in = here }
  | inr later ↦
      let rest = in_each_at f (suc n) xs y later in
      let is = rest.number_is in
      record { at = suc rest.at; number = rest.number; number_is = omega (arith, is); item = rest.item; item_is = rest.item_is; is_in = rest.is_in }
]

pub at_each : {S T : Type 0} (f : ℕ → S → List T) (n : ℕ) (xs : List S) (y : T) (k : ℕ) (x : S) → slice_get xs k ≡ Some x → (number : ℕ) → number ≡ n + k → IsIn y (f number x) → IsIn y (each_at f n xs)
at_each f n [] y k x is number number_is is_in = absurd cc
at_each f n (z ∷ xs) y zero x is number number_is is_in =
    let same : number ≡ n = omega (arith, number_is) in
    in_left y (f n z) (each_at f (suc n) xs) (subst (λ w. IsIn y (f n w)) (sym (same_Some z x is)) (subst (λ m. IsIn y (f m x)) same is_in))
at_each f n (z ∷ xs) y (suc k) x is number number_is is_in =
    in_right y (f n z) (each_at f (suc n) xs) (at_each f (suc n) xs y k x is number (omega (arith, number_is)) is_in)

-- what is made of some items alone
pub record IsMade {A B : Type 0} (f : A → Option B) (xs : List A) (y : B) : Type 0 where
  pub from : A
  pub among : IsIn from xs
  pub is : f from ≡ Some y

pub in_option : {B : Type 0} (o : Option B) (ys : List B) (y : B) → IsIn y (cons_option o ys) → (o ≡ Some y) ⊎ IsIn y ys
in_option None ys y is_in = inr is_in
in_option (Some z) ys y (inl same) = inl (ap Some (sym same))
in_option (Some z) ys y (inr later) = inr later

pub in_filter : {A B : Type 0} (f : A → Option B) (xs : List A) (y : B) → IsIn y (filter_map f xs) → IsMade f xs y
in_filter f [] y is_in = absurd is_in
in_filter f (x ∷ xs) y is_in = elim (in_option (f x) (filter_map f xs) y is_in) [
  | inl here ↦ record { from = x; among = inl refl; is = here }
  | inr later ↦
      let rest = in_filter f xs y later in
      record { from = rest.from; among = inr rest.among; is = rest.is }
]

pub option_in : {B : Type 0} (o : Option B) (ys : List B) (y : B) → o ≡ Some y → IsIn y (cons_option o ys)
option_in o ys y is = subst (λ p. IsIn y (cons_option p ys)) (sym is) (inl refl)

pub behind_option : {B : Type 0} (o : Option B) (ys : List B) (y : B) → IsIn y ys → IsIn y (cons_option o ys)
behind_option None ys y is_in = is_in
behind_option (Some z) ys y is_in = inr is_in

pub filter_in : {A B : Type 0} (f : A → Option B) (xs : List A) (x : A) (y : B) → IsIn x xs → f x ≡ Some y → IsIn y (filter_map f xs)
filter_in f [] x y is_in is = absurd is_in
filter_in f (z ∷ xs) x y (inl same) is = option_in (f z) (filter_map f xs) y (ap f (sym same) ∙ is)
filter_in f (z ∷ xs) x y (inr later) is = behind_option (f z) (filter_map f xs) y (filter_in f xs x y later is)

-- a number that is in a list is found there
pub number_found : (n : ℕ) (ns : List ℕ) → IsIn n ns → any_of (nat_eq n) ns ≡ true
number_found n [] is_in = absurd is_in
number_found n (m ∷ ms) (inl same) =
    let is : nat_eq n m ≡ true = grind (arith, nat_tests, same) in
    ap (λ b. b || any_of (nat_eq n) ms) is
number_found n (m ∷ ms) (inr later) =
    elim (nat_eq n m) as (λ b. (b || any_of (nat_eq n) ms) ≡ true) [
      | true ↦ refl
      | false ↦ number_found n ms later
    ]
