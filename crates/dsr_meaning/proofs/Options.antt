-- What is there in an option that is made of another one.
use Rattle.std.proofs.Common.{◌≡◌, Bool, true, false, Option, None, Some, IsSome, IsSomeAnd, refl, sym, subst}
use Rattle.std.specs.Option.{option_and_then}
use Rattle.std.specs.Prelude.{if◌then◌else◌, option_map}
use Rattle.std.proofs.lemmas.Option.{same_Some}

pub some_of : {A : Type 0} (o : Option A) → IsSome o → (x : A) × (o ≡ Some x)
some_of None is = absurd cc
some_of (Some x) is = (x, refl)

pub mapped_from : {A B : Type 0} (f : A → B) (o : Option A) (y : B) → option_map f o ≡ Some y → (x : A) × ((o ≡ Some x) × (y ≡ f x))
mapped_from f None y e = absurd cc
mapped_from f (Some x) y e = (x, (refl, sym (same_Some (f x) y e)))

pub chained_from : {A B : Type 0} (f : A → Option B) (o : Option A) (y : B) → option_and_then f o ≡ Some y → (x : A) × ((o ≡ Some x) × (f x ≡ Some y))
chained_from f None y e = absurd cc
chained_from f (Some x) y e = (x, (refl, e))

-- where it stands only if a test is passed, or only if it fails
pub passed_from : {T : Type 0} (b : Bool) (o : Option T) (y : T) → (if b then o else None) ≡ Some y → (b ≡ true) × (o ≡ Some y)
passed_from true o y e = (refl, e)
passed_from false o y e = absurd cc

pub failed_from : {T : Type 0} (b : Bool) (o : Option T) (y : T) → (if b then None else o) ≡ Some y → (b ≡ false) × (o ≡ Some y)
failed_from true o y e = absurd cc
failed_from false o y e = (refl, e)

-- what is so of what is there
pub some_and : {X : Type 0} (o : Option X) (P : X → Type 0) → IsSomeAnd o P → (x : X) × ((o ≡ Some x) × P x)
some_and None P is = absurd is
some_and (Some x) P is = (x, (refl, is))

pub and_some : {X : Type 0} (o : Option X) (P : X → Type 0) (x : X) → o ≡ Some x → P x → IsSomeAnd o P
and_some o P x e is = subst (λ p. IsSomeAnd p P) (sym e) is
