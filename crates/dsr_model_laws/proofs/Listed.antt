-- Kinds of things of which there is a list, perhaps with repetitions.
use Rattle.std.proofs.Common.{◌≡◌, ◌<◌, ◌≤◌, ℕ, zero, suc, true, false, ltb, All, List, [], ◌∷◌, ◌++◌, ◌⊎◌, inl, inr, Option, None, Some, refl, sym, ap, subst, arith}
use Rattle.std.proofs.lemmas.Bool.Decides.{eqb_tells, nat_tests}
use Rattle.std.proofs.lemmas.List.Elements.{All-nil, All-cons, All-head, All-tail}
use Rattle.std.specs.Prelude.{IsSomeAnd}
use Rattle.dsr_meaning.specs.Counting.{IsIn, AreMany}
use Rattle.dsr_model_laws.specs.Deciding.{IsDecided}
use Rattle.dsr_model_laws.proofs.Ways.{AreCompared, both, either, by_logic}
use Rattle.dsr_meaning.proofs.Items.{in_left, in_right}

pub record IsListed {A : Type 0} (P : A → Type 0) : Type 0 where
  pub things : List A
  pub all : (x : A) → P x → IsIn x things
  pub only : (x : A) → IsIn x things → P x

pub numbers : AreCompared ℕ
numbers a b = elim (eqb_tells a b) as (λ _. IsDecided (a ≡ b)) [ inl e ↦ inl e.1 | inr d ↦ inr d.1 ]

in_decided : {A : Type 0} → AreCompared A → (x : A) (xs : List A) → IsDecided (IsIn x xs)
in_decided same x [] = inr (λ i. i)
in_decided same x (y ∷ xs) = either (same x y) (in_decided same x xs)

-- what is listed is decided
pub listed_decided : {A : Type 0} (P : A → Type 0) → AreCompared A → IsListed P → (x : A) → IsDecided (P x)
listed_decided P same l x = by_logic (l.only x) (l.all x) (in_decided same x l.things)

in_parts : {A : Type 0} (x : A) (xs ys : List A) → IsIn x (xs ++ ys) → IsIn x xs ⊎ IsIn x ys
in_parts x [] ys i = inr i
in_parts x (y ∷ xs) ys (inl e) = inl (inl e)
in_parts x (y ∷ xs) ys (inr i) = elim (in_parts x xs ys i) as (λ _. IsIn x (y ∷ xs) ⊎ IsIn x ys) [ inl j ↦ inl (inr j) | inr j ↦ inr j ]

-- what is of the same kind
pub alike : {A : Type 0} (P Q : A → Type 0) → ((x : A) → P x → Q x) → ((x : A) → Q x → P x) → IsListed P → IsListed Q
alike P Q f g l = record { things = l.things; all = λ x q. l.all x (g x q); only = λ x i. f x (l.only x i) }

pub nothing : {A : Type 0} (P : A → Type 0) → ((x : A) → P x → ⊥) → IsListed P
nothing P no_one = record { things = []; all = λ x p. absurd (no_one x p); only = λ x i. absurd i }

pub one : {A : Type 0} (x : A) → IsListed (λ y. y ≡ x)
one x = record { things = x ∷ []; all = λ y e. inl e; only = λ y i. elim i as (λ _. y ≡ x) [ inl e ↦ e | inr j ↦ absurd j ] }

pub two_kinds : {A : Type 0} (P Q : A → Type 0) → IsListed P → IsListed Q → IsListed (λ x. P x ⊎ Q x)
two_kinds P Q l m = record {
  things = l.things ++ m.things;
  all = λ x h. elim h as (λ _. IsIn x (l.things ++ m.things)) [ inl p ↦ in_left x l.things m.things (l.all x p) | inr q ↦ in_right x l.things m.things (m.all x q) ];
  only = λ x i. elim (in_parts x l.things m.things i) as (λ _. P x ⊎ Q x) [ inl j ↦ inl (l.only x j) | inr j ↦ inr (m.only x j) ];
}

-- the things of one kind where a condition holds that is decided
pub when : {B : Type 0} (R : Type 0) (Q : B → Type 0) → IsDecided R → (R → IsListed Q) → IsListed (λ y. R × Q y)
when R Q (inl r) l = alike Q (λ y. R × Q y) (λ y q. (r, q)) (λ y p. p.1) (l r)
when R Q (inr n) l = nothing (λ y. R × Q y) (λ y p. n p.0)

through : {A B : Type 0} (Q : A → B → Type 0) (xs : List A) → ((x : A) → IsIn x xs → IsListed (Q x)) → IsListed (λ (y : B). (x : A) × IsIn x xs × Q x y)
through {A} {B} Q [] l = nothing (λ (y : B). (x : A) × IsIn x [] × Q x y) (λ y p. p.1)
through {A} {B} Q (x ∷ xs) l =
    alike (λ (y : B). Q x y ⊎ ((z : A) × IsIn z xs × Q z y)) (λ (y : B). (z : A) × IsIn z (x ∷ xs) × Q z y)
    (λ y h. elim h as (λ _. (z : A) × IsIn z (x ∷ xs) × Q z y) [ inl q ↦ (x, inl refl, q) | inr p ↦ (p.0, inr p.1, p.2) ])
    (λ y p. elim p.1 as (λ _. Q x y ⊎ ((z : A) × IsIn z xs × Q z y)) [ inl e ↦ inl (subst (λ z. Q z y) e p.2) | inr i ↦ inr (p.0, i, p.2) ])
    (two_kinds (Q x) (λ (y : B). (z : A) × IsIn z xs × Q z y) (l x (inl refl)) (through Q xs (λ z i. l z (inr i))))

-- what comes from the things of a kind, each of which gives a list
pub each : {A B : Type 0} (P : A → Type 0) (Q : A → B → Type 0) → IsListed P → ((x : A) → P x → IsListed (Q x)) → IsListed (λ (y : B). (x : A) × P x × Q x y)
each {A} {B} P Q l m =
    alike (λ (y : B). (x : A) × IsIn x l.things × Q x y) (λ (y : B). (x : A) × P x × Q x y)
    (λ y p. (p.0, l.only p.0 p.1, p.2)) (λ y p. (p.0, l.all p.0 p.1, p.2))
    (through Q l.things (λ x i. m x (l.only x i)))

pub below : (n : ℕ) → IsListed (λ (k : ℕ). k < n)
below zero = nothing (λ (k : ℕ). k < zero) (λ k lt. absurd (omega (arith, lt)))
below (suc n) =
    alike (λ (k : ℕ). (k ≡ n) ⊎ (k < n)) (λ (k : ℕ). k < suc n)
    (λ k h. elim h as (λ _. k < suc n) [ inl e ↦ omega (arith, e) | inr lt ↦ omega (arith, lt) ])
    (λ k lt. elim (numbers k n) as (λ _. (k ≡ n) ⊎ (k < n)) [ inl e ↦ inl e | inr d ↦ inr (omega (arith, lt, d)) ])
    (two_kinds (λ (k : ℕ). k ≡ n) (λ (k : ℕ). k < n) (one n) (below n))

-- the things of a kind that are of another one as well, where that is decided
pub those : {A : Type 0} (P Q : A → Type 0) → IsListed P → ((x : A) → P x → IsDecided (Q x)) → IsListed (λ x. P x × Q x)
those {A} P Q l d =
    alike (λ (y : A). (x : A) × P x × (Q x × (y ≡ x))) (λ x. P x × Q x)
    (λ y p. subst (λ z. P z × Q z) (sym p.2.1) (p.1, p.2.0)) (λ y p. (y, p.0, (p.1, refl)))
    (each P (λ x y. Q x × (y ≡ x)) l (λ x p. when (Q x) (λ (y : A). y ≡ x) (d x p) (λ _. one x)))

-- the list without repetitions
distinct : {A : Type 0} → AreCompared A → (xs : List A) → (n : ℕ) × AreMany (λ x. IsIn x xs) n
distinct same [] = (0, record { things = []; enumerated = record { distinct = tt; all = λ x i. i; only = λ x i. i }; counted = refl })
distinct {A} same (x ∷ xs) =
    let rest = distinct same xs in
    let e = rest.1.enumerated in
    elim (in_decided same x xs) as (λ _. (n : ℕ) × AreMany (λ y. IsIn y (x ∷ xs)) n) [
      | inl i ↦ (
        rest.0,
        record {
          things = rest.1.things;
          enumerated = record {
            distinct = e.distinct;
            all = λ y h. elim h as (λ _. IsIn y rest.1.things) [ inl q ↦ e.all y (subst (λ z. IsIn z xs) (sym q) i) | inr j ↦ e.all y j ];
            only = λ y j. inr (e.only y j);
          };
          counted = rest.1.counted;
        },
      )
      | inr n ↦ (
        suc rest.0,
        record {
          things = x ∷ rest.1.things;
          enumerated = record {
            distinct = (λ i. n (e.only x i), e.distinct);
            all = λ y h. elim h as (λ _. IsIn y (x ∷ rest.1.things)) [ inl q ↦ inl q | inr j ↦ inr (e.all y j) ];
            only = λ y h. elim h as (λ _. IsIn y (x ∷ xs)) [ inl q ↦ inl q | inr j ↦ inr (e.only y j) ];
          };
          counted = ap suc rest.1.counted;
        },
      )
    ]

-- what is listed has a number
pub many : {A : Type 0} (P : A → Type 0) → AreCompared A → IsListed P → (n : ℕ) × AreMany P n
many P same l =
    let d = distinct same l.things in
    let e = d.1.enumerated in (
      d.0,
      record {
        things = d.1.things;
        enumerated = record { distinct = e.distinct; all = λ x p. e.all x (l.all x p); only = λ x i. l.only x (e.only x i) };
        counted = d.1.counted;
      },
    )

-- combinations

pub opposite : {A : Type 0} → IsDecided A → IsDecided (A → ⊥)
opposite (inl a) = inr (λ n. n a)
opposite (inr n) = inl n

-- there is one of a kind that is listed
pub some_one : {A : Type 0} (P : A → Type 0) → IsListed P → IsDecided ((x : A) × P x)
some_one {A} P l = begin l.things (λ x i. l.only x i) (λ x p. l.all x p) where
  begin : (xs : List A) → ((x : A) → IsIn x xs → P x) → ((x : A) → P x → IsIn x xs) → IsDecided ((x : A) × P x)
  begin [] only all = inr (λ p. all p.0 p.1)
  begin (x ∷ xs) only all = inl (x, only x (inl refl))

-- what an option has
pub known : {A : Type 0} (o : Option A) → IsListed (λ (x : A). o ≡ Some x)
known {A} None = nothing (λ (x : A). None ≡ Some x) (λ x (e : None ≡ Some x). absurd cc)
known {A} (Some y) = alike (λ (x : A). x ≡ y) (λ (x : A). Some y ≡ Some x) (λ x e. ap Some (sym e)) (λ x (e : Some y ≡ Some x). let q : x ≡ y = cc in q) (one y)

pub some_and : {A : Type 0} (P : A → Type 0) (o : Option A) → ((x : A) → IsDecided (P x)) → IsDecided (IsSomeAnd o P)
some_and P None d = inr (λ h. absurd h)
some_and P (Some x) d = d x

pub all_decided : {A : Type 0} (P : A → Type 0) → ((x : A) → IsDecided (P x)) → (xs : List A) → IsDecided (All P xs)
all_decided P d [] = inl (All-nil P)
all_decided P d (x ∷ xs) = by_logic (λ p. All-cons P x xs p.0 p.1) (λ a. (All-head P x xs a, All-tail P x xs a)) (both (d x) (all_decided P d xs))

-- pairs of two kinds
pub pairs : {A B : Type 0} (P : A → Type 0) (Q : B → Type 0) → IsListed P → IsListed Q → IsListed (λ (x : A × B). P x.0 × Q x.1)
pairs {A} {B} P Q l m =
    alike (λ (x : A × B). (a : A) × P a × ((b : B) × Q b × (x ≡ (a, b)))) (λ (x : A × B). P x.0 × Q x.1)
    (λ x h. subst (λ (y : A × B). P y.0 × Q y.1) (sym h.2.2) (h.1, h.2.1)) (λ x h. (x.0, h.0, (x.1, h.1, refl)))
    (each P (λ a x. (b : B) × Q b × (x ≡ (a, b))) l (λ a _. each Q (λ b x. x ≡ (a, b)) m (λ b _. one (a, b))))

pub less : (a b : ℕ) → IsDecided (a < b)
less a b = elim (ltb a b) as (λ t. ltb a b ≡ t → IsDecided (a < b)) [ true ↦ λ e. inl (grind (arith, nat_tests, e)) | false ↦ λ e. inr (λ lt. absurd (let no_more : b ≤ a = grind (arith, nat_tests, e) in omega (arith, lt, no_more))) ] refl

pub at_most : (a b : ℕ) → IsDecided (a ≤ b)
at_most a b = by_logic (λ lt. omega (arith, lt)) (λ le. omega (arith, le)) (less a (suc b))

pub is_none : {A : Type 0} (o : Option A) → IsDecided (o ≡ None)
is_none None = inl refl
is_none (Some x) = inr (λ (e : Some x ≡ None). absurd cc)

-- the things that a function takes to a kind
pub taken_to : {A B : Type 0} (P : A → Type 0) (f : B → A) → IsListed P → ((a : A) → IsListed (λ (b : B). a ≡ f b)) → IsListed (λ (b : B). P (f b))
taken_to {A} {B} P f l back =
    alike (λ (b : B). (a : A) × P a × (a ≡ f b)) (λ (b : B). P (f b)) (λ b h. subst P h.2 h.1) (λ b p. (f b, p, refl))
    (each P (λ a b. a ≡ f b) l (λ a _. back a))

-- all of a kind that is listed
pub every : {A : Type 0} (P Q : A → Type 0) → IsListed P → ((x : A) → IsDecided (Q x)) → IsDecided ((x : A) → P x → Q x)
every {A} P Q l d = by_logic (λ h x p. h x (l.all x p)) (λ h x i. h x (l.only x i)) (over l.things) where
  over : (xs : List A) → IsDecided ((x : A) → IsIn x xs → Q x)
  over [] = inl (λ x i. absurd i)
  over (y ∷ xs) =
      by_logic (λ (h : Q y × ((x : A) → IsIn x xs → Q x)). λ x i. elim i as (λ _. Q x) [ inl e ↦ subst Q (sym e) h.0 | inr j ↦ h.1 x j ]) (λ h. (h y (inl refl), λ x i. h x (inr i)))
      (both (d y) (over xs))
