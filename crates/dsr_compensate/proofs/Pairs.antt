-- Each two of some writes, the earlier varying slowest, one write after the other.
use Rattle.std.proofs.Common.{◌≡◌, ◌<◌, ◌≤◌, ◌+◌, ◌-◌, ◌++◌, ℕ, zero, suc, List, [], ◌∷◌, length, drop, take, get_or, map, refl, sym, ap, subst, ◌∙◌, arith}
use Rattle.std.proofs.lemmas.List.{append_assoc}
use Rattle.dsr_compensate.proofs.Later.{take_whole}
use Rattle.dsr_compensate.specs.Taking.{with_two_of}
use Rattle.dsr_ir.specs.declared.updates.Template.{Template}
use Rattle.dsr_ir.specs.declared.updates.Write.{Write}
use Rattle.dsr_graph_theory.specs.Lists.{compensated_by, two_of, with_two}

-- a part of the pairs is taken, and those of the writes that are left make them whole
pub record IsFront (t : Template) (writes : List Write) (i : ℕ) (B : List Template → Type 0) (all : List Template) : Type 0 where
  pub front : List Template
  pub taken : B (all ++ front)
  pub whole : front ++ with_two (t, drop i writes) ≡ with_two (t, writes)

abbrev pub ArePairsTaken : Template → List Write → ℕ → (List Template → Type 0) → (List Template → Type 0) → Type 0
ArePairsTaken t writes i A B = (all : List Template) → A all → IsFront t writes i B all

map_joined : {X Y : Type 0} (f : X → Y) (xs ys : List X) → map f (xs ++ ys) ≡ map f xs ++ map f ys
map_joined f [] ys = refl
map_joined f (x ∷ xs) ys = ap (λ zs. f x ∷ zs) (map_joined f xs ys)

pub map_twice : {X Y Z : Type 0} (f : Y → Z) (g : X → Y) (xs : List X) → map f (map g xs) ≡ map (λ x. f (g x)) xs
map_twice f g [] = refl
map_twice f g (x ∷ xs) = ap (λ zs. f (g x) ∷ zs) (map_twice f g xs)

two_first : (t : Template) (w : Write) (rest : List Write) → with_two (t, w ∷ rest) ≡ with_two_of t w rest ++ with_two (t, rest)
two_first t w rest =
    map_joined (compensated_by t) (map (λ later. w ∷ later ∷ []) rest) (two_of rest)
    ∙ ap (λ ts. ts ++ with_two (t, rest)) (map_twice (compensated_by t) (λ later. w ∷ later ∷ []) rest)

drop_suc : {T : Type 0} (xs : List T) (i : ℕ) (d : T) → i < length xs → drop i xs ≡ get_or xs i d ∷ drop (suc i) xs
drop_suc [] i d less = absurd (omega (arith, less))
drop_suc (x ∷ xs) zero d less = refl
drop_suc (x ∷ xs) (suc i) d less = drop_suc xs i d (omega (arith, less))

drop_next : {T : Type 0} (xs : List T) (i : ℕ) (d : T) → i < length xs → drop i xs ≡ get_or xs i d ∷ drop (i + 1) xs
drop_next xs i d less =
    let one : suc i ≡ i + 1 = omega arith in
    subst (λ n. drop i xs ≡ get_or xs i d ∷ drop n xs) one (drop_suc xs i d less)

drop_whole : {T : Type 0} (xs : List T) (i : ℕ) → length xs ≤ i → drop i xs ≡ []
drop_whole [] zero past = refl
drop_whole [] (suc i) past = refl
drop_whole (x ∷ xs) zero past = absurd (omega (arith, past))
drop_whole (x ∷ xs) (suc i) past = drop_whole xs i (omega (arith, past))

drop_length : {T : Type 0} (xs : List T) (i : ℕ) → length (drop i xs) ≤ length xs - i
drop_length [] zero = omega arith
drop_length [] (suc i) = omega arith
drop_length (x ∷ xs) zero = omega arith
drop_length (x ∷ xs) (suc i) = let rest = drop_length xs i in omega (arith, rest)

pub rest_is : {T : Type 0} (xs : List T) (i : ℕ) → take (length xs - i) (drop i xs) ≡ drop i xs
rest_is xs i = let long = drop_length xs i in take_whole (length xs - i) (drop i xs) (omega (arith, long))

pub append_none : {T : Type 0} (xs : List T) → xs ++ [] ≡ xs
append_none [] = refl
append_none (x ∷ xs) = ap (λ ys. x ∷ ys) (append_none xs)

module _ (t : Template) (writes : List Write) (A B : List Template → Type 0) where
  pub pairs_begin : ((all : List Template) → A all → B all) → ArePairsTaken t writes 0 A B
  pairs_begin same all a = record { front = []; taken = subst B (sym (append_none all)) (same all a); whole = refl }

  pub pairs_more : (C : List Template → Type 0) (i : ℕ) (d : Write) → i < length writes → ArePairsTaken t writes i A B → ((all : List Template) → B all → C (all ++ with_two_of t (get_or writes i d) (drop (i + 1) writes))) → ArePairsTaken t writes (i + 1) A C
  pairs_more C i d less before one all a =
      let so_far = before all a in
      let some = with_two_of t (get_or writes i d) (drop (i + 1) writes) in
      record {
        front = so_far.front ++ some;
        taken = subst C (append_assoc all so_far.front some) (one (all ++ so_far.front) so_far.taken);
        whole =
            append_assoc so_far.front some (with_two (t, drop (i + 1) writes))
            ∙ (ap (λ ts. so_far.front ++ ts) (sym (ap (λ ws. with_two (t, ws)) (drop_next writes i d less) ∙ two_first t (get_or writes i d) (drop (i + 1) writes))) ∙ so_far.whole);
      }

  -- the same, where those that are left are a part of the list by its length
  pub pairs_next : (C : List Template → Type 0) (i : ℕ) (d : Write) → i < length writes → ArePairsTaken t writes i A B → ((all : List Template) → B all → C (all ++ with_two_of t (get_or writes i d) (take (length writes - (i + 1)) (drop (i + 1) writes)))) → ArePairsTaken t writes (i + 1) A C
  pairs_next C i d less before one =
      pairs_more C i d less before (λ all b. subst (λ ws. C (all ++ with_two_of t (get_or writes i d) ws)) (rest_is writes (i + 1)) (one all b))

  pub pairs_end : (i : ℕ) → length writes ≤ i → ArePairsTaken t writes i A B → (all : List Template) → A all → B (all ++ with_two (t, writes))
  pairs_end i past before all a =
      let so_far = before all a in
      let is : so_far.front ≡ with_two (t, writes) =
      sym (append_none so_far.front) ∙ (ap (λ ws. so_far.front ++ with_two (t, ws)) (sym (drop_whole writes i past)) ∙ so_far.whole) in
      subst (λ ts. B (all ++ ts)) is so_far.taken
