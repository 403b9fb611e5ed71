-- One more round.
use Rattle.std.proofs.Common.{◌≡◌, ◌<◌, ◌≤◌, ◌+◌, ◌∙◌, ℕ, zero, suc, nat_eq, nat_le, Bool, true, false, IsTrue, List, [], ◌∷◌, Option, None, Some, MatchOption, length, map, replicate, slice_get, slice_index_or, refl, sym, ap, subst, arith}
use Rattle.std.specs.Option.{option_map_or}
use Rattle.std.proofs.lemmas.Bool.Decides.{nat_tests}
use Rattle.std.proofs.lemmas.Option.{slice_get_within}
use Rattle.dsr_graph.proofs.Paired.{beyond_item, item_beyond}
use Rattle.dsr_ir.specs.declared.constraints.Constraint.{Constraint}
use Rattle.dsr_ir.specs.declared.declarations.Spec.{Spec}
use Rattle.dsr_plan_theory.proofs.Grown.{first_fewer, held_more}
use Rattle.dsr_plan_theory.specs.Stuck.{IsHeld, MayBeFirst}
use Rattle.dsr_removal.specs.Rounds.{AreNext, AreRounds, AreSettled, IsLeftAt, IsNext, IsPlacedIn, is_late, is_left_at, unplaced}
use Rattle.dsr_meaning.proofs.Items.{item_there}

-- what a round does with a constraint's round
abbrev IsStep : ℕ → Option ℕ → Option ℕ → Type 0
IsStep number (Some round) after = after ≡ Some round
IsStep number None after = MatchOption after (Unit {0}) (λ round. round ≡ number)

abbrev AreSteps : ℕ → List (Option ℕ) → List (Option ℕ) → Type 0
AreSteps number xs ys = (n : ℕ) (x y : Option ℕ) → slice_get xs n ≡ Some x → slice_get ys n ≡ Some y → IsStep number x y

fewer : (number : ℕ) (xs ys : List (Option ℕ)) → length ys ≡ length xs → AreSteps number xs ys → unplaced ys ≤ unplaced xs
fewer number [] [] long steps = omega arith
fewer number [] (y ∷ ys) long steps = absurd (omega (arith, long))
fewer number (x ∷ xs) [] long steps = absurd (omega (arith, long))
fewer number (Some r ∷ xs) (None ∷ ys) long steps = let step : IsStep number (Some r) None = steps 0 (Some r) None refl refl in absurd cc
fewer number (Some r ∷ xs) (Some k ∷ ys) long steps = fewer number xs ys (omega (arith, long)) (λ n. steps (suc n))
fewer number (None ∷ xs) (None ∷ ys) long steps = let less = fewer number xs ys (omega (arith, long)) (λ n. steps (suc n)) in omega (arith, less)
fewer number (None ∷ xs) (Some k ∷ ys) long steps = let less = fewer number xs ys (omega (arith, long)) (λ n. steps (suc n)) in omega (arith, less)

-- where there are fewer, one is placed
placed_one : (number : ℕ) (xs ys : List (Option ℕ)) → length ys ≡ length xs → AreSteps number xs ys → unplaced ys < unplaced xs → (n : ℕ) × IsPlacedIn ys number n
placed_one number [] [] long steps less = absurd (omega (arith, less))
placed_one number [] (y ∷ ys) long steps less = absurd (omega (arith, long))
placed_one number (x ∷ xs) [] long steps less = absurd (omega (arith, long))
placed_one number (Some r ∷ xs) (None ∷ ys) long steps less = let step : IsStep number (Some r) None = steps 0 (Some r) None refl refl in absurd cc
placed_one number (Some r ∷ xs) (Some k ∷ ys) long steps less = let its = placed_one number xs ys (omega (arith, long)) (λ n. steps (suc n)) less in (suc its.0, its.1)
placed_one number (None ∷ xs) (None ∷ ys) long steps less = let its = placed_one number xs ys (omega (arith, long)) (λ n. steps (suc n)) (omega (arith, less)) in (suc its.0, its.1)
placed_one number (None ∷ xs) (Some k ∷ ys) long steps less = let step : IsStep number None (Some k) = steps 0 None (Some k) refl refl in (0, ap (λ r. Some (Some r)) step)

-- and where one is placed, there are fewer
fewer_there : (number : ℕ) (xs ys : List (Option ℕ)) → length ys ≡ length xs → AreSteps number xs ys → (n k : ℕ) → slice_get xs n ≡ Some None → slice_get ys n ≡ Some (Some k) → unplaced ys < unplaced xs
fewer_there number [] ys long steps n k none placed = absurd cc
fewer_there number (x ∷ xs) [] long steps n k none placed = absurd cc
fewer_there number (Some r ∷ xs) (y ∷ ys) long steps zero k none placed = absurd cc
fewer_there number (None ∷ xs) (None ∷ ys) long steps zero k none placed = absurd cc
fewer_there number (None ∷ xs) (Some j ∷ ys) long steps zero k none placed = let less = fewer number xs ys (omega (arith, long)) (λ n. steps (suc n)) in omega (arith, less)
fewer_there number (Some r ∷ xs) (None ∷ ys) long steps (suc n) k none placed = let step : IsStep number (Some r) None = steps 0 (Some r) None refl refl in absurd cc
fewer_there number (Some r ∷ xs) (Some j ∷ ys) long steps (suc n) k none placed = fewer_there number xs ys (omega (arith, long)) (λ n. steps (suc n)) n k none placed
fewer_there number (None ∷ xs) (None ∷ ys) long steps (suc n) k none placed = let less = fewer_there number xs ys (omega (arith, long)) (λ n. steps (suc n)) n k none placed in omega (arith, less)
fewer_there number (None ∷ xs) (Some j ∷ ys) long steps (suc n) k none placed = let less = fewer_there number xs ys (omega (arith, long)) (λ n. steps (suc n)) n k none placed in omega (arith, less)

-- ---- what is left

pub index_got : {T : Type 0} (xs : List T) (n : ℕ) (x d : T) → slice_get xs n ≡ Some x → slice_index_or xs n d ≡ x
index_got [] n x d is = absurd cc
index_got (y ∷ xs) zero x d is = cc
index_got (y ∷ xs) (suc n) x d is = index_got xs n x d is

pub index_placed : (xs : List (Option ℕ)) (n r : ℕ) → slice_index_or xs n None ≡ Some r → IsPlacedIn xs r n
index_placed [] n r is = absurd cc
index_placed (x ∷ xs) zero r is = ap Some is
index_placed (x ∷ xs) (suc n) r is = index_placed xs n r is

pub mapped : {T : Type 0} (f : T → Bool) (xs : List T) (n : ℕ) → slice_index_or (map f xs) n false ≡ option_map_or f (slice_get xs n) false
mapped f [] n = refl
mapped f (x ∷ xs) zero = refl
mapped f (x ∷ xs) (suc n) = mapped f xs n

-- whom a round places by these is the same where they are told in another way
pub next_same : (M N : ℕ → Type 0) → ((n : ℕ) → M n → N n) → ((n : ℕ) → N n → M n) → (spec : Spec) (number n : ℕ) (constraint : Constraint) (x y : Option ℕ) → IsNext spec M number n constraint x y → IsNext spec N number n constraint x y
next_same M N f g spec number n constraint (Some r) y its = its
next_same M N f g spec number n constraint None None its = held_more M N f spec n constraint its
next_same M N f g spec number n constraint None (Some k) its = (its.0, first_fewer N M g spec n constraint its.1)

pub left_told : (left : List Bool) (rounds : List (Option ℕ)) (number : ℕ) → left ≡ map (is_late number) rounds → (n : ℕ) → slice_index_or left n false ≡ is_left_at rounds number n
left_told left rounds number is n = ap (λ xs. slice_index_or xs n false) is ∙ mapped (is_late number) rounds n

map_long : {T : Type 0} (f : T → Bool) (xs : List T) → length (map f xs) ≡ length xs
map_long f [] = refl
map_long f (x ∷ xs) = ap suc (map_long f xs)

pub left_many : (left : List Bool) (rounds : List (Option ℕ)) (number : ℕ) → left ≡ map (is_late number) rounds → length left ≡ length rounds
left_many left rounds number is = ap length is ∙ map_long (is_late number) rounds

late_same : (r number : ℕ) → r ≤ number → (x y : Option ℕ) → IsStep number x y → is_late r y ≡ is_late r x
late_same r number low (Some k) y step = ap (is_late r) step
late_same r number low None None step = refl
late_same r number low None (Some k) step =
    let more : r ≤ k = omega (arith, low, step) in
    grind (arith, nat_tests)

-- a constraint that is left has an entry
pub entry : (r n : ℕ) (xs : List (Option ℕ)) → IsLeftAt xs r n → (y : Option ℕ) × (slice_get xs n ≡ Some y) × IsTrue (is_late r y)
entry r n xs left = by (slice_get xs n) refl where
  by : (o : Option (Option ℕ)) → slice_get xs n ≡ o → (y : Option ℕ) × (slice_get xs n ≡ Some y) × IsTrue (is_late r y)
  by None none = let told : IsTrue (option_map_or (is_late r) None false) = subst (λ o. IsTrue (option_map_or (is_late r) o false)) none left in absurd cc
  by (Some y) is = (y, is, subst (λ o. IsTrue (option_map_or (is_late r) o false)) is left)

module _ (spec : Spec) (rounds next : List (Option ℕ)) (count : ℕ) (all : AreRounds spec rounds count) (one : AreNext spec rounds count next) where
  long : length next ≡ length rounds
  long = one.as_many ∙ sym all.as_many

  constraint_of : (n : ℕ) (x : Option ℕ) → slice_get rounds n ≡ Some x → (c : Constraint) × (slice_get spec.constraints n ≡ Some c)
  constraint_of n x is =
      let less = slice_get_within rounds n x is in
      let many = all.as_many in
      item_there spec.constraints n (omega (arith, less, many))

  its_next : (n : ℕ) (x y : Option ℕ) (constraint : Constraint) → slice_get rounds n ≡ Some x → slice_get next n ≡ Some y → slice_get spec.constraints n ≡ Some constraint → IsNext spec (IsLeftAt rounds count) count n constraint x y
  its_next n x y constraint x_is y_is there = subst (λ b. IsNext spec (IsLeftAt rounds count) count n constraint b y) (index_got rounds n x None x_is) (one.are n constraint y there y_is)

  to_step : (n : ℕ) (constraint : Constraint) (x y : Option ℕ) → IsNext spec (IsLeftAt rounds count) count n constraint x y → IsStep count x y
  to_step n constraint (Some r) y its = its
  to_step n constraint None None its = _
  to_step n constraint None (Some k) its = its.0

  steps : AreSteps count rounds next
  steps n x y x_is y_is =
      let c = constraint_of n x x_is in
      to_step n c.0 x y (its_next n x y c.0 x_is y_is c.1)

  -- what a constraint had before
  before_of : (n : ℕ) (y : Option ℕ) → slice_get next n ≡ Some y → (x : Option ℕ) × (slice_get rounds n ≡ Some x)
  before_of n y is =
      let less = slice_get_within next n y is in
      let many = long in
      item_there rounds n (omega (arith, less, many))

  after_of : (n : ℕ) (x : Option ℕ) → slice_get rounds n ≡ Some x → (y : Option ℕ) × (slice_get next n ≡ Some y)
  after_of n x is =
      let less = slice_get_within rounds n x is in
      let many = long in
      item_there next n (omega (arith, less, many))

  left_same : (r : ℕ) → r ≤ count → (n : ℕ) → is_left_at next r n ≡ is_left_at rounds r n
  left_same r low n = left_by (slice_get rounds n) refl where
    left_by : (o : Option (Option ℕ)) → slice_get rounds n ≡ o → is_left_at next r n ≡ is_left_at rounds r n
    left_by None none =
        let past = beyond_item rounds n none in
        let many = long in
        let also = item_beyond next n (omega (arith, past, many)) in
        ap (λ o. option_map_or (is_late r) o false) also ∙ sym (ap (λ o. option_map_or (is_late r) o false) none)
    left_by (Some x) is =
        let y = after_of n x is in
        ap (λ o. option_map_or (is_late r) o false) y.1 ∙ (late_same r count low x y.0 (steps n x y.0 is y.1) ∙ sym (ap (λ o. option_map_or (is_late r) o false) is))

  keep_first : (r n : ℕ) (constraint : Constraint) → r ≤ count → MayBeFirst spec (IsLeftAt rounds r) n constraint → MayBeFirst spec (IsLeftAt next r) n constraint
  keep_first r n constraint low = first_fewer (IsLeftAt next r) (IsLeftAt rounds r) (λ m. subst IsTrue (left_same r low m)) spec n constraint

  keep_held : (r n : ℕ) (constraint : Constraint) → r ≤ count → IsHeld spec (IsLeftAt rounds r) n constraint → IsHeld spec (IsLeftAt next r) n constraint
  keep_held r n constraint low = held_more (IsLeftAt rounds r) (IsLeftAt next r) (λ m. subst IsTrue (sym (left_same r low m))) spec n constraint

  -- a constraint that is placed now was before, or is in this round
  was_placed : (n r : ℕ) (x : Option ℕ) → slice_get rounds n ≡ Some x → IsPlacedIn next r n → IsStep count x (Some r)
  was_placed n r x x_is placed = steps n x (Some r) x_is placed

  below_by : (n r : ℕ) (x : Option ℕ) → slice_get rounds n ≡ Some x → IsStep count x (Some r) → r < count + 1
  below_by n r (Some k) x_is step =
      let same : r ≡ k = cc in
      let less = all.below n k x_is in
      omega (arith, same, less)
  below_by n r None x_is step = omega (arith, step)

  first_by : (n r : ℕ) (constraint : Constraint) (x : Option ℕ) → slice_get rounds n ≡ Some x → slice_get spec.constraints n ≡ Some constraint → IsNext spec (IsLeftAt rounds count) count n constraint x (Some r) → MayBeFirst spec (IsLeftAt next r) n constraint
  first_by n r constraint (Some k) x_is there its =
      let same : k ≡ r = cc in
      let less = all.below n k x_is in
      subst (λ j. MayBeFirst spec (IsLeftAt next j) n constraint) same (keep_first k n constraint (omega (arith, less)) (all.first n k constraint x_is there))
  first_by n r constraint None x_is there its = subst (λ j. MayBeFirst spec (IsLeftAt next j) n constraint) (sym its.0) (keep_first count n constraint (omega arith) its.1)

  held_by : (n : ℕ) (constraint : Constraint) (x y : Option ℕ) → slice_get rounds n ≡ Some x → IsNext spec (IsLeftAt rounds count) count n constraint x y → IsTrue (is_late (count + 1) y) → IsHeld spec (IsLeftAt rounds count) n constraint
  held_by n constraint (Some k) y x_is its late =
      let less = all.below n k x_is in
      let again : IsTrue (nat_le (count + 1) k) = subst (λ o. IsTrue (is_late (count + 1) o)) its late in
      absurd (grind (arith, nat_tests))
  held_by n constraint None None x_is its late = its
  held_by n constraint None (Some k) x_is its late =
      let same = its.0 in
      absurd (grind (arith, nat_tests))

  held_now : (n : ℕ) (constraint : Constraint) → IsLeftAt next (count + 1) n → slice_get spec.constraints n ≡ Some constraint → IsHeld spec (IsLeftAt rounds count) n constraint
  held_now n constraint left there =
      let y = entry (count + 1) n next left in
      let x = before_of n y.0 y.1 in
      held_by n constraint x.0 y.0 x.1 (its_next n x.0 y.0 constraint x.1 y.1 there) y.2

  used_before : (r n : ℕ) → IsPlacedIn rounds r n → IsPlacedIn next r n
  used_before r n placed =
      let y = after_of n (Some r) placed in
      y.1 ∙ ap Some (steps n (Some r) y.0 placed y.1)

  pub rounds_next : unplaced next < unplaced rounds → AreRounds spec next (count + 1)
  rounds_next less = record {
    as_many = one.as_many;
    below = λ n r placed. let x = before_of n (Some r) placed in below_by n r x.0 x.1 (was_placed n r x.0 x.1 placed);
    first = λ n r constraint placed there. let x = before_of n (Some r) placed in first_by n r constraint x.0 x.1 there (its_next n x.0 (Some r) constraint x.1 placed there);
    held = λ n r constraint low left there.
        elim (nat_eq r count) as (λ t. nat_eq r count ≡ t → IsHeld spec (IsLeftAt next r) n constraint) [
          | true ↦ λ e.
              let same : r ≡ count = grind (arith, nat_tests) in
              subst (λ j. IsHeld spec (IsLeftAt next j) n constraint) (sym same) (keep_held count n constraint (omega arith) (held_now n constraint (subst (λ j. IsLeftAt next (j + 1) n) same left) there))
          | false ↦ λ e.
              let lower : r < count = grind (arith, nat_tests) in
              keep_held r n constraint (omega (arith, lower)) (all.held n r constraint lower (subst IsTrue (left_same (r + 1) (omega (arith, lower)) n) left) there)
        ] refl;
    used = λ r low.
        elim (nat_eq r count) as (λ t. nat_eq r count ≡ t → (n : ℕ) × IsPlacedIn next r n) [
          | true ↦ λ e.
              let same : r ≡ count = grind (arith, nat_tests) in
              subst (λ j. (n : ℕ) × IsPlacedIn next j n) (sym same) (placed_one count rounds next long steps less)
          | false ↦ λ e.
              let lower : r < count = grind (arith, nat_tests) in
              let its = all.used r lower in
              (its.0, used_before r its.0 its.1)
        ] refl;
  }

  pub no_more : unplaced next ≤ unplaced rounds
  no_more = fewer count rounds next long steps

  ends_by : unplaced next ≡ unplaced rounds → (n : ℕ) (constraint : Constraint) (x y : Option ℕ) → slice_get rounds n ≡ Some x → slice_get next n ≡ Some y → IsTrue (is_late count x) → IsNext spec (IsLeftAt rounds count) count n constraint x y → IsHeld spec (IsLeftAt rounds count) n constraint
  ends_by same n constraint (Some k) y x_is y_is late its = let less = all.below n k x_is in absurd (grind (arith, nat_tests))
  ends_by same n constraint None None x_is y_is late its = its
  ends_by same n constraint None (Some k) x_is y_is late its =
      let less = fewer_there count rounds next long steps n k x_is y_is in
      absurd (omega (arith, less, same))

  pub settled : unplaced next ≡ unplaced rounds → AreSettled spec rounds count
  settled same = record {
    rounds_are = all;
    ends = λ n constraint left there.
        let x = entry count n rounds left in
        let y = after_of n x.0 x.1 in
        ends_by same n constraint x.0 y.0 x.1 y.1 x.2 (its_next n x.0 y.0 constraint x.1 y.1 there);
  }

-- ---- before the first round

none_of : (n m : ℕ) (x : Option ℕ) → slice_get (replicate n None) m ≡ Some x → x ≡ None
none_of zero m x is = absurd cc
none_of (suc n) zero x is = cc
none_of (suc n) (suc m) x is = none_of n m x is

unplaced_all : (n : ℕ) → unplaced (replicate n None) ≡ n
unplaced_all zero = refl
unplaced_all (suc n) = let rest = unplaced_all n in omega (arith, rest)

long_none : (n : ℕ) → length {A = Option ℕ} (replicate n None) ≡ n
long_none zero = refl
long_none (suc n) = ap suc (long_none n)

pub starts : (spec : Spec) (n : ℕ) → n ≡ length spec.constraints → AreRounds spec (replicate n None) 0 × (0 + unplaced (replicate n None) ≤ length spec.constraints)
starts spec n many = (
  record {
    as_many = long_none n ∙ many;
    below = λ m r placed. let none : Some r ≡ None = none_of n m (Some r) placed in absurd cc;
    first = λ m r constraint placed there. let none : Some r ≡ None = none_of n m (Some r) placed in absurd cc;
    held = λ m r constraint low left there. absurd (omega (arith, low));
    used = λ r low. absurd (omega (arith, low));
  },
  let all = unplaced_all n in omega (arith, all, many),
)
