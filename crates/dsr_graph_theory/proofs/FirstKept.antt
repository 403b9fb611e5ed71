-- What a list that is taken from others is.
use Rattle.std.proofs.Common.{◌≡◌, ◌<◌, ◌≤◌, ◌+◌, ◌++◌, ◌⊎◌, ℕ, zero, suc, List, [], ◌∷◌, Option, None, Some, MatchOption, length, slice_get, inl, inr, refl, sym, ap, subst, ◌∙◌, arith}
use Rattle.std.proofs.lemmas.List.{append_assoc}
use Rattle.std.proofs.lemmas.Option.{same_Some}
use Rattle.dsr_ir.specs.declared.constraints.Atom.{Atom}
use Rattle.dsr_ir.specs.declared.constraints.Literal.{Literal}
use Rattle.dsr_ir.specs.declared.updates.Template.{Template}
use Rattle.dsr_graph_theory.specs.Lists.{AreListed, AreListedOf, AreTaken, StandsBefore, StandsFirstAt, again, enough, left_out, no_more, taken}
use Rattle.dsr_graph_theory.specs.Owners.{Owner}
use Rattle.dsr_graph_theory.specs.Sides.{IsKept}
use Rattle.dsr_meaning.specs.Counting.{IsDistinct, IsIn}
use Rattle.dsr_meaning.proofs.Items.{in_left, item_at}
use Rattle.dsr_update_theory.specs.Templates.{literal_at}

in_behind : {T : Type 0} (x : T) (xs ys : List T) → IsIn x ys → IsIn x (xs ++ ys)
in_behind x [] ys found = found
in_behind x (y ∷ xs) ys found = inr (in_behind x xs ys found)

-- ---- places behind another template

first_behind : (x : Template) (all : List Template) (t : Template) (n : ℕ) → (x ≡ t → ⊥) → StandsFirstAt all t n → StandsFirstAt (x ∷ all) t (suc n)
first_behind x all t n other its = record { there = its.there; none_before = none } where
  none : (m : ℕ) → m < suc n → slice_get (x ∷ all) m ≡ Some t → ⊥
  none zero less is = other (same_Some x t is)
  none (suc m) less is = its.none_before m (omega (arith, less)) is

behind : (x : Template) (all : List Template) (t u : Template) → (x ≡ t → ⊥) → (x ≡ u → ⊥) → StandsBefore all t u → StandsBefore (x ∷ all) t u
behind x all t u not_t not_u its =
    let less = its.before in
    record {
      place = suc its.place;
      other_place = suc its.other_place;
      first = first_behind x all t its.place not_t its.first;
      other_first = first_behind x all u its.other_place not_u its.other_first;
      before = omega (arith, less);
    }

-- what stands first at a place behind the first stands so in the rest
first_in_rest : (x : Template) (all : List Template) (t : Template) (n : ℕ) → StandsFirstAt (x ∷ all) t (suc n) → StandsFirstAt all t n
first_in_rest x all t n its = record { there = its.there; none_before = λ m less is. its.none_before (suc m) (omega (arith, less)) is }

-- what comes before another one is the head, or does so in the rest
data ComesAfter (x : Template) (all : List Template) (t u : Template) : Type 0 where
  at_head : x ≡ t → (x ≡ u → ⊥) → ComesAfter x all t u
  in_rest : (x ≡ u → ⊥) → StandsBefore all t u → ComesAfter x all t u

comes_after : (x : Template) (all : List Template) (t u : Template) → StandsBefore (x ∷ all) t u → ComesAfter x all t u
comes_after x all t u its = by its.place its.other_place its.first its.other_first its.before where
  other : (k : ℕ) → StandsFirstAt (x ∷ all) u (suc k) → x ≡ u → ⊥
  other k first same = first.none_before 0 (omega arith) (ap Some same)

  by : (n k : ℕ) → StandsFirstAt (x ∷ all) t n → StandsFirstAt (x ∷ all) u k → n < k → ComesAfter x all t u
  by n zero first other_first less = absurd (omega (arith, less))
  by zero (suc k) first other_first less = at_head (same_Some x t first.there) (other k other_first)
  by (suc n) (suc k) first other_first less =
      in_rest (other k other_first) (record {
        place = n;
        other_place = k;
        first = first_in_rest x all t n first;
        other_first = first_in_rest x all u k other_first;
        before = omega (arith, less);
      })

module _ (owner : Owner) (atom : Atom) where
  pub are_kept : {n : ℕ} {before all listed : List Template} → AreTaken owner atom n before all listed → (t : Template) → IsIn t listed → IsKept owner atom t
  are_kept no_more t found = absurd found
  are_kept enough t found = absurd found
  are_kept (again x is d) t found = are_kept d t found
  are_kept (left_out x none d) t found = are_kept d t found
  are_kept (taken x new kept d) t (inl same) = subst (IsKept owner atom) (sym same) kept
  are_kept (taken x new kept d) t (inr later) = are_kept d t later

  pub are_among : {n : ℕ} {before all listed : List Template} → AreTaken owner atom n before all listed → (t : Template) → IsIn t listed → IsIn t all
  are_among no_more t found = absurd found
  are_among enough t found = absurd found
  are_among (again x is d) t found = inr (are_among d t found)
  are_among (left_out x none d) t found = inr (are_among d t found)
  are_among (taken x new kept d) t (inl same) = inl same
  are_among (taken x new kept d) t (inr later) = inr (are_among d t later)

  are_new : {n : ℕ} {before all listed : List Template} → AreTaken owner atom n before all listed → (t : Template) → IsIn t listed → IsIn t before → ⊥
  are_new no_more t found there = found
  are_new enough t found there = found
  are_new (again x is d) t found there = are_new d t found there
  are_new (left_out x none d) t found there = are_new d t found there
  are_new {n} {before} (taken x new kept d) t (inl same) there = new (subst (λ y. IsIn y before) same there)
  are_new {n} {before} (taken x new kept d) t (inr later) there = are_new d t later (in_left t before (x ∷ []) there)

  pub are_once : {n : ℕ} {before all listed : List Template} → AreTaken owner atom n before all listed → IsDistinct listed
  are_once no_more = tt
  are_once enough = tt
  are_once (again x is d) = are_once d
  are_once (left_out x none d) = are_once d
  are_once {n} {before} (taken x new kept d) = ((λ found. are_new d x found (in_behind x before (x ∷ []) (inl refl))), are_once d)

  pub are_few : {n : ℕ} {before all listed : List Template} → AreTaken owner atom n before all listed → length listed ≤ n
  are_few no_more = omega arith
  are_few enough = omega arith
  are_few (again x is d) = are_few d
  are_few (left_out x none d) = are_few d
  are_few (taken x new kept d) = let rest = are_few d in omega (arith, rest)

  pub are_whole : {n : ℕ} {before all listed : List Template} → AreTaken owner atom n before all listed → length listed < n → (t : Template) → IsIn t all → IsKept owner atom t → IsIn t (before ++ listed)
  are_whole no_more less t found its = absurd found
  are_whole enough less t found its = absurd (omega (arith, less))
  are_whole {n} {before} {all} {listed} (again x is d) less t (inl same) its = in_left t before listed (subst (λ y. IsIn y before) (sym same) is)
  are_whole (again x is d) less t (inr later) its = are_whole d less t later its
  are_whole (left_out x none d) less t (inl same) its = absurd (none (subst (IsKept owner atom) same its))
  are_whole (left_out x none d) less t (inr later) its = are_whole d less t later its
  are_whole {n} {before} {all} {listed} (taken x new kept d) less t (inl same) its = in_behind t before listed (inl same)
  are_whole {n} {before} (taken {n = m} {rest = rest} x new kept d) less t (inr later) its = subst (IsIn t) (append_assoc before (x ∷ []) rest) (are_whole d (omega (arith, less)) t later its)

  -- ---- the first ones

  pub are_first : {n : ℕ} {before all listed : List Template} → AreTaken owner atom n before all listed → (t u : Template) → IsIn u listed → StandsBefore all t u → IsKept owner atom t → IsIn t (before ++ listed)
  are_first no_more t u found its kept = absurd found
  are_first enough t u found its kept = absurd found
  are_first {n} {before} {all} {listed} (again {all = more} x is d) t u found its kept = by (are_first d t u found) (comes_after x more t u its) where
    by : (StandsBefore more t u → IsKept owner atom t → IsIn t (before ++ listed)) → ComesAfter x more t u → IsIn t (before ++ listed)
    by then (at_head same new) = in_left t before listed (subst (λ y. IsIn y before) same is)
    by then (in_rest new later) = then later kept
  are_first {n} {before} {all} {listed} (left_out {all = more} x none d) t u found its kept = by (are_first d t u found) (comes_after x more t u its) where
    by : (StandsBefore more t u → IsKept owner atom t → IsIn t (before ++ listed)) → ComesAfter x more t u → IsIn t (before ++ listed)
    by then (at_head same new) = absurd (none (subst (IsKept owner atom) (sym same) kept))
    by then (in_rest new later) = then later kept
  are_first {n} {before} (taken {all = more} {rest = others} x new_one x_kept d) t u found its kept = by (are_first d t u) (comes_after x more t u its) where
    behind_it : (x ≡ u → ⊥) → IsIn u (x ∷ others) → IsIn u others
    behind_it new (inl same) = absurd (new (sym same))
    behind_it new (inr later) = later

    by : (IsIn u others → StandsBefore more t u → IsKept owner atom t → IsIn t ((before ++ x ∷ []) ++ others)) → ComesAfter x more t u → IsIn t (before ++ x ∷ others)
    by then (at_head same new) = in_behind t before (x ∷ others) (inl (sym same))
    by then (in_rest new later) = subst (IsIn t) (append_assoc before (x ∷ []) others) (then (behind_it new found) later kept)

  -- one that was passed by is none of those that are taken later
  passed : {n : ℕ} {before all listed : List Template} → AreTaken owner atom n before all listed → (x t : Template) → IsIn x before → IsIn t listed → x ≡ t → ⊥
  passed {before = before} d x t is found same = are_new d t found (subst (λ y. IsIn y before) same is)

  unkept : {n : ℕ} {before all listed : List Template} → AreTaken owner atom n before all listed → (x t : Template) → (IsKept owner atom x → ⊥) → IsIn t listed → x ≡ t → ⊥
  unkept d x t none found same = none (subst (IsKept owner atom) (sym same) (are_kept d t found))

  first_place : {n : ℕ} {before all listed : List Template} → AreTaken owner atom n before all listed → (t : Template) → IsIn t listed → (k : ℕ) × StandsFirstAt all t k
  first_place no_more t found = absurd found
  first_place enough t found = absurd found
  first_place (again {all = more} x is d) t found =
      let later = first_place d t found in
      (suc later.0, first_behind x more t later.0 (passed d x t is found) later.1)
  first_place (left_out {all = more} x none d) t found =
      let later = first_place d t found in
      (suc later.0, first_behind x more t later.0 (unkept d x t none found) later.1)
  first_place (taken x new kept d) t (inl same) = (zero, record { there = ap Some (sym same); none_before = λ m less is. absurd (omega (arith, less)) })
  first_place {before = before} (taken {all = more} x new kept d) t (inr found) =
      let later = first_place d t found in
      (suc later.0, first_behind x more t later.0 (passed d x t (in_behind x before (x ∷ []) (inl refl)) found) later.1)

  pub are_in_order : {n : ℕ} {before all listed : List Template} → AreTaken owner atom n before all listed → (p q : ℕ) (t u : Template) → p < q → slice_get listed p ≡ Some t → slice_get listed q ≡ Some u → StandsBefore all t u
  are_in_order no_more p q t u less is also = absurd cc
  are_in_order enough p q t u less is also = absurd cc
  are_in_order {listed = listed} (again {all = more} x there d) p q t u less is also =
      behind x more t u (passed d x t there (item_at listed p t is)) (passed d x u there (item_at listed q u also)) (are_in_order d p q t u less is also)
  are_in_order {listed = listed} (left_out {all = more} x none d) p q t u less is also =
      behind x more t u (unkept d x t none (item_at listed p t is)) (unkept d x u none (item_at listed q u also)) (are_in_order d p q t u less is also)
  are_in_order (taken x new kept d) p zero t u less is also = absurd (omega (arith, less))
  are_in_order {before = before} (taken {all = more} {rest = others} x new kept d) zero (suc q) t u less is also =
      let found = item_at others q u also in
      let later = first_place d u found in
      record {
        place = 0;
        other_place = suc later.0;
        first = record { there = is; none_before = λ m low same. absurd (omega (arith, low)) };
        other_first = first_behind x more u later.0 (passed d x u (in_behind x before (x ∷ []) (inl refl)) found) later.1;
        before = omega arith;
      }
  are_in_order {before = before} (taken {all = more} {rest = others} x new kept d) (suc p) (suc q) t u less is also =
      let here = in_behind x before (x ∷ []) (inl refl) in
      behind x more t u (passed d x t here (item_at others p t is)) (passed d x u here (item_at others q u also)) (are_in_order d p q t u (omega (arith, less)) is also)

-- ---- of a literal

pub few_listed : (owner : Owner) (conj literal : ℕ) (templates : List Template) → AreListedOf owner conj literal templates → length templates ≤ 64
few_listed owner conj literal templates listed = by (literal_at owner.constraint conj literal) refl where
  by : (o : Option Literal) → literal_at owner.constraint conj literal ≡ o → length templates ≤ 64
  by None none =
      let empty : templates ≡ [] = subst (λ o. MatchOption o (templates ≡ []) (λ l. AreListed owner conj literal l.atom templates)) none listed in
      let many = ap length empty in
      omega (arith, many)
  by (Some l) is =
      let its : AreListed owner conj literal l.atom templates = subst (λ o. MatchOption o (templates ≡ []) (λ x. AreListed owner conj literal x.atom templates)) is listed in
      are_few owner l.atom its.are_taken
