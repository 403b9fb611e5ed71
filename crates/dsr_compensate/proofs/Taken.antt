-- Templates that are taken, with one more behind the others.
use Rattle.std.proofs.Common.{◌≡◌, ◌<◌, ◌≤◌, ◌+◌, ◌-◌, ◌++◌, ◌⊎◌, ℕ, All, zero, suc, List, [], ◌∷◌, Some, length, map, slice_get, inl, inr, refl, sym, ap, subst, ◌∙◌, arith}
use Rattle.std.proofs.lemmas.List.{append_assoc}
use Rattle.dsr_compensate.proofs.Each.{length_more}
use Rattle.std.proofs.lemmas.List.Elements.{All-cons, All-head, All-tail}
use Rattle.dsr_compensate.specs.Taking.{AreTakenOf, AreWell, IsJudged, MayAllBeMade, MayAllServe, templates_of}
use Rattle.dsr_compensate.specs.declared.judging.Judged.{Judged}
use Rattle.dsr_ir.specs.declared.constraints.Atom.{Atom}
use Rattle.dsr_ir.specs.declared.updates.Template.{Template}
use Rattle.dsr_graph_theory.specs.Lists.{AreTaken, again, enough, left_out, no_more, taken}
use Rattle.dsr_graph_theory.specs.Owners.{Owner, change_of, goal_at}
use Rattle.dsr_graph_theory.specs.Sides.{IsKept, MayBeMade, MayServe}
use Rattle.dsr_meaning.specs.Counting.{IsIn}
use Rattle.dsr_update_theory.specs.Changes.{Change}

-- ---- whether a template is kept

pub kept_if : (owner : Owner) (atom : Atom) (t : Template) → MayAllBeMade owner t.goal t.updates → MayAllServe owner t.goal atom t.updates → IsKept owner atom t
kept_if owner atom t made serve n c judged =
    subst (λ x. MayBeMade x × MayServe t.goal atom n x) (sym judged.change_is)
    (made n judged.update judged.update_is, serve n judged.update judged.update_is)

pub kept_made : (owner : Owner) (atom : Atom) (t : Template) → IsKept owner atom t → MayAllBeMade owner t.goal t.updates
kept_made owner atom t kept n update there =
    (kept n (change_of owner (goal_at t.goal n) update) (record { update = update; update_is = there; change_is = refl })).0

pub kept_serves : (owner : Owner) (atom : Atom) (t : Template) → IsKept owner atom t → MayAllServe owner t.goal atom t.updates
kept_serves owner atom t kept n update there =
    (kept n (change_of owner (goal_at t.goal n) update) (record { update = update; update_is = there; change_is = refl })).1

-- ---- whether it is among those that are listed

pub among_at : (t : Template) (listed : List Judged) (n : ℕ) (j : Judged) → slice_get listed n ≡ Some j → j.template ≡ t → IsIn t (templates_of listed)
among_at t [] n j there same = absurd cc
among_at t (i ∷ listed) zero j there same =
    let is : i ≡ j = cc in
    inl (sym (ap (λ x. x.template) is ∙ same))
among_at t (i ∷ listed) (suc n) j there same = inr (among_at t listed n j there same)

pub among_none : (t : Template) (listed : List Judged) → ((n : ℕ) (j : Judged) → slice_get listed n ≡ Some j → j.template ≡ t → ⊥) → IsIn t (templates_of listed) → ⊥
among_none t [] none found = found
among_none t (i ∷ listed) none (inl same) = none 0 i refl (sym same)
among_none t (i ∷ listed) none (inr later) = among_none t listed (λ n j there is. none (suc n) j there is) later

-- ---- one more

module _ (owner : Owner) (atom : Atom) (all listed : List Template) (t : Template) (before : AreTakenOf owner atom all listed) where
  again_all : (rest more : List Template) → AreTaken owner atom 64 [] (all ++ t ∷ rest) (listed ++ more) → AreTaken owner atom 64 [] ((all ++ t ∷ []) ++ rest) (listed ++ more)
  again_all rest more d = subst (λ xs. AreTaken owner atom 64 [] xs (listed ++ more)) (sym (append_assoc all (t ∷ []) rest)) d

  none_more : {n : ℕ} {seen rest more : List Template} → n ≡ 0 → AreTaken owner atom n seen rest more → more ≡ []
  none_more e no_more = refl
  none_more e enough = refl
  none_more e (again x found d) = none_more e d
  none_more e (left_out x none d) = none_more e d
  none_more e (taken x new kept d) = absurd cc

  full_goes_on : {n : ℕ} {seen rest more : List Template} → n ≡ 0 → more ≡ [] → AreTaken owner atom n seen (t ∷ rest) more
  full_goes_on {n} {seen} {rest} {more} e none = subst (λ m. AreTaken owner atom m seen (t ∷ rest) more) (sym e) (subst (λ ts. AreTaken owner atom 0 seen (t ∷ rest) ts) (sym none) enough)

  pub taken_full : 64 ≤ length listed → AreTakenOf owner atom (all ++ t ∷ []) listed
  taken_full full rest more d =
      let empty : 64 - length listed ≡ 0 = omega (arith, full) in
      again_all rest more (before (t ∷ rest) more (full_goes_on empty (none_more empty d)))

  pub taken_again : IsIn t listed → AreTakenOf owner atom (all ++ t ∷ []) listed
  taken_again found rest more d = again_all rest more (before (t ∷ rest) more (again t found d))

  pub taken_left : (IsKept owner atom t → ⊥) → AreTakenOf owner atom (all ++ t ∷ []) listed
  taken_left none rest more d = again_all rest more (before (t ∷ rest) more (left_out t none d))

  pub taken_kept : length listed < 64 → (IsIn t listed → ⊥) → IsKept owner atom t → AreTakenOf owner atom (all ++ t ∷ []) (listed ++ t ∷ [])
  taken_kept room new kept rest more d =
      let long = length_more listed t in
      let less : 64 - length listed ≡ suc (64 - length (listed ++ t ∷ [])) = omega (arith, room, long) in
      let next : AreTaken owner atom (64 - length listed) listed (t ∷ rest) (t ∷ more) = subst (λ n. AreTaken owner atom n listed (t ∷ rest) (t ∷ more)) (sym less) (taken t new kept d) in
      subst (λ xs. AreTaken owner atom 64 [] xs ((listed ++ t ∷ []) ++ more)) (sym (append_assoc all (t ∷ []) rest))
      (subst (λ ts. AreTaken owner atom 64 [] (all ++ t ∷ rest) ts) (sym (append_assoc listed (t ∷ []) more)) (before (t ∷ rest) (t ∷ more) next))

-- ---- what is listed, with one more

pub listed_more : (listed : List Judged) (j : Judged) → templates_of (listed ++ j ∷ []) ≡ templates_of listed ++ j.template ∷ []
listed_more [] j = refl
listed_more (i ∷ listed) j = ap (λ ts. i.template ∷ ts) (listed_more listed j)

pub listed_length : (listed : List Judged) → length (templates_of listed) ≡ length listed
listed_length [] = refl
listed_length (i ∷ listed) = let rest = listed_length listed in omega (arith, rest)

all_more : {T : Type 0} (P : T → Type 0) (xs : List T) (x : T) → All P xs → P x → All P (xs ++ x ∷ [])
all_more P [] x all its = All-cons P x [] its all
all_more P (y ∷ xs) x all its = All-cons P y (xs ++ x ∷ []) (All-head P y xs all) (all_more P xs x (All-tail P y xs all) its)

pub well_more : (owner : Owner) (listed : List Judged) (j : Judged) → length listed < 64 → AreWell owner listed → IsJudged owner j → AreWell owner (listed ++ j ∷ [])
well_more owner listed j room well its =
    let long = length_more listed j in
    record {
      few = omega (arith, room, long);
      judged = all_more (IsJudged owner) listed j well.judged its;
    }
