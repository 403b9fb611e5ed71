-- Values are put one after the other: what is left to be put leads to all that is to be put.
use Rattle.std.proofs.Common.{◌≡◌, ◌∙◌, ℕ, Bool, List, [], ◌∷◌, ◌++◌, length, refl, subst, sym}
use Rattle.dsr_ir.specs.declared.layouts.Cell.{Cell}
use Rattle.dsr_step_theory.specs.Puts.{ArePut, IsPut}
use Rattle.dsr_step_theory.specs.Puts.ArePut.{done, put}

-- two lists of values in a row
pub put_both : {xs ys : List (Cell × ℕ)} {old middle new : List ℕ} → ArePut xs old middle → ArePut ys middle new → ArePut (xs ++ ys) old new
put_both done more = more
put_both (put cell value now rest) more = put cell value now (put_both rest more)

-- whatever bytes are left once the rest is put, all is put then; no byte comes or goes, and claims stay
pub record IsPutting (all rest : List (Cell × ℕ)) (first now : List ℕ) (claimed claims : ℕ → Bool) : Type 0 where
  pub goes_on : (end : List ℕ) → ArePut rest now end → ArePut all first end
  pub long : length now ≡ length first
  pub kept : claims ≡ claimed

-- nothing is put yet
pub put_none : {all rest : List (Cell × ℕ)} {first : List ℕ} {claimed : ℕ → Bool} → rest ≡ all → IsPutting all rest first first claimed claimed
put_none {first = first} same = record {
  goes_on = λ end more. subst (λ r. ArePut r first end) same more;
  long = refl;
  kept = refl;
}

-- one value more
pub put_one :
    {all rest later : List (Cell × ℕ)} {first now next : List ℕ} {claimed claims claims' : ℕ → Bool} (cell : Cell) (value : ℕ) → IsPutting all rest first now claimed claims
    → rest ≡ (cell, value) ∷ later → IsPut cell value now next → claims' ≡ claims → IsPutting all later first next claimed claims'
put_one {now = now} cell value so_far is puts kept = record {
  goes_on = λ end more. so_far.goes_on end (subst (λ r. ArePut r now end) (sym is) (put cell value puts more));
  long = puts.puts.length ∙ so_far.long;
  kept = kept ∙ so_far.kept;
}

-- several values more
pub put_more :
    {all rest some later : List (Cell × ℕ)} {first now next : List ℕ} {claimed claims claims' : ℕ → Bool} → IsPutting all rest first now claimed claims
    → rest ≡ some ++ later → ArePut some now next → length next ≡ length now → claims' ≡ claims → IsPutting all later first next claimed claims'
put_more {now = now} so_far is puts long kept = record {
  goes_on = λ end more. so_far.goes_on end (subst (λ r. ArePut r now end) (sym is) (put_both puts more));
  long = long ∙ so_far.long;
  kept = kept ∙ so_far.kept;
}

-- all is put where nothing is left
pub put_all : {all rest : List (Cell × ℕ)} {first now : List ℕ} {claimed claims : ℕ → Bool} → IsPutting all rest first now claimed claims → rest ≡ [] → ArePut all first now
put_all {now = now} so_far none = so_far.goes_on now (subst (λ r. ArePut r now now) (sym none) done)
