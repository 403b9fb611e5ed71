-- What is known of variables, and what is excused.
use Rattle.std.proofs.Common.{◌≡◌, ◌↔◌, ◌&&◌, ℕ, Bool, true, false, not, eqb, IsTrue, Decides, List, refl, sym, ap, subst, ◌∙◌}
use Rattle.std.proofs.lemmas.Bool.{false≢true, and_parts}
use Rattle.std.proofs.lemmas.Bool.Decides.{Decides-eqb}
use Rattle.std.specs.Prelude.{MatchBool}
use Rattle.dsr_graph_theory.specs.Excuses.{AreDifferentRecords, AreTargetsApart, HappensOnlyAt, IsExcusedAt, IsExcusedAtEntry, IsExcusedAtPlace}
use Rattle.dsr_graph_theory.specs.Excuses.IsExcusedAt.{at_entry, at_place}
use Rattle.dsr_graph_theory.specs.declared.causes.Reason.{Reason}
use Rattle.dsr_ir.specs.declared.constraints.Quant.TheVariants.{Pairs}
use Rattle.dsr_ir.specs.declared.constraints.Var.{Var}
use Rattle.dsr_ir.specs.declared.constraints.Var.TheVariants.{Head, First, Second}
use Rattle.dsr_graph.specs.Told.{different_by}
use Rattle.dsr_graph.specs.declared.variables.Different.{Different}
use Rattle.dsr_graph_theory.specs.Owners.{Owner}
use Rattle.dsr_meaning.specs.Counting.{IsIn}
use Rattle.dsr_update_theory.specs.Changes.{Change}
use Rattle.dsr_update_theory.specs.Facts.{apart, exclusive}
use Rattle.dsr_update_theory.specs.KnownSets.{IsKnown}
use Rattle.dsr_update_theory.specs.Templates.{KnownSets, TellsKnown}
use Rattle.dsr_update_theory.specs.declared.effects.Tag.TheVariants.{Written, Entry}
use Rattle.dsr_goal.proofs.Tellings.{never_head}

-- whether a search finds an item
pub found_if : {T : Type 0} (xs ys : List T) (x : T) (r : Bool) → MatchBool (not r) (IsIn x xs → ⊥) (IsIn x xs) → xs ≡ ys → IsTrue r ↔ IsIn x ys
found_if xs ys x true is_in same = (λ _. subst (IsIn x) same is_in, λ _. refl)
found_if xs ys x false out same = (λ no. absurd (false≢true no), λ is_in. absurd (out (subst (IsIn x) (sym same) is_in)))

-- two variables that are known to be members of sets without a common member
pub different_if : (owner other : Owner) (pairs : List (ℕ × ℕ)) (known others : KnownSets) (v at : Var) (r : Bool) → other.spec ≡ owner.spec → pairs ≡ exclusive owner.spec owner.number → TellsKnown owner.spec owner.constraint.quant known → TellsKnown other.spec other.constraint.quant others → IsTrue r ↔ ((pair : ℕ × ℕ) × IsIn pair pairs × IsTrue (known v pair.0) × IsTrue (others at pair.1)) → IsTrue r ↔ AreDifferentRecords owner other v at
different_if owner other pairs known others v at r same exclusive_is tells tells_other decides = (
  λ t. let found = decides.0 t in record {
    set = found.0.0;
    other_set = found.0.1;
    known = (tells v found.0.0).0 found.2;
    other_known = subst (λ s. IsKnown s other.constraint.quant at found.0.1) same ((tells_other at found.0.1).0 found.3);
    exclusive = subst (IsIn found.0) exclusive_is found.1;
  },
  λ different. decides.1 ((different.set, different.other_set), subst (IsIn (different.set, different.other_set)) (sym exclusive_is) different.exclusive, (tells v different.set).1 different.known, (tells_other at different.other_set).1 (subst (λ s. IsKnown s other.constraint.quant at different.other_set) (sym same) different.other_known)),
)

-- whether two variables are so, of whichever it is asked
pub different_all : (owner other : Owner) (d : Different) → IsTrue d.first_first ↔ AreDifferentRecords owner other First First → IsTrue d.first_second ↔ AreDifferentRecords owner other First Second → IsTrue d.second_first ↔ AreDifferentRecords owner other Second First → IsTrue d.second_second ↔ AreDifferentRecords owner other Second Second → (v at : Var) → IsTrue (different_by d v at) ↔ AreDifferentRecords owner other v at
different_all owner other d ff fs sf ss First First = ff
different_all owner other d ff fs sf ss First Second = fs
different_all owner other d ff fs sf ss Second First = sf
different_all owner other d ff fs sf ss Second Second = ss
different_all owner other d ff fs sf ss Head at = (λ no. absurd (false≢true no), λ its. absurd (never_head its.known refl))
different_all owner other d ff fs sf ss First Head = (λ no. absurd (false≢true no), λ its. absurd (never_head its.other_known refl))
different_all owner other d ff fs sf ss Second Head = (λ no. absurd (false≢true no), λ its. absurd (never_head its.other_known refl))

-- what a test of two numbers each says
pub pair_decides : (a b : ℕ × ℕ) → Decides (eqb a.0 b.0 && eqb a.1 b.1) (a ≡ b)
pair_decides a b = (
  λ e. let h = and_parts (eqb a.0 b.0) (eqb a.1 b.1) e in λ i. ((Decides-eqb a.0 b.0).0 h.0 i, (Decides-eqb a.1 b.1).0 h.1 i),
  λ same. subst (λ p. (eqb a.0 p.0 && eqb a.1 p.1) ≡ true) same (subst (λ t. (t && eqb a.1 a.1) ≡ true) (sym ((Decides-eqb a.0 a.0).1 refl)) ((Decides-eqb a.1 a.1).1 refl)),
)

-- two quantifiers of relations that share no target
pub apart_if : (owner other : Owner) (rel other_rel : ℕ) (r : Bool) → owner.constraint.quant ≡ Pairs rel → other.constraint.quant ≡ Pairs other_rel → IsTrue r ↔ IsIn (rel, other_rel) (apart owner.spec owner.number) → IsTrue r ↔ AreTargetsApart owner other
apart_if owner other rel other_rel r quant_is other_is decides = (
  λ t. record {
    rel = rel;
    other_rel = other_rel;
    quant_is = quant_is;
    other_quant_is = other_is;
    apart = decides.0 t;
  },
  λ its.
      let rel_is : its.rel ≡ rel = let e = sym its.quant_is ∙ quant_is in cc in
      let other_rel_is : its.other_rel ≡ other_rel = let e = sym its.other_quant_is ∙ other_is in cc in
      decides.1 (subst (λ p. IsIn (p, other_rel) (apart owner.spec owner.number)) rel_is (subst (λ q. IsIn (its.rel, q) (apart owner.spec owner.number)) other_rel_is its.apart)),
)

-- what is excused at the written record, or at the slot of the written entry
module _ (owner other : Owner) (c : Change) (reason : Reason) (at : Var) where
  abbrev pub AtPlace : Type 0
  AtPlace = HappensOnlyAt c reason Written × IsExcusedAtPlace owner other c.update.place at

  pub at_else : (w r : Bool) → w ≡ false → IsTrue w ↔ AtPlace → HappensOnlyAt c reason Entry → IsTrue r ↔ IsExcusedAtEntry owner other c.update.at at → IsTrue r ↔ IsExcusedAt owner other c reason at
  at_else w r w_is w_tells only tells = (
    λ t. at_entry only (tells.0 t),
    λ excused. elim excused as (λ _. IsTrue r) [
      | at_place its its_place ↦ absurd (false≢true (sym w_is ∙ w_tells.1 (its, its_place)))
      | at_entry its its_entry ↦ tells.1 its_entry
    ],
  )

  pub at_never : (w : Bool) → w ≡ false → IsTrue w ↔ AtPlace → (HappensOnlyAt c reason Entry → ⊥) → IsTrue false ↔ IsExcusedAt owner other c reason at
  at_never w w_is w_tells not_only = (
    λ no. absurd (false≢true no),
    λ excused. elim excused as (λ _. IsTrue false) [
      | at_place its its_place ↦ absurd (false≢true (sym w_is ∙ w_tells.1 (its, its_place)))
      | at_entry its its_entry ↦ absurd (not_only its)
    ],
  )
