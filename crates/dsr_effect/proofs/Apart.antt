-- Sets that are marked since they have no member in common with a known one.
use Rattle.std.proofs.Common.{◌≡◌, ◌<◌, ◌↔◌, ◌∙◌, ◌++◌, ℕ, Bool, true, false, List, [], ◌∷◌, length, set, replicate, IsTrue, inl, inr, refl, sym, ap, subst, arith}
use Rattle.std.proofs.lemmas.List.{length-set}
use Rattle.dsr_facts.proofs.Marking.{marked_from, marked_here, marked_still, none_marked}
use Rattle.dsr_facts.specs.Marks.{IsMarked}
use Rattle.dsr_effect.specs.Contexts.{IsApartFrom}
use Rattle.dsr_ir.specs.declared.constraints.Quant.{Quant}
use Rattle.dsr_ir.specs.declared.constraints.Var.TheVariants.{Head}
use Rattle.dsr_ir.specs.declared.declarations.Spec.{Spec}
use Rattle.dsr_meaning.specs.Counting.{IsIn}
use Rattle.dsr_meaning.proofs.Lists.{in_front_or_last, last_in}
use Rattle.dsr_meaning.proofs.Items.{in_left}
use Rattle.dsr_goal.proofs.Tellings.{never_head}

-- a pair of the set with a known one stands in the list
abbrev pub IsPaired : (ℕ → Bool) → List (ℕ × ℕ) → ℕ → Type 0
IsPaired known pairs n = (other : ℕ) × IsTrue (known other) × IsIn (n, other) pairs

-- exactly such sets are marked
pub record AreApart (known : ℕ → Bool) (pairs : List (ℕ × ℕ)) (marks : List Bool) : Type 0 where
  pub places : length marks ≡ 64
  pub exactly : (n : ℕ) → n < 64 → IsMarked marks n ↔ IsPaired known pairs n

pub apart_begins : (known : ℕ → Bool) → AreApart known [] (replicate 64 false)
apart_begins known = record {
  places = refl;
  exactly = λ n lt. (λ marked. absurd (none_marked 64 n marked), λ paired. absurd paired.2);
}

module _ (known : ℕ → Bool) (pairs more : List (ℕ × ℕ)) (pair : ℕ × ℕ) (are : more ≡ pairs ++ pair ∷ []) (marks : List Bool) (apart : AreApart known pairs marks) where
  still_paired : (n : ℕ) → IsPaired known pairs n → IsPaired known more n
  still_paired n w = (w.0, w.1, subst (IsIn (n, w.0)) (sym are) (in_left (n, w.0) pairs (pair ∷ []) w.2))

  -- a pair with a known set
  pub apart_more : pair.0 < 64 → IsTrue (known pair.1) → AreApart known more (set marks pair.0 true)
  apart_more lt is_known = record {
    places = length-set marks pair.0 true ∙ apart.places;
    exactly = λ n below. (
      λ marked. elim (marked_from marks pair.0 n marked) [
        | inl old ↦ still_paired n ((apart.exactly n below).0 old)
        | inr same ↦ subst (IsPaired known more) (sym same) (pair.1, is_known, subst (IsIn pair) (sym are) (last_in pair pairs))
      ],
      λ w. elim (in_front_or_last pair (n, w.0) pairs (subst (IsIn (n, w.0)) are w.2)) [
        | inl front ↦ marked_still marks pair.0 n ((apart.exactly n below).1 (w.0, w.1, front))
        | inr last ↦
            let number : n ≡ pair.0 = ap (λ p. p.0) last in
            subst (IsMarked (set marks pair.0 true)) (sym number) (marked_here marks pair.0 (omega (arith, lt, apart.places)))
      ],
    );
  }

  -- another pair
  pub apart_same : (pair.0 < 64 → IsTrue (known pair.1) → ⊥) → AreApart known more marks
  apart_same other = record {
    places = apart.places;
    exactly = λ n below. (
      λ marked. still_paired n ((apart.exactly n below).0 marked),
      λ w. elim (in_front_or_last pair (n, w.0) pairs (subst (IsIn (n, w.0)) are w.2)) [
        | inl front ↦ (apart.exactly n below).1 (w.0, w.1, front)
        | inr last ↦ absurd (other (subst (λ k. k < 64) (ap (λ p. p.0) last) below) (subst (λ k. IsTrue (known k)) (ap (λ p. p.1) last) w.1))
      ],
    );
  }

-- so nothing is apart from it
pub head_apart : (spec : Spec) (quant : Quant) (exclusive : List (ℕ × ℕ)) (set : ℕ) → IsMarked (replicate 64 false) set ↔ IsApartFrom spec quant exclusive Head set
head_apart spec quant exclusive set = (λ marked. absurd (none_marked 64 set marked), λ apart. absurd (never_head apart.1 refl))

pub nothing_apart : (set : ℕ) → IsMarked (replicate 64 false) set ↔ ⊥
nothing_apart set = (λ marked. none_marked 64 set marked, λ bad. absurd bad)
