-- Of literals of which one can be repaired the last one can, if none before it can.
use Rattle.std.proofs.Common.{◌≡◌, ◌+◌, ◌++◌, ℕ, List, [], ◌∷◌, length, Some, inl, inr, sym, ap, subst, ◌∙◌, slice_get, arith}
use Rattle.std.proofs.lemmas.Bool.{cases_lt}
use Rattle.std.proofs.lemmas.List.{length-append}
use Rattle.std.proofs.lemmas.Option.{slice_get_within}
use Rattle.dsr_repair.proofs.Gone.{EachBefore}
use Rattle.dsr_repair.specs.Literals.{IsFalseAt, NoneIsFalse}
use Rattle.dsr_resolve.proofs.Descent.{slice_front, slice_last}
use Rattle.dsr_ir.specs.declared.constraints.Literal.{Literal}
use Rattle.dsr_ir.specs.declared.tuples.Binding.{Binding}
use Rattle.dsr_ir.specs.declared.tuples.Fact.{Fact}
use Rattle.dsr_ir.specs.declared.updates.Template.{Template}
use Rattle.dsr_meaning.specs.Truth.{LiteralHolds}
use Rattle.dsr_plan_theory.specs.declared.choices.Way.{Way}
use Rattle.dsr_plan_theory.specs.declared.choices.Way.TheVariants.{By}

-- a list, by its last item and those before it
abbrev pub EndsIn : {X : Type 0} → List X → List X → X → Type 0
EndsIn xs before last = xs ≡ before ++ last ∷ []

pub item_before :
    {X : Type 0} (xs before : List X) (last : X) → EndsIn xs before last → (n : ℕ) (x : X)
    → slice_get before n ≡ Some x → slice_get xs n ≡ Some x
item_before xs before last ends n x at =
    ap (λ l. slice_get l n) ends ∙ slice_front before (last ∷ []) n x at

pub item_last : {X : Type 0} (xs before : List X) (last : X) → EndsIn xs before last → slice_get xs (length before) ≡ Some last
item_last xs before last ends = ap (λ l. slice_get l (length before)) ends ∙ slice_last before last

module _ (is_fact : Fact → Type 0) (b : Binding) (literals : List Literal) (ways : List Way) (before : List Literal) (last : Literal)
    (ends : EndsIn literals before last) where
  abbrev pub NoneBefore : ℕ → Type 0
  NoneBefore =
      EachBefore (λ n its. (by : Template) → IsFalseAt is_fact b literals ways n its by → ⊥) literals

  -- where the last one can't be repaired, none can
  none_false :
      NoneBefore (length before)
      → ((its : Literal) (by : Template) → IsFalseAt is_fact b literals ways (length before) its by → ⊥)
      → NoneIsFalse is_fact b literals ways
  none_false none fails place its by is = elim (cases_lt place (length before)) [
    | inl earlier ↦ none place its earlier is.literal_is by is
    | inr later ↦
        let within = slice_get_within literals place its is.literal_is in
        let long : length literals ≡ length before + 1 = ap length ends ∙ length-append before (last ∷ []) in
        let same : place ≡ length before = omega (arith, within, long, later) in
        fails its by (subst (λ n. IsFalseAt is_fact b literals ways n its by) same is)
  ]

  module _ (none : NoneBefore (length before)) (some : NoneIsFalse is_fact b literals ways → ⊥) where
    -- the last one has a template
    pub has_way :
        ((number : ℕ) (by : Template) → slice_get ways (length before) ≡ Some (By number by) → ⊥) → ⊥
    has_way fails = some (none_false none (λ its by is. fails is.number by is.way_is))

    -- and is false
    pub last_false :
        (number : ℕ) (by : Template) → slice_get ways (length before) ≡ Some (By number by)
        → IsFalseAt is_fact b literals ways (length before) last by
    last_false number by way =
        let its_place = item_last literals before last ends in
        record {
          number = number;
          literal_is = its_place;
          way_is = way;
          is_false = λ holds. some (none_false none (λ its other is.
              let same : Some its ≡ Some last = sym is.literal_is ∙ its_place in
              let one : its ≡ last = cc in
              is.is_false (subst (λ l. LiteralHolds is_fact b l) (sym one) holds)));
        }
