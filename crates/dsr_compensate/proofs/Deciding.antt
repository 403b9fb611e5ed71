-- What a negated answer decides, and the rule that alone gives a relation's pairs.
use Rattle.std.proofs.Common.{◌≡◌, ◌↔◌, ℕ, Bool, true, false, not, ◌||◌, IsTrue, List, [], Option, None, Some, IsSome, nat_eq, arith, unwrap_or, inl, inr, refl, sym, ap, subst, ◌∙◌}
use Rattle.std.specs.Prelude.{IsSomeAnd}
use Rattle.std.specs.Option.{option_and_then, option_eq}
use Rattle.std.proofs.lemmas.Bool.Decides.{nat_tests}
use Rattle.std.proofs.lemmas.Bool.{false≢true}
use Rattle.dsr_ir.specs.declared.declarations.Pool.{Pool}
use Rattle.dsr_ir.specs.declared.declarations.Structures.{Structures}
use Rattle.dsr_ir.specs.declared.updates.Symbol.{Symbol}
use Rattle.dsr_ir.specs.declared.updates.Symbol.TheVariants.{Set}
use Rattle.dsr_effect.specs.Contexts.{change_for, change_in}
use Rattle.dsr_ir.specs.declared.updates.Goal.{Goal}
use Rattle.dsr_ir.specs.declared.updates.Update.{Update}
use Rattle.dsr_graph_theory.specs.Owners.{Keeps, change_of}
use Rattle.dsr_update_theory.specs.Facts.{exclusive}
use Rattle.dsr_graph_theory.specs.Sides.{IsNoFreshOne, MaySupply}
use Rattle.dsr_meaning.specs.Typed.{IsTypedQuant, pool_at}
use Rattle.dsr_compensate.specs.Owned.{IsSound, owner_of}
use Rattle.dsr_compensate.specs.declared.owner.Owner.{Owner}
use Rattle.dsr_compensate.specs.Judged.{IsEffectOf}
use Rattle.dsr_update_theory.specs.Changes.{Change, fresh_pool, written_pool}
use Rattle.dsr_update_theory.specs.Effects.{InTable, IsDeclared, changes, has_tag}
use Rattle.dsr_update_theory.specs.Touching.{named_by}
use Rattle.dsr_update_theory.specs.declared.effects.Effect.{Effect}
use Rattle.dsr_update_theory.specs.declared.effects.Tag.{Tag}
use Rattle.dsr_update_theory.specs.declared.effects.Tag.TheVariants as tags_variants
use Rattle.dsr_update_theory.specs.declared.effects.Tag.TheVariants.{Fresh}
use Rattle.dsr_update_theory.specs.declared.effects.Tags.{Tags}
use Rattle.dsr_update_theory.specs.declared.effects.Direction.{Direction}
use Rattle.dsr_update_theory.specs.declared.effects.Direction.TheVariants.{Gain}

pub not_decides : (r : Bool) (P Q : Type 0) → IsTrue r ↔ P → (Q → P → ⊥) → ((P → ⊥) → Q) → IsTrue (not r) ↔ Q
not_decides true P Q decides apart either = (λ no. absurd (false≢true no), λ q. absurd (apart q (decides.0 refl)))
not_decides false P Q decides apart either = (λ _. either (λ p. absurd (false≢true (decides.1 p))), λ _. refl)

-- a symbol keeps where the effect has no tag for it
pub keeps_if : (base : Structures) (effect : Effect) (direction : Direction) (symbol : Symbol) (r : Bool) (c : Change) → IsDeclared base symbol → c.spec.base ≡ base → IsEffectOf c effect → IsTrue r ↔ ((tag : Tag) × IsTrue (changes base effect direction symbol tag)) → IsTrue (not r) ↔ Keeps c direction symbol
keeps_if base effect direction symbol r c declared same is decides =
    not_decides r ((tag : Tag) × IsTrue (changes base effect direction symbol tag)) (Keeps c direction symbol) decides
    (λ keeps found. keeps found.0 ((is direction symbol found.0 (subst (λ b. IsDeclared b symbol) (sym same) declared)).0 (subst (λ b. IsTrue (changes b effect direction symbol found.0)) (sym same) found.1)))
    (λ none tag there. none (tag, subst (λ b. IsTrue (changes b effect direction symbol tag)) same ((is direction symbol tag (subst (λ b. IsDeclared b symbol) (sym same) declared)).1 there)))

-- the quantifier of a constraint that is kept rightly is typed
pub typed_quantifier : (o : Owner) → IsSound o → IsTypedQuant o.spec.now.base o.constraint.now.quant
typed_quantifier o sound =
    subst (λ s. IsTypedQuant s.base o.constraint.now.quant) sound.context_is.spec_is
    (subst (λ q. IsTypedQuant o.context.spec.now.base q) sound.context_is.quant_is sound.context.quantifier)

-- both, where the first is known
pub then_both : (a b : Bool) (P Q : Type 0) → a ≡ true → IsTrue a ↔ P → IsTrue b ↔ Q → IsTrue b ↔ (P × Q)
then_both a b P Q is first second = (λ t. (first.0 is, second.0 t), λ both. second.1 both.1)

pub else_both : (a : Bool) (P Q : Type 0) → a ≡ false → IsTrue a ↔ P → IsTrue a ↔ (P × Q)
else_both a P Q is first = (λ t. absurd (false≢true (sym is ∙ t)), λ both. absurd (false≢true (sym is ∙ first.1 both.0)))

pub else_of_both : (a : Bool) (P Q : Type 0) → a ≡ false → IsTrue a ↔ P → IsTrue false ↔ (P × Q)
else_of_both a P Q is first = (λ t. absurd (false≢true t), λ both. absurd (false≢true (sym is ∙ first.1 both.0)))

-- a tag that is told of is the fresh one, where no other is told of
pub fresh_alone : (tags : Tags) (r : Bool) → r ≡ not (tags.written || tags.entry || tags.any) → IsTrue r ↔ ((tag : Tag) → IsTrue (has_tag tag tags) → tag ≡ Fresh)
fresh_alone tags r is = (subst (λ b. IsTrue b → Only) (sym is) (only tags.written tags.entry tags.any refl refl refl), subst (λ b. Only → IsTrue b) (sym is) (none tags.written tags.entry tags.any refl refl refl)) where
  Only : Type 0
  Only = (tag : Tag) → IsTrue (has_tag tag tags) → tag ≡ Fresh

  only : (w e a : Bool) → tags.written ≡ w → tags.entry ≡ e → tags.any ≡ a → IsTrue (not (w || e || a)) → Only
  only false false false w_is e_is a_is h tags_variants.Written has = absurd (false≢true (sym w_is ∙ has))
  only false false false w_is e_is a_is h tags_variants.Entry has = absurd (false≢true (sym e_is ∙ has))
  only false false false w_is e_is a_is h tags_variants.Any has = absurd (false≢true (sym a_is ∙ has))
  only false false false w_is e_is a_is h tags_variants.Fresh has = refl
  only true e a w_is e_is a_is h tag has = absurd (false≢true h)
  only false true a w_is e_is a_is h tag has = absurd (false≢true h)
  only false false true w_is e_is a_is h tag has = absurd (false≢true h)

  none : (w e a : Bool) → tags.written ≡ w → tags.entry ≡ e → tags.any ≡ a → Only → IsTrue (not (w || e || a))
  none false false false w_is e_is a_is all = refl
  none true e a w_is e_is a_is all = let no = all tags_variants.Written w_is in absurd cc
  none false true a w_is e_is a_is all = let no = all tags_variants.Entry e_is in absurd cc
  none false false true w_is e_is a_is all = let no = all tags_variants.Any a_is in absurd cc

-- a set gains a fresh record alone where no other tag is told of it
pub gains_fresh_alone : (base : Structures) (effect : Effect) (set : ℕ) (tags : Tags) (r : Bool) (c : Change) → IsDeclared base (Set set) → c.spec.base ≡ base → IsEffectOf c effect → ((tag : Tag) → has_tag tag tags ≡ changes base effect Gain (Set set) tag) → IsTrue r ↔ ((tag : Tag) → IsTrue (has_tag tag tags) → tag ≡ Fresh) → IsTrue r ↔ ((tag : Tag) → InTable c Gain (Set set) tag → tag ≡ Fresh)
gains_fresh_alone base effect set tags r c declared same is told decides =
    let there : IsDeclared c.spec.base (Set set) = subst (λ b. IsDeclared b (Set set)) (sym same) declared in
    let to : (tag : Tag) → IsTrue (has_tag tag tags) → InTable c Gain (Set set) tag
    = λ tag has. (is Gain (Set set) tag there).0 (subst (λ b. IsTrue (changes b effect Gain (Set set) tag)) (sym same) (sym (told tag) ∙ has)) in
    let back : (tag : Tag) → InTable c Gain (Set set) tag → IsTrue (has_tag tag tags)
    = λ tag has. told tag ∙ subst (λ b. IsTrue (changes b effect Gain (Set set) tag)) same ((is Gain (Set set) tag there).1 has) in
    (λ t tag has. decides.0 t tag (back tag has), λ all. decides.1 (λ tag has. all tag (to tag has)))

-- where there is a supply, and the record that is written is one of the pool's, it must be known to be no fresh one
pub supplies_if : (c : Change) (pool : ℕ) (d : Pool) (avoid : List ℕ) (r : Bool) → c.update.fresh ≡ Some pool → pool_at c.spec.base pool ≡ Some d → d.avoid ≡ Some avoid → written_pool c ≡ Some pool → (named_by (fresh_pool c) ≡ avoid → IsTrue r ↔ IsNoFreshOne c c.update.place) → IsTrue r ↔ MaySupply c pool
supplies_if c pool d avoid r fresh_is pool_is avoid_is written decides =
    let named : named_by (fresh_pool c) ≡ avoid =
    ap (λ o. named_by (option_and_then (pool_at c.spec.base) o)) fresh_is ∙ (ap named_by pool_is ∙ ap (λ o. unwrap_or o []) avoid_is) in
    let supply : IsSomeAnd (pool_at c.spec.base pool) (λ x. IsSome x.avoid) =
    subst (λ o. IsSomeAnd o (λ x. IsSome x.avoid)) (sym pool_is) (subst (λ o. IsSome o) (sym avoid_is) refl) in (
      λ t. record { supply = supply; other = inr ((decides named).0 t) },
      λ may. elim may.other as (λ _. IsTrue r) [
        | inl differs ↦ absurd (differs written)
        | inr none ↦ (decides named).1 none
      ],
    )

-- two pools that are equal by a test
pub same_pool : (o : Option ℕ) (pool : ℕ) → option_eq nat_eq o (Some pool) ≡ true → o ≡ Some pool
same_pool None pool e = absurd (false≢true e)
same_pool (Some x) pool e = ap Some (grind (arith, nat_tests))

pub not_false : (b : Bool) → not b ≡ false → b ≡ true
not_false true e = refl
not_false false e = sym e

-- an update is judged in the context as it is for the constraint
pub change_same : (o : Owner) → IsSound o → (goal : Goal) (update : Update) → change_in o.context goal update ≡ change_of (owner_of o) goal update
change_same o sound goal update =
    ap (λ s. change_for s o.context.exclusive.now o.context.quant.now goal update) sound.context_is.spec_is
    ∙ (ap (λ e. change_for o.spec.now e o.context.quant.now goal update) sound.context_is.exclusive_is
    ∙ ap (λ q. change_for o.spec.now (exclusive o.spec.now o.number) q goal update) sound.context_is.quant_is)
