-- What is told of an update's effect by its tags.
use Rattle.std.proofs.Common.{◌≡◌, ◌↔◌, ◌||◌, Bool, true, false, not, IsTrue, refl, sym, subst, ◌∙◌}
use Rattle.std.proofs.lemmas.Bool.{false≢true}
use Rattle.dsr_graph_theory.specs.Causes.{symbol_of, direction_of}
use Rattle.dsr_graph_theory.specs.Excuses.{HappensOnlyAt, MayHappen}
use Rattle.dsr_graph_theory.specs.declared.causes.Reason.{Reason}
use Rattle.dsr_graph.specs.Told.{AreTagsOf, is_only_entry, is_only_written, is_some}
use Rattle.dsr_ir.specs.declared.declarations.Structures.{Structures}
use Rattle.dsr_compensate.specs.Judged.{IsEffectOf}
use Rattle.dsr_update_theory.specs.Changes.{Change}
use Rattle.dsr_update_theory.specs.Effects.{IsDeclared, changes, has_tag}
use Rattle.dsr_update_theory.specs.declared.effects.Effect.{Effect}
use Rattle.dsr_update_theory.specs.declared.effects.Tag.{Tag}
use Rattle.dsr_update_theory.specs.declared.effects.Tag.TheVariants as tags_variants
use Rattle.dsr_update_theory.specs.declared.effects.Tag.TheVariants.{Written, Entry}
use Rattle.dsr_update_theory.specs.declared.effects.Tags.{Tags}

-- the tags that the effect has are those of the table
pub tags_are : (base : Structures) (effect : Effect) (reason : Reason) (tags : Tags) (c : Change) → IsDeclared base (symbol_of reason) → c.spec.base ≡ base → IsEffectOf c effect → ((tag : Tag) → has_tag tag tags ≡ changes base effect (direction_of reason) (symbol_of reason) tag) → AreTagsOf c reason tags
tags_are base effect reason tags c declared same is told =
    let direction = direction_of reason in
    let symbol = symbol_of reason in
    let there : IsDeclared c.spec.base symbol = subst (λ b. IsDeclared b symbol) (sym same) declared in
    λ tag. (
      λ has. (is direction symbol tag there).0 (subst (λ b. IsTrue (changes b effect direction symbol tag)) (sym same) (sym (told tag) ∙ has)),
      λ has. told tag ∙ subst (λ b. IsTrue (changes b effect direction symbol tag)) same ((is direction symbol tag there).1 has),
    )

module _ (c : Change) (reason : Reason) (tags : Tags) (are : AreTagsOf c reason tags) where
  some_tag : (w e f a : Bool) → tags.written ≡ w → tags.entry ≡ e → tags.fresh ≡ f → tags.any ≡ a → (w || e || f || a) ≡ true → MayHappen c reason
  some_tag true e f a w_is e_is f_is a_is t = (tags_variants.Written, (are tags_variants.Written).0 w_is)
  some_tag false true f a w_is e_is f_is a_is t = (tags_variants.Entry, (are tags_variants.Entry).0 e_is)
  some_tag false false true a w_is e_is f_is a_is t = (tags_variants.Fresh, (are tags_variants.Fresh).0 f_is)
  some_tag false false false true w_is e_is f_is a_is t = (tags_variants.Any, (are tags_variants.Any).0 a_is)
  some_tag false false false false w_is e_is f_is a_is t = absurd (false≢true t)

  tag_some : (w e f a : Bool) → tags.written ≡ w → tags.entry ≡ e → tags.fresh ≡ f → tags.any ≡ a → MayHappen c reason → (w || e || f || a) ≡ true
  tag_some true e f a w_is e_is f_is a_is may = refl
  tag_some false true f a w_is e_is f_is a_is may = refl
  tag_some false false true a w_is e_is f_is a_is may = refl
  tag_some false false false true w_is e_is f_is a_is may = refl
  tag_some false false false false w_is e_is f_is a_is (tags_variants.Written, has) = sym w_is ∙ (are tags_variants.Written).1 has
  tag_some false false false false w_is e_is f_is a_is (tags_variants.Entry, has) = sym e_is ∙ (are tags_variants.Entry).1 has
  tag_some false false false false w_is e_is f_is a_is (tags_variants.Fresh, has) = sym f_is ∙ (are tags_variants.Fresh).1 has
  tag_some false false false false w_is e_is f_is a_is (tags_variants.Any, has) = sym a_is ∙ (are tags_variants.Any).1 has

  pub some_decides : IsTrue (is_some tags) ↔ MayHappen c reason
  some_decides = (some_tag tags.written tags.entry tags.fresh tags.any refl refl refl refl, tag_some tags.written tags.entry tags.fresh tags.any refl refl refl refl)

  written_only : (e f a : Bool) → tags.entry ≡ e → tags.fresh ≡ f → tags.any ≡ a → not (e || f || a) ≡ true → HappensOnlyAt c reason Written
  written_only false false false e_is f_is a_is t tags_variants.Written has = refl
  written_only false false false e_is f_is a_is t tags_variants.Entry has = absurd (false≢true (sym e_is ∙ (are tags_variants.Entry).1 has))
  written_only false false false e_is f_is a_is t tags_variants.Fresh has = absurd (false≢true (sym f_is ∙ (are tags_variants.Fresh).1 has))
  written_only false false false e_is f_is a_is t tags_variants.Any has = absurd (false≢true (sym a_is ∙ (are tags_variants.Any).1 has))
  written_only true f a e_is f_is a_is t tag has = absurd (false≢true t)
  written_only false true a e_is f_is a_is t tag has = absurd (false≢true t)
  written_only false false true e_is f_is a_is t tag has = absurd (false≢true t)

  only_written : (e f a : Bool) → tags.entry ≡ e → tags.fresh ≡ f → tags.any ≡ a → HappensOnlyAt c reason Written → not (e || f || a) ≡ true
  only_written false false false e_is f_is a_is only = refl
  only_written true f a e_is f_is a_is only = let no = only tags_variants.Entry ((are tags_variants.Entry).0 e_is) in absurd cc
  only_written false true a e_is f_is a_is only = let no = only tags_variants.Fresh ((are tags_variants.Fresh).0 f_is) in absurd cc
  only_written false false true e_is f_is a_is only = let no = only tags_variants.Any ((are tags_variants.Any).0 a_is) in absurd cc

  pub written_decides : IsTrue (is_only_written tags) ↔ HappensOnlyAt c reason Written
  written_decides = (written_only tags.entry tags.fresh tags.any refl refl refl, only_written tags.entry tags.fresh tags.any refl refl refl)

  entry_only : (w f a : Bool) → tags.written ≡ w → tags.fresh ≡ f → tags.any ≡ a → not (w || f || a) ≡ true → HappensOnlyAt c reason Entry
  entry_only false false false w_is f_is a_is t tags_variants.Entry has = refl
  entry_only false false false w_is f_is a_is t tags_variants.Written has = absurd (false≢true (sym w_is ∙ (are tags_variants.Written).1 has))
  entry_only false false false w_is f_is a_is t tags_variants.Fresh has = absurd (false≢true (sym f_is ∙ (are tags_variants.Fresh).1 has))
  entry_only false false false w_is f_is a_is t tags_variants.Any has = absurd (false≢true (sym a_is ∙ (are tags_variants.Any).1 has))
  entry_only true f a w_is f_is a_is t tag has = absurd (false≢true t)
  entry_only false true a w_is f_is a_is t tag has = absurd (false≢true t)
  entry_only false false true w_is f_is a_is t tag has = absurd (false≢true t)

  only_entry : (w f a : Bool) → tags.written ≡ w → tags.fresh ≡ f → tags.any ≡ a → HappensOnlyAt c reason Entry → not (w || f || a) ≡ true
  only_entry false false false w_is f_is a_is only = refl
  only_entry true f a w_is f_is a_is only = let no = only tags_variants.Written ((are tags_variants.Written).0 w_is) in absurd cc
  only_entry false true a w_is f_is a_is only = let no = only tags_variants.Fresh ((are tags_variants.Fresh).0 f_is) in absurd cc
  only_entry false false true w_is f_is a_is only = let no = only tags_variants.Any ((are tags_variants.Any).0 a_is) in absurd cc

  pub entry_decides : IsTrue (is_only_entry tags) ↔ HappensOnlyAt c reason Entry
  entry_decides = (entry_only tags.written tags.fresh tags.any refl refl refl, only_entry tags.written tags.fresh tags.any refl refl refl)
