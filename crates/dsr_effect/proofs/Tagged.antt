-- What one tag, no tag and the tags of either are.
use Rattle.std.proofs.Common.{◌≡◌, ◌↔◌, ◌⊎◌, ◌∙◌, ◌||◌, Bool, true, false, IsTrue, inl, inr, refl, sym, ap, subst}
use Rattle.std.proofs.lemmas.Bool.{false≢true}
use Rattle.dsr_effect.specs.Rows.{joined, no_tags, only}
use Rattle.dsr_effect.specs.Told.{MayChangeAtF, MayChangeAtW}
use Rattle.dsr_ir.specs.declared.rules.Rule.{Rule}
use Rattle.dsr_update_theory.specs.Changes.{Change}
use Rattle.dsr_update_theory.specs.Effects.{MayChange, has_tag}
use Rattle.dsr_update_theory.specs.Effects.MayChange.{gain_at_f, gain_at_w, loss_at_f, loss_at_w}
use Rattle.dsr_update_theory.specs.declared.effects.Tag.{Tag}
use Rattle.dsr_update_theory.specs.declared.effects.Tag.TheVariants.{Written, Entry, Fresh, Any}
use Rattle.dsr_update_theory.specs.declared.effects.Tags.{Tags}
use Rattle.dsr_update_theory.specs.declared.effects.Direction.{Direction}
use Rattle.dsr_update_theory.specs.declared.effects.Direction.TheVariants.{Gain, Loss}

own_tag : (tag : Tag) → has_tag tag (only tag) ≡ true
own_tag Written = refl
own_tag Entry = refl
own_tag Fresh = refl
own_tag Any = refl

one_tag : (one tag : Tag) → has_tag tag (only one) ≡ true → tag ≡ one
one_tag Written Written e = refl
one_tag Entry Entry e = refl
one_tag Fresh Fresh e = refl
one_tag Any Any e = refl
one_tag Written Entry e = absurd (false≢true e)
one_tag Written Fresh e = absurd (false≢true e)
one_tag Written Any e = absurd (false≢true e)
one_tag Entry Written e = absurd (false≢true e)
one_tag Entry Fresh e = absurd (false≢true e)
one_tag Entry Any e = absurd (false≢true e)
one_tag Fresh Written e = absurd (false≢true e)
one_tag Fresh Entry e = absurd (false≢true e)
one_tag Fresh Any e = absurd (false≢true e)
one_tag Any Written e = absurd (false≢true e)
one_tag Any Entry e = absurd (false≢true e)
one_tag Any Fresh e = absurd (false≢true e)

no_tag : (tag : Tag) → has_tag tag no_tags ≡ true → ⊥
no_tag Written e = false≢true e
no_tag Entry e = false≢true e
no_tag Fresh e = false≢true e
no_tag Any e = false≢true e

-- the only tag, where there is a change
pub tagged : {Changes : Type 0} (one : Tag) (tags : Tags) → tags ≡ only one → Changes → (tag : Tag) → IsTrue (has_tag tag tags) ↔ (Changes × (tag ≡ one))
tagged one tags are changes tag = (
  λ h. (changes, one_tag one tag (ap (has_tag tag) (sym are) ∙ h)),
  λ w. ap (has_tag tag) are ∙ (ap (λ t. has_tag t (only one)) w.1 ∙ own_tag one),
)

-- none, where there is none
pub untagged : {Changes : Type 0} (one : Tag) → (Changes → ⊥) → (tag : Tag) → IsTrue (has_tag tag no_tags) ↔ (Changes × (tag ≡ one))
untagged one still tag = (λ h. absurd (no_tag tag h), λ w. absurd (still w.0))

either : (a b : Bool) → (a || b) ≡ true → (a ≡ true) ⊎ (b ≡ true)
either true b e = inl refl
either false b e = inr e

left_or : (a b : Bool) → a ≡ true → (a || b) ≡ true
left_or true b e = refl
left_or false b e = absurd (false≢true e)

right_or : (a b : Bool) → b ≡ true → (a || b) ≡ true
right_or true b e = refl
right_or false b e = e

joined_has : (a b : Tags) (tag : Tag) → has_tag tag (joined a b) ≡ (has_tag tag a || has_tag tag b)
joined_has a b Written = refl
joined_has a b Entry = refl
joined_has a b Fresh = refl
joined_has a b Any = refl

module _ (c : Change) (rule : Rule) where
  at_either : (direction : Direction) (tag : Tag) → MayChange c rule direction tag → MayChangeAtW c rule direction tag ⊎ MayChangeAtF c rule direction tag
  at_either direction tag (gain_at_w touched rest) = inl ((touched, rest), refl)
  at_either direction tag (loss_at_w touched rest) = inl ((touched, rest), refl)
  at_either direction tag (gain_at_f touched rest) = inr ((touched, rest), refl)
  at_either direction tag (loss_at_f touched rest) = inr ((touched, rest), refl)

  of_w : (direction : Direction) (tag : Tag) → MayChangeAtW c rule direction tag → MayChange c rule direction tag
  of_w Gain tag w = subst (MayChange c rule Gain) (sym w.1) (gain_at_w w.0.0 w.0.1)
  of_w Loss tag w = subst (MayChange c rule Loss) (sym w.1) (loss_at_w w.0.0 w.0.1)

  of_f : (direction : Direction) (tag : Tag) → MayChangeAtF c rule direction tag → MayChange c rule direction tag
  of_f Gain tag w = subst (MayChange c rule Gain) (sym w.1) (gain_at_f w.0.0 w.0.1)
  of_f Loss tag w = subst (MayChange c rule Loss) (sym w.1) (loss_at_f w.0.0 w.0.1)

  pub may_change_by : (direction : Direction) (a b tags : Tags) → tags ≡ joined a b
      → ((tag : Tag) → IsTrue (has_tag tag a) ↔ MayChangeAtW c rule direction tag)
      → ((tag : Tag) → IsTrue (has_tag tag b) ↔ MayChangeAtF c rule direction tag)
      → (tag : Tag) → IsTrue (has_tag tag tags) ↔ MayChange c rule direction tag
  may_change_by direction a b tags are at_w at_f tag = (
    λ h. elim (either (has_tag tag a) (has_tag tag b) (sym (joined_has a b tag) ∙ (ap (has_tag tag) (sym are) ∙ h))) [
      | inl w ↦ of_w direction tag ((at_w tag).0 w)
      | inr f ↦ of_f direction tag ((at_f tag).0 f)
    ],
    λ m. ap (has_tag tag) are ∙ (joined_has a b tag ∙ (elim (at_either direction tag m) [
      | inl w ↦ left_or (has_tag tag a) (has_tag tag b) ((at_w tag).1 w)
      | inr f ↦ right_or (has_tag tag a) (has_tag tag b) ((at_f tag).1 f)
    ])),
  )
