-- Rows of tags to which what a rule changes is added.
use Rattle.std.proofs.Common.{◌≡◌, ◌<◌, ◌⊎◌, ◌↔◌, ◌||◌, ◌++◌, ℕ, zero, suc, Bool, true, false, List, [], ◌∷◌, length, replicate, get_or, set, IsTrue, inl, inr, refl, sym, ap, subst, ◌∙◌, arith}
use Rattle.dsr_effect.specs.Rows.{has_row_tag, joined, no_tags}
use Rattle.dsr_effect.specs.Table.{IsChangedBy, row_number}
use Rattle.std.proofs.Math.Bool.{or-true}
use Rattle.std.proofs.lemmas.Bool.{false≢true}
use Rattle.dsr_effect.specs.Told.{IsTouchOf}
use Rattle.dsr_effect.specs.declared.touching.Touch.{Touch}
use Rattle.dsr_ir.specs.Rules.{symbol_of}
use Rattle.dsr_ir.specs.declared.rules.Rule.{Rule}
use Rattle.dsr_meaning.proofs.Lists.{in_front_or_last}
use Rattle.dsr_update_theory.specs.Changes.{Change}
use Rattle.dsr_update_theory.specs.Effects.{MayChange, has_tag}
use Rattle.dsr_update_theory.specs.Effects.MayChange.{gain_at_f, gain_at_w, loss_at_f, loss_at_w}
use Rattle.dsr_update_theory.specs.Touching.{IsTouchedAtF, IsTouchedAtW}
use Rattle.dsr_update_theory.specs.declared.effects.Tag.{Tag}
use Rattle.dsr_update_theory.specs.declared.effects.Tag.TheVariants.{Written, Entry, Fresh, Any}
use Rattle.dsr_update_theory.specs.declared.effects.Tags.{Tags}
use Rattle.dsr_update_theory.specs.declared.effects.Direction.{Direction}
use Rattle.dsr_update_theory.specs.declared.effects.Direction.TheVariants.{Gain, Loss}
use Rattle.dsr_meaning.proofs.Items.{in_left, in_right}

joined_has : (a b : Tags) (tag : Tag) → has_tag tag (joined a b) ≡ has_tag tag a || has_tag tag b
joined_has a b Written = refl
joined_has a b Entry = refl
joined_has a b Fresh = refl
joined_has a b Any = refl

either : (a b : Bool) → IsTrue (a || b) ↔ (IsTrue a ⊎ IsTrue b)
either true b = (λ h. inl refl, λ h. refl)
either false b = (λ h. inr h, λ h. elim h as (λ _. IsTrue b) [ inl e ↦ absurd cc | inr e ↦ e ])

-- the tags of one row are joined with others
pub one_joined : (rows : List Tags) (k : ℕ) (d tags new : Tags) → k < length rows → new ≡ joined (get_or rows k d) tags → (row : ℕ) (tag : Tag) → IsTrue (has_row_tag (set rows k new) row tag) ↔ (IsTrue (has_row_tag rows row tag) ⊎ (row ≡ k) × IsTrue (has_tag tag tags))
one_joined [] k d tags new lt e row tag = absurd (omega (arith, lt))
one_joined (r ∷ rows) zero d tags new lt e zero tag =
    let is : has_tag tag new ≡ has_tag tag r || has_tag tag tags = ap (has_tag tag) e ∙ joined_has r tags tag in
    let both = either (has_tag tag r) (has_tag tag tags) in (
      λ h. elim (both.0 (sym is ∙ h)) as (λ _. IsTrue (has_tag tag r) ⊎ (zero ≡ zero) × IsTrue (has_tag tag tags)) [ inl a ↦ inl a | inr b ↦ inr (refl, b) ],
      λ h. is ∙ both.1 (elim h as (λ _. IsTrue (has_tag tag r) ⊎ IsTrue (has_tag tag tags)) [ inl a ↦ inl a | inr b ↦ inr b.1 ]),
    )
one_joined (r ∷ rows) zero d tags new lt e (suc row) tag =
    (λ h. inl h, λ h. elim h as (λ _. IsTrue (has_row_tag rows row tag)) [ inl a ↦ a | inr b ↦ absurd (omega (arith, b.0)) ])
one_joined (r ∷ rows) (suc k) d tags new lt e zero tag =
    (λ h. inl h, λ h. elim h as (λ _. IsTrue (has_tag tag r)) [ inl a ↦ a | inr b ↦ absurd (omega (arith, b.0)) ])
one_joined (r ∷ rows) (suc k) d tags new lt e (suc row) tag =
    let later = one_joined rows k d tags new (omega (arith, lt)) e row tag in (
      λ h. elim (later.0 h) as (λ _. IsTrue (has_row_tag rows row tag) ⊎ (suc row ≡ suc k) × IsTrue (has_tag tag tags)) [ inl a ↦ inl a | inr b ↦ inr (ap suc b.0, b.1) ],
      λ h. later.1 (elim h as (λ _. IsTrue (has_row_tag rows row tag) ⊎ (row ≡ k) × IsTrue (has_tag tag tags)) [ inl a ↦ inl a | inr b ↦ let same : row ≡ k = omega (arith, b.0) in inr (same, b.1) ]),
    )

-- a rule's change was added
abbrev pub IsAdded : Change → Rule → Direction → List Tags → List Tags → Type 0
IsAdded c rule direction before after =
    (row : ℕ) (tag : Tag) → IsTrue (has_row_tag after row tag)
    ↔ (IsTrue (has_row_tag before row tag) ⊎ (row ≡ row_number c.spec.base direction (symbol_of rule.inc)) × MayChange c rule direction tag)

pub is_added : (c : Change) (rule : Rule) (direction : Direction) (rows : List Tags) (k : ℕ) (d tags new : Tags) → k < length rows → k ≡ row_number c.spec.base direction (symbol_of rule.inc) → new ≡ joined (get_or rows k d) tags → ((tag : Tag) → IsTrue (has_tag tag tags) ↔ MayChange c rule direction tag) → IsAdded c rule direction rows (set rows k new)
is_added c rule direction rows k d tags new lt is e may row tag =
    let one = one_joined rows k d tags new lt e row tag in (
      λ h. elim (one.0 h) as (λ _. IsTrue (has_row_tag rows row tag) ⊎ (row ≡ row_number c.spec.base direction (symbol_of rule.inc)) × MayChange c rule direction tag) [ inl a ↦ inl a | inr b ↦ inr (b.0 ∙ is, (may tag).0 b.1) ],
      λ h. one.1 (elim h as (λ _. IsTrue (has_row_tag rows row tag) ⊎ (row ≡ k) × IsTrue (has_tag tag tags)) [ inl a ↦ inl a | inr b ↦ inr (b.0 ∙ sym is, (may tag).1 b.1) ]),
    )

-- the rows have what these rules change
abbrev pub AreChanged : Change → List Rule → List Tags → Type 0
AreChanged c rules rows = (row : ℕ) (tag : Tag) → IsTrue (has_row_tag rows row tag) ↔ IsChangedBy c rules row tag

nothing_there : (n row : ℕ) (tag : Tag) → has_row_tag (replicate n no_tags) row tag ≡ false
nothing_there zero row tag = refl
nothing_there (suc n) zero Written = refl
nothing_there (suc n) zero Entry = refl
nothing_there (suc n) zero Fresh = refl
nothing_there (suc n) zero Any = refl
nothing_there (suc n) (suc row) tag = nothing_there n row tag

pub none_changed : (c : Change) (n : ℕ) → AreChanged c [] (replicate n no_tags)
none_changed c n row tag = (λ h. let nothing = nothing_there n row tag in absurd cc, λ f. absurd f.among)

-- the change of a rule both ways
abbrev pub AreAdded : Change → Rule → List Tags → List Tags → Type 0
AreAdded c rule before after =
    (row : ℕ) (tag : Tag) → IsTrue (has_row_tag after row tag)
    ↔ (IsTrue (has_row_tag before row tag) ⊎ IsChangedBy c (rule ∷ []) row tag)

module _ (c : Change) (rule : Rule) (before middle after : List Tags) (gain : IsAdded c rule Gain before middle) (loss : IsAdded c rule Loss middle after) where
  pub both_added : AreAdded c rule before after
  both_added row tag = (to, from) where
    of_rule : (direction : Direction) → (row ≡ row_number c.spec.base direction (symbol_of rule.inc)) × MayChange c rule direction tag → IsChangedBy c (rule ∷ []) row tag
    of_rule direction f = record { rule = rule; direction = direction; among = inl refl; row_is = f.0; changes = f.1 }

    to : IsTrue (has_row_tag after row tag) → IsTrue (has_row_tag before row tag) ⊎ IsChangedBy c (rule ∷ []) row tag
    to h = elim ((loss row tag).0 h) as (λ _. IsTrue (has_row_tag before row tag) ⊎ IsChangedBy c (rule ∷ []) row tag) [
      | inl m ↦ elim ((gain row tag).0 m) as (λ _. IsTrue (has_row_tag before row tag) ⊎ IsChangedBy c (rule ∷ []) row tag) [ inl b ↦ inl b | inr f ↦ inr (of_rule Gain f) ]
      | inr f ↦ inr (of_rule Loss f)
    ]

    added : (direction : Direction) → (row ≡ row_number c.spec.base direction (symbol_of rule.inc)) × MayChange c rule direction tag → IsTrue (has_row_tag after row tag)
    added Gain f = (loss row tag).1 (inl ((gain row tag).1 (inr f)))
    added Loss f = (loss row tag).1 (inr f)

    changed : (r : Rule) (direction : Direction) → r ≡ rule → row ≡ row_number c.spec.base direction (symbol_of r.inc) → MayChange c r direction tag → IsTrue (has_row_tag after row tag)
    changed r direction same is may = added direction (is ∙ ap (λ x. row_number c.spec.base direction (symbol_of x.inc)) same, subst (λ x. MayChange c x direction tag) same may)

    from : IsTrue (has_row_tag before row tag) ⊎ IsChangedBy c (rule ∷ []) row tag → IsTrue (has_row_tag after row tag)
    from h = elim h as (λ _. IsTrue (has_row_tag after row tag)) [
      | inl b ↦ (loss row tag).1 (inl ((gain row tag).1 (inl b)))
      | inr f ↦ elim f.among as (λ _. IsTrue (has_row_tag after row tag)) [ inl same ↦ changed f.rule f.direction same f.row_is f.changes | inr never ↦ absurd never ]
    ]

-- a rule that isn't touched changes nothing
module _ (c : Change) (rule : Rule) (touch : Touch) (is : IsTouchOf c rule touch) (off : (touch.at_w || touch.at_f) ≡ false) where
  not_at_w : IsTouchedAtW c rule → ⊥
  not_at_w touched = false≢true (sym off ∙ ap (λ b. b || touch.at_f) (is.at_w.1 touched))

  not_at_f : IsTouchedAtF c rule → ⊥
  not_at_f touched = false≢true (sym off ∙ (ap (λ b. touch.at_w || b) (is.at_f.1 touched) ∙ or-true touch.at_w))

  untouched : (direction : Direction) (tag : Tag) → MayChange c rule direction tag → ⊥
  untouched direction tag (gain_at_w touched rest) = not_at_w touched
  untouched direction tag (loss_at_w touched rest) = not_at_w touched
  untouched direction tag (gain_at_f touched rest) = not_at_f touched
  untouched direction tag (loss_at_f touched rest) = not_at_f touched

  pub none_added : (rows : List Tags) → AreAdded c rule rows rows
  none_added rows row tag = (
    λ h. inl h,
    λ h. elim h as (λ _. IsTrue (has_row_tag rows row tag)) [
      | inl b ↦ b
      | inr f ↦ elim f.among as (λ _. IsTrue (has_row_tag rows row tag)) [
        | inl same ↦ absurd (untouched f.direction tag (subst (λ r. MayChange c r f.direction tag) same f.changes))
        | inr never ↦ absurd never
      ]
    ],
  )

-- one rule more
pub changed_more : (c : Change) (rules more : List Rule) (rule : Rule) (before after : List Tags) → more ≡ rules ++ rule ∷ [] → AreChanged c rules before → AreAdded c rule before after → AreChanged c more after
changed_more c rules more rule before after is are added = rw is (λ row tag. (
  λ h. elim ((added row tag).0 h) as (λ _. IsChangedBy c (rules ++ rule ∷ []) row tag) [
    | inl b ↦ let f = (are row tag).0 b in record { rule = f.rule; direction = f.direction; among = in_left f.rule rules (rule ∷ []) f.among; row_is = f.row_is; changes = f.changes }
    | inr f ↦ record { rule = f.rule; direction = f.direction; among = in_right f.rule rules (rule ∷ []) f.among; row_is = f.row_is; changes = f.changes }
  ],
  λ f. elim (in_front_or_last rule f.rule rules f.among) as (λ _. IsTrue (has_row_tag after row tag)) [
    | inl front ↦ (added row tag).1 (inl ((are row tag).1 (record { rule = f.rule; direction = f.direction; among = front; row_is = f.row_is; changes = f.changes })))
    | inr same ↦ (added row tag).1 (inr (record { rule = f.rule; direction = f.direction; among = inl same; row_is = f.row_is; changes = f.changes }))
  ],
))
