-- What becomes of one path that a rule reads, and of guards and target together.
use Rattle.std.proofs.Common.{◌≡◌, ◌<◌, ◌+◌, ◌⊎◌, ◌∙◌, ◌||◌, ◌&&◌, ◌++◌, ℕ, Bool, true, false, not, get_or, length, take, List, [], ◌∷◌, map, Option, None, Some, IsTrue, IsSomeAnd, Decides, if◌then◌else◌, inl, inr, refl, sym, ap, subst}
use Rattle.std.specs.Option.{is_some, option_map_or}
use Rattle.std.proofs.Math.Bool.{or-false}
use Rattle.std.proofs.lemmas.Bool.{false≢true}
use Rattle.std.proofs.lemmas.Bool.Decides.{Decides-and, Decides-like, Decides-or}
use Rattle.std.proofs.lemmas.List.{take_more}
use Rattle.std.proofs.lemmas.Option.{same_Some}
use Rattle.dsr_ir.specs.Rules.{target_of}
use Rattle.dsr_ir.specs.declared.rules.Guard.{Guard}
use Rattle.dsr_ir.specs.declared.rules.Path.{Path}
use Rattle.dsr_ir.specs.declared.rules.Rule.{Rule}
use Rattle.dsr_ir.specs.declared.updates.Write.{Write}
use Rattle.dsr_meaning.specs.Lists.{any_of}
use Rattle.dsr_meaning.proofs.Lists.{in_front_or_last, last_in}
use Rattle.dsr_update_theory.specs.Changes.{Change, is_at_entry, is_foreign, is_touched, reads_touched, target_paths, write_to}
use Rattle.dsr_update_theory.specs.Touching.{IsBlockedAtW, IsSure, IsSureAtW, IsUnmovedAtW, LeavesNone, write_read}
use Rattle.dsr_effect.specs.Told.{AreRead, IsPathReading, IsReading, both}
use Rattle.dsr_effect.specs.declared.readings.Reading.{Reading}
use Rattle.dsr_effect.proofs.Guards.{EachIn, SomeIn}
use Rattle.dsr_meaning.proofs.Items.{in_left}

-- ---- one path

-- where what is looked at is so, something is there
some_there : (out : Bool) (o : Option Write) (P : Write → Type 0) → IsSomeAnd (if out then None else o) P → is_some o ≡ true
some_there true o P h = absurd h
some_there false None P h = absurd h
some_there false (Some w) P h = refl

none_so : (out : Bool) (o : Option Write) → IsSomeAnd (if out then None else o) (λ w. ⊥) → ⊥
none_so true o h = h
none_so false None h = h
none_so false (Some w) h = h

left_or : (a b : Bool) → a ≡ true → (a || b) ≡ true
left_or true b e = refl
left_or false b e = absurd (false≢true e)

-- a field whose write is looked at is touched
looked_touched : (c : Change) (rule : Rule) (joins : Bool) (path : Path) (P : Write → Type 0) → IsSomeAnd (write_read c rule joins path) P → is_touched c path.field ≡ true
looked_touched c rule joins path P h =
    left_or (is_some (write_to c.update.writes path.field)) (is_foreign c path.field)
    (some_there (path.indexed && (joins || not (is_at_entry c rule))) (write_to c.update.writes path.field) P h)

-- ---- guards

-- some item is: an earlier one, or the last
some_more : {A : Type 0} (P : A → Type 0) (xs : List A) (x : A) (a b : Bool) → Decides a (SomeIn P xs) → Decides b (P x) → Decides (a || b) (SomeIn P (xs ++ x ∷ []))
some_more P xs x a b earlier last = Decides-like (a || b) to from (Decides-or a b earlier last) where
  to : SomeIn P xs ⊎ P x → SomeIn P (xs ++ x ∷ [])
  to (inl s) = (s.0, in_left s.0 xs (x ∷ []) s.1, s.2)
  to (inr p) = (x, last_in x xs, p)

  from : SomeIn P (xs ++ x ∷ []) → SomeIn P xs ⊎ P x
  from s = elim (in_front_or_last x s.0 xs s.1) [ inl front ↦ inl (s.0, front, s.2) | inr same ↦ inr (subst P same s.2) ]

-- the last one isn't
some_same : {A : Type 0} (P : A → Type 0) (xs : List A) (x : A) (a : Bool) → Decides a (SomeIn P xs) → (P x → ⊥) → Decides a (SomeIn P (xs ++ x ∷ []))
some_same P xs x a earlier last = Decides-like a to from earlier where
  to : SomeIn P xs → SomeIn P (xs ++ x ∷ [])
  to s = (s.0, in_left s.0 xs (x ∷ []) s.1, s.2)

  from : SomeIn P (xs ++ x ∷ []) → SomeIn P xs
  from s = elim (in_front_or_last x s.0 xs s.1) [ inl front ↦ (s.0, front, s.2) | inr same ↦ absurd (last (subst P same s.2)) ]

-- each item is: the earlier ones, and the last
each_last : {A : Type 0} (P : A → Type 0) (xs : List A) (x : A) (a b : Bool) → Decides a (EachIn P xs) → Decides b (P x) → Decides (a && b) (EachIn P (xs ++ x ∷ []))
each_last P xs x a b earlier last = Decides-like (a && b) to from (Decides-and a b earlier last) where
  to : EachIn P xs × P x → EachIn P (xs ++ x ∷ [])
  to each y is_in = elim (in_front_or_last x y xs is_in) [ inl front ↦ each.0 y front | inr same ↦ subst P (sym same) each.1 ]

  from : EachIn P (xs ++ x ∷ []) → EachIn P xs × P x
  from each = (λ y front. each y (in_left y xs (x ∷ []) front), each x (last_in x xs))

-- the last one is for certain
each_same : {A : Type 0} (P : A → Type 0) (xs : List A) (x : A) (a : Bool) → Decides a (EachIn P xs) → P x → Decides a (EachIn P (xs ++ x ∷ []))
each_same P xs x a earlier last = Decides-like a to (λ each y front. each y (in_left y xs (x ∷ []) front)) earlier where
  to : EachIn P xs → EachIn P (xs ++ x ∷ [])
  to each y is_in = elim (in_front_or_last x y xs is_in) [ inl front ↦ each y front | inr same ↦ subst P (sym same) last ]

-- the next guard of a loop
pub next_guard : (items guards : List Guard) → items ≡ guards → (i : ℕ) (d : Guard) → i < length items → take (i + 1) guards ≡ take i guards ++ get_or items i d ∷ []
next_guard items guards all i d lt = subst (λ gs. take (i + 1) gs ≡ take i gs ++ get_or items i d ∷ []) all (take_more items i d lt)

any_more : {A : Type 0} (f : Path → Bool) (g : A → Path) (xs : List A) (x : A) → any_of f (map g (xs ++ x ∷ [])) ≡ (any_of f (map g xs) || f (g x))
any_more f g [] x = or-false (f (g x))
any_more f g (y ∷ xs) x = elim (f (g y)) as (λ b. (b || any_of f (map g (xs ++ x ∷ []))) ≡ ((b || any_of f (map g xs)) || f (g x))) [
  | true ↦ refl
  | false ↦ any_more f g xs x
]

module _ (c : Change) (rule : Rule) where
  abbrev Sure : Guard → Type 0
  Sure guard = IsTrue (is_touched c guard.path.field) → IsSureAtW c rule false true guard

  abbrev touches : Path → Bool
  touches path = is_touched c path.field

  module _ (guards more : List Guard) (guard : Guard) (are_more : more ≡ guards ++ guard ∷ []) (reading : Reading) (are : AreRead c rule guards reading) where
    -- one guard more, which may have another value
    pub read_more : (one after : Reading) → after ≡ both reading one → IsPathReading c rule guard.path (λ w. IsSure c w false guard.test) (λ w. IsSure c w true guard.test) one → AreRead c rule more after
    read_more one after is read = subst (λ gs. AreRead c rule gs after) (sym are_more) (subst (AreRead c rule (guards ++ guard ∷ [])) (sym is) (record {
      touched =
          ap (λ a. a || one.touched) are.touched
          ∙ ap (λ b. any_of touches (map (λ g. g.path) guards) || b) (read.touched ∙ sym read.may_differ)
          ∙ sym (any_more touches (λ g. g.path) guards guard);
      blocked = some_more (IsSureAtW c rule false false) guards guard reading.blocked one.blocked are.blocked read.blocked;
      blocked_joining = some_more (IsSureAtW c rule true false) guards guard reading.blocked_joining one.blocked_joining are.blocked_joining read.blocked_joining;
      unmoved = each_last Sure guards guard reading.unmoved one.unmoved are.unmoved (λ e _. read.unmoved.0 e, λ sure. read.unmoved.1 (sure read.may_differ));
    }))

    -- one whose value stays
    pub read_same : is_touched c guard.path.field ≡ false → AreRead c rule more reading
    read_same stays = subst (λ gs. AreRead c rule gs reading) (sym are_more) (record {
      touched =
          are.touched ∙ sym (or-false (any_of touches (map (λ g. g.path) guards)))
          ∙ ap (λ b. any_of touches (map (λ g. g.path) guards) || b) (sym stays)
          ∙ sym (any_more touches (λ g. g.path) guards guard);
      blocked = some_same (IsSureAtW c rule false false) guards guard reading.blocked are.blocked (λ sure. false≢true (sym stays ∙ looked_touched c rule false guard.path _ sure));
      blocked_joining = some_same (IsSureAtW c rule true false) guards guard reading.blocked_joining are.blocked_joining (λ sure. false≢true (sym stays ∙ looked_touched c rule true guard.path _ sure));
      unmoved = each_same Sure guards guard reading.unmoved are.unmoved (λ touched. absurd (false≢true (sym stays ∙ touched)));
    })

  -- ---- guards and target

  any_both : (xs ys : List Path) → any_of touches (xs ++ ys) ≡ (any_of touches xs || any_of touches ys)
  any_both [] ys = refl
  any_both (x ∷ xs) ys = elim (touches x) as (λ b. (b || any_of touches (xs ++ ys)) ≡ ((b || any_of touches xs) || any_of touches ys)) [
    | true ↦ refl
    | false ↦ any_both xs ys
  ]

  module _ (guards : Reading) (are : AreRead c rule rule.guards guards) where
    -- the paths of the guards, and what the target adds
    reads_by : (b : Bool) → any_of touches (target_paths rule) ≡ b → (guards.touched || b) ≡ reads_touched c rule
    reads_by b target =
        ap (λ a. a || b) are.touched
        ∙ ap (λ x. any_of touches (map (λ g. g.path) rule.guards) || x) (sym target)
        ∙ sym (any_both (map (λ g. g.path) rule.guards) (target_paths rule))

    module _ (path : Path) (is : target_of rule.inc ≡ Some path) where
      target_touched : any_of touches (target_paths rule) ≡ is_touched c path.field
      target_touched = ap (λ o. any_of touches (option_map_or (λ p. p ∷ []) o [])) is ∙ or-false (touches path)

      -- the target is left none just where this path is
      at_path : (joins : Bool) → IsSomeAnd (target_of rule.inc) (λ p. IsSomeAnd (write_read c rule joins p) (LeavesNone c)) → IsSomeAnd (write_read c rule joins path) (LeavesNone c)
      at_path joins t = subst (λ o. IsSomeAnd o (λ p. IsSomeAnd (write_read c rule joins p) (LeavesNone c))) is t

      -- the target stays, and the guards tell all
      pub still_reading : is_touched c path.field ≡ false → IsReading c rule guards
      still_reading stays = record {
        touched = sym (or-false guards.touched) ∙ reads_by false (target_touched ∙ stays);
        blocked = Decides-like guards.blocked (λ s. inl s) (of_guards false) are.blocked;
        blocked_joining = Decides-like guards.blocked_joining (λ s. inl s) (of_guards true) are.blocked_joining;
        unmoved = Decides-like guards.unmoved (λ each. record { guards = each; target = same_target }) (λ u. u.guards) are.unmoved;
      } where
        of_guards : (joins : Bool) → IsBlockedAtW c rule joins → SomeIn (IsSureAtW c rule joins false) rule.guards
        of_guards joins (inl s) = s
        of_guards joins (inr t) = absurd (false≢true (sym stays ∙ looked_touched c rule joins path (LeavesNone c) (at_path joins t)))

        same_target : (other : Path) → target_of rule.inc ≡ Some other → is_touched c other.field ≡ false
        same_target other other_is = subst (λ p. is_touched c p.field ≡ false) (same_Some path other (sym is ∙ other_is)) stays

      -- or it may be another one
      pub target_reading : (one all : Reading) → all ≡ both guards one → IsPathReading c rule path (LeavesNone c) (λ w. ⊥) one → IsReading c rule all
      target_reading one all are_both read = subst (IsReading c rule) (sym are_both) (record {
        touched = reads_by one.touched (target_touched ∙ read.may_differ ∙ sym read.touched);
        blocked = Decides-like (guards.blocked || one.blocked) (to false) (from false) (Decides-or guards.blocked one.blocked are.blocked read.blocked);
        blocked_joining = Decides-like (guards.blocked_joining || one.blocked_joining) (to true) (from true) (Decides-or guards.blocked_joining one.blocked_joining are.blocked_joining read.blocked_joining);
        unmoved = Decides-like (guards.unmoved && one.unmoved) moves stays (Decides-and guards.unmoved one.unmoved are.unmoved read.unmoved);
      }) where
        to : (joins : Bool) → SomeIn (IsSureAtW c rule joins false) rule.guards ⊎ IsSomeAnd (write_read c rule joins path) (LeavesNone c) → IsBlockedAtW c rule joins
        to joins (inl s) = inl s
        to joins (inr t) = inr (subst (λ o. IsSomeAnd o (λ p. IsSomeAnd (write_read c rule joins p) (LeavesNone c))) (sym is) t)

        from : (joins : Bool) → IsBlockedAtW c rule joins → SomeIn (IsSureAtW c rule joins false) rule.guards ⊎ IsSomeAnd (write_read c rule joins path) (LeavesNone c)
        from joins (inl s) = inl s
        from joins (inr t) = inr (at_path joins t)

        moves : EachIn Sure rule.guards × IsSomeAnd (write_read c rule false path) (λ w. ⊥) → IsUnmovedAtW c rule
        moves w = absurd (none_so (path.indexed && (false || not (is_at_entry c rule))) (write_to c.update.writes path.field) w.1)

        stays : IsUnmovedAtW c rule → EachIn Sure rule.guards × IsSomeAnd (write_read c rule false path) (λ w. ⊥)
        stays u = absurd (false≢true (sym (u.target path is) ∙ read.may_differ))
