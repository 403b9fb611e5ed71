-- Sets are marked on the way down.
use Rattle.std.proofs.Common.{◌≡◌, ◌<◌, ◌≤◌, ◌+◌, ◌↔◌, ◌⊎◌, ◌∙◌, inl, inr, ℕ, Bool, true, false, cond, List, length, get_or, set, replicate, Option, None, Some, IfSome, Decides, MatchOption, refl, sym, ap, subst, arith}
use Rattle.std.specs.Prelude.{sum_by}
use Rattle.std.proofs.lemmas.Bool.{cases_lt, false≢true}
use Rattle.std.proofs.lemmas.List.{length-set}
use Rattle.std.proofs.lemmas.List.Sums.{sum_by-set}
use Rattle.std.proofs.lemmas.Option.{same_Some}
use Rattle.dsr_ir.specs.declared.constraints.Quant.{Quant}
use Rattle.dsr_ir.specs.declared.constraints.Quant.TheVariants.{Once, Each, Pairs}
use Rattle.dsr_ir.specs.declared.constraints.Var.{Var}
use Rattle.dsr_ir.specs.declared.constraints.Var.TheVariants.{Head, First, Second}
use Rattle.dsr_ir.specs.declared.declarations.Spec.{Spec}
use Rattle.dsr_ir.specs.declared.updates.Symbol.TheVariants.{Set, Rel}
use Rattle.dsr_meaning.specs.Typed.{IsTyped, IsTypedQuant}
use Rattle.dsr_update_theory.specs.KnownSets.{IsKnown}
use Rattle.dsr_update_theory.specs.KnownSets.IsKnown.{quantified, source, target, base}
use Rattle.dsr_facts.specs.Marks.{Begins, IsBelow, IsClosed, IsMarked, IsNoneBelow, LeadsTo}
use Rattle.dsr_facts.specs.Marks.LeadsTo.{here, on}
use Rattle.dsr_facts.proofs.Marking.{marked_from, marked_here, marked_still, none_marked}
use Rattle.dsr_facts.proofs.Givers.{members_declared, one_below, targets_declared}

-- ---- marks

-- how many aren't marked
abbrev pub count_open : List Bool → ℕ
count_open marks = sum_by (λ m. cond m 0 1) marks

pub fewer_open : (marks : List Bool) (n : ℕ) → n < length marks → get_or marks n false ≡ false → count_open (set marks n true) < count_open marks
fewer_open marks n less unmarked =
    let step = sum_by-set (λ m. cond m 0 1) marks n true false less in
    let one : ◌≡◌ {A = ℕ} (cond (get_or marks n false) 0 1) 1 = ap (λ m. cond m 0 1) unmarked in
    omega (arith, step, one)

-- ---- from a set to the one below it, and so on

-- what is marked was so before or is led to; what is below a marked set is marked, or is next
pub record IsFollowing (spec : Spec) (start : List Bool) (set : ℕ) (marks : List Bool) (next : Option ℕ) : Type 0 where
  pub places : length marks ≡ 64
  pub sound : (other : ℕ) → IsMarked marks other → IsMarked start other ⊎ LeadsTo spec set other
  pub kept : (other : ℕ) → IsMarked start other → IsMarked marks other
  pub declared : IfSome next (λ n. (n < 64) × LeadsTo spec set n)
  pub begun : IsMarked marks set ⊎ (next ≡ Some set)
  pub closed :
      (other under : ℕ) → IsMarked marks other → IsBelow spec other under
      → IsMarked marks under ⊎ (next ≡ Some under)

pub follow_begins : (spec : Spec) (start : List Bool) (set : ℕ) → IsTyped spec → set < length spec.base.sets → length start ≡ 64 → IsClosed spec start → IsFollowing spec start set start (Some set)
follow_begins spec start set typed declared places closed = record {
  places = places;
  sound = λ other h. inl h;
  kept = λ other h. h;
  declared = (omega (arith, declared, typed.base.few_symbols), here);
  begun = inr refl;
  closed = λ other under h below. inl (closed other under h below);
}

module _ (spec : Spec) (start : List Bool) (first : ℕ) (marks : List Bool) (next : Option ℕ) (current : ℕ) (is : next ≡ Some current) where
  pub follow_within : IsFollowing spec start first marks next → current < 64
  follow_within far = (subst (λ o. IfSome o (λ n. (n < 64) × LeadsTo spec first n)) is far.declared).0

  follow_leads : IsFollowing spec start first marks next → LeadsTo spec first current
  follow_leads far = (subst (λ o. IfSome o (λ n. (n < 64) × LeadsTo spec first n)) is far.declared).1

  -- the next one is the current one
  same_next : (n : ℕ) → next ≡ Some n → n ≡ current
  same_next n e = same_Some _ _ (sym e ∙ is)

  next_declared : IsTyped spec → IsFollowing spec start first marks next → (after : Option ℕ) → MatchOption after (IsNoneBelow spec current) (IsBelow spec current) → IfSome after (λ n. (n < 64) × LeadsTo spec first n)
  next_declared typed far None below = tt
  next_declared typed far (Some n) below = (
    omega (arith, members_declared spec typed (Set current) n below, typed.base.few_symbols),
    on current n (follow_leads far) below,
  )

  next_is : (after : Option ℕ) → MatchOption after (IsNoneBelow spec current) (IsBelow spec current) → (under : ℕ) → IsBelow spec current under → after ≡ Some under
  next_is None none under below = absurd (none under below)
  next_is (Some n) found under below = ap Some (one_below spec current n under found below)

  pub follow_more : IsTyped spec → IsFollowing spec start first marks next → (after : Option ℕ) → MatchOption after (IsNoneBelow spec current) (IsBelow spec current) → IsFollowing spec start first (set marks current true) after
  follow_more typed far after below = record {
    places = length-set marks current true ∙ far.places;
    sound = λ other h. elim (marked_from marks current other h) [
      | inl old ↦ far.sound other old
      | inr same ↦ inr (subst (LeadsTo spec first) (sym same) (follow_leads far))
    ];
    kept = λ other h. marked_still marks current other (far.kept other h);
    declared = next_declared typed far after below;
    begun = elim far.begun [
      | inl old ↦ inl (marked_still marks current first old)
      | inr now ↦ inl (subst (IsMarked (set marks current true)) (sym (same_next first now)) marked)
    ];
    closed = λ other under h under_other. elim (marked_from marks current other h) [
      | inl old ↦ (elim (far.closed other under old under_other) [
        | inl done ↦ inl (marked_still marks current under done)
        | inr now ↦ inl (subst (IsMarked (set marks current true)) (sym (same_next under now)) marked)
      ])
      | inr same ↦ inr (next_is after below under (subst (λ n. IsBelow spec n under) same under_other))
    ];
  } where
    marked : IsMarked (set marks current true) current
    marked = marked_here marks current (subst (λ n. current < n) (sym far.places) (follow_within far))

leads_marked : (spec : Spec) (marks : List Bool) (first : ℕ) → IsClosed spec marks → IsMarked marks first → (other : ℕ) → LeadsTo spec first other → IsMarked marks other
leads_marked spec marks first closed begun other here = begun
leads_marked spec marks first closed begun other (on middle under leads below) = closed middle under (leads_marked spec marks first closed begun middle leads) below

-- what is marked at the end
abbrev IsFollowed : Spec → List Bool → ℕ → List Bool → Type 0
IsFollowed spec start first marks = (other : ℕ) → IsMarked marks other ↔ (IsMarked start other ⊎ LeadsTo spec first other)

follow_ends : (spec : Spec) (start : List Bool) (first : ℕ) (marks : List Bool) (next : Option ℕ) → ((n : ℕ) → next ≡ Some n → IsMarked marks n) → IsFollowing spec start first marks next → IsFollowed spec start first marks
follow_ends spec start first marks next done far = λ other. (
  far.sound other,
  λ h. elim h [
    | inl old ↦ far.kept other old
    | inr leads ↦ leads_marked spec marks first closed begun other leads
  ],
) where
  closed : IsClosed spec marks
  closed = λ middle under h below. elim (far.closed middle under h below) [
    | inl marked ↦ marked
    | inr now ↦ done under now
  ]

  begun : IsMarked marks first
  begun = elim far.begun [
    | inl marked ↦ marked
    | inr now ↦ done first now
  ]

pub ends_marked : (spec : Spec) (start : List Bool) (first : ℕ) (marks : List Bool) (next : Option ℕ) (current : ℕ) → next ≡ Some current → IsMarked marks current → IsFollowing spec start first marks next → IsFollowed spec start first marks
ends_marked spec start first marks next current is marked far =
    follow_ends spec start first marks next (λ n e. subst (IsMarked marks) (same_Some _ _ (sym is ∙ e)) marked) far

pub ends_none : (spec : Spec) (start : List Bool) (first : ℕ) (marks : List Bool) (next : Option ℕ) → next ≡ None → IsFollowing spec start first marks next → IsFollowed spec start first marks
ends_none spec start first marks next is far =
    follow_ends spec start first marks next (λ n e. let both : None ≡ Some n = sym is ∙ e in absurd cc) far

-- ---- all sets that are known

-- the sets before this one that begin are marked, and what is below them
pub record IsKnowing (spec : Spec) (quant : Quant) (var : Var) (marks : List Bool) (count : ℕ) : Type 0 where
  pub sound : (other : ℕ) → IsMarked marks other → IsKnown spec quant var other
  pub closed : IsClosed spec marks
  pub begun : (other : ℕ) → other < count → Begins spec quant var other → IsMarked marks other

pub none_known : (spec : Spec) (quant : Quant) (var : Var) → IsKnowing spec quant var (replicate 64 false) 0
none_known spec quant var = record {
  sound = λ other h. absurd (none_marked 64 other h);
  closed = λ other under h below. absurd (none_marked 64 other h);
  begun = λ other less begins. absurd (omega (arith, less));
}

begins_known : (spec : Spec) (quant : Quant) (var : Var) (first : ℕ) → Begins spec quant var first → IsKnown spec quant var first
begins_known spec (Each own) First first same = quantified first (ap Each same)
begins_known spec (Pairs rel) First first given = source rel first refl given
begins_known spec (Pairs rel) Second first given = target rel first refl given
begins_known spec (Each own) Second first h = absurd h
begins_known spec (Each own) Head first h = absurd h
begins_known spec (Pairs rel) Head first h = absurd h
begins_known spec Once var first h = absurd h

leads_known : (spec : Spec) (quant : Quant) (var : Var) (first : ℕ) → IsKnown spec quant var first → (other : ℕ) → LeadsTo spec first other → IsKnown spec quant var other
leads_known spec quant var first known other here = known
leads_known spec quant var first known other (on middle under leads below) = base var middle under (leads_known spec quant var first known middle leads) below

pub known_more : (spec : Spec) (quant : Quant) (var : Var) (old new : List Bool) (count : ℕ) → Begins spec quant var count
    → IsFollowed spec old count new → IsKnowing spec quant var old count → IsKnowing spec quant var new (count + 1)
known_more spec quant var old new count begins followed far = record {
  sound = λ other h. elim ((followed other).0 h) [
    | inl before ↦ far.sound other before
    | inr leads ↦ leads_known spec quant var count (begins_known spec quant var count begins) other leads
  ];
  closed = λ other under h below. elim ((followed other).0 h) [
    | inl before ↦ (followed under).1 (inl (far.closed other under before below))
    | inr leads ↦ (followed under).1 (inr (on other under leads below))
  ];
  begun = λ other less too. elim (cases_lt other count) [
    | inl before ↦ (followed other).1 (inl (far.begun other before too))
    | inr last ↦ (followed other).1 (inr (subst (LeadsTo spec count) (let same : count ≡ other = omega (arith, less, last) in same) here))
  ];
}

pub known_same : (spec : Spec) (quant : Quant) (var : Var) (marks : List Bool) (count : ℕ) (r : Bool) → Decides r (Begins spec quant var count) → r ≡ false
    → IsKnowing spec quant var marks count → IsKnowing spec quant var marks (count + 1)
known_same spec quant var marks count r decides fails far = record {
  sound = far.sound;
  closed = far.closed;
  begun = λ other less too. elim (cases_lt other count) [
    | inl before ↦ far.begun other before too
    | inr last ↦
        let same : other ≡ count = omega (arith, less, last) in
        absurd (false≢true (sym fails ∙ decides.1 (subst (Begins spec quant var) same too)))
  ];
}

begins_declared : (spec : Spec) (quant : Quant) (var : Var) (first : ℕ) → IsTyped spec → IsTypedQuant spec.base quant → Begins spec quant var first → first < length spec.base.sets
begins_declared spec (Each own) First first typed quantifier same = subst (λ n. n < length spec.base.sets) same quantifier
begins_declared spec (Pairs rel) First first typed quantifier given = members_declared spec typed (Rel rel) first given
begins_declared spec (Pairs rel) Second first typed quantifier given = targets_declared spec typed (Rel rel) first given
begins_declared spec (Each own) Second first typed quantifier h = absurd h
begins_declared spec (Each own) Head first typed quantifier h = absurd h
begins_declared spec (Pairs rel) Head first typed quantifier h = absurd h
begins_declared spec Once var first typed quantifier h = absurd h

pub known_declared : (spec : Spec) (quant : Quant) → IsTyped spec → IsTypedQuant spec.base quant → (var : Var) (other : ℕ) → IsKnown spec quant var other → other < length spec.base.sets
known_declared spec quant typed quantifier var other (quantified own is) =
    begins_declared spec quant First own typed quantifier (subst (λ q. Begins spec q First own) (sym is) refl)
known_declared spec quant typed quantifier var other (source rel own is given) = members_declared spec typed (Rel rel) own given
known_declared spec quant typed quantifier var other (target rel own is given) = targets_declared spec typed (Rel rel) own given
known_declared spec quant typed quantifier var other (base v above under known below) = members_declared spec typed (Set above) under below

known_marked : (spec : Spec) (quant : Quant) (marks : List Bool) → IsClosed spec marks → (var : Var) (other : ℕ) → IsKnown spec quant var other → ((first : ℕ) → Begins spec quant var first → IsMarked marks first) → IsMarked marks other
known_marked spec quant marks closed var other (quantified own is) begun =
    begun own (subst (λ q. Begins spec q First own) (sym is) refl)
known_marked spec quant marks closed var other (source rel own is given) begun =
    begun own (subst (λ q. Begins spec q First own) (sym is) given)
known_marked spec quant marks closed var other (target rel own is given) begun =
    begun own (subst (λ q. Begins spec q Second own) (sym is) given)
known_marked spec quant marks closed var other (base v above under known below) begun =
    closed above under (known_marked spec quant marks closed v above known begun) below

pub all_known : (spec : Spec) (quant : Quant) (var : Var) (marks : List Bool) (count : ℕ) → IsTyped spec → IsTypedQuant spec.base quant → length spec.base.sets ≤ count
    → IsKnowing spec quant var marks count → (other : ℕ) → IsMarked marks other ↔ IsKnown spec quant var other
all_known spec quant var marks count typed quantifier all far = λ other. (
  far.sound other,
  λ known. known_marked spec quant marks far.closed var other known
      (λ first begins. far.begun first (omega (arith, all, begins_declared spec quant var first typed quantifier begins)) begins),
)
