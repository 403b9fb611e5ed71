-- The fact that is to go is there.
use Rattle.std.proofs.Common.{◌≡◌, ◌∙◌, ℕ, zero, suc, Bool, true, false, List, [], Option, None, Some, IsTrue, IsSome, IsSomeAnd, MatchBool, inl, inr, refl, sym, subst, arith}
use Rattle.std.proofs.lemmas.Bool.{false≢true}
use Rattle.dsr_repair_theory.specs.Choices.{Adds, CountsNothing, IsToGo}
use Rattle.dsr_model_laws.proofs.Models.{facts_listed}
use Rattle.dsr_model_laws.proofs.Truths.{literal_decided}
use Rattle.dsr_model_laws.specs.Deciding.{IsDecided}
use Rattle.dsr_ir.specs.declared.constraints.Atom.{Atom}
use Rattle.dsr_ir.specs.declared.constraints.Atom.TheVariants as atoms
use Rattle.dsr_ir.specs.declared.constraints.Literal.{Literal}
use Rattle.dsr_ir.specs.declared.constraints.Measure.{Measure}
use Rattle.dsr_ir.specs.declared.constraints.Measure.TheVariants.{Into, Out, Whole}
use Rattle.dsr_ir.specs.declared.constraints.Quant.{Quant}
use Rattle.dsr_ir.specs.declared.constraints.Var.{Var}
use Rattle.dsr_ir.specs.declared.declarations.Spec.{Spec}
use Rattle.dsr_ir.specs.declared.layouts.Layout.{Layout}
use Rattle.dsr_ir.specs.declared.rules.Op.{Op}
use Rattle.dsr_ir.specs.declared.rules.Op.TheVariants.{Eq, Ge, Gt, Le, Lt, Ne}
use Rattle.dsr_ir.specs.declared.tuples.Binding.{Binding}
use Rattle.dsr_ir.specs.declared.tuples.Element.{Element}
use Rattle.dsr_ir.specs.declared.tuples.Fact.{Fact}
use Rattle.dsr_ir.specs.declared.tuples.Fact.TheVariants.{Member, Pair}
use Rattle.dsr_ir.specs.declared.tuples.Target.TheVariants.{Elem}
use Rattle.dsr_ir.specs.declared.updates.Goal.{Goal}
use Rattle.dsr_ir.specs.declared.updates.Goal.TheVariants as goals
use Rattle.dsr_ir.specs.declared.updates.Symbol.TheVariants as symbols
use Rattle.dsr_ir.specs.declared.updates.Template.{Template}
use Rattle.dsr_graph_theory.specs.Sides.{atom_symbol}
use Rattle.dsr_meaning.specs.Consistency.{IsBinding}
use Rattle.dsr_meaning.specs.Counting.{AreMany}
use Rattle.dsr_meaning.specs.Looking.{IsCounted}
use Rattle.dsr_meaning.specs.Models.{IsDerived, IsFact, base_of}
use Rattle.dsr_meaning.specs.Truth.{AtomHolds, HasSize, HasVariable, element_of}
use Rattle.dsr_meaning.specs.Typed.{IsTyped, IsTypedAtom, MayBeNegated}
use Rattle.dsr_update_theory.specs.Givers.{HasGiver}
use Rattle.dsr_update_theory.specs.Templates.{counted_symbol}
use Rattle.dsr_repair_laws.proofs.BoundVars.{measured}
use Rattle.dsr_repair_laws.proofs.DueForms.{IsDueForm, goal_same}
use Rattle.dsr_repair_laws.proofs.GreatestFact.{counted_listed, greatest}
use Rattle.dsr_repair_laws.proofs.TriedTemplates.{GoalAdds, IsForOne, IsTakenBy, IsTrimmed}
use Rattle.dsr_repair_laws.proofs.PlainSets.{as_derived, given_plain, plain_base}
use Rattle.dsr_repair_laws.proofs.TakenGoals.{adding_adds}

-- ---- what is counted is derived

giver_plain : (spec : Spec) (set : ℕ) → IsTyped spec → HasGiver spec (symbols.Set set) → base_of spec set ≡ None
giver_plain spec set typed (k, rule, giver) = given_plain spec typed set k rule giver

module _ (spec : Spec) (layout : Layout) (bytes : List ℕ) where
  -- what is counted is derived, where rules give it
  derived_counted : (b : Binding) (measure : Measure) (fact : Fact) → IsTyped spec → HasGiver spec (counted_symbol measure) → IsCounted b measure fact → IsFact spec layout bytes fact → IsDerived spec layout bytes fact
  derived_counted b (Whole set) (Member s e) typed giver counted is = as_derived spec layout bytes s e (subst (λ n. base_of spec n ≡ None) (sym counted) (giver_plain spec set typed giver)) is
  derived_counted b (Whole set) (Pair r x t) typed giver counted is = is
  derived_counted b (Out v rel) (Member s e) typed giver counted is = absurd counted
  derived_counted b (Out v rel) (Pair r x t) typed giver counted is = is
  derived_counted b (Into rel v) (Member s e) typed giver counted is = absurd counted
  derived_counted b (Into rel v) (Pair r x t) typed giver counted is = is

-- ---- where nothing is counted, the size is 0

none_many : {A : Type 0} (P : A → Type 0) → ((x : A) → P x → ⊥) → AreMany P 0
none_many P none = record { things = []; enumerated = record { distinct = tt; all = λ x p. absurd (none x p); only = λ x i. absurd i }; counted = refl }

size_none : (is_fact : Fact → Type 0) (b : Binding) (measure : Measure) → HasVariable b measure → ((fact : Fact) → IsCounted b measure fact → is_fact fact → ⊥) → HasSize is_fact b measure 0
size_none is_fact b (Whole set) has none = none_many (λ e. is_fact (Member set e)) (λ e is. none (Member set e) refl is)
size_none is_fact b (Out v rel) has none = of_var (element_of b v) refl has where
  of_var : (o : Option Element) → element_of b v ≡ o → IsSome o → IsSomeAnd o (λ x. AreMany (λ t. is_fact (Pair rel x t)) 0)
  of_var None e h = absurd (false≢true h)
  of_var (Some x) e h = none_many (λ t. is_fact (Pair rel x t)) (λ t is. none (Pair rel x t) (refl, e) is)
size_none is_fact b (Into rel v) has none = of_var (element_of b v) refl has where
  of_var : (o : Option Element) → element_of b v ≡ o → IsSome o → IsSomeAnd o (λ y. AreMany (λ e. is_fact (Pair rel e (Elem y))) 0)
  of_var None e h = absurd (false≢true h)
  of_var (Some y) e h = none_many (λ x. is_fact (Pair rel x (Elem y))) (λ x is. none (Pair rel x (Elem y)) (refl, y, e, refl) is)

-- a size that is made smaller where it is too large isn't 0
trimmed_holds : (is_fact : Fact → Type 0) (b : Binding) (measure : Measure) (op : Op) (k : ℕ) → IsTrimmed op k → HasSize is_fact b measure 0 → AtomHolds is_fact b (atoms.Count measure op k)
trimmed_holds is_fact b measure Le k trims size = (0, size, omega arith)
trimmed_holds is_fact b measure Eq zero trims size = (0, size, refl)
trimmed_holds is_fact b measure Eq (suc k) trims size = absurd trims
trimmed_holds is_fact b measure Ge k trims size = absurd trims
trimmed_holds is_fact b measure Ne k trims size = absurd trims
trimmed_holds is_fact b measure Lt k trims size = absurd trims
trimmed_holds is_fact b measure Gt k trims size = absurd trims

-- ---- the fact

abbrev HasToGo : Spec → Layout → List ℕ → Binding → Atom → Type 0
HasToGo spec layout bytes b atom = (fact : Fact) × IsToGo (IsFact spec layout bytes) b atom fact × IsDerived spec layout bytes fact

abbrev IsFalse : (Fact → Type 0) → Binding → Atom → Bool → Type 0
IsFalse is_fact b atom negated = MatchBool negated (AtomHolds is_fact b atom → ⊥) (AtomHolds is_fact b atom) → ⊥

module _ (spec : Spec) (layout : Layout) (bytes : List ℕ) (typed : IsTyped spec) (quant : Quant) (b : Binding) (bound : IsBinding (IsFact spec layout bytes) quant b) where
  -- an atom whose negation is false holds
  holds_by : (atom : Atom) → IsFalse (IsFact spec layout bytes) b atom true → AtomHolds (IsFact spec layout bytes) b atom
  holds_by atom is_false = of_decided (literal_decided (IsFact spec layout bytes) (facts_listed spec layout bytes) b (record { atom = atom; negated = false; given = false })) where
    of_decided : IsDecided (AtomHolds (IsFact spec layout bytes) b atom) → AtomHolds (IsFact spec layout bytes) b atom
    of_decided (inl holds) = holds
    of_decided (inr not) = absurd (is_false not)

  member_to_go : (v : Var) (set : ℕ) → base_of spec set ≡ None → AtomHolds (IsFact spec layout bytes) b (atoms.Member v set) → HasToGo spec layout bytes b (atoms.Member v set)
  member_to_go v set plain holds = of_var (element_of b v) holds where
    of_var : (o : Option Element) → IsSomeAnd o (λ x. IsFact spec layout bytes (Member set x)) → (fact : Fact) × IsSomeAnd o (λ x. fact ≡ Member set x) × IsDerived spec layout bytes fact
    of_var None h = absurd h
    of_var (Some x) h = (Member set x, refl, as_derived spec layout bytes set x plain h)

  pair_to_go : (v w : Var) (rel : ℕ) → AtomHolds (IsFact spec layout bytes) b (atoms.Pair v w rel) → HasToGo spec layout bytes b (atoms.Pair v w rel)
  pair_to_go v w rel holds = of_vars (element_of b v) (element_of b w) holds where
    of_vars : (o p : Option Element) → IsSomeAnd o (λ x. IsSomeAnd p (λ y. IsFact spec layout bytes (Pair rel x (Elem y)))) → (fact : Fact) × IsSomeAnd o (λ x. IsSomeAnd p (λ y. fact ≡ Pair rel x (Elem y))) × IsDerived spec layout bytes fact
    of_vars None p h = absurd h
    of_vars (Some x) None h = absurd h
    of_vars (Some x) (Some y) h = (Pair rel x (Elem y), refl, h)

  -- what is counted, if anything is
  counted_to_go : (measure : Measure) (op : Op) (k : ℕ) → HasGiver spec (counted_symbol measure) → (CountsNothing (IsFact spec layout bytes) b (atoms.Count measure op k) → ⊥) → HasToGo spec layout bytes b (atoms.Count measure op k)
  counted_to_go measure op k giver some = elim (greatest (λ fact. IsCounted b measure fact × IsFact spec layout bytes fact) (counted_listed (IsFact spec layout bytes) b measure (facts_listed spec layout bytes))) as (λ _. HasToGo spec layout bytes b (atoms.Count measure op k)) [
    | inl last ↦ (last.0, last.1, derived_counted spec layout bytes b measure last.0 typed giver last.1.of_kind.0 last.1.of_kind.1)
    | inr none ↦ absurd (some (λ fact counted is. none fact (counted, is)))
  ]

  trimmed_to_go : (measure : Measure) (op : Op) (k : ℕ) (negated : Bool) → IsTrimmed op k → IsTypedAtom spec quant (atoms.Count measure op k) → (IsTrue negated → ⊥) → HasGiver spec (counted_symbol measure) → IsFalse (IsFact spec layout bytes) b (atoms.Count measure op k) negated → HasToGo spec layout bytes b (atoms.Count measure op k)
  trimmed_to_go measure op k true trims its plain giver is_false = absurd (plain refl)
  trimmed_to_go measure op k false trims its plain giver is_false =
      counted_to_go measure op k giver
      (λ nothing. is_false (trimmed_holds (IsFact spec layout bytes) b measure op k trims (size_none (IsFact spec layout bytes) b measure (measured (IsFact spec layout bytes) spec.base quant b measure bound its.0) nothing)))

  taken_to_go : (goal : Goal) (atom : Atom) (negated : Bool) → IsTakenBy goal atom negated → IsTypedAtom spec quant atom → (IsTrue negated → MayBeNegated atom) → HasGiver spec (atom_symbol atom) → IsFalse (IsFact spec layout bytes) b atom negated → HasToGo spec layout bytes b atom
  taken_to_go goals.RemoveSet (atoms.Member v set) true takes its may giver is_false = member_to_go v set (plain_base spec its.0 set its.2) (holds_by (atoms.Member v set) is_false)
  taken_to_go goals.RemoveTuple (atoms.Pair v w rel) true takes its may giver is_false = pair_to_go v w rel (holds_by (atoms.Pair v w rel) is_false)
  taken_to_go goals.Trim (atoms.Count measure op k) negated takes its may giver is_false = trimmed_to_go measure op k negated takes its may giver is_false
  taken_to_go _ _ _ takes its may giver is_false = absurd takes

  -- one more than exactly one
  one_to_go : (atom : Atom) → IsForOne atom → HasGiver spec (atom_symbol atom) → (CountsNothing (IsFact spec layout bytes) b atom → ⊥) → HasToGo spec layout bytes b atom
  one_to_go (atoms.Count measure op k) one giver some = counted_to_go measure op k giver some
  one_to_go (atoms.Member v set) one giver some = absurd one
  one_to_go (atoms.Pair v w rel) one giver some = absurd one
  one_to_go (atoms.Value v rel op bound) one giver some = absurd one

pub to_go_there : (spec : Spec) (layout : Layout) (bytes : List ℕ) (b : Binding) (its : Literal) (template : Template) → IsTyped spec → IsDueForm (IsFact spec layout bytes) spec b its template → (Adds (IsFact spec layout bytes) b its.atom template.goal → ⊥) → HasToGo spec layout bytes b its.atom
to_go_there spec layout bytes b its template typed due not_adds =
    let goal : due.raw.goal ≡ template.goal = goal_same template due.raw due.more due.is in
    let quant = due.constraint.quant in
    elim due.form as (λ _. HasToGo spec layout bytes b its.atom) [
      | inl one ↦ absurd (not_adds (adding_adds (IsFact spec layout bytes) b its.atom template.goal (subst GoalAdds goal one.goal)))
      | inr (inl removes) ↦ taken_to_go spec layout bytes typed quant b due.is_binding due.raw.goal its.atom its.negated removes.goal due.typed.atom due.typed.negated removes.removal.some due.is_false
      | inr (inr both) ↦ one_to_go spec layout bytes typed quant b due.is_binding its.atom both.one both.removal.some (subst (λ g. Adds (IsFact spec layout bytes) b its.atom g → ⊥) (sym goal ∙ both.goal) not_adds)
    ]
