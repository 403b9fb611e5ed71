-- Of which sets the variables of a constraint are known to be members is decided, and so told by some table.
use Rattle.std.proofs.Common.{◌≡◌, ◌⊎◌, ◌∙◌, ℕ, Bool, true, false, List, [], ◌∷◌, inl, inr, Option, None, Some, Decides, IsTrue, refl, sym, ap, subst, nat_eq, slice_get, arith}
use Rattle.std.specs.Prelude.{if◌then◌else◌}
use Rattle.std.specs.Cmp.{booleans_Decides}
use Rattle.std.proofs.lemmas.Bool.{false≢true}
use Rattle.std.proofs.lemmas.Bool.Decides.{nat_tests}
use Rattle.std.proofs.lemmas.Option.{same_Some}
use Rattle.dsr_model_laws.proofs.Derived.{Path, derived_decided, first, next}
use Rattle.dsr_model_laws.proofs.Listed.{IsListed, alike, each, every, known, nothing, numbers, one, some_one, those, two_kinds}
use Rattle.dsr_model_laws.proofs.Ways.{Arc, AreCompared, At, both, by_logic, either}
use Rattle.dsr_model_laws.specs.Deciding.{IsDecided}
use Rattle.dsr_ir.specs.Rules.{gives, is_same_symbol, symbol_of, target_of}
use Rattle.dsr_ir.specs.declared.constraints.Quant.{Quant}
use Rattle.dsr_ir.specs.declared.constraints.Quant.TheVariants.{Each, Once, Pairs}
use Rattle.dsr_ir.specs.declared.constraints.Var.{Var}
use Rattle.dsr_ir.specs.declared.constraints.Var.TheVariants.{First, Head, Second}
use Rattle.dsr_ir.specs.declared.declarations.FieldRef.{FieldRef}
use Rattle.dsr_ir.specs.declared.declarations.Spec.{Spec}
use Rattle.dsr_ir.specs.declared.rules.Guard.{Guard}
use Rattle.dsr_ir.specs.declared.rules.Inc.{Inc}
use Rattle.dsr_ir.specs.declared.rules.Inc.TheVariants as incs
use Rattle.dsr_ir.specs.declared.rules.Op.{Op}
use Rattle.dsr_ir.specs.declared.rules.Op.TheVariants as ops
use Rattle.dsr_ir.specs.declared.rules.Path.{Path as FieldPath}
use Rattle.dsr_ir.specs.declared.rules.Rule.{Rule}
use Rattle.dsr_ir.specs.declared.rules.Span.{Span}
use Rattle.dsr_ir.specs.declared.rules.Span.TheVariants as spans
use Rattle.dsr_ir.specs.declared.rules.Test.{Test}
use Rattle.dsr_ir.specs.declared.rules.Test.TheVariants as tests
use Rattle.dsr_ir.specs.declared.updates.Symbol.{Symbol}
use Rattle.dsr_ir.specs.declared.updates.Symbol.TheVariants.{Rel, Set}
use Rattle.dsr_meaning.specs.Counting.{IsIn}
use Rattle.dsr_update_theory.specs.Givers.{IsGivenBy, IsGiver, givers, is_own}
use Rattle.dsr_update_theory.specs.KnownSets.{GivesMembersOf, GivesTargetsTo, IsCounterpart, IsKnown}
use Rattle.dsr_update_theory.specs.Templates.{KnownSets, TellsKnown}
use Rattle.dsr_meaning.proofs.Items.{at_each, in_each_at, item_at, passed_in}

-- ---- comparisons

decided_by : {A : Type 0} (b : Bool) → Decides b A → IsDecided A
decided_by true d = inl (d.0 refl)
decided_by false d = inr (λ a. false≢true (d.1 a))

fields : AreCompared FieldRef
fields a b = by_logic (λ (p : (a.structure ≡ b.structure) × (a.field ≡ b.field)). λ i. record { structure = p.0 i; field = p.1 i }) (λ e. (ap (λ (x : FieldRef). x.structure) e, ap (λ (x : FieldRef). x.field) e)) (both (numbers a.structure b.structure) (numbers a.field b.field))

truths : AreCompared Bool
truths a b = decided_by _ (booleans_Decides a b)

paths : AreCompared FieldPath
paths a b = by_logic (λ (p : (a.field ≡ b.field) × (a.indexed ≡ b.indexed)). λ i. record { field = p.0 i; indexed = p.1 i }) (λ e. (ap (λ (x : FieldPath). x.field) e, ap (λ (x : FieldPath). x.indexed) e)) (both (fields a.field b.field) (truths a.indexed b.indexed))

comparisons : AreCompared Op
comparisons ops.Eq ops.Eq = inl refl
comparisons ops.Ne ops.Ne = inl refl
comparisons ops.Lt ops.Lt = inl refl
comparisons ops.Le ops.Le = inl refl
comparisons ops.Gt ops.Gt = inl refl
comparisons ops.Ge ops.Ge = inl refl
comparisons _ _ = inr (λ e. absurd cc)

tests_same : AreCompared Test
tests_same (tests.Cmp o k) (tests.Cmp p l) =
    by_logic (λ (h : (o ≡ p) × (k ≡ l)). λ i. tests.Cmp (h.0 i) (h.1 i)) (λ (e : tests.Cmp o k ≡ tests.Cmp p l). let a : o ≡ p = cc in let b : k ≡ l = cc in (a, b)) (both (comparisons o p) (numbers k l))
tests_same tests.Legal tests.Legal = inl refl
tests_same tests.Illegal tests.Illegal = inl refl
tests_same tests.IsNone tests.IsNone = inl refl
tests_same tests.IsSome tests.IsSome = inl refl
tests_same _ _ = inr (λ e. absurd cc)

guards_same : AreCompared Guard
guards_same a b = by_logic (λ (p : (a.path ≡ b.path) × (a.test ≡ b.test)). λ i. record { path = p.0 i; test = p.1 i }) (λ e. (ap (λ (x : Guard). x.path) e, ap (λ (x : Guard). x.test) e)) (both (paths a.path b.path) (tests_same a.test b.test))

spans_same : AreCompared Span
spans_same spans.Single spans.Single = inl refl
spans_same (spans.Array a) (spans.Array b) = by_logic (λ e. ap spans.Array e) (λ (e : spans.Array a ≡ spans.Array b). let q : a ≡ b = cc in q) (fields a b)
spans_same (spans.Slots a) (spans.Slots b) = by_logic (λ e. ap spans.Slots e) (λ (e : spans.Slots a ≡ spans.Slots b). let q : a ≡ b = cc in q) (numbers a b)
spans_same _ _ = inr (λ e. absurd cc)

pub maybe_same : {A : Type 0} → AreCompared A → AreCompared (Option A)
maybe_same same None None = inl refl
maybe_same same None (Some b) = inr (λ (e : None ≡ Some b). absurd cc)
maybe_same same (Some a) None = inr (λ (e : Some a ≡ None). absurd cc)
maybe_same same (Some a) (Some b) = by_logic (λ e. ap Some e) (λ (e : Some a ≡ Some b). same_Some a b e) (same a b)

in_same : {A : Type 0} → AreCompared A → (x : A) (xs : List A) → IsDecided (IsIn x xs)
in_same same x [] = inr (λ i. i)
in_same same x (y ∷ xs) = either (same x y) (in_same same x xs)

-- ---- rules that give facts of a symbol

pub giver_in : (spec : Spec) (symbol : Symbol) (k : ℕ) (rule : Rule) → IsGiver spec symbol k rule → IsIn (k, rule) (givers spec symbol)
giver_in spec symbol k rule giver =
    at_each (λ n r. if gives symbol r.inc then (n, r) ∷ [] else []) 0 spec.rules (k, rule) k rule giver.rule_is k (omega arith)
    (subst (λ b. IsIn {A = ℕ × Rule} (k, rule) (if b then (k, rule) ∷ [] else [])) (sym giver.gives) (inl refl))

pub in_givers : (spec : Spec) (symbol : Symbol) (r : ℕ × Rule) → IsIn r (givers spec symbol) → IsGiver spec symbol r.0 r.1
in_givers spec symbol r is_in =
    let found = in_each_at (λ n rule. if gives symbol rule.inc then (n, rule) ∷ [] else []) 0 spec.rules r is_in in
    let given = passed_in (gives symbol found.item.inc) ((found.number, found.item) ∷ []) r found.is_in in
    let same : r ≡ (found.number, found.item) = elim given.1 as (λ _. r ≡ (found.number, found.item)) [ inl e ↦ e | inr n ↦ absurd n ] in
    let is = found.number_is in
    let number : found.at ≡ found.number = omega (arith, is) in
    subst (λ (x : ℕ × Rule). IsGiver spec symbol x.0 x.1) (sym same) (record { rule_is = subst (λ k. slice_get spec.rules k ≡ Some found.item) number found.item_is; gives = given.0 })

module _ (spec : Spec) where
  all_givers : (symbol : Symbol) → IsListed (λ (r : ℕ × Rule). IsGiver spec symbol r.0 r.1)
  all_givers symbol = record { things = givers spec symbol; all = λ r g. giver_in spec symbol r.0 r.1 g; only = λ r i. in_givers spec symbol r i }

  given_decided : (symbol : Symbol) (Such : Rule → Type 0) → ((rule : Rule) → IsDecided (Such rule)) → IsDecided (IsGivenBy spec symbol Such)
  given_decided symbol Such d =
      by_logic
      (λ (h : ((r : ℕ × Rule) × IsGiver spec symbol r.0 r.1) × ((r : ℕ × Rule) → IsGiver spec symbol r.0 r.1 → Such r.1)). record { some = (h.0.0.0, h.0.0.1, h.0.1); each = λ k rule g. h.1 (k, rule) g })
      (λ g. (((g.some.0, g.some.1), g.some.2), λ r given. g.each r.0 r.1 given))
      (both (some_one (λ (r : ℕ × Rule). IsGiver spec symbol r.0 r.1) (all_givers symbol)) (every (λ (r : ℕ × Rule). IsGiver spec symbol r.0 r.1) (λ (r : ℕ × Rule). Such r.1) (all_givers symbol) (λ r. d r.1)))

  members_decided : (set : ℕ) (rule : Rule) → IsDecided (GivesMembersOf set rule)
  members_decided set rule =
      by_logic (λ (h : (rule.premise ≡ Some set) × (is_own rule.inc ≡ true)). record { premise_is = h.0; own = h.1 }) (λ g. (g.premise_is, g.own))
      (both (maybe_same numbers rule.premise (Some set)) (truths (is_own rule.inc) true))

  -- the path by which the inclusion gives a target to the set
  abbrev GivesBy : Inc → Inc → ℕ → FieldPath → Type 0
  GivesBy inc other set path = (other ≡ incs.Target set path) × (target_of inc ≡ Some path)

  path_there : (inc other : Inc) (set : ℕ) → IsDecided ((path : FieldPath) × GivesBy inc other set path)
  path_there inc (incs.Target own path) set =
      by_logic (λ (h : (own ≡ set) × (target_of inc ≡ Some path)). (path, (λ i. incs.Target (h.0 i) path, h.1)))
      (λ h. let same : incs.Target own path ≡ incs.Target set h.0 = h.1.0 in let a : own ≡ set = cc in let b : path ≡ h.0 = cc in (a, h.1.1 ∙ ap Some (sym b)))
      (both (numbers own set) (maybe_same paths (target_of inc) (Some path)))
  path_there inc (incs.Own own) set = inr (λ h. let same : incs.Own own ≡ incs.Target set h.0 = h.1.0 in absurd cc)
  path_there inc (incs.Slot own pool) set = inr (λ h. let same : incs.Slot own pool ≡ incs.Target set h.0 = h.1.0 in absurd cc)
  path_there inc (incs.OwnPair own path) set = inr (λ h. let same : incs.OwnPair own path ≡ incs.Target set h.0 = h.1.0 in absurd cc)
  path_there inc (incs.SlotPair own pool path) set = inr (λ h. let same : incs.SlotPair own pool path ≡ incs.Target set h.0 = h.1.0 in absurd cc)

  abbrev AsksNoMore : Rule → Rule → Type 0
  AsksNoMore rule other = (guard : Guard) → IsIn guard other.guards → IsIn guard rule.guards

  counterpart_decided : (rule other : Rule) (set : ℕ) → IsDecided (IsCounterpart rule other set)
  counterpart_decided rule other set =
      by_logic
      (λ (h : ((other.premise ≡ rule.premise) × (other.span ≡ rule.span)) × (((path : FieldPath) × GivesBy rule.inc other.inc set path) × AsksNoMore rule other)). record {
        premise_same = h.0.0;
        span_same = h.0.1;
        path = h.1.0.0;
        target_is = h.1.0.1.1;
        gives_it = h.1.0.1.0;
        guards = h.1.1;
      })
      (λ c. ((c.premise_same, c.span_same), ((c.path, (c.gives_it, c.target_is)), c.guards)))
      (both (both (maybe_same numbers other.premise rule.premise) (spans_same other.span rule.span))
      (both (path_there rule.inc other.inc set)
      (every (λ guard. IsIn guard other.guards) (λ guard. IsIn guard rule.guards) (record { things = other.guards; all = λ g i. i; only = λ g i. i }) (λ guard. in_same guards_same guard rule.guards))))

  targets_decided : (set : ℕ) (rule : Rule) → IsDecided (GivesTargetsTo spec set rule)
  targets_decided set rule =
      by_logic (λ (h : (r : ℕ × Rule) × (IsGiver spec (Set set) r.0 r.1 × IsCounterpart rule r.1 set)). (h.0.0, h.0.1, h.1.0, h.1.1)) (λ h. ((h.0, h.1), (h.2, h.3)))
      (some_one (λ (r : ℕ × Rule). IsGiver spec (Set set) r.0 r.1 × IsCounterpart rule r.1 set)
      (those (λ (r : ℕ × Rule). IsGiver spec (Set set) r.0 r.1) (λ (r : ℕ × Rule). IsCounterpart rule r.1 set) (all_givers (Set set)) (λ r _. counterpart_decided rule r.1 set)))

  -- ---- which sets may be known

  all_rules : IsListed (λ (rule : Rule). IsIn rule spec.rules)
  all_rules = record { things = spec.rules; all = λ rule i. i; only = λ rule i. i }

  -- the sets from whose members a rule starts
  premises : IsListed (λ (set : ℕ). (rule : Rule) × IsIn rule spec.rules × (rule.premise ≡ Some set))
  premises = each (λ (rule : Rule). IsIn rule spec.rules) (λ rule (set : ℕ). rule.premise ≡ Some set) all_rules (λ rule _. known rule.premise)

  members_listed : (symbol : Symbol) → IsListed (λ (set : ℕ). IsGivenBy spec symbol (GivesMembersOf set))
  members_listed symbol =
      alike (λ (set : ℕ). ((rule : Rule) × IsIn rule spec.rules × (rule.premise ≡ Some set)) × IsGivenBy spec symbol (GivesMembersOf set)) (λ (set : ℕ). IsGivenBy spec symbol (GivesMembersOf set))
      (λ set h. h.1)
      (λ set g. let giver = g.some.2 in ((g.some.1, item_at spec.rules g.some.0 g.some.1 giver.rule_is, (g.each g.some.0 g.some.1 giver).premise_is), g))
      (those (λ (set : ℕ). (rule : Rule) × IsIn rule spec.rules × (rule.premise ≡ Some set)) (λ (set : ℕ). IsGivenBy spec symbol (GivesMembersOf set)) premises (λ set _. given_decided symbol (GivesMembersOf set) (members_decided set)))

  -- the sets to which a rule gives targets
  target_sets : (inc : Inc) → IsListed (λ (set : ℕ). (path : FieldPath) × (inc ≡ incs.Target set path))
  target_sets (incs.Target own path) =
      alike (λ (set : ℕ). set ≡ own) (λ (set : ℕ). (p : FieldPath) × (incs.Target own path ≡ incs.Target set p)) (λ set e. (path, λ i. incs.Target (sym e i) path)) (λ set h. let same : incs.Target own path ≡ incs.Target set h.0 = h.1 in let q : set ≡ own = cc in q) (one own)
  target_sets (incs.Own own) = nothing (λ (set : ℕ). (path : FieldPath) × (incs.Own own ≡ incs.Target set path)) (λ set h. let same : incs.Own own ≡ incs.Target set h.0 = h.1 in absurd cc)
  target_sets (incs.Slot own pool) = nothing (λ (set : ℕ). (path : FieldPath) × (incs.Slot own pool ≡ incs.Target set path)) (λ set h. let same : incs.Slot own pool ≡ incs.Target set h.0 = h.1 in absurd cc)
  target_sets (incs.OwnPair own p) = nothing (λ (set : ℕ). (path : FieldPath) × (incs.OwnPair own p ≡ incs.Target set path)) (λ set h. let same : incs.OwnPair own p ≡ incs.Target set h.0 = h.1 in absurd cc)
  target_sets (incs.SlotPair own pool p) = nothing (λ (set : ℕ). (path : FieldPath) × (incs.SlotPair own pool p ≡ incs.Target set path)) (λ set h. let same : incs.SlotPair own pool p ≡ incs.Target set h.0 = h.1 in absurd cc)

  abbrev IsTargetSet : ℕ → Type 0
  IsTargetSet set = (rule : Rule) × IsIn rule spec.rules × ((path : FieldPath) × (rule.inc ≡ incs.Target set path))

  targets_listed : (rel : ℕ) → IsListed (λ (set : ℕ). IsGivenBy spec (Rel rel) (GivesTargetsTo spec set))
  targets_listed rel =
      alike (λ (set : ℕ). IsTargetSet set × IsGivenBy spec (Rel rel) (GivesTargetsTo spec set)) (λ (set : ℕ). IsGivenBy spec (Rel rel) (GivesTargetsTo spec set))
      (λ set h. h.1)
      (λ set g. let to = g.each g.some.0 g.some.1 g.some.2 in let giver = to.2 in let way = to.3 in ((to.1, item_at spec.rules to.0 to.1 giver.rule_is, (way.path, way.gives_it)), g))
      (those IsTargetSet (λ (set : ℕ). IsGivenBy spec (Rel rel) (GivesTargetsTo spec set)) (each (λ (rule : Rule). IsIn rule spec.rules) (λ rule (set : ℕ). (path : FieldPath) × (rule.inc ≡ incs.Target set path)) all_rules (λ rule _. target_sets rule.inc))
      (λ set _. given_decided (Rel rel) (GivesTargetsTo spec set) (targets_decided set)))

  -- the sets of which rules give members
  abbrev IsGivenSet : ℕ → Type 0
  IsGivenSet set = (rule : Rule) × IsIn rule spec.rules × (gives (Set set) rule.inc ≡ true)

  given_set : (symbol : Symbol) → IsListed (λ (set : ℕ). is_same_symbol symbol (Set set) ≡ true)
  given_set (Set own) = alike (λ (set : ℕ). set ≡ own) (λ (set : ℕ). nat_eq own set ≡ true) (λ set e. grind (arith, nat_tests, e)) (λ set e. grind (arith, nat_tests, e)) (one own)
  given_set (Rel rel) = nothing (λ (set : ℕ). false ≡ true) (λ set e. absurd (false≢true e))

  given_sets : IsListed IsGivenSet
  given_sets = each (λ (rule : Rule). IsIn rule spec.rules) (λ rule (set : ℕ). gives (Set set) rule.inc ≡ true) all_rules (λ rule _. given_set (symbol_of rule.inc))

  -- ---- what is known

  module _ (quant : Quant) where
    -- known by the quantifier, or by the rules of its relation
    abbrev Begins : Quant → Var → ℕ → Type 0
    Begins (Each own) First set = set ≡ own
    Begins (Pairs rel) First set = IsGivenBy spec (Rel rel) (GivesMembersOf set)
    Begins (Pairs rel) Second set = IsGivenBy spec (Rel rel) (GivesTargetsTo spec set)
    Begins q v set = ⊥

    -- from nothing, or from a set of which it is known
    abbrev Leads : Var → Arc ℕ → Type 0
    Leads v (None, set) = Begins quant v set
    Leads v (Some set, below) = IsGivenBy spec (Set set) (GivesMembersOf below)

    begins_listed : (q : Quant) (v : Var) → IsListed (Begins q v)
    begins_listed (Each own) First = one own
    begins_listed (Pairs rel) First = members_listed (Rel rel)
    begins_listed (Pairs rel) Second = targets_listed rel
    begins_listed Once First = nothing (λ (set : ℕ). ⊥) (λ set h. h)
    begins_listed Once Second = nothing (λ (set : ℕ). ⊥) (λ set h. h)
    begins_listed Once Head = nothing (λ (set : ℕ). ⊥) (λ set h. h)
    begins_listed (Each own) Head = nothing (λ (set : ℕ). ⊥) (λ set h. h)
    begins_listed (Each own) Second = nothing (λ (set : ℕ). ⊥) (λ set h. h)
    begins_listed (Pairs rel) Head = nothing (λ (set : ℕ). ⊥) (λ set h. h)

    abbrev IsFirst : Var → Arc ℕ → Type 0
    IsFirst v arc = (set : ℕ) × Begins quant v set × (arc ≡ (None, set))

    abbrev IsNext : Arc ℕ → Type 0
    IsNext arc = (set : ℕ) × IsGivenSet set × ((below : ℕ) × IsGivenBy spec (Set set) (GivesMembersOf below) × (arc ≡ (Some set, below)))

    of_arc : (v : Var) (from : Option ℕ) (set : ℕ) → Leads v (from, set) → IsFirst v (from, set) ⊎ IsNext (from, set)
    of_arc v None set begins = inl (set, begins, refl)
    of_arc v (Some from) set given = inr (from, (given.some.1, item_at spec.rules given.some.0 given.some.1 given.some.2.rule_is, given.some.2.gives), (set, given, refl))

    leads_listed : (v : Var) → IsListed (Leads v)
    leads_listed v =
        alike (λ (arc : Arc ℕ). IsFirst v arc ⊎ IsNext arc) (Leads v)
        (λ arc h. elim h as (λ _. Leads v arc) [ inl b ↦ subst (Leads v) (sym b.2) b.1 | inr n ↦ subst (Leads v) (sym n.2.2) n.2.1 ])
        (λ arc l. of_arc v arc.0 arc.1 l)
        (two_kinds (IsFirst v) IsNext
        (each (Begins quant v) (λ set arc. arc ≡ (None, set)) (begins_listed quant v) (λ set _. one (None, set)))
        (each (λ (set : ℕ). IsGivenSet set) (λ set arc. (below : ℕ) × IsGivenBy spec (Set set) (GivesMembersOf below) × (arc ≡ (Some set, below))) given_sets
        (λ set _. each (λ (below : ℕ). IsGivenBy spec (Set set) (GivesMembersOf below)) (λ below arc. arc ≡ (Some set, below)) (members_listed (Set set)) (λ below _. one (Some set, below)))))

    path_of : {v : Var} {set : ℕ} → IsKnown spec quant v set → Path (Leads v) set
    path_of (IsKnown.quantified set is) = first (subst (λ q. Begins q First set) (sym is) refl)
    path_of (IsKnown.source rel set is given) = first (subst (λ q. Begins q First set) (sym is) given)
    path_of (IsKnown.target rel set is given) = first (subst (λ q. Begins q Second set) (sym is) given)
    path_of (IsKnown.base v set below before given) = next (path_of before) given

    begun : (q : Quant) (v : Var) (set : ℕ) → quant ≡ q → Begins q v set → IsKnown spec quant v set
    begun (Each own) First set is begins = IsKnown.quantified set (is ∙ ap Each (sym begins))
    begun (Pairs rel) First set is begins = IsKnown.source rel set is begins
    begun (Pairs rel) Second set is begins = IsKnown.target rel set is begins
    begun Once First set is begins = absurd begins
    begun Once Second set is begins = absurd begins
    begun Once Head set is begins = absurd begins
    begun (Each own) Head set is begins = absurd begins
    begun (Each own) Second set is begins = absurd begins
    begun (Pairs rel) Head set is begins = absurd begins

    closed : (v : Var) (p : Option ℕ) (set : ℕ) → Leads v (p, set) → At (IsKnown spec quant v) p → IsKnown spec quant v set
    closed v None set begins before = begun quant v set refl begins
    closed v (Some from) set given before = IsKnown.base v from set before given

    known_decided : (v : Var) (set : ℕ) → IsDecided (IsKnown spec quant v set)
    known_decided v set = derived_decided (Leads v) (IsKnown spec quant v) numbers (leads_listed v) (record { closed = closed v; path = λ s k. path_of k }) set

abbrev is_so : {A : Type 0} → IsDecided A → Bool
is_so (inl a) = true
is_so (inr n) = false

so_tells : {A : Type 0} (d : IsDecided A) → (IsTrue (is_so d) → A) × (A → IsTrue (is_so d))
so_tells (inl a) = (λ _. a, λ _. refl)
so_tells (inr n) = (λ e. absurd (false≢true e), λ a. absurd (n a))

pub told : (spec : Spec) (quant : Quant) → (known : KnownSets) × TellsKnown spec quant known
told spec quant = (λ v set. is_so (known_decided spec quant v set), λ v set. so_tells (known_decided spec quant v set))
