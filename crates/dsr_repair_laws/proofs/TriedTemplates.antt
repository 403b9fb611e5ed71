-- What the templates are that are tried for a literal: one that adds by one update, one that takes away by an update for
-- each rule of the literal's symbol, or one that adds first and then takes away.
use Rattle.std.proofs.Common.{◌≡◌, ◌∙◌, ◌⊎◌, ◌&&◌, ℕ, zero, suc, Bool, true, false, List, [], ◌∷◌, ◌++◌, map, Option, None, Some, is_some, inl, inr, refl, sym, ap, subst, slice_get}
use Rattle.std.specs.Option.{option_and_then}
use Rattle.std.specs.Prelude.{IsTrue, option_map, if◌then◌else◌}
use Rattle.std.specs.List.{flat_map, range_with_len}
use Rattle.std.proofs.lemmas.Bool.{and_parts, eqb-true, false≢true}
use Rattle.std.proofs.lemmas.Option.{same_Some, none-some}
use Rattle.dsr_ir.specs.Rules.{gives, target_of}
use Rattle.dsr_ir.specs.declared.constraints.Atom.{Atom}
use Rattle.dsr_ir.specs.declared.constraints.Atom.TheVariants as atoms
use Rattle.dsr_ir.specs.declared.constraints.Bound.{Bound}
use Rattle.dsr_ir.specs.declared.constraints.Measure.{Measure}
use Rattle.dsr_ir.specs.declared.constraints.Measure.TheVariants.{Into, Out, Whole}
use Rattle.dsr_ir.specs.declared.constraints.Quant.{Quant}
use Rattle.dsr_ir.specs.declared.constraints.Var.{Var}
use Rattle.dsr_ir.specs.declared.declarations.Spec.{Spec}
use Rattle.dsr_ir.specs.declared.rules.Inc.{Inc}
use Rattle.dsr_ir.specs.declared.rules.Inc.TheVariants as incs
use Rattle.dsr_ir.specs.declared.rules.Op.{Op}
use Rattle.dsr_ir.specs.declared.rules.Op.TheVariants.{Eq, Ge, Gt, Le, Lt, Ne}
use Rattle.dsr_ir.specs.declared.rules.Path.{Path}
use Rattle.dsr_ir.specs.declared.rules.Rule.{Rule}
use Rattle.dsr_ir.specs.declared.rules.Span.{Span}
use Rattle.dsr_ir.specs.declared.rules.Span.TheVariants.{Array, Single, Slots}
use Rattle.dsr_ir.specs.declared.updates.At.TheVariants as ats
use Rattle.dsr_ir.specs.declared.updates.Goal.{Goal}
use Rattle.dsr_ir.specs.declared.updates.Goal.TheVariants as goals
use Rattle.dsr_ir.specs.declared.updates.Pick.TheVariants as picks
use Rattle.dsr_ir.specs.declared.updates.Place.TheVariants as places
use Rattle.dsr_ir.specs.declared.updates.Symbol.{Symbol}
use Rattle.dsr_ir.specs.declared.updates.Symbol.TheVariants as symbols
use Rattle.dsr_ir.specs.declared.updates.Template.{Template}
use Rattle.dsr_ir.specs.declared.updates.Update.{Update}
use Rattle.dsr_ir.specs.declared.updates.Write.{Write}
use Rattle.dsr_graph_theory.specs.Sides.{atom_symbol}
use Rattle.dsr_meaning.specs.Counting.{IsIn}
use Rattle.dsr_meaning.specs.Refusals.{reaches_bound}
use Rattle.dsr_meaning.specs.Typed.{MayBeNegated}
use Rattle.dsr_update_theory.specs.Givers.{HasGiver, IsGiver, givers, is_own, is_single}
use Rattle.dsr_update_theory.specs.Templates.{AreOnce, AreSized, AreTemplates, AreTrims, AreValued, KnownSets, adding, all_removals, all_true, counted_of, counted_symbol, is_target, joins_by, lacks_option, listed, most_options, pick_of, place_of, referred, relates_by, removal_updates, serves, setting, settings, supplies, supplies_by, target_writes, value_write, variables, with_trims}
use Rattle.dsr_repair_laws.proofs.FormItems.{in_giver, of_listed}
use Rattle.dsr_repair_laws.proofs.TriedUpdates.{GivesCounted, IsAdder, IsSetAt, IsSupplying, taken_var}
use Rattle.dsr_meaning.proofs.Items.{in_flat, in_map, passed_in}
use Rattle.dsr_meaning.proofs.Options.{chained_from, failed_from, mapped_from, passed_from}
use Rattle.dsr_plan_laws.proofs.KnownSets.{in_givers}

-- ---- the three forms

abbrev pub GoalAdds : Goal → Type 0
GoalAdds goals.AddSet = Unit {0}
GoalAdds goals.AddTuple = Unit {0}
GoalAdds goals.SetValue = Unit {0}
GoalAdds goals.Supply = Unit {0}
GoalAdds _ = ⊥

-- a size is made smaller
abbrev pub IsTrimmed : Op → ℕ → Type 0
IsTrimmed Le k = Unit {0}
IsTrimmed Eq zero = Unit {0}
IsTrimmed op k = ⊥

-- the goal is that a fact goes, for such a literal
abbrev pub IsTakenBy : Goal → Atom → Bool → Type 0
IsTakenBy goals.RemoveSet (atoms.Member v set) true = Unit {0}
IsTakenBy goals.RemoveTuple (atoms.Pair v w rel) true = Unit {0}
IsTakenBy goals.Trim (atoms.Count measure op k) negated = IsTrimmed op k
IsTakenBy goal atom negated = ⊥

-- exactly one is asked for
abbrev pub IsForOne : Atom → Type 0
IsForOne (atoms.Count measure Eq (suc zero)) = Unit {0}
IsForOne atom = ⊥

-- one update for each rule of the symbol, of which there are some, each with options
pub record IsRemoval (spec : Spec) (symbol : Symbol) (v : Option Var) (updates : List Update) : Type 0 where
  pub number : ℕ
  pub are : updates ≡ removal_updates spec.base v number (givers spec symbol)
  pub able : lacks_option spec.base (givers spec symbol) ≡ false
  pub some : HasGiver spec symbol

pub record AddsOne (spec : Spec) (known : KnownSets) (atom : Atom) (negated : Bool) (t : Template) : Type 0 where
  pub goal : GoalAdds t.goal
  pub plain : negated ≡ false
  pub update : Update
  pub are : t.updates ≡ update ∷ []
  pub adder : IsAdder spec known t.goal atom update

pub record Removes (spec : Spec) (atom : Atom) (negated : Bool) (t : Template) : Type 0 where
  pub goal : IsTakenBy t.goal atom negated
  pub removal : IsRemoval spec (atom_symbol atom) (taken_var atom) t.updates

pub record SuppliesOrTrims (spec : Spec) (known : KnownSets) (atom : Atom) (negated : Bool) (t : Template) : Type 0 where
  pub goal : t.goal ≡ goals.ExactlyOne
  pub one : IsForOne atom
  pub plain : negated ≡ false
  pub update : Update
  pub rest : List Update
  pub are : t.updates ≡ update ∷ rest
  pub adder : IsAdder spec known t.goal atom update
  pub removal : IsRemoval spec (atom_symbol atom) (taken_var atom) rest

abbrev pub RawForm : Spec → KnownSets → Atom → Bool → Template → Type 0
RawForm spec known atom negated t =
    AddsOne spec known atom negated t ⊎ (Removes spec atom negated t ⊎ SuppliesOrTrims spec known atom negated t)

-- ---- what rules give

own_set : (inc : Inc) (set : ℕ) → gives (symbols.Set set) inc ≡ true → is_own inc ≡ true → inc ≡ incs.Own set
own_set (incs.Own s) set g own = ap incs.Own (eqb-true s set g)
own_set (incs.OwnPair r path) set g own = absurd (false≢true g)
own_set (incs.Target s path) set g own = absurd (false≢true own)
own_set (incs.Slot s pool) set g own = absurd (false≢true own)
own_set (incs.SlotPair r pool path) set g own = absurd (false≢true own)

target_set : (inc : Inc) (set : ℕ) (path : Path) → gives (symbols.Set set) inc ≡ true → target_of inc ≡ Some path → inc ≡ incs.Target set path
target_set (incs.Target s p) set path g target = ap (λ n. incs.Target n p) (eqb-true s set g) ∙ ap (incs.Target set) (same_Some p path target)
target_set (incs.Own s) set path g target = absurd (none-some path target)
target_set (incs.Slot s pool) set path g target = absurd (none-some path target)
target_set (incs.OwnPair r p) set path g target = absurd (false≢true g)
target_set (incs.SlotPair r pool p) set path g target = absurd (false≢true g)

own_pair : (inc : Inc) (rel : ℕ) (path : Path) → gives (symbols.Rel rel) inc ≡ true → is_own inc ≡ true → target_of inc ≡ Some path → inc ≡ incs.OwnPair rel path
own_pair (incs.OwnPair r p) rel path g own target = ap (λ n. incs.OwnPair n p) (eqb-true r rel g) ∙ ap (incs.OwnPair rel) (same_Some p path target)
own_pair (incs.Own s) rel path g own target = absurd (false≢true g)
own_pair (incs.Target s p) rel path g own target = absurd (false≢true g)
own_pair (incs.Slot s pool) rel path g own target = absurd (false≢true g)
own_pair (incs.SlotPair r pool p) rel path g own target = absurd (false≢true own)

pub single_span : (span : Span) → is_single span ≡ true → span ≡ Single
single_span Single e = refl
single_span (Array place) e = absurd cc
single_span (Slots pool) e = absurd cc

no_premise : (premise : Option ℕ) → is_some premise ≡ false → premise ≡ None
no_premise None e = refl
no_premise (Some set) e = absurd cc

-- ---- templates that take away

once_in : {T : Type 0} {seen xs ys : List T} → AreOnce seen xs ys → (y : T) → IsIn y ys → IsIn y xs
once_in AreOnce.done y is_in = absurd is_in
once_in (AreOnce.again x before later) y is_in = inr (once_in later y is_in)
once_in (AreOnce.first x new later) y (inl same) = inl same
once_in (AreOnce.first x new later) y (inr behind) = inr (once_in later y behind)

-- a template with a removal
record IsRemovalFor (spec : Spec) (symbol : Symbol) (goal : Goal) (v : Option Var) (t : Template) : Type 0 where
  goal_is : t.goal ≡ goal
  removal : IsRemoval spec symbol v t.updates

some_giver : (spec : Spec) (symbol : Symbol) (j : ℕ) → IsIn j (range_with_len 0 (most_options spec.base (givers spec symbol))) → HasGiver spec symbol
some_giver spec symbol j is_in = of_list (givers spec symbol) (λ r i. in_givers spec symbol r i) is_in where
  of_list : (rs : List (ℕ × Rule)) → ((r : ℕ × Rule) → IsIn r rs → IsGiver spec symbol r.0 r.1) → IsIn j (range_with_len 0 (most_options spec.base rs)) → HasGiver spec symbol
  of_list [] all i = absurd i
  of_list (r ∷ rs) all i = (r.0, r.1, all r (inl refl))

removal_of : (spec : Spec) (symbol : Symbol) (goal : Goal) (v : Option Var) (t : Template) → IsIn t (all_removals spec symbol goal v) → IsRemovalFor spec symbol goal v t
removal_of spec symbol goal v t is_in = by_lack (lacks_option spec.base (givers spec symbol)) refl is_in where
  by_lack : (lacks : Bool) → lacks_option spec.base (givers spec symbol) ≡ lacks → IsIn t (if lacks then [] else map (λ j. record { goal = goal; updates = removal_updates spec.base v j (givers spec symbol) }) (range_with_len 0 (most_options spec.base (givers spec symbol)))) → IsRemovalFor spec symbol goal v t
  by_lack true e h = absurd h
  by_lack false e h =
      let made = in_map (λ j. record { goal = goal; updates = removal_updates spec.base v j (givers spec symbol) }) (range_with_len 0 (most_options spec.base (givers spec symbol))) t h in
      record {
        goal_is = ap (λ x. x.goal) made.is;
        removal = record { number = made.from; are = ap (λ x. x.updates) made.is; able = e; some = some_giver spec symbol made.from made.among };
      }

-- ---- templates that add

-- the only update of a template that adds at a variable's record
abbrev added : ℕ → Var → Option ℕ → List Write → Update
added k v fresh writes = record { rule = k; place = place_of v; at = ats.Scalar; writes = writes; fresh = fresh }

module _ (spec : Spec) (known : KnownSets) where
  joined : (v : Var) (set k : ℕ) (rule : Rule) (t : Template) → IsGiver spec (symbols.Set set) k rule → IsIn t (joins_by spec.base known v k rule) → AddsOne spec known (atoms.Member v set) false t
  joined v set k rule t giver is_in =
      let by : List Write → Template = adding goals.AddSet k v None in
      let test = passed_in (is_own rule.inc && serves known v rule) (listed (option_map by (all_true spec.base rule.guards))) t is_in in
      let own = and_parts (is_own rule.inc) (serves known v rule) test.0 in
      let made = mapped_from by (all_true spec.base rule.guards) t (of_listed _ t test.1) in
      subst (AddsOne spec known (atoms.Member v set) false) (sym made.1.1) (record {
        goal = tt;
        plain = refl;
        update = added k v None made.0;
        are = refl;
        adder = IsAdder.joins (record {
          goal_is = refl;
          v = v;
          set = set;
          atom_is = refl;
          rule = rule;
          inc_is = own_set rule.inc set giver.gives own.0;
          adding_is = record { giver = giver; serves_it = own.1; place_is = refl; at_is = refl };
          made = made.1.0;
        });
      })

  related : (v w : Var) (rel k : ℕ) (rule : Rule) (t : Template) → IsGiver spec (symbols.Rel rel) k rule → IsIn t (relates_by spec.base known v w k rule) → AddsOne spec known (atoms.Pair v w rel) false t
  related v w rel k rule t giver is_in =
      let by : List Write → Template = adding goals.AddTuple k v None in
      let chain = option_and_then (λ path. target_writes spec.base (picks.CodeOf w) path rule.guards) (target_of rule.inc) in
      let test = passed_in (is_own rule.inc && serves known v rule) (listed (option_map by chain)) t is_in in
      let own = and_parts (is_own rule.inc) (serves known v rule) test.0 in
      let made = mapped_from by chain t (of_listed _ t test.1) in
      let from = chained_from (λ path. target_writes spec.base (picks.CodeOf w) path rule.guards) (target_of rule.inc) made.0 made.1.0 in
      subst (AddsOne spec known (atoms.Pair v w rel) false) (sym made.1.1) (record {
        goal = tt;
        plain = refl;
        update = added k v None made.0;
        are = refl;
        adder = IsAdder.relates (record {
          goal_is = refl;
          v = v;
          w = w;
          rel = rel;
          atom_is = refl;
          rule = rule;
          path = from.0;
          inc_is = own_pair rule.inc rel from.0 giver.gives own.0 from.1.0;
          adding_is = record { giver = giver; serves_it = own.1; place_is = refl; at_is = refl };
          target_is = from.1.0;
          made = from.1.1;
        });
      })

  -- ---- and supply

  record IsSupply (measure : Measure) (t : Template) : Type 0 where
    goal_is : t.goal ≡ goals.Supply
    update : Update
    are : t.updates ≡ update ∷ []
    supplying : IsSupplying spec known measure update

  supplied : (measure : Measure) (v : Var) (k : ℕ) (rule : Rule) (t : Template) → IsGiver spec (counted_symbol measure) k rule → ((path : Path) → target_of rule.inc ≡ Some path → GivesCounted measure v path rule.inc) → IsIn t (supplies_by spec.base known v k rule) → IsSupply measure t
  supplied measure v k rule t giver counted is_in =
      let f : Path → Option Template = λ path. option_map (adding goals.Supply k v (referred spec.base path.field)) (target_writes spec.base picks.Fresh path rule.guards) in
      let test = passed_in (serves known v rule) (listed (option_and_then f (target_of rule.inc))) t is_in in
      let from = chained_from f (target_of rule.inc) t (of_listed _ t test.1) in
      let made = mapped_from (adding goals.Supply k v (referred spec.base from.0.field)) (target_writes spec.base picks.Fresh from.0 rule.guards) t from.1.1 in
      record {
        goal_is = ap (λ (x : Template). x.goal) made.1.1;
        update = added k v (referred spec.base from.0.field) made.0;
        are = ap (λ (x : Template). x.updates) made.1.1;
        supplying = record {
          v = v;
          rule = rule;
          path = from.0;
          counted = counted from.0 from.1.0;
          adding_is = record { giver = giver; serves_it = test.0; place_is = refl; at_is = refl };
          target_is = from.1.0;
          fresh_is = refl;
          made = made.1.0;
        };
      }

  supply : (quant : Quant) (measure : Measure) (t : Template) → IsIn t (supplies spec known quant measure) → IsSupply measure t
  supply quant (Whole set) t is_in =
      let by = in_giver spec (symbols.Set set) (λ k rule. if is_target rule.inc then flat_map (λ v. supplies_by spec.base known v k rule) (variables quant) else []) t is_in in
      let test = passed_in (is_target by.rule.inc) (flat_map (λ v. supplies_by spec.base known v by.number by.rule) (variables quant)) t by.is_in in
      let found = in_flat (λ v. supplies_by spec.base known v by.number by.rule) (variables quant) t test.1 in
      supplied (Whole set) found.from by.number by.rule t by.giver (λ path target. target_set by.rule.inc set path by.giver.gives target) found.is_in
  supply quant (Out v rel) t is_in =
      let records : Bool = is_some (option_and_then (λ r. r.target) (slice_get spec.base.rels rel)) in
      let by = in_giver spec (symbols.Rel rel) (λ k rule. if is_own rule.inc && records then supplies_by spec.base known v k rule else []) t is_in in
      let test = passed_in (is_own by.rule.inc && records) (supplies_by spec.base known v by.number by.rule) t by.is_in in
      let own = (and_parts (is_own by.rule.inc) records test.0).0 in
      supplied (Out v rel) v by.number by.rule t by.giver (λ path target. (own_pair by.rule.inc rel path by.giver.gives own target, refl)) test.1
  supply quant (Into rel v) t is_in = absurd is_in

  -- ---- and set

  abbrev slot_set : ℕ → Var → Write → Template
  slot_set k v write = record {
    goal = goals.SetValue;
    updates = record { rule = k; place = places.Head; at = ats.SlotOf v; writes = write ∷ []; fresh = None } ∷ [];
  }

  module _ (v : Var) (rel : ℕ) (op : Op) (bound : Bound) (reaches : reaches_bound op ≡ true) (negated : Bool) (plain : negated ≡ false) where
    abbrev atom : Atom
    atom = atoms.Value v rel op bound

    set_by : (k : ℕ) (rule : Rule) (inc : Inc) (t : Template) → givers spec (symbols.Rel rel) ≡ (k, rule) ∷ [] → IsGiver spec (symbols.Rel rel) k rule → rule.inc ≡ inc → setting spec.base v (pick_of bound) k rule inc ≡ Some t → AddsOne spec known atom negated t
    set_by k rule (incs.OwnPair r path) t alone giver is e =
        let by : Write → Template = λ write. adding goals.SetValue k v None (write ∷ []) in
        let test = passed_from (is_single rule.span) (option_map by (value_write spec.base (pick_of bound) path)) t e in
        let made = mapped_from by (value_write spec.base (pick_of bound) path) t test.1 in
        let same : r ≡ rel = eqb-true r rel (sym (ap (gives (symbols.Rel rel)) is) ∙ giver.gives) in
        subst (AddsOne spec known atom negated) (sym made.1.1) (record {
          goal = tt;
          plain = plain;
          update = added k v None (made.0 ∷ []);
          are = refl;
          adder = IsAdder.sets (record {
            goal_is = refl;
            v = v;
            rel = rel;
            op = op;
            bound = bound;
            atom_is = refl;
            reaches = reaches;
            rule = rule;
            path = path;
            alone = alone;
            giver = giver;
            placed = IsSetAt.own (is ∙ ap (λ n. incs.OwnPair n path) same) (single_span rule.span test.0) refl refl;
            target_is = ap target_of is;
            write = made.0;
            write_is = made.1.0;
            writes_are = refl;
          });
        })
    set_by k rule (incs.SlotPair r pool path) t alone giver is e =
        let test = failed_from (is_some rule.premise) (option_map (slot_set k v) (value_write spec.base (pick_of bound) path)) t e in
        let made = mapped_from (slot_set k v) (value_write spec.base (pick_of bound) path) t test.1 in
        let same : r ≡ rel = eqb-true r rel (sym (ap (gives (symbols.Rel rel)) is) ∙ giver.gives) in
        subst (AddsOne spec known atom negated) (sym made.1.1) (record {
          goal = tt;
          plain = plain;
          update = record { rule = k; place = places.Head; at = ats.SlotOf v; writes = made.0 ∷ []; fresh = None };
          are = refl;
          adder = IsAdder.sets (record {
            goal_is = refl;
            v = v;
            rel = rel;
            op = op;
            bound = bound;
            atom_is = refl;
            reaches = reaches;
            rule = rule;
            path = path;
            alone = alone;
            giver = giver;
            placed = IsSetAt.slot pool (is ∙ ap (λ n. incs.SlotPair n pool path) same) (no_premise rule.premise test.0) refl refl;
            target_is = ap target_of is;
            write = made.0;
            write_is = made.1.0;
            writes_are = refl;
          });
        })
    set_by k rule (incs.Own set) t alone giver is e = absurd (none-some t e)
    set_by k rule (incs.Target set path) t alone giver is e = absurd (none-some t e)
    set_by k rule (incs.Slot set pool) t alone giver is e = absurd (none-some t e)

    set_among : (rs : List (ℕ × Rule)) → givers spec (symbols.Rel rel) ≡ rs → (t : Template) → IsIn t (settings spec.base v (pick_of bound) rs) → AddsOne spec known atom negated t
    set_among [] are t is_in = absurd is_in
    set_among (r ∷ []) are t is_in =
        set_by r.0 r.1 r.1.inc t are (in_givers spec (symbols.Rel rel) r (subst (IsIn r) (sym are) (inl refl))) refl (of_listed _ t is_in)
    set_among (r ∷ q ∷ rest) are t is_in = absurd is_in

-- ---- all that are tried

module _ (spec : Spec) (known : KnownSets) (quant : Quant) where
  trimmed : (measure : Measure) (op : Op) (k : ℕ) (negated : Bool) (ts : List Template) (t : Template) → IsTrimmed op k → AreTrims spec measure ts → IsIn t ts → RawForm spec known (atoms.Count measure op k) negated t
  trimmed measure op k negated ts t trims are is_in =
      let by = removal_of spec (counted_symbol measure) goals.Trim (counted_of measure) t (once_in are t is_in) in
      inr (inl (record { goal = subst (λ g. IsTakenBy g (atoms.Count measure op k) negated) (sym by.goal_is) trims; removal = by.removal }))

  some_supplied : (measure : Measure) (negated : Bool) (t : Template) → negated ≡ false → IsIn t (supplies spec known quant measure) → RawForm spec known (atoms.Count measure Ge 1) negated t
  some_supplied measure negated t plain is_in =
      let s = supply spec known quant measure t is_in in
      inl (record { goal = subst GoalAdds (sym s.goal_is) tt; plain = plain; update = s.update; are = s.are; adder = IsAdder.supplies_some measure s.goal_is refl s.supplying })

  one_supplied : (measure : Measure) (negated : Bool) (trims : List Template) (t : Template) → negated ≡ false → AreTrims spec measure trims → IsIn t (with_trims (supplies spec known quant measure) trims) → RawForm spec known (atoms.Count measure Eq 1) negated t
  one_supplied measure negated trims t plain are is_in =
      let both : Template → Template → Template = λ s r. record { goal = goals.ExactlyOne; updates = s.updates ++ r.updates } in
      let one = in_flat (λ s. map (both s) trims) (supplies spec known quant measure) t is_in in
      let two = in_map (both one.from) trims t one.is_in in
      let s = supply spec known quant measure one.from one.among in
      let trim = removal_of spec (counted_symbol measure) goals.Trim (counted_of measure) two.from (once_in are two.from two.among) in
      let goal : t.goal ≡ goals.ExactlyOne = ap (λ (x : Template). x.goal) two.is in
      inr (inr (record {
        goal = goal;
        one = tt;
        plain = plain;
        update = s.update;
        rest = two.from.updates;
        are = ap (λ (x : Template). x.updates) two.is ∙ ap (λ us. us ++ two.from.updates) s.are;
        adder = IsAdder.supplies_one measure goal refl s.supplying;
        removal = trim.removal;
      }))

  none_there : (ts : List Template) (t : Template) {A : Type 0} → ts ≡ [] → IsIn t ts → A
  none_there ts t are is_in = absurd (subst (IsIn t) are is_in)

  sized : (measure : Measure) (op : Op) (k : ℕ) (negated : Bool) (ts : List Template) (t : Template) → negated ≡ false → AreSized spec known quant measure op k ts → IsIn t ts → RawForm spec known (atoms.Count measure op k) negated t
  sized measure Le k negated ts t plain are is_in = trimmed measure Le k negated ts t tt are is_in
  sized measure Ge (suc zero) negated ts t plain are is_in = some_supplied measure negated t plain (subst (IsIn t) are is_in)
  sized measure Ge zero negated ts t plain are is_in = none_there ts t are is_in
  sized measure Ge (suc (suc k)) negated ts t plain are is_in = none_there ts t are is_in
  sized measure Eq zero negated ts t plain are is_in = trimmed measure Eq zero negated ts t tt are is_in
  sized measure Eq (suc zero) negated ts t plain are is_in = one_supplied measure negated are.0 t plain are.1 (subst (IsIn t) are.2 is_in)
  sized measure Eq (suc (suc k)) negated ts t plain are is_in = none_there ts t are is_in
  sized measure Ne k negated ts t plain are is_in = none_there ts t are is_in
  sized measure Lt k negated ts t plain are is_in = none_there ts t are is_in
  sized measure Gt k negated ts t plain are is_in = none_there ts t are is_in

  valued : (v : Var) (rel : ℕ) (op : Op) (bound : Bound) (negated : Bool) (ts : List Template) (t : Template) → negated ≡ false → AreValued spec v rel op bound ts → IsIn t ts → RawForm spec known (atoms.Value v rel op bound) negated t
  valued v rel Eq bound negated ts t plain are is_in = inl (set_among spec known v rel Eq bound refl negated plain (givers spec (symbols.Rel rel)) refl t (subst (IsIn t) are is_in))
  valued v rel Le bound negated ts t plain are is_in = inl (set_among spec known v rel Le bound refl negated plain (givers spec (symbols.Rel rel)) refl t (subst (IsIn t) are is_in))
  valued v rel Ge bound negated ts t plain are is_in = inl (set_among spec known v rel Ge bound refl negated plain (givers spec (symbols.Rel rel)) refl t (subst (IsIn t) are is_in))
  valued v rel Ne bound negated ts t plain are is_in = none_there ts t are is_in
  valued v rel Lt bound negated ts t plain are is_in = none_there ts t are is_in
  valued v rel Gt bound negated ts t plain are is_in = none_there ts t are is_in

  not_negated : (negated : Bool) → (IsTrue negated → ⊥) → negated ≡ false
  not_negated true may = absurd (may refl)
  not_negated false may = refl

  pub raw_form : (atom : Atom) (negated : Bool) (ts : List Template) (t : Template) → (IsTrue negated → MayBeNegated atom) → AreTemplates spec known quant atom negated ts → IsIn t ts → RawForm spec known atom negated t
  raw_form (atoms.Member v set) false ts t may are is_in =
      let by = in_giver spec (symbols.Set set) (joins_by spec.base known v) t (subst (IsIn t) are is_in) in
      inl (joined spec known v set by.number by.rule t by.giver by.is_in)
  raw_form (atoms.Member v set) true ts t may are is_in =
      let by = removal_of spec (symbols.Set set) goals.RemoveSet (Some v) t (once_in are t is_in) in
      inr (inl (record { goal = subst (λ g. IsTakenBy g (atoms.Member v set) true) (sym by.goal_is) tt; removal = by.removal }))
  raw_form (atoms.Pair v w rel) false ts t may are is_in =
      let by = in_giver spec (symbols.Rel rel) (relates_by spec.base known v w) t (subst (IsIn t) are is_in) in
      inl (related spec known v w rel by.number by.rule t by.giver by.is_in)
  raw_form (atoms.Pair v w rel) true ts t may are is_in =
      let by = removal_of spec (symbols.Rel rel) goals.RemoveTuple (Some v) t (once_in are t is_in) in
      inr (inl (record { goal = subst (λ g. IsTakenBy g (atoms.Pair v w rel) true) (sym by.goal_is) tt; removal = by.removal }))
  raw_form (atoms.Count measure op k) negated ts t may are is_in = sized measure op k negated ts t (not_negated negated may) are is_in
  raw_form (atoms.Value v rel op bound) negated ts t may are is_in = valued v rel op bound negated ts t (not_negated negated may) are is_in
