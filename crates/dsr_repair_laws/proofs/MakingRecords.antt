-- The record of a variable is one of the variable's pool, and a known set is one of that pool.
use Rattle.std.proofs.Common.{◌≡◌, ◌<◌, ◌∙◌, ℕ, true, false, List, length, Option, None, Some, IfSome, IsSomeAnd, is_some, not, refl, sym, ap, subst, slice_get, arith}
use Rattle.std.specs.Prelude.{option_map}
use Rattle.std.specs.Option.{option_and_then, option_map_or}
use Rattle.std.proofs.lemmas.Bool.Decides.{nat_tests}
use Rattle.std.proofs.lemmas.Option.{same_Some, slice_get_within}
use Rattle.dsr_repair_theory.specs.Choices.{IsPlace}
use Rattle.dsr_ir.specs.Rules.{gives, is_same_symbol, target_of}
use Rattle.dsr_ir.specs.declared.constraints.Quant.{Quant}
use Rattle.dsr_ir.specs.declared.constraints.Quant.TheVariants as quants
use Rattle.dsr_ir.specs.declared.constraints.Var.{Var}
use Rattle.dsr_ir.specs.declared.constraints.Var.TheVariants.{Head, First, Second}
use Rattle.dsr_ir.specs.declared.declarations.Field.{Field}
use Rattle.dsr_ir.specs.declared.declarations.Rel.{Rel}
use Rattle.dsr_ir.specs.declared.declarations.SetDecl.{SetDecl}
use Rattle.dsr_ir.specs.declared.declarations.Spec.{Spec}
use Rattle.dsr_ir.specs.declared.layouts.Layout.{Layout}
use Rattle.dsr_ir.specs.declared.rules.Inc.{Inc}
use Rattle.dsr_ir.specs.declared.rules.Inc.TheVariants as incs
use Rattle.dsr_ir.specs.declared.rules.Path.{Path}
use Rattle.dsr_ir.specs.declared.rules.Rule.{Rule}
use Rattle.dsr_ir.specs.declared.tuples.Binding.{Binding}
use Rattle.dsr_ir.specs.declared.tuples.Binding.TheVariants as bindings
use Rattle.dsr_ir.specs.declared.tuples.Element.{Element}
use Rattle.dsr_ir.specs.declared.tuples.Fact.TheVariants.{Member, Pair}
use Rattle.dsr_ir.specs.declared.tuples.Instance.{Instance}
use Rattle.dsr_ir.specs.declared.tuples.Target.TheVariants.{Elem}
use Rattle.dsr_ir.specs.declared.updates.Symbol.TheVariants as symbols
use Rattle.dsr_layout.proofs.Meanings.{found_holds}
use Rattle.dsr_layout.proofs.RangeOfFacts.{fact_in_range}
use Rattle.dsr_layout.specs.InRange.{IsRecordOf, IsTargetOf}
use Rattle.dsr_meaning.specs.Consistency.{IsBinding}
use Rattle.dsr_meaning.specs.Instances.{declared_field, kind_pool, pool_of_premise, premise_pool, set_pool}
use Rattle.dsr_meaning.specs.Layouts.{layout_of}
use Rattle.dsr_meaning.specs.Models.{IsFact}
use Rattle.dsr_meaning.specs.Truth.{element_of, head}
use Rattle.dsr_meaning.specs.Typed.{GivesTarget, IsPlainSetOf, IsTyped, IsTypedInc, IsTypedQuant, IsTypedRule, Reads, Relates, pool_of_var}
use Rattle.dsr_meaning.proofs.Items.{item_there}
use Rattle.dsr_update_theory.specs.Givers.{is_own}
use Rattle.dsr_update_theory.specs.KnownSets.{IsKnown}
use Rattle.dsr_update_theory.specs.Templates.{KnownSets, TellsKnown, place_of, starts_at}
use Rattle.dsr_meaning.proofs.Options.{chained_from, mapped_from, some_and}

-- ---- records of variables

-- the head is the only record of pool 0
pub head_record : (layout : Layout) → IsRecordOf layout 0 head
head_record layout = record { pool_is = refl; slot_below = omega arith }

module _ (spec : Spec) (bytes : List ℕ) (layout : Layout) (is : layout_of spec.base bytes ≡ Some layout) (typed : IsTyped spec) where
  pub var_record : (quant : Quant) (b : Binding) → IsBinding (IsFact spec layout bytes) quant b → (v : Var) (pool : ℕ) (e : Element) → pool_of_var spec.base quant v ≡ Some pool → element_of b v ≡ Some e → IsRecordOf layout pool e
  var_record quant b bound Head pool e of at =
      subst (λ p. IsRecordOf layout p e) (same_Some 0 pool of) (subst (IsRecordOf layout 0) (same_Some head e at) (head_record layout))
  var_record quants.Once b bound First pool e of at = absurd cc
  var_record quants.Once b bound Second pool e of at = absurd cc
  var_record (quants.Each set) (bindings.Each x) bound First pool e of at =
      let range = fact_in_range spec bytes layout is typed (Member set x) bound in
      let decl = mapped_from (λ (s : SetDecl). s.pool) (slice_get spec.base.sets set) pool of in
      let same : range.decl ≡ decl.0 = same_Some range.decl decl.0 (sym range.declared ∙ decl.1.0) in
      subst (IsRecordOf layout pool) (same_Some x e at) (subst (λ p. IsRecordOf layout p x) (ap (λ (s : SetDecl). s.pool) same ∙ sym decl.1.1) range.member)
  var_record (quants.Each set) (bindings.Each x) bound Second pool e of at = absurd cc
  var_record (quants.Each set) bindings.Once bound v pool e of at = absurd bound
  var_record (quants.Each set) (bindings.Pair x y) bound v pool e of at = absurd bound
  var_record (quants.Pairs rel) (bindings.Pair x y) bound First pool e of at =
      let range = fact_in_range spec bytes layout is typed (Pair rel x (Elem y)) bound in
      let decl = mapped_from (λ (r : Rel). r.source) (slice_get spec.base.rels rel) pool of in
      let same : range.decl ≡ decl.0 = same_Some range.decl decl.0 (sym range.declared ∙ decl.1.0) in
      subst (IsRecordOf layout pool) (same_Some x e at) (subst (λ p. IsRecordOf layout p x) (ap (λ (r : Rel). r.source) same ∙ sym decl.1.1) range.source)
  var_record (quants.Pairs rel) (bindings.Pair x y) bound Second pool e of at =
      let range = fact_in_range spec bytes layout is typed (Pair rel x (Elem y)) bound in
      let decl = chained_from (λ (r : Rel). r.target) (slice_get spec.base.rels rel) pool of in
      let same : range.decl ≡ decl.0 = same_Some range.decl decl.0 (sym range.declared ∙ decl.1.0) in
      subst (IsRecordOf layout pool) (same_Some y e at) (subst (λ o. IsTargetOf layout o (Elem y)) (ap (λ (r : Rel). r.target) same ∙ decl.1.1) range.target_is)
  var_record (quants.Pairs rel) bindings.Once bound v pool e of at = absurd bound
  var_record (quants.Pairs rel) (bindings.Each x) bound v pool e of at = absurd bound

-- ---- pools of known sets

pub rel_same : (r q : ℕ) → is_same_symbol (symbols.Rel r) (symbols.Rel q) ≡ true → r ≡ q
rel_same r q e = grind (arith, nat_tests, e)

set_same : (s t : ℕ) → is_same_symbol (symbols.Set s) (symbols.Set t) ≡ true → s ≡ t
set_same s t e = grind (arith, nat_tests, e)

module _ (spec : Spec) (typed : IsTyped spec) where
  pub of_rule : (k : ℕ) (rule : Rule) → slice_get spec.rules k ≡ Some rule → IsTypedRule spec.base rule
  of_rule k rule is = found_holds (IsTypedRule spec.base) spec.rules k rule typed.rules is

  plain_pool : (pool set : ℕ) → IsPlainSetOf spec.base pool set → set_pool spec set ≡ pool
  plain_pool pool set plain =
      let found = some_and (slice_get spec.base.sets set) (λ s. (s.pool ≡ pool) × (s.except ≡ None)) plain in
      ap (λ o. option_map_or (λ (d : SetDecl). d.pool) o 0) found.1.0 ∙ found.1.1.0

  pub related_source : (rel source : ℕ) (target : Option ℕ) → Relates spec.base rel source target → option_map (λ (r : Rel). r.source) (slice_get spec.base.rels rel) ≡ Some source
  related_source rel source target relates =
      let found = some_and (slice_get spec.base.rels rel) (λ r. (r.source ≡ source) × (r.target ≡ target)) relates in
      ap (option_map (λ (r : Rel). r.source)) found.1.0 ∙ ap Some found.1.1.0

  related_target : (rel source : ℕ) (target : Option ℕ) → Relates spec.base rel source target → option_and_then (λ (r : Rel). r.target) (slice_get spec.base.rels rel) ≡ target
  related_target rel source target relates =
      let found = some_and (slice_get spec.base.rels rel) (λ r. (r.source ≡ source) × (r.target ≡ target)) relates in
      ap (option_and_then (λ (r : Rel). r.target)) found.1.0 ∙ found.1.1.1

  -- the source of pairs that a rule gives with its own record
  pub own_source : (rule : Rule) (rel : ℕ) (inc : Inc) → IsTypedInc spec.base rule inc → gives (symbols.Rel rel) inc ≡ true → is_own inc ≡ true → option_map (λ (r : Rel). r.source) (slice_get spec.base.rels rel) ≡ Some (premise_pool spec rule)
  own_source rule rel (incs.OwnPair r path) inc_typed gives_it own =
      subst (λ q. option_map (λ (x : Rel). x.source) (slice_get spec.base.rels q) ≡ Some (premise_pool spec rule)) (rel_same r rel gives_it) (related_source r (premise_pool spec rule) inc_typed.target inc_typed.relates)
  own_source rule rel (incs.Own set) inc_typed gives_it own = absurd cc
  own_source rule rel (incs.Target set path) inc_typed gives_it own = absurd cc
  own_source rule rel (incs.Slot set pool) inc_typed gives_it own = absurd cc
  own_source rule rel (incs.SlotPair r pool path) inc_typed gives_it own = absurd cc

  -- what a typed path reads
  read_kind : (rule : Rule) (path : Path) (pool : Option ℕ) → Reads spec.base rule path pool → option_and_then (λ f. kind_pool f.kind) (declared_field spec.base path.field) ≡ pool
  read_kind rule path pool reads = ap (option_and_then (λ (f : Field). kind_pool f.kind)) reads.typed.is_field.declared ∙ reads.kind

  given_target : (rule : Rule) (rel r source : ℕ) (p path : Path) → GivesTarget spec.base rule r source p → r ≡ rel → p ≡ path → option_and_then (λ (x : Rel). x.target) (slice_get spec.base.rels rel) ≡ option_and_then (λ f. kind_pool f.kind) (declared_field spec.base path.field)
  given_target rule rel r source p path given same_rel same_path =
      subst (λ q. option_and_then (λ (x : Rel). x.target) (slice_get spec.base.rels rel) ≡ option_and_then (λ f. kind_pool f.kind) (declared_field spec.base q.field)) same_path
      (subst (λ q. option_and_then (λ (x : Rel). x.target) (slice_get spec.base.rels q) ≡ option_and_then (λ f. kind_pool f.kind) (declared_field spec.base p.field)) same_rel
      (related_target r source given.target given.relates ∙ sym (read_kind rule p given.target given.reads)))

  -- the target of pairs that a rule gives is what its path reads
  pub target_read : (rule : Rule) (rel : ℕ) (inc : Inc) (path : Path) → IsTypedInc spec.base rule inc → gives (symbols.Rel rel) inc ≡ true → target_of inc ≡ Some path → option_and_then (λ (r : Rel). r.target) (slice_get spec.base.rels rel) ≡ option_and_then (λ f. kind_pool f.kind) (declared_field spec.base path.field)
  target_read rule rel (incs.OwnPair r p) path inc_typed gives_it target = given_target rule rel r (premise_pool spec rule) p path inc_typed (rel_same r rel gives_it) (same_Some p path target)
  target_read rule rel (incs.SlotPair r pool p) path inc_typed gives_it target = given_target rule rel r pool p path inc_typed.1 (rel_same r rel gives_it) (same_Some p path target)
  target_read rule rel (incs.Own set) path inc_typed gives_it target = absurd cc
  target_read rule rel (incs.Target set p) path inc_typed gives_it target = absurd cc
  target_read rule rel (incs.Slot set pool) path inc_typed gives_it target = absurd cc

  -- a member that a rule gives is one of the premise's pool
  own_pool : (rule : Rule) (set : ℕ) (inc : Inc) → IsTypedInc spec.base rule inc → gives (symbols.Set set) inc ≡ true → is_own inc ≡ true → set_pool spec set ≡ premise_pool spec rule
  own_pool rule set (incs.Own s) inc_typed gives_it own = subst (λ t. set_pool spec t ≡ premise_pool spec rule) (set_same s set gives_it) (plain_pool (premise_pool spec rule) s inc_typed)
  own_pool rule set (incs.OwnPair r path) inc_typed gives_it own = absurd cc
  own_pool rule set (incs.Target s path) inc_typed gives_it own = absurd cc
  own_pool rule set (incs.Slot s pool) inc_typed gives_it own = absurd cc
  own_pool rule set (incs.SlotPair r pool path) inc_typed gives_it own = absurd cc

  -- the premise's pool is its set's
  premise_set : (rule : Rule) (set : ℕ) → rule.premise ≡ Some set → premise_pool spec rule ≡ set_pool spec set
  premise_set rule set e = ap (pool_of_premise spec.base) e

  premise_declared : (k : ℕ) (rule : Rule) (set : ℕ) → slice_get spec.rules k ≡ Some rule → rule.premise ≡ Some set → set < length spec.base.sets
  premise_declared k rule set is e =
      let known : IsSomeAnd (slice_get spec.base.sets set) (λ s. s.except ≡ None) = subst (λ o. IfSome o (λ n. IsSomeAnd (slice_get spec.base.sets n) (λ s. s.except ≡ None))) e (of_rule k rule is).premise in
      let found = some_and (slice_get spec.base.sets set) (λ s. s.except ≡ None) known in
      slice_get_within spec.base.sets set found.0 found.1.0

  -- a rule that gives targets to a set reads records of the set's pool
  target_set : (rule : Rule) (set : ℕ) (path : Path) (inc : Inc) → IsTypedInc spec.base rule inc → inc ≡ incs.Target set path → (option_and_then (λ f. kind_pool f.kind) (declared_field spec.base path.field) ≡ Some (set_pool spec set)) × (set < length spec.base.sets)
  target_set rule set path inc inc_typed is =
      let its : (pool : ℕ) × IsPlainSetOf spec.base pool set × Reads spec.base rule path (Some pool) = subst (IsTypedInc spec.base rule) is inc_typed in
      let found = some_and (slice_get spec.base.sets set) (λ s. (s.pool ≡ its.0) × (s.except ≡ None)) its.1 in
      (read_kind rule path (Some its.0) its.2 ∙ ap Some (sym (plain_pool its.0 set its.1)), slice_get_within spec.base.sets set found.0 found.1.0)

  -- the variable's pool is that of each set of which the variable is known to be a member
  abbrev IsPoolOf : Quant → Var → ℕ → Type 0
  IsPoolOf quant v set = (pool_of_var spec.base quant v ≡ Some (set_pool spec set)) × (set < length spec.base.sets)

  pub known_pool : (quant : Quant) → IsTypedQuant spec.base quant → {v : Var} {set : ℕ} → IsKnown spec quant v set → IsPoolOf quant v set
  known_pool quant quant_typed (IsKnown.quantified set e) =
      let declared : set < length spec.base.sets = subst (IsTypedQuant spec.base) e quant_typed in
      let found = item_there spec.base.sets set declared in
      subst (λ q. IsPoolOf q First set) (sym e) (ap (option_map (λ (s : SetDecl). s.pool)) found.1 ∙ sym (ap (λ o. Some (option_map_or (λ (s : SetDecl). s.pool) o 0)) found.1), declared)
  known_pool quant quant_typed (IsKnown.source rel set e given) =
      let k = given.some.0 in
      let rule = given.some.1 in
      let giver = given.some.2 in
      let members = given.each k rule giver in
      let pool = own_source rule rel rule.inc (of_rule k rule giver.rule_is).inc giver.gives members.own in
      subst (λ q. IsPoolOf q First set) (sym e) (pool ∙ ap Some (premise_set rule set members.premise_is), premise_declared k rule set giver.rule_is members.premise_is)
  known_pool quant quant_typed (IsKnown.target rel set e given) =
      let k = given.some.0 in
      let rule = given.some.1 in
      let giver = given.some.2 in
      let targets = given.each k rule giver in
      let j = targets.0 in
      let other = targets.1 in
      let counterpart = targets.3 in
      let read = target_read rule rel rule.inc counterpart.path (of_rule k rule giver.rule_is).inc giver.gives counterpart.target_is in
      let to_set = target_set other set counterpart.path other.inc (of_rule j other targets.2.rule_is).inc counterpart.gives_it in
      subst (λ q. IsPoolOf q Second set) (sym e) (read ∙ to_set.0, to_set.1)
  known_pool quant quant_typed (IsKnown.base v set below known given) =
      let k = given.some.0 in
      let rule = given.some.1 in
      let giver = given.some.2 in
      let members = given.each k rule giver in
      let before = known_pool quant quant_typed known in
      (before.0 ∙ ap Some (own_pool rule set rule.inc (of_rule k rule giver.rule_is).inc giver.gives members.own ∙ premise_set rule below members.premise_is), premise_declared k rule below giver.rule_is members.premise_is)

-- ---- the record at which a rule starts

pub place_named : (v : Var) (b : Binding) (stopped : Option Instance) (e : Element) → IsPlace b stopped (place_of v) e → element_of b v ≡ Some e
place_named Head b stopped e at = ap Some (sym at)
place_named First b stopped e at = at
place_named Second b stopped e at = at

module _ (spec : Spec) (bytes : List ℕ) (layout : Layout) (is : layout_of spec.base bytes ≡ Some layout) (typed : IsTyped spec) (quant : Quant) (quant_typed : IsTypedQuant spec.base quant) (b : Binding) (bound : IsBinding (IsFact spec layout bytes) quant b) (known : KnownSets) (tells : TellsKnown spec quant known) where
  known_record : (v : Var) (rule : Rule) (e : Element) → option_map_or (known v) rule.premise false ≡ true → element_of b v ≡ Some e → IsRecordOf layout (premise_pool spec rule) e
  known_record v rule e starts at =
      elim rule.premise as (λ o. rule.premise ≡ o → option_map_or (known v) o false ≡ true → IsRecordOf layout (premise_pool spec rule) e) [
        | None ↦ λ _ no. absurd cc
        | Some set ↦ λ premise is_known.
            let pool = (known_pool spec typed quant quant_typed ((tells v set).0 is_known)).0 in
            var_record spec bytes layout is typed quant b bound v (premise_pool spec rule) e (pool ∙ ap Some (sym (premise_set spec typed rule set premise))) at
      ] refl starts

  pub start_record : (v : Var) (rule : Rule) (e : Element) → starts_at known v rule ≡ true → element_of b v ≡ Some e → IsRecordOf layout (premise_pool spec rule) e
  start_record Head rule e starts at =
      elim rule.premise as (λ o. rule.premise ≡ o → not (is_some o) ≡ true → IsRecordOf layout (premise_pool spec rule) e) [
        | None ↦ λ premise _. subst (λ p. IsRecordOf layout p e) (sym (ap (pool_of_premise spec.base) premise)) (subst (IsRecordOf layout 0) (same_Some head e at) (head_record layout))
        | Some set ↦ λ _ no. absurd cc
      ] refl starts
  start_record First rule e starts at = known_record First rule e starts at
  start_record Second rule e starts at = known_record Second rule e starts at
