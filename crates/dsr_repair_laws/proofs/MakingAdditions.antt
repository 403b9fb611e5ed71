-- An update that adds writes at the record at which its rule starts.
use Rattle.std.proofs.Common.{◌≡◌, ◌<◌, ◌^◌, ◌∙◌, ℕ, List, Option, Some, refl, sym, ap, subst, slice_get, arith}
use Rattle.std.specs.Option.{option_and_then}
use Rattle.dsr_repair_theory.specs.Choices.{IsEntryAt, IsFresh, IsFreshFrom, IsPlace}
use Rattle.dsr_ir.specs.declared.constraints.Atom.{Atom}
use Rattle.dsr_ir.specs.declared.constraints.Atom.TheVariants as atoms
use Rattle.dsr_ir.specs.declared.constraints.Measure.{Measure}
use Rattle.dsr_ir.specs.declared.constraints.Quant.{Quant}
use Rattle.dsr_ir.specs.declared.constraints.Quant.TheVariants as quants
use Rattle.dsr_ir.specs.declared.constraints.Var.{Var}
use Rattle.dsr_ir.specs.declared.constraints.Var.TheVariants.{Head, First, Second}
use Rattle.dsr_ir.specs.declared.declarations.Field.{Field}
use Rattle.dsr_ir.specs.declared.declarations.FieldRef.{FieldRef}
use Rattle.dsr_ir.specs.declared.declarations.Rel.{Rel}
use Rattle.dsr_ir.specs.declared.declarations.Spec.{Spec}
use Rattle.dsr_ir.specs.declared.layouts.Layout.{Layout}
use Rattle.dsr_ir.specs.declared.rules.Rule.{Rule}
use Rattle.dsr_ir.specs.declared.tuples.Binding.{Binding}
use Rattle.dsr_ir.specs.declared.tuples.Binding.TheVariants as bindings
use Rattle.dsr_ir.specs.declared.tuples.Element.{Element}
use Rattle.dsr_ir.specs.declared.tuples.Fact.{Fact}
use Rattle.dsr_ir.specs.declared.tuples.Instance.{Instance}
use Rattle.dsr_ir.specs.declared.updates.Goal.{Goal}
use Rattle.dsr_ir.specs.declared.updates.Pick.{Pick}
use Rattle.dsr_ir.specs.declared.updates.Pick.TheVariants as picks
use Rattle.dsr_ir.specs.declared.updates.Symbol.{Symbol}
use Rattle.dsr_ir.specs.declared.updates.Update.{Update}
use Rattle.dsr_ir.specs.declared.updates.Write.{Write}
use Rattle.dsr_meaning.specs.Cells.{width_bits}
use Rattle.dsr_meaning.specs.Consistency.{IsBinding}
use Rattle.dsr_meaning.specs.Counting.{IsIn}
use Rattle.dsr_meaning.specs.Instances.{IsInstance, declared_field, index_count, kind_pool}
use Rattle.dsr_meaning.specs.Models.{IsFact}
use Rattle.dsr_meaning.specs.Refusals.{IsLayoutOf}
use Rattle.dsr_meaning.specs.Truth.{element_of, head}
use Rattle.dsr_meaning.specs.Typed.{IsTyped, IsTypedAtom, IsTypedQuant, pool_of_var}
use Rattle.dsr_step_theory.specs.Steps.{code_of, picked_number}
use Rattle.dsr_step_theory.specs.declared.steps.Step.{Step}
use Rattle.dsr_update_theory.specs.Givers.{is_single}
use Rattle.dsr_update_theory.specs.Templates.{KnownSets, TellsKnown, referred, starts_at}
use Rattle.dsr_repair_laws.proofs.MakingCan.{IsMade, all_true_made, target_writes_made}
use Rattle.dsr_repair_laws.proofs.MakingEntries.{FitsField, code_fits_field, slot_record}
use Rattle.dsr_repair_laws.proofs.TriedTemplates.{single_span}
use Rattle.dsr_repair_laws.proofs.TriedUpdates.{IsAdding, IsJoining, IsRelating, IsSupplying}
use Rattle.dsr_repair_laws.proofs.MakingRecords.{of_rule, place_named, start_record, target_read, var_record}
use Rattle.std.proofs.lemmas.Bool.{and_parts}
use Rattle.dsr_meaning.proofs.Options.{some_and}

-- a variable of the quantifier is bound
pub var_bound : (spec : Spec) (is_fact : Fact → Type 0) (quant : Quant) (b : Binding) → IsBinding is_fact quant b → (v : Var) (pool : ℕ) → pool_of_var spec.base quant v ≡ Some pool → (e : Element) × (element_of b v ≡ Some e)
var_bound spec is_fact quant b bound Head pool of = (head, refl)
var_bound spec is_fact quants.Once b bound First pool of = absurd cc
var_bound spec is_fact quants.Once b bound Second pool of = absurd cc
var_bound spec is_fact (quants.Each set) (bindings.Each x) bound First pool of = (x, refl)
var_bound spec is_fact (quants.Each set) (bindings.Each x) bound Second pool of = absurd cc
var_bound spec is_fact (quants.Each set) bindings.Once bound v pool of = absurd bound
var_bound spec is_fact (quants.Each set) (bindings.Pair x y) bound v pool of = absurd bound
var_bound spec is_fact (quants.Pairs rel) (bindings.Pair x y) bound First pool of = (x, refl)
var_bound spec is_fact (quants.Pairs rel) (bindings.Pair x y) bound Second pool of = (y, refl)
var_bound spec is_fact (quants.Pairs rel) bindings.Once bound v pool of = absurd bound
var_bound spec is_fact (quants.Pairs rel) (bindings.Each x) bound v pool of = absurd bound

-- where the code of a record fits, a pick of the record does
fits_code : (spec : Spec) (layout : Layout) (step : Step) (field : FieldRef) (f : Field) (pick : Pick) (o : Option Element) (e : Element) → o ≡ Some e → picked_number spec layout step field pick ≡ option_and_then (code_of layout) o → (number : ℕ) × ((code_of layout e ≡ Some number) × (number < 2 ^ width_bits f.width)) → FitsField spec layout step field f pick
fits_code spec layout step field f pick o e there picked code = record {
  number = code.0;
  number_is = picked ∙ (ap (option_and_then (code_of layout)) there ∙ code.1.0);
  fits = code.1.1;
}

-- the target of a declared relation is what its paths read
target_same : (r : Rel) (o : Option Rel) (read pool : Option ℕ) → o ≡ Some r → option_and_then (λ (x : Rel). x.target) o ≡ read → read ≡ pool → r.target ≡ pool
target_same r o read pool is same reads = sym (ap (option_and_then (λ (x : Rel). x.target)) is) ∙ (same ∙ reads)

module _ (spec : Spec) (bytes : List ℕ) (layout : Layout) (is : IsLayoutOf spec bytes layout) (typed : IsTyped spec) (step : Step) (quant : Quant) (quant_typed : IsTypedQuant spec.base quant) (bound : IsBinding (IsFact spec layout bytes) quant step.binding) (known : KnownSets) (tells : TellsKnown spec quant known) (u : Update) (stopped : Option Instance) (place : IsPlace step.binding stopped u.place step.elem) (entry : IsEntryAt step.binding stopped u.at step.index) where
  -- the instance at what is written
  abbrev written : Instance
  written = record { rule = u.rule; elem = step.elem; index = step.index }

  adding_instance : (symbol : Symbol) (v : Var) (rule : Rule) → IsAdding spec known symbol v rule u → IsInstance spec layout written rule
  adding_instance symbol v rule adding =
      let serves = and_parts (is_single rule.span) (starts_at known v rule) adding.serves_it in
      let at = place_named v step.binding stopped step.elem (subst (λ p. IsPlace step.binding stopped p step.elem) adding.place_is place) in
      let start = start_record spec bytes layout is.numbers typed quant quant_typed step.binding bound known tells v rule step.elem serves.1 at in
      let first : step.index ≡ 0 = subst (λ a. IsEntryAt step.binding stopped a step.index) adding.at_is entry in
      let below : step.index < 1 = omega (arith, first) in
      record {
        rule_is = adding.giver.rule_is;
        pool_is = start.pool_is;
        slot_below = start.slot_below;
        index_below = subst (λ s. step.index < index_count layout s) (sym (single_span rule.span serves.0)) below;
      }

  pub joining_made : (goal : Goal) (atom : Atom) → IsJoining spec known goal atom u → (write : Write) → IsIn write u.writes → IsMade spec layout step write
  joining_made goal atom joining =
      let rule = joining.rule in
      all_true_made spec bytes layout is typed step written rule (adding_instance _ joining.v rule joining.adding_is) (of_rule spec typed u.rule rule joining.adding_is.giver.rule_is) refl (λ path its. refl)
      rule.guards u.writes joining.made (λ guard among. among)

  -- the code of the other variable's record fits the target
  related_fits : (goal : Goal) (atom : Atom) (relating : IsRelating spec known goal atom u) → IsTypedAtom spec quant atom → (f : Field) (pool : ℕ) → declared_field spec.base relating.path.field ≡ Some f → kind_pool f.kind ≡ Some pool → FitsField spec layout step relating.path.field f (picks.CodeOf relating.w)
  related_fits goal atom relating atom_typed f pool declared refers =
      let rule = relating.rule in
      let its : IsTypedAtom spec quant (atoms.Pair relating.v relating.w relating.rel) = subst (IsTypedAtom spec quant) relating.atom_is atom_typed in
      let rel = some_and (slice_get spec.base.rels relating.rel) _ its in
      let read = target_read spec typed rule relating.rel rule.inc relating.path (of_rule spec typed u.rule rule relating.adding_is.giver.rule_is).inc relating.adding_is.giver.gives relating.target_is in
      let refers_to : option_and_then (λ (g : Field). kind_pool g.kind) (declared_field spec.base relating.path.field) ≡ Some pool = ap (option_and_then (λ (g : Field). kind_pool g.kind)) declared ∙ refers in
      let target : rel.0.target ≡ Some pool = target_same rel.0 (slice_get spec.base.rels relating.rel) (option_and_then (λ (g : Field). kind_pool g.kind) (declared_field spec.base relating.path.field)) (Some pool) rel.1.0 read refers_to in
      let of : pool_of_var spec.base quant relating.w ≡ Some pool = rel.1.1.2 ∙ target in
      let there = var_bound spec (IsFact spec layout bytes) quant step.binding bound relating.w pool of in
      let at = var_record spec bytes layout is.numbers typed quant step.binding bound relating.w pool there.0 of there.1 in
      let code = code_fits_field spec bytes layout is typed step relating.path.field f pool there.0 declared refers at in
      fits_code spec layout step relating.path.field f (picks.CodeOf relating.w) (element_of step.binding relating.w) there.0 there.1 refl code

  pub relating_made : (goal : Goal) (atom : Atom) → IsTypedAtom spec quant atom → IsRelating spec known goal atom u → (write : Write) → IsIn write u.writes → IsMade spec layout step write
  relating_made goal atom atom_typed relating =
      let rule = relating.rule in
      target_writes_made spec bytes layout is typed step written rule (adding_instance _ relating.v rule relating.adding_is) (of_rule spec typed u.rule rule relating.adding_is.giver.rule_is) refl (λ path its. refl)
      (picks.CodeOf relating.w) relating.path u.writes relating.target_is relating.made (related_fits goal atom relating atom_typed)

  module _ (fresh : IsFresh (IsFact spec layout bytes) spec layout u.fresh step.fresh) where
    -- the code of the fresh record fits the target
    fresh_fits : (field : FieldRef) (f : Field) (pool : ℕ) → u.fresh ≡ referred spec.base field → declared_field spec.base field ≡ Some f → kind_pool f.kind ≡ Some pool → FitsField spec layout step field f picks.Fresh
    fresh_fits field f pool takes declared refers =
        let of : u.fresh ≡ Some pool = takes ∙ (ap (option_and_then (λ (g : Field). kind_pool g.kind)) declared ∙ refers) in
        let there = some_and step.fresh (IsFreshFrom (IsFact spec layout bytes) spec layout pool) (subst (λ o. IsFresh (IsFact spec layout bytes) spec layout o step.fresh) of fresh) in
        let e = there.0 in
        let at = slot_record spec bytes layout is typed step e pool there.1.1.supplied.pool_is there.1.1.supplied.slot in
        let code = code_fits_field spec bytes layout is typed step field f pool e declared refers at in
        fits_code spec layout step field f picks.Fresh step.fresh e there.1.0 refl code

    pub supplying_made : (measure : Measure) → IsSupplying spec known measure u → (write : Write) → IsIn write u.writes → IsMade spec layout step write
    supplying_made measure supplying =
        let rule = supplying.rule in
        target_writes_made spec bytes layout is typed step written rule (adding_instance _ supplying.v rule supplying.adding_is) (of_rule spec typed u.rule rule supplying.adding_is.giver.rule_is) refl (λ path its. refl)
        picks.Fresh supplying.path u.writes supplying.target_is supplying.made (λ f pool declared refers. fresh_fits supplying.path.field f pool supplying.fresh_is declared refers)
