-- The updates of templates that are tried for a literal, by their places; and of the one that is chosen, that it adds, or
-- which instance it stops.
use Rattle.std.proofs.Common.{◌≡◌, ◌∙◌, ◌⊎◌, ◌-◌, ℕ, zero, suc, min, length, Bool, false, List, ◌∷◌, Option, Some, inl, inr, refl, sym, ap, subst, slice_get}
use Rattle.std.specs.Prelude.{IsTrue, option_map}
use Rattle.dsr_repair_theory.specs.Choices.{Adds, IsToGo, IsUpdateAt, TakesAway}
use Rattle.dsr_ir.specs.declared.constraints.Atom.{Atom}
use Rattle.dsr_ir.specs.declared.constraints.Literal.{Literal}
use Rattle.dsr_ir.specs.declared.constraints.Quant.{Quant}
use Rattle.dsr_ir.specs.declared.declarations.Spec.{Spec}
use Rattle.dsr_ir.specs.declared.layouts.Layout.{Layout}
use Rattle.dsr_ir.specs.declared.rules.Rule.{Rule}
use Rattle.dsr_ir.specs.declared.tuples.Binding.{Binding}
use Rattle.dsr_ir.specs.declared.tuples.Fact.{Fact}
use Rattle.dsr_ir.specs.declared.tuples.Instance.{Instance}
use Rattle.dsr_ir.specs.declared.updates.Goal.{Goal}
use Rattle.dsr_ir.specs.declared.updates.Goal.TheVariants as goals
use Rattle.dsr_ir.specs.declared.updates.Template.{Template}
use Rattle.dsr_ir.specs.declared.updates.Update.{Update}
use Rattle.dsr_graph_theory.specs.Sides.{atom_symbol}
use Rattle.dsr_meaning.specs.Counting.{IsIn}
use Rattle.dsr_meaning.specs.Models.{IsDerivedBy, IsFact}
use Rattle.dsr_meaning.specs.Typed.{MayBeNegated}
use Rattle.dsr_update_theory.specs.Givers.{givers}
use Rattle.dsr_update_theory.specs.Options.{options}
use Rattle.dsr_update_theory.specs.Templates.{AreRaw, KnownSets, item_or_last, removal_updates, removing}
use Rattle.dsr_repair_laws.proofs.TakenGoals.{adder_takes_none, adds_take_none, taking_takes}
use Rattle.dsr_repair_laws.proofs.TriedTemplates.{IsRemoval, RawForm, raw_form}
use Rattle.dsr_repair_laws.proofs.TriedUpdates.{IsAdder, IsRawUpdate, IsRemoving, taken_var}
use Rattle.dsr_meaning.proofs.Items.{in_filter, item_at, only_item}
use Rattle.dsr_meaning.proofs.Options.{mapped_from}
use Rattle.std.proofs.lemmas.Option.{same_Some}
use Rattle.dsr_plan_laws.proofs.KnownSets.{in_givers}

-- ---- by their places

removing_of : (spec : Spec) (goal : Goal) (atom : Atom) (updates : List Update) → IsRemoval spec (atom_symbol atom) (taken_var atom) updates → (n : ℕ) (u : Update) → slice_get updates n ≡ Some u → (m : ℕ) → TakesAway goal m → IsRemoving spec goal atom m u
removing_of spec goal atom updates removal n u at m takes =
    let rules = givers spec (atom_symbol atom) in
    let v = taken_var atom in
    let there = item_at (removal_updates spec.base v removal.number rules) n u (sym (ap (λ us. slice_get us n) removal.are) ∙ at) in
    let of = in_filter (λ (r : ℕ × Rule). option_map (removing v r.0 r.1) (item_or_last (options spec.base r.1) removal.number)) rules u there in
    let r = of.from in
    let w = mapped_from (removing v r.0 r.1) (item_or_last (options spec.base r.1) removal.number) u of.is in
    subst (IsRemoving spec goal atom m) (sym w.1.1) (record {
      takes = takes;
      rule = r.1;
      giver = in_givers spec (atom_symbol atom) r of.among;
      place_is = refl;
      at_is = refl;
      write = w.0;
      writes_are = refl;
      option = item_at (options spec.base r.1) (min removal.number (length (options spec.base r.1) - 1)) w.0 w.1.0;
    })

-- behind the first one of a template that adds it and then takes away
behind : (spec : Spec) (known : KnownSets) (atom : Atom) (negated : Bool) (goal : Goal) (first : Update) (rest : List Update) → goal ≡ goals.ExactlyOne → negated ≡ false → IsAdder spec known goal atom first → IsRemoval spec (atom_symbol atom) (taken_var atom) rest
    → (n : ℕ) (u : Update) → slice_get (first ∷ rest) n ≡ Some u → IsRawUpdate spec known goal atom negated n u
behind spec known atom negated goal first rest exactly plain adder removal zero u at = IsRawUpdate.adds refl plain (subst (IsAdder spec known goal atom) (same_Some first u at) adder)
behind spec known atom negated goal first rest exactly plain adder removal (suc n) u at =
    IsRawUpdate.removes (removing_of spec goal atom rest removal n u at (suc n) (subst (λ g. TakesAway g (suc n)) (sym exactly) tt))

pub raw_update : (spec : Spec) (known : KnownSets) (atom : Atom) (negated : Bool) (t : Template) → RawForm spec known atom negated t → (n : ℕ) (u : Update) → slice_get t.updates n ≡ Some u → IsRawUpdate spec known t.goal atom negated n u
raw_update spec known atom negated t (inl one) n u at =
    let only = only_item one.update n u (sym (ap (λ us. slice_get us n) one.are) ∙ at) in
    IsRawUpdate.adds only.0 one.plain (subst (IsAdder spec known t.goal atom) (sym only.1) one.adder)
raw_update spec known atom negated t (inr (inl removes)) n u at = IsRawUpdate.removes (removing_of spec t.goal atom t.updates removes.removal n u at n (taking_takes atom negated t.goal n removes.goal))
raw_update spec known atom negated t (inr (inr both)) n u at =
    behind spec known atom negated t.goal both.update both.rest both.goal both.plain both.adder both.removal n u (sym (ap (λ us. slice_get us n) both.are) ∙ at)

-- each update of a template that is tried for a literal
pub raw_updates : (spec : Spec) (known : KnownSets) (quant : Quant) (its : Literal) (ts : List Template) → (IsTrue its.negated → MayBeNegated its.atom) → AreRaw spec known quant its ts → (t : Template) → IsIn t ts → (n : ℕ) (u : Update) → slice_get t.updates n ≡ Some u → IsRawUpdate spec known t.goal its.atom its.negated n u
raw_updates spec known quant its ts may are t is_in = raw_update spec known its.atom its.negated t (raw_form spec known quant its.atom its.negated ts t may are is_in)

-- ---- the one that is chosen

-- it is the first of a template that adds
pub record IsFirstChosen (spec : Spec) (known : KnownSets) (is_fact : Fact → Type 0) (b : Binding) (goal : Goal) (atom : Atom) (negated : Bool) (n : ℕ) (u : Update) : Type 0 where
  pub adds : Adds is_fact b atom goal
  pub first : n ≡ 0
  pub plain : negated ≡ false
  pub adder : IsAdder spec known goal atom u

-- or it stops an instance that gives the fact which is to go
pub record IsStopChosen (spec : Spec) (layout : Layout) (bytes : List ℕ) (b : Binding) (goal : Goal) (atom : Atom) (n : ℕ) (u update : Update) (stopped : Option Instance) : Type 0 where
  pub removing : IsRemoving spec goal atom n u
  pub fact : Fact
  pub to_go : IsToGo (IsFact spec layout bytes) b atom fact
  pub instance : Instance
  pub derived : IsDerivedBy spec layout bytes instance fact
  pub rule_same : update.rule ≡ instance.rule
  pub stopped_is : stopped ≡ Some instance

pub chosen_update : (spec : Spec) (known : KnownSets) (layout : Layout) (bytes : List ℕ) (b : Binding) (atom : Atom) (negated : Bool) (template : Template) (n : ℕ) (u update : Update) (stopped : Option Instance) → IsUpdateAt spec layout bytes b atom template n update stopped → IsRawUpdate spec known template.goal atom negated n u
    → IsFirstChosen spec known (IsFact spec layout bytes) b template.goal atom negated n u ⊎ IsStopChosen spec layout bytes b template.goal atom n u update stopped
chosen_update spec known layout bytes b atom negated template n u update stopped (IsUpdateAt.adds x adds at) (IsRawUpdate.adds first plain adder) = inl (record { adds = adds; first = first; plain = plain; adder = adder })
chosen_update spec known layout bytes b atom negated template n u update stopped (IsUpdateAt.adds x adds at) (IsRawUpdate.removes r) = absurd (adds_take_none (IsFact spec layout bytes) b atom template.goal adds r.takes)
chosen_update spec known layout bytes b atom negated template n u update stopped (IsUpdateAt.takes_away m x fact i away to_go deriver at by) (IsRawUpdate.adds first plain adder) =
    absurd (adder_takes_none spec known template.goal atom u adder (subst (TakesAway template.goal) first away))
chosen_update spec known layout bytes b atom negated template n u update stopped (IsUpdateAt.takes_away m x fact i away to_go deriver at by) (IsRawUpdate.removes r) =
    inr (record { removing = r; fact = fact; to_go = to_go; instance = i; derived = deriver.derived; rule_same = by; stopped_is = refl })
