-- Where a fact is taken away, no instance of the symbol's rules becomes active, and the stopped one isn't any more.
use Rattle.std.proofs.Common.{◌≡◌, ◌∙◌, false, [], ◌∷◌, None, Some, inl, inr, refl, sym, ap, subst, slice_get}
use Rattle.std.specs.List.{filter_map}
use Rattle.std.specs.Option.{option_and_then, option_map_or}
use Rattle.dsr_effect_laws.specs.Allowed.{Lies}
use Rattle.dsr_step_laws.proofs.GivenSymbols.{symbol_is}
use Rattle.dsr_effect_laws.proofs.FactChanges.{gives_as_before}
use Rattle.dsr_repair_laws.proofs.LastGiven.{given_by}
use Rattle.dsr_repair_laws.proofs.MakingRemovals.{IsStoppedAt}
use Rattle.dsr_repair_laws.proofs.RawUpdates.{IsStopChosen}
use Rattle.dsr_repair_laws.proofs.FormItems.{symbols_same}
use Rattle.dsr_repair_laws.proofs.TriedSteps.{stopped}
use Rattle.dsr_ir.specs.Rules as rules
use Rattle.dsr_ir.specs.Rules.{gives, target_of}
use Rattle.dsr_ir.specs.declared.rules.Rule.{Rule}
use Rattle.dsr_ir.specs.declared.tuples.Fact.{Fact}
use Rattle.dsr_ir.specs.declared.tuples.Instance.{Instance}
use Rattle.dsr_ir.specs.declared.updates.Pick.TheVariants as picks
use Rattle.dsr_ir.specs.declared.updates.Symbol.{Symbol}
use Rattle.dsr_graph_theory.specs.Owners.{Keeps}
use Rattle.dsr_graph_theory.specs.Sides.{atom_symbol}
use Rattle.dsr_meaning.specs.Counting.{IsIn}
use Rattle.dsr_meaning.specs.Instances.{Gives}
use Rattle.dsr_meaning.specs.Looking.{symbol_of}
use Rattle.dsr_step_laws.proofs.Stopped.{stopped as stopped_by_guard}
use Rattle.dsr_step_laws.proofs.Targets.{stopped_at_none}
use Rattle.dsr_step_theory.specs.declared.steps.Step.{Step}
use Rattle.dsr_update_theory.specs.Changes.{Change}
use Rattle.dsr_update_theory.specs.Guards.{guard_write}
use Rattle.dsr_update_theory.specs.Options.{reference_write, target_option}
use Rattle.dsr_update_theory.specs.declared.effects.Direction.{Direction}
use Rattle.dsr_update_theory.specs.declared.effects.Direction.TheVariants.{Gain}
use Rattle.dsr_template_laws.specs.Helping.{HasFewer, IsActiveFor}
use Rattle.dsr_template_laws.specs.Judging.{Application, change_in, owner_of}
use Rattle.dsr_template_laws.specs.Tried.{IsTried}
use Rattle.dsr_template_laws.proofs.IndexedWrites.{taken_alone}
use Rattle.dsr_template_laws.proofs.MadeAsJudged.{made}
use Rattle.dsr_template_laws.proofs.TriedApplications.{legal, tried_step}
use Rattle.dsr_meaning.proofs.Items.{in_either, in_filter}
use Rattle.dsr_meaning.proofs.Options.{chained_from}
use Rattle.dsr_repair_theory.specs.Choices.{TakesAway}

-- of a symbol that doesn't change so, no fact lies in the table
pub never_lies : (c : Change) (step : Step) (direction : Direction) (fact : Fact) → Keeps c direction (symbol_of fact) → Lies c step direction fact → ⊥
never_lies c step direction fact keeps lies = keeps lies.tag lies.listed

module _ (a : Application) (t : IsTried a) where
  abbrev J : Change
  J = change_in a

  abbrev symbol : Symbol
  symbol = atom_symbol a.applied.literal.atom

  module _ (keeps : Keeps J Gain symbol) where
    -- what gives a fact of the symbol gave it before
    none_new : (i : Instance) → IsActiveFor a.spec a.layout a.new symbol i → IsActiveFor a.spec a.layout a.old symbol i
    none_new i active =
        let fact = active.active.0 in
        let gives = given_by a.spec a.layout a.new i fact active.rule active.giver.rule_is active.active.1 in
        let of : symbol_of fact ≡ symbol = symbol_is a.spec a.layout a.new i active.rule.inc fact gives.included ∙ symbols_same (rules.symbol_of active.rule.inc) symbol active.giver.gives in
        let before = gives_as_before J a.layout a.step a.old a.new (made a t) i fact (never_lies J a.step Gain fact (subst (Keeps J Gain) (sym of) keeps)) active.active.1 in
        record { rule = active.rule; giver = active.giver; active = (fact, before) }

    module _ (stop : IsStopChosen a.spec a.layout a.old a.step.binding a.template.goal a.applied.literal.atom a.step.update t.tried.own a.update a.applied.chosen.stopped) where
      abbrev rule : Rule
      rule = stop.removing.rule

      abbrev i : Instance
      i = stop.instance

      at : IsStoppedAt a.spec a.layout a.old a.step stop.fact i rule
      at = stopped a.spec a.layout a.old a.step a.update (tried_step a t.tried) stop

      alone : a.update.writes ≡ stop.removing.write ∷ []
      alone =
          taken_alone (owner_of a) t.tried.raw a.step.update t.tried.own a.update t.tried.own_at t.tried.grown (subst (λ g. TakesAway g a.step.update) t.tried.goal_same stop.removing.takes)
          ∙ stop.removing.writes_are

      -- the stopped instance gives nothing
      gives_none : (fact : Fact) → Gives a.spec a.layout a.new i rule fact → ⊥
      gives_none fact g = elim (in_either stop.removing.write (filter_map (guard_write a.spec.base false) rule.guards) (target_option a.spec.base rule) stop.removing.option) as (λ _. ⊥) [
        | inl of_guards ↦
            let found = in_filter (guard_write a.spec.base false) rule.guards stop.removing.write of_guards in
            stopped_by_guard a.spec a.layout a.step a.update stop.removing.write found.from rule i a.old a.new fact (legal a) alone found.is found.among (sym at.elem) (sym at.index) a.applied.stepped g
        | inr of_target ↦ elim (option_and_then (reference_write a.spec.base picks.NoneCode) (target_of rule.inc)) as (λ o. option_and_then (reference_write a.spec.base picks.NoneCode) (target_of rule.inc) ≡ o → IsIn stop.removing.write (option_map_or (λ w. w ∷ []) o []) → ⊥) [
          | None ↦ λ _ no. no
          | Some w ↦ λ e found. elim found as (λ _. ⊥) [
            | inl here ↦
                let from = chained_from (reference_write a.spec.base picks.NoneCode) (target_of rule.inc) w e in
                stopped_at_none a.spec a.layout a.step a.update stop.removing.write from.0 rule i a.old a.new fact (legal a) alone (from.1.1 ∙ ap Some (sym here)) from.1.0 (sym at.elem) (sym at.index) a.applied.stepped g
            | inr none ↦ none
          ]
        ] refl of_target
      ]

      rule_is : slice_get a.spec.rules i.rule ≡ Some rule
      rule_is = at.gives.is_instance.rule_is

      pub fewer : HasFewer a.spec a.layout a.old a.new symbol
      fewer = record {
        none_new = none_new;
        stopped = i;
        was = record { rule = rule; giver = record { rule_is = rule_is; gives = stop.removing.giver.gives }; active = (stop.fact, stop.derived) };
        no_more = λ again. gives_none again.active.0 (given_by a.spec a.layout a.new i again.active.0 rule rule_is again.active.1);
      }
