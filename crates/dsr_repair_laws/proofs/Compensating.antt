-- A write that compensates a template makes a guard false of a rule that may give something at the written record; and
-- only a template of one update that takes nothing away is compensated.
use Rattle.std.proofs.Common.{◌≡◌, ◌∙◌, ◌||◌, ℕ, false, List, [], ◌∷◌, None, Some, inl, inr, refl, sym, ap, slice_get}
use Rattle.std.specs.List.{filter_map}
use Rattle.std.proofs.lemmas.Option.{same_Some}
use Rattle.dsr_ir.specs.declared.rules.Guard.{Guard}
use Rattle.dsr_ir.specs.declared.rules.Rule.{Rule}
use Rattle.dsr_ir.specs.declared.updates.Goal.{Goal}
use Rattle.dsr_ir.specs.declared.updates.Template.{Template}
use Rattle.dsr_ir.specs.declared.updates.Update.{Update}
use Rattle.dsr_ir.specs.declared.updates.Write.{Write}
use Rattle.dsr_graph_theory.specs.Candidates.{AreCompensations, ArePreventing, MayGive, compensated, preventing, preventing_write, reads_itself}
use Rattle.dsr_graph_theory.specs.Owners.{Owner, change_of}
use Rattle.dsr_meaning.specs.Counting.{IsIn}
use Rattle.dsr_meaning.specs.Refusals.{first_of}
use Rattle.dsr_update_theory.specs.Changes.{Change, is_written}
use Rattle.dsr_update_theory.specs.Guards.{guard_write}
use Rattle.dsr_update_theory.specs.Touching.{is_removal}
use Rattle.dsr_repair_laws.specs.Grown.{Compensates}
use Rattle.dsr_meaning.proofs.Items.{in_filter, in_take, only_item}
use Rattle.dsr_meaning.proofs.Options.{failed_from}

first_in : {T : Type 0} (xs : List T) (x : T) → first_of xs ≡ Some x → IsIn x xs
first_in [] x e = absurd cc
first_in (y ∷ ys) x e = inl (sym (same_Some y x e))

-- the write makes a guard of the rule false, which may give something at the written record
pub record IsPrevention (c : Change) (rules : List Rule) (write : Write) : Type 0 where
  pub rule : Rule
  pub among : IsIn rule rules
  pub may : MayGive c rule
  pub guard : Guard
  pub guard_in : IsIn guard rule.guards
  pub write_is : guard_write c.spec.base false guard ≡ Some write

of_preventing : (c : Change) (rule : Rule) (rules : List Rule) (write : Write) → IsIn rule rules → MayGive c rule → preventing c rule ≡ Some write → IsPrevention c rules write
of_preventing c rule rules write among may e =
    let found = in_filter (preventing_write c) rule.guards write (first_in (filter_map (preventing_write c) rule.guards) write e) in
    record {
      rule = rule;
      among = among;
      may = may;
      guard = found.from;
      guard_in = found.among;
      write_is = (failed_from (is_written c found.from.path.field || reads_itself c found.from.path.field) (guard_write c.spec.base false found.from) write found.is).1;
    }

later_rule : (c : Change) (rule : Rule) (rules : List Rule) (write : Write) → IsPrevention c rules write → IsPrevention c (rule ∷ rules) write
later_rule c rule rules write by = record { rule = by.rule; among = inr by.among; may = by.may; guard = by.guard; guard_in = by.guard_in; write_is = by.write_is }

prevention : (c : Change) {rules : List Rule} {writes : List Write} → ArePreventing c rules writes → (write : Write) → IsIn write writes → IsPrevention c rules write
prevention c ArePreventing.done write is_in = absurd is_in
prevention c (ArePreventing.prevented {rules = rest} rule first may e later) write (inl same) = of_preventing c rule (rule ∷ rest) write (inl refl) may (e ∙ ap Some (sym same))
prevention c (ArePreventing.prevented {rules = rest} rule first may e later) write (inr behind) = later_rule c rule rest write (prevention c later write behind)
prevention c (ArePreventing.quiet {rules = rest} rule nothing later) write is_in = later_rule c rule rest write (prevention c later write is_in)

-- of which update it is
pub record IsCompensating (owner : Owner) (raw : Template) (write : Write) : Type 0 where
  pub update : Update
  pub only : compensated raw ≡ Some update
  pub by : IsPrevention (change_of owner raw.goal update) owner.spec.rules write

pub compensating : (owner : Owner) (raw : Template) (write : Write) → Compensates owner raw write → IsCompensating owner raw write
compensating owner raw write its = of_some its.1 its.2 where
  of_some : {xs : List Write} → AreCompensations owner raw xs → IsIn write xs → IsCompensating owner raw write
  of_some (AreCompensations.none none) is_in = absurd is_in
  of_some (AreCompensations.some update all only are) is_in = record { update = update; only = only; by = prevention (change_of owner raw.goal update) are write (in_take 8 all write is_in) }

-- the update that is compensated is the only one of a template that takes nothing away
pub record IsOnlyAt (raw : Template) (n : ℕ) (u v : Update) : Type 0 where
  pub first : n ≡ 0
  pub keeps : is_removal raw.goal ≡ false
  pub same : v ≡ u

pub only_compensated : (goal : Goal) (updates : List Update) (u v : Update) (n : ℕ) → compensated (record { goal = goal; updates = updates }) ≡ Some u → slice_get updates n ≡ Some v → IsOnlyAt (record { goal = goal; updates = updates }) n u v
only_compensated goal [] u v n e at = absurd cc
only_compensated goal (x ∷ []) u v n e at =
    let only = failed_from (is_removal goal) (Some x) u e in
    let at_place = only_item x n v at in
    record { first = at_place.0; keeps = only.0; same = at_place.1 ∙ same_Some x u only.1 }
only_compensated goal (x ∷ y ∷ rest) u v n e at =
    let no : None ≡ Some u = (failed_from (is_removal goal) None u e).1 in
    absurd cc
