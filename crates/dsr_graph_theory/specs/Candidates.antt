-- Writes that keep other rules from giving what an update would make them give.
use Rattle.std.specs.Prelude.{◌≡◌, ◌||◌, ℕ, Bool, true, false, List, [], ◌∷◌, take, Option, None, Some, slice_get, if◌then◌else◌}
use Rattle.std.specs.List.{filter_map}
use Rattle.std.specs.Option.{option_map_or}
use Rattle.dsr_ir.specs.declared.declarations.FieldRef.{FieldRef}
use Rattle.dsr_ir.specs.declared.rules.Guard.{Guard}
use Rattle.dsr_ir.specs.declared.rules.Rule.{Rule}
use Rattle.dsr_ir.specs.declared.rules.Span.TheVariants.{Single}
use Rattle.dsr_ir.specs.declared.updates.Template.{Template}
use Rattle.dsr_ir.specs.declared.updates.Update.{Update}
use Rattle.dsr_ir.specs.declared.updates.Write.{Write}
use Rattle.dsr_meaning.specs.Lists.{any_of}
use Rattle.dsr_meaning.specs.Refusals.{first_of}
use Rattle.dsr_update_theory.specs.Changes.{Change, is_written, paths_of}
use Rattle.dsr_update_theory.specs.Guards.{guard_write}
use Rattle.dsr_update_theory.specs.Templates.{is_same_field}
use Rattle.dsr_update_theory.specs.Touching.{IsBlockedAtW, IsTouchedAtW, is_removal}
use Rattle.dsr_graph_theory.specs.Owners.{Owner, change_of}

-- the rule, which has no index, may give something new at the written record
pub record MayGive (c : Change) (rule : Rule) : Type 0 where
  pub single : rule.span ≡ Single
  pub touched : IsTouchedAtW c rule
  pub open_there : IsBlockedAtW c rule false → ⊥

-- the update's own rule reads the field
abbrev pub reads_itself : Change → FieldRef → Bool
reads_itself c field =
    option_map_or (λ rule. any_of (λ p. is_same_field p.field field) (paths_of rule))
    (slice_get c.spec.rules c.update.rule) false

-- the write that makes a guard false, where the update neither writes nor reads its field
abbrev pub preventing_write : Change → Guard → Option Write
preventing_write c guard =
    if is_written c guard.path.field || reads_itself c guard.path.field then None
    else guard_write c.spec.base false guard

-- that of the rule's first guard which has one
abbrev pub preventing : Change → Rule → Option Write
preventing c rule = first_of (filter_map (preventing_write c) rule.guards)

-- the writes that keep rules from giving something new, in order of the rules
pub data ArePreventing (c : Change) : List Rule → List Write → Type 0 where
  done : ArePreventing c [] []
  prevented :
      {rules : List Rule} {writes : List Write} → (rule : Rule) (write : Write) → MayGive c rule
      → preventing c rule ≡ Some write → ArePreventing c rules writes
      → ArePreventing c (rule ∷ rules) (write ∷ writes)
  quiet :
      {rules : List Rule} {writes : List Write} → (rule : Rule)
      → (MayGive c rule → preventing c rule ≡ None) → ArePreventing c rules writes
      → ArePreventing c (rule ∷ rules) writes

-- only a template of one update that doesn't remove is compensated, by the first 8 such writes
abbrev pub compensated : Template → Option Update
compensated template = if is_removal template.goal then None else only template.updates where
  only : List Update → Option Update
  only (update ∷ []) = Some update
  only _ = None

pub data AreCompensations (owner : Owner) (template : Template) : List Write → Type 0 where
  some :
      (update : Update) (writes : List Write) → compensated template ≡ Some update
      → ArePreventing (change_of owner template.goal update) owner.spec.rules writes
      → AreCompensations owner template (take 8 writes)
  none : compensated template ≡ None → AreCompensations owner template []
