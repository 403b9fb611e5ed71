-- Writes that keep a rule from giving something new, by the specification and the update alone.
use Rattle.std.specs.Prelude.{◌≡◌, ◌||◌, Bool, false, List, take, Option, None, Some, slice_get, is_some, if◌then◌else◌}
use Rattle.std.specs.List.{filter_map}
use Rattle.std.specs.Option.{option_map_or}
use Rattle.dsr_ir.specs.declared.declarations.FieldRef.{FieldRef}
use Rattle.dsr_ir.specs.declared.declarations.Spec.{Spec}
use Rattle.dsr_ir.specs.declared.rules.Guard.{Guard}
use Rattle.dsr_ir.specs.declared.rules.Rule.{Rule}
use Rattle.dsr_ir.specs.declared.updates.Goal.{Goal}
use Rattle.dsr_ir.specs.declared.updates.Update.{Update}
use Rattle.dsr_ir.specs.declared.updates.Write.{Write}
use Rattle.dsr_graph_theory.specs.Candidates.{ArePreventing, MayGive, preventing}
use Rattle.dsr_graph_theory.specs.Owners.{Owner, change_of}
use Rattle.dsr_meaning.specs.Lists.{any_of}
use Rattle.dsr_meaning.specs.Refusals.{first_of}
use Rattle.dsr_update_theory.specs.Changes.{Change, paths_of, write_to}
use Rattle.dsr_update_theory.specs.Guards.{guard_write}
use Rattle.dsr_update_theory.specs.Templates.{is_same_field}

-- the update writes the field
abbrev pub writes_field : Update → FieldRef → Bool
writes_field update field = is_some (write_to update.writes field)

-- the rule reads the field
abbrev pub reads_field : Rule → FieldRef → Bool
reads_field rule field = any_of (λ p. is_same_field p.field field) (paths_of rule)

-- the update's own rule does
abbrev pub reads_own : Spec → Update → FieldRef → Bool
reads_own spec update field =
    option_map_or (λ rule. reads_field rule field) (slice_get spec.rules update.rule) false

abbrev pub prevents : Spec → Update → Guard → Option Write
prevents spec update guard =
    if writes_field update guard.path.field || reads_own spec update guard.path.field then None
    else guard_write spec.base false guard

abbrev pub prevents_rule : Spec → Update → Rule → Option Write
prevents_rule spec update rule = first_of (filter_map (prevents spec update) rule.guards)

-- the write of a rule that may give something new; none where it can't, or has no such write
abbrev pub IsCandidate : Change → Rule → Option Write → Type 0
IsCandidate c rule None = MayGive c rule → preventing c rule ≡ None
IsCandidate c rule (Some write) = MayGive c rule × (preventing c rule ≡ Some write)

-- the first 8 writes that keep rules from giving something new, in order of the rules
pub record AreCandidates (owner : Owner) (goal : Goal) (update : Update) (writes : List Write) : Type 0 where
  pub all : List Write
  pub are_preventing : ArePreventing (change_of owner goal update) owner.spec.rules all
  pub writes_are : writes ≡ take 8 all
