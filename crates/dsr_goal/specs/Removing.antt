-- What each rule of a symbol does in the removal of the symbol's facts.
use Rattle.std.specs.Prelude.{ℕ, nat_eq, Bool, List, [], ◌∷◌, map, fold, length, max, Option, None, option_map, if◌then◌else◌}
use Rattle.std.specs.List.{filter_map, list_any, range_with_len}
use Rattle.dsr_goal.specs.declared.removing.Removal.{Removal}
use Rattle.dsr_ir.specs.declared.constraints.Var.{Var}
use Rattle.dsr_ir.specs.declared.declarations.Structures.{Structures}
use Rattle.dsr_ir.specs.declared.rules.Rule.{Rule}
use Rattle.dsr_ir.specs.declared.updates.Goal.{Goal}
use Rattle.dsr_ir.specs.declared.updates.Template.{Template}
use Rattle.dsr_ir.specs.declared.updates.Update.{Update}
use Rattle.dsr_ir.specs.declared.updates.Write.{Write}
use Rattle.dsr_update_theory.specs.Options.{options}
use Rattle.dsr_update_theory.specs.Templates.{removal_place, removal_at, item_or_last}

-- the removal by the rule with this number
abbrev pub removal_by : Structures → Option Var → ℕ → Rule → Removal
removal_by base v k rule = record {
  rule = k;
  place = removal_place v rule;
  at = removal_at v rule;
  options = options base rule;
}

-- its update by one write
abbrev pub update_by : Removal → Write → Update
update_by r write = record {
  rule = r.rule;
  place = r.place;
  at = r.at;
  writes = write ∷ [];
  fresh = None;
}

-- its update by the option with this number, or its last
abbrev pub update_at : ℕ → Removal → Option Update
update_at j r = option_map (update_by r) (item_or_last r.options j)

-- the template of the options with this number
abbrev pub template_at : Goal → List Removal → ℕ → Template
template_at goal removals j = record { goal = goal; updates = filter_map (update_at j) removals }

-- how many options the one with the most has
abbrev pub most_options : List Removal → ℕ
most_options removals = fold (λ most r. max most (length r.options)) 0 removals

-- some one has none
abbrev pub lacks_option : List Removal → Bool
lacks_option removals = list_any (λ r. nat_eq (length r.options) 0) removals

-- one template for each number of options
abbrev pub templates_of : Goal → List Removal → List Template
templates_of goal removals =
    if lacks_option removals then []
    else map (template_at goal removals) (range_with_len 0 (most_options removals))
