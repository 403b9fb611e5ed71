-- An update as it stands to be judged, and the fields that it touches.
use Rattle.std.specs.Prelude.{ℕ, nat_eq, Bool, not, ◌&&◌, ◌||◌, List, [], ◌∷◌, ◌++◌, map, Option, Some, is_some, option_map, option_and_then, slice_get}
use Rattle.std.specs.List.{find}
use Rattle.std.specs.Option.{option_map_or}
use Rattle.dsr_ir.specs.Rules.{target_of}
use Rattle.dsr_ir.specs.declared.constraints.Quant.{Quant}
use Rattle.dsr_ir.specs.declared.declarations.FieldRef.{FieldRef}
use Rattle.dsr_ir.specs.declared.declarations.Pool.{Pool}
use Rattle.dsr_ir.specs.declared.declarations.Spec.{Spec}
use Rattle.dsr_ir.specs.declared.declarations.Structure.{Structure}
use Rattle.dsr_ir.specs.declared.declarations.Structures.{Structures}
use Rattle.dsr_ir.specs.declared.rules.Path.{Path}
use Rattle.dsr_ir.specs.declared.rules.Rule.{Rule}
use Rattle.dsr_ir.specs.declared.updates.Goal.{Goal}
use Rattle.dsr_ir.specs.declared.updates.Place.{Place}
use Rattle.dsr_ir.specs.declared.updates.Place.TheVariants.{Head, Of, Deriver}
use Rattle.dsr_ir.specs.declared.updates.Update.{Update}
use Rattle.dsr_ir.specs.declared.updates.Write.{Write}
use Rattle.dsr_meaning.specs.Instances.{premise_pool}
use Rattle.dsr_meaning.specs.Lists.{any_of}
use Rattle.dsr_meaning.specs.Typed.{ancestors, pool_at, pool_of_var}
use Rattle.dsr_update_theory.specs.Templates.{is_same_field}

-- an update for a goal, of a literal of a constraint with this quantifier, where the facts that the
-- constraint uses say that these pairs of sets have no member in common
pub record Change : Type 0 where
  pub spec : Spec
  pub exclusive : List (ℕ × ℕ)
  pub quant : Quant
  pub goal : Goal
  pub update : Update

-- ---- structures that are related

-- the structure is the other one or descends from it
abbrev pub descends : List Structure → ℕ → ℕ → Bool
descends structures i a = any_of (nat_eq a) (i ∷ ancestors structures i)

-- one of the two descends from the other, or they are the same
abbrev pub are_related : Structures → ℕ → ℕ → Bool
are_related base a b = descends base.structures a b || descends base.structures b a

-- ---- the written record W and the fresh record F

-- the pool of the record at a place, 0 for the head
abbrev pub place_pool : Spec → Quant → ℕ → Place → Option ℕ
place_pool spec quant rule Head = Some 0
place_pool spec quant rule (Of v) = pool_of_var spec.base quant v
place_pool spec quant rule Deriver = option_map (premise_pool spec) (slice_get spec.rules rule)

-- the pool of the record that is written
abbrev pub written_pool : Change → Option ℕ
written_pool c = place_pool c.spec c.quant c.update.rule c.update.place

-- the declaration of the fresh record's pool, if there is one
abbrev pub fresh_pool : Change → Option Pool
fresh_pool c = option_and_then (pool_at c.spec.base) c.update.fresh

-- ---- fields

-- the first write of the field; no listed update has two, but this asks nothing of an update
abbrev pub write_to : List Write → FieldRef → Option Write
write_to writes field = find (λ w. is_same_field w.path.field field) writes

abbrev pub is_written : Change → FieldRef → Bool
is_written c field = is_some (write_to c.update.writes field)

-- the field may share bytes with one that is written, since their structures aren't related: it
-- counts as touched, and nothing is known of its value
abbrev pub is_foreign : Change → FieldRef → Bool
is_foreign c field =
    any_of (λ w. not (are_related c.spec.base field.structure w.path.field.structure))
    c.update.writes

-- the field's value at W may be another one afterwards
abbrev pub is_touched : Change → FieldRef → Bool
is_touched c field = is_written c field || is_foreign c field

-- ---- what a rule reads

abbrev pub target_paths : Rule → List Path
target_paths rule = option_map_or (λ path. path ∷ []) (target_of rule.inc) []

-- the paths of its guards and of its target
abbrev pub paths_of : Rule → List Path
paths_of rule = map (λ g. g.path) rule.guards ++ target_paths rule

-- the rule reads a field whose value may be another one
abbrev pub reads_touched : Change → Rule → Bool
reads_touched c rule = any_of (λ p. is_touched c p.field) (paths_of rule)

-- of the rule's instances at W only the one at the written entry does
abbrev pub is_at_entry : Change → Rule → Bool
is_at_entry c rule =
    any_of (λ p. p.indexed && is_written c p.field) (paths_of rule)
    && not (any_of (λ p. not p.indexed && is_touched c p.field) (paths_of rule))
