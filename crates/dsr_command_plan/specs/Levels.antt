-- The levels of a plan, as text.
use Rattle.std.specs.Prelude.{◌++◌, ℕ, suc, Bool, false, List, [], ◌∷◌, length, max, nat_eq, slice_get, codes, decimal, if◌then◌else◌}
use Rattle.std.specs.List.{flat_map, range_with_len}
use Rattle.std.specs.Option.{option_map_or}
use Rattle.dsr_answers.specs.Texts.{constraint_name}
use Rattle.dsr_ir.specs.declared.declarations.Spec.{Spec}
use Rattle.dsr_plan_theory.specs.declared.choices.Choice.{Choice}
use Rattle.dsr_plan_theory.specs.declared.choices.Row.{Row}
use Rattle.dsr_script.specs.Scripts.{Answer}
use Rattle.dsr_script.specs.declared.status.Verdict.TheVariants as verdicts

-- how many levels there are, up to the highest one that a row has
abbrev pub level_count : List Row → ℕ
level_count [] = 0
level_count (row ∷ rows) = max (suc row.level) (level_count rows)

-- the constraint with this number stands on the level
abbrev pub is_on : List Row → ℕ → ℕ → Bool
is_on rows level number = option_map_or (λ row. nat_eq row.level level) (slice_get rows number) false

-- its name behind a space, where it does
abbrev pub name_on : Spec → List Row → ℕ → ℕ → List ℕ
name_on spec rows level number =
    if is_on rows level number then codes " " ++ constraint_name spec number else []

-- the level, with the constraints that stand on it in order of declaration
abbrev pub level_line : Spec → List Row → ℕ → List ℕ
level_line spec rows level =
    codes "level " ++ decimal level
    ++ flat_map (name_on spec rows level) (range_with_len 0 (length rows)) ++ codes "\n"

-- each level from the lowest on, and how many there are
abbrev pub accepted_answer : Spec → Choice → Answer
accepted_answer spec choice = record {
  verdict = verdicts.Ok;
  text = flat_map (level_line spec choice.rows) (range_with_len 0 (level_count choice.rows))
      ++ codes "accepted " ++ decimal (level_count choice.rows) ++ codes "\n";
}
