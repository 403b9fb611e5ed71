-- The texts of answers: of a verdict with its violated bindings, and of an image without layout.
use Rattle.std.specs.Prelude.{ℕ, List, [], ◌∷◌, ◌++◌, ◌-◌, length, codes, decimal, slice_get}
use Rattle.std.specs.Prelude.{if◌then◌else◌, ◌==◌}
use Rattle.std.specs.List.{flat_map}
use Rattle.std.specs.Option.{option_map_or}
use Rattle.dsr_ir.specs.declared.declarations.Spec.{Spec}
use Rattle.dsr_ir.specs.declared.tuples.Binding.{Binding}
use Rattle.dsr_ir.specs.declared.tuples.Binding.TheVariants.{Once, Each, Pair}
use Rattle.dsr_ir.specs.declared.tuples.Element.{Element}
use Rattle.dsr_ir.specs.declared.updates.Symbol.{Symbol}
use Rattle.dsr_ir.specs.declared.updates.Symbol.TheVariants.{Set, Rel}
use Rattle.dsr_meaning.specs.Consistency.{BoundConstraint}
use Rattle.dsr_meaning.specs.Refusals as refusals
use Rattle.dsr_meaning.specs.Refusals.{Refusal}
use Rattle.dsr_script.specs.Scripts.{Answer}
use Rattle.dsr_script.specs.declared.status.Verdict.TheVariants as verdicts

-- the name of a pool: pools count from 1, and 0 is the head
abbrev pub pool_name : Spec → ℕ → List ℕ
pool_name spec pool =
    if pool == 0 then codes "head"
    else option_map_or (λ p. p.name) (slice_get spec.base.pools (pool - 1)) []

abbrev pub constraint_name : Spec → ℕ → List ℕ
constraint_name spec constraint =
    option_map_or (λ c. c.name) (slice_get spec.constraints constraint) []

-- the name of a set or of a relation
abbrev pub symbol_name : Spec → Symbol → List ℕ
symbol_name spec (Set set) = option_map_or (λ s. s.name) (slice_get spec.base.sets set) []
symbol_name spec (Rel rel) = option_map_or (λ r. r.name) (slice_get spec.base.rels rel) []

abbrev pub structure_name : Spec → ℕ → List ℕ
structure_name spec structure =
    option_map_or (λ s. s.name) (slice_get spec.base.structures structure) []

-- the name of a field of a structure's own
abbrev pub field_name : Spec → ℕ → ℕ → List ℕ
field_name spec structure field =
    option_map_or (λ s. option_map_or (λ f. f.name) (slice_get s.fields field) [])
    (slice_get spec.base.structures structure) []

-- `head`, or a slot of a pool
abbrev pub element_text : Spec → Element → List ℕ
element_text spec e =
    if e.pool == 0 then codes "head"
    else pool_name spec e.pool ++ codes "[" ++ decimal e.slot ++ codes "]"

abbrev pub binding_text : Spec → Binding → List ℕ
binding_text spec Once = codes "-"
binding_text spec (Each e) = element_text spec e
binding_text spec (Pair e f) =
    codes "<" ++ element_text spec e ++ codes "," ++ element_text spec f ++ codes ">"

abbrev pub violation_line : Spec → BoundConstraint → List ℕ
violation_line spec v =
    codes "violated " ++ constraint_name spec v.constraint
    ++ codes " " ++ binding_text spec v.binding ++ codes "\n"

-- the verdict, with each violated binding and their number where there are some
abbrev pub verdict_answer : Spec → List BoundConstraint → Answer
verdict_answer spec [] = record { verdict = verdicts.Ok; text = codes "consistent\n" }
verdict_answer spec (v ∷ vs) = record {
  verdict = verdicts.Inconsistent;
  text = flat_map (violation_line spec) (v ∷ vs)
      ++ codes "inconsistent " ++ decimal (length (v ∷ vs)) ++ codes "\n";
}

-- why an image has no layout: the number of the kind, a word for it, and the names that it tells
abbrev pub layout_text : Spec → Refusal → List ℕ
layout_text spec refusals.Short = codes "1 short"
layout_text spec refusals.Arith = codes "2 arith"
layout_text spec (refusals.Outside pool) = codes "3 outside " ++ pool_name spec pool
layout_text spec (refusals.Overlap first second) =
    codes "4 overlap " ++ pool_name spec first ++ codes " " ++ pool_name spec second
layout_text spec (refusals.Subtype pool structure) =
    codes "5 subtype " ++ pool_name spec pool ++ codes " " ++ structure_name spec structure
layout_text spec (refusals.Zero pool) = codes "6 zero " ++ pool_name spec pool
layout_text spec (refusals.NoneIsCode pool) = codes "7 none " ++ pool_name spec pool
layout_text spec (refusals.CodeTooWide pool structure field) =
    codes "8 code " ++ pool_name spec pool ++ codes " "
    ++ structure_name spec structure ++ codes "." ++ field_name spec structure field
layout_text spec (refusals.CountTooWide constraint) =
    codes "9 count " ++ constraint_name spec constraint
layout_text spec refusals.Instances = codes "10 instances"

abbrev pub layout_answer : Spec → Refusal → Answer
layout_answer spec refusal = record {
  verdict = verdicts.LayoutRefused;
  text = codes "layout " ++ layout_text spec refusal ++ codes "\n";
}
