-- The reasons to refuse a layout, in two parts.
use Rattle.std.specs.Prelude.{ℕ, List, ◌++◌, Option}
use Rattle.dsr_ir.specs.declared.declarations.Structures.{Structures}
use Rattle.dsr_ir.specs.declared.declarations.Spec.{Spec}
use Rattle.dsr_ir.specs.declared.layouts.Layout.{Layout}
use Rattle.dsr_meaning.specs.Refusals.{Refusal, outside_refusals, overlap_refusals, subtype_refusals, zero_refusals, none_refusals, code_refusals, count_refusals, instance_refusals}

-- for where pools lie
abbrev pub place_refusals : (ℕ → Option ℕ) → Structures → Layout → List Refusal
place_refusals size base layout =
    outside_refusals layout
    ++ (overlap_refusals size base.head layout
    ++ (subtype_refusals size base.sets base.pools layout ++ zero_refusals layout))

-- for codes and counts
abbrev pub number_refusals : Spec → Structures → Layout → List Refusal
number_refusals spec base layout =
    none_refusals layout ++ (code_refusals base.structures layout
    ++ (count_refusals spec layout ++ instance_refusals spec layout))
