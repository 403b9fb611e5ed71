-- What stands in the way of a plan, as text.
use Rattle.std.specs.Prelude.{◌+◌, ◌++◌, ℕ, List, [], Option, None, Some, codes, decimal}
use Rattle.std.specs.List.{flat_map}
use Rattle.dsr_answers.specs.Texts.{constraint_name, symbol_name}
use Rattle.dsr_graph_theory.specs.declared.causes.Reason.{Reason}
use Rattle.dsr_graph_theory.specs.declared.causes.Reason.TheVariants.{Gain, Loss}
use Rattle.dsr_ir.specs.declared.declarations.Spec.{Spec}
use Rattle.dsr_ir.specs.declared.updates.Symbol.{Symbol}
use Rattle.dsr_plan_theory.specs.declared.refusals.StuckEnd.{StuckEnd}
use Rattle.dsr_plan_theory.specs.declared.refusals.StuckEnd.TheVariants.{Cycle, Unrepairable}
use Rattle.dsr_plan_theory.specs.declared.refusals.StuckMember.{StuckMember}
use Rattle.dsr_plan_theory.specs.declared.refusals.StuckSet.{StuckSet}
use Rattle.dsr_plan_theory.specs.declared.refusals.StuckWay.{StuckWay}
use Rattle.dsr_script.specs.Scripts.{Answer}
use Rattle.dsr_script.specs.declared.status.Verdict.TheVariants as verdicts

abbrev pub space : List ℕ
space = codes " "

-- a word with a constraint's name behind it
abbrev pub named : List ℕ → Spec → ℕ → List ℕ
named word spec constraint = word ++ constraint_name spec constraint

abbrev pub line : List ℕ → Spec → ℕ → List ℕ
line word spec constraint = named word spec constraint ++ codes "\n"

-- a word with the name of a set or a relation behind it
abbrev pub change : List ℕ → Spec → Symbol → List ℕ
change word spec symbol = word ++ symbol_name spec symbol

abbrev pub reason_text : Spec → Reason → List ℕ
reason_text spec (Gain symbol) = change (codes " by gain of ") spec symbol
reason_text spec (Loss symbol) = change (codes " by loss of ") spec symbol

-- the numbers of the conjunction, of the literal and of the template, each counted from 1
abbrev pub place_text : StuckWay → List ℕ
place_text way =
    decimal (way.conj + 1) ++ codes "." ++ decimal (way.literal + 1) ++ codes "." ++ decimal way.way

-- a template, with the first member that it breaks, and why
abbrev pub way_line : Spec → StuckWay → List ℕ
way_line spec way =
    codes "  way " ++ place_text way ++ named (codes " breaks ") spec way.breaks
    ++ reason_text spec way.reason ++ codes "\n"

-- the member that relies on another one, if there is one
abbrev pub relier_line : Spec → Option ℕ → List ℕ
relier_line spec None = []
relier_line spec (Some relier) = line (codes "  relied by ") spec relier

-- a member, with what it waits for
abbrev pub member_lines : Spec → StuckMember → List ℕ
member_lines spec member =
    line (codes "stuck ") spec member.constraint ++ relier_line spec member.relied_by
    ++ flat_map (way_line spec) member.ways

-- a member that can't be repaired, or members that wait for each other
abbrev pub end_line : Spec → StuckEnd → List ℕ
end_line spec (Unrepairable constraint) = line (codes "unrepairable ") spec constraint
end_line spec (Cycle numbers) = codes "cycle" ++ flat_map (named space spec) numbers ++ codes "\n"

abbrev pub refused_answer : Spec → StuckSet → Answer
refused_answer spec set = record {
  verdict = verdicts.PlanRefused;
  text = flat_map (member_lines spec) set.members ++ end_line spec set.end;
}
