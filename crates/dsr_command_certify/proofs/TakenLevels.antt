-- The plan that is taken has no more levels than there are constraints, so a certificate may say each of them.
use Rattle.std.proofs.Common.{◌≡◌, ◌≤◌, ◌<◌, ◌∙◌, ℕ, zero, suc, List, [], ◌∷◌, Some, length, map, slice_get, inl, inr, refl, sym, ap, subst, arith}
use Rattle.std.proofs.lemmas.List.{length-map}
use Rattle.dsr_ir.specs.declared.declarations.Spec.{Spec}
use Rattle.dsr_meaning.specs.Counting.{IsDistinct, IsIn}
use Rattle.dsr_meaning.specs.Typed.{constraint_limit}
use Rattle.dsr_plan_theory.specs.Taken.{IsTaken}
use Rattle.dsr_plan_theory.specs.declared.choices.Choice.{Choice}
use Rattle.dsr_plan_theory.specs.declared.choices.Row.{Row}
use Rattle.dsr_language_theory.specs.Tables.{tables}
use Rattle.dsr_tree.specs.Trees.{TreeShape}
use Rattle.dsr_tree.specs.declared.faults.Fault.{Fault}
use Rattle.dsr_language_laws.proofs.TypedConstraints.{few_constraints}
use Rattle.dsr_language_theory.specs.Constraints.{constraints_faults}
use Rattle.dsr_language_theory.specs.Known.{known_in}
use Rattle.dsr_language_theory.specs.RuleFaults.{rules_faults}
use Rattle.dsr_language_theory.specs.Specifications.{IsSpecificationOf, faults_over, first_of, specification, specification_faults}
use Rattle.dsr_language_theory.specs.Declarations.{declaration_faults}
use Rattle.dsr_cert.specs.Certificates.{level_bound}
use Rattle.dsr_command_certify.specs.LowLevels.{HasLowLevels}
use Rattle.dsr_meaning.proofs.Counts.{no_more}

-- ---- as many levels as rows

abbrev below : ℕ → List ℕ
below zero = []
below (suc n) = n ∷ below n

in_below : (n x : ℕ) → IsIn x (below n) → x < n
in_below zero x is = absurd is
in_below (suc n) x (inl same) = omega (arith, same)
in_below (suc n) x (inr later) = let less = in_below n x later in omega (arith, less)

below_distinct : (n : ℕ) → IsDistinct (below n)
below_distinct zero = tt
below_distinct (suc n) = ((λ is. let less = in_below n n is in absurd (omega (arith, less))), below_distinct n)

below_long : (n : ℕ) → length (below n) ≡ n
below_long zero = refl
below_long (suc n) = ap suc (below_long n)

level_in : (rows : List Row) (n : ℕ) (row : Row) (level : ℕ) → slice_get rows n ≡ Some row → row.level ≡ level → IsIn level (map (λ r. r.level) rows)
level_in [] n row level is same = absurd cc
level_in (r ∷ rows) zero row level is same = inl (sym same ∙ (let these : row ≡ r = cc in ap (λ x. x.level) these))
level_in (r ∷ rows) (suc n) row level is same = inr (level_in rows n row level is same)

levels_few : (spec : Spec) (choice : Choice) → IsTaken spec choice → (n : ℕ) (row : Row) → slice_get choice.rows n ≡ Some row → row.level < length choice.rows
levels_few spec choice taken n row is =
    let levels = map (λ r. r.level) choice.rows in
    let each : (level : ℕ) → IsIn level (below (suc row.level)) → IsIn level levels = λ level is_in.
    let less = in_below (suc row.level) level is_in in
    let has = taken.filled n row level is (omega (arith, less)) in
    level_in choice.rows has.number has.row level has.row_is has.level_is in
    let few = no_more (below (suc row.level)) levels (below_distinct (suc row.level)) each in
    let long = below_long (suc row.level) in
    let many = length-map choice.rows (λ r. r.level) in
    omega (arith, few, long, many)

-- ---- few constraints

none_later : (first later : List Fault) → first_of first later ≡ [] → later ≡ []
none_later [] later e = e
none_later (fault ∷ faults) later e = absurd cc

few_of_tree : (t : TreeShape) → specification_faults t ≡ [] → length (specification t).constraints ≤ constraint_limit (specification t).base.version
few_of_tree t e = few_constraints (tables t) t.rules t.constraints
    (none_later (rules_faults (known_in (tables t)) t.rules) (constraints_faults (known_in (tables t)) t.rules t.constraints)
    (none_later (declaration_faults t) (faults_over (tables t) t) e))

pub few_in_text : (text : List ℕ) (spec : Spec) → IsSpecificationOf text spec → length spec.constraints ≤ level_bound spec
few_in_text text spec its = subst (λ s. length s.constraints ≤ constraint_limit s.base.version) (sym its.is) (few_of_tree its.tree its.no_fault)

pub taken_levels : (text : List ℕ) (spec : Spec) (choice : Choice) → IsSpecificationOf text spec → IsTaken spec choice → HasLowLevels spec choice
taken_levels text spec choice its taken n row is =
    let few = few_in_text text spec its in
    let low = levels_few spec choice taken n row is in
    let many = taken.plan.as_many in
    omega (arith, few, low, many)
