-- What the updates are of templates that are tried for a literal: what they are for, by which rule, and what they write.
use Rattle.std.proofs.Common.{◌≡◌, ℕ, Bool, true, false, [], ◌∷◌, Option, None, Some}
use Rattle.dsr_repair_theory.specs.Choices.{TakesAway}
use Rattle.dsr_ir.specs.Rules.{target_of}
use Rattle.dsr_ir.specs.declared.constraints.Atom.{Atom}
use Rattle.dsr_ir.specs.declared.constraints.Atom.TheVariants as atoms
use Rattle.dsr_ir.specs.declared.constraints.Bound.{Bound}
use Rattle.dsr_ir.specs.declared.constraints.Measure.{Measure}
use Rattle.dsr_ir.specs.declared.constraints.Measure.TheVariants.{Into, Out, Whole}
use Rattle.dsr_ir.specs.declared.constraints.Var.{Var}
use Rattle.dsr_ir.specs.declared.declarations.Spec.{Spec}
use Rattle.dsr_ir.specs.declared.rules.Inc.{Inc}
use Rattle.dsr_ir.specs.declared.rules.Inc.TheVariants as incs
use Rattle.dsr_ir.specs.declared.rules.Op.{Op}
use Rattle.dsr_ir.specs.declared.rules.Op.TheVariants.{Eq, Ge}
use Rattle.dsr_ir.specs.declared.rules.Path.{Path}
use Rattle.dsr_ir.specs.declared.rules.Rule.{Rule}
use Rattle.dsr_ir.specs.declared.rules.Span.TheVariants.{Single}
use Rattle.dsr_ir.specs.declared.updates.At.TheVariants as ats
use Rattle.dsr_ir.specs.declared.updates.Goal.{Goal}
use Rattle.dsr_ir.specs.declared.updates.Goal.TheVariants as goals
use Rattle.dsr_ir.specs.declared.updates.Pick.TheVariants as picks
use Rattle.dsr_ir.specs.declared.updates.Place.TheVariants as places
use Rattle.dsr_ir.specs.declared.updates.Symbol.{Symbol}
use Rattle.dsr_ir.specs.declared.updates.Symbol.TheVariants as symbols
use Rattle.dsr_ir.specs.declared.updates.Update.{Update}
use Rattle.dsr_ir.specs.declared.updates.Write.{Write}
use Rattle.dsr_graph_theory.specs.Sides.{atom_symbol}
use Rattle.dsr_meaning.specs.Counting.{IsIn}
use Rattle.dsr_meaning.specs.Refusals.{reaches_bound}
use Rattle.dsr_update_theory.specs.Givers.{IsGiver, givers}
use Rattle.dsr_update_theory.specs.Options.{options}
use Rattle.dsr_update_theory.specs.Templates.{KnownSets, all_true, counted_of, counted_symbol, pick_of, place_of, referred, removal_at, removal_place, serves, target_writes, value_write}

-- ---- updates that add

-- an update by a rule of the symbol that has no index and starts at the variable's record
pub record IsAdding (spec : Spec) (known : KnownSets) (symbol : Symbol) (v : Var) (rule : Rule) (u : Update) : Type 0 where
  pub giver : IsGiver spec symbol u.rule rule
  pub serves_it : serves known v rule ≡ true
  pub place_is : u.place ≡ place_of v
  pub at_is : u.at ≡ ats.Scalar

-- the variable's record is to become a member: all guards are made true
pub record IsJoining (spec : Spec) (known : KnownSets) (goal : Goal) (atom : Atom) (u : Update) : Type 0 where
  pub goal_is : goal ≡ goals.AddSet
  pub v : Var
  pub set : ℕ
  pub atom_is : atom ≡ atoms.Member v set
  pub rule : Rule
  pub inc_is : rule.inc ≡ incs.Own set
  pub adding_is : IsAdding spec known (symbols.Set set) v rule u
  pub made : all_true spec.base rule.guards ≡ Some u.writes

-- a pair is to join: the target gets the code of the other variable's record
pub record IsRelating (spec : Spec) (known : KnownSets) (goal : Goal) (atom : Atom) (u : Update) : Type 0 where
  pub goal_is : goal ≡ goals.AddTuple
  pub v : Var
  pub w : Var
  pub rel : ℕ
  pub atom_is : atom ≡ atoms.Pair v w rel
  pub rule : Rule
  pub path : Path
  pub inc_is : rule.inc ≡ incs.OwnPair rel path
  pub adding_is : IsAdding spec known (symbols.Rel rel) v rule u
  pub target_is : target_of rule.inc ≡ Some path
  pub made : target_writes spec.base (picks.CodeOf w) path rule.guards ≡ Some u.writes

-- the rule gives the target of the variable's record as one of those that are counted
abbrev pub GivesCounted : Measure → Var → Path → Inc → Type 0
GivesCounted (Whole set) v path inc = inc ≡ incs.Target set path
GivesCounted (Out w rel) v path inc = (inc ≡ incs.OwnPair rel path) × (v ≡ w)
GivesCounted (Into rel w) v path inc = ⊥

-- one more is to be counted: the target gets the code of a fresh record
pub record IsSupplying (spec : Spec) (known : KnownSets) (measure : Measure) (u : Update) : Type 0 where
  pub v : Var
  pub rule : Rule
  pub path : Path
  pub counted : GivesCounted measure v path rule.inc
  pub adding_is : IsAdding spec known (counted_symbol measure) v rule u
  pub target_is : target_of rule.inc ≡ Some path
  pub fresh_is : u.fresh ≡ referred spec.base path.field
  pub made : target_writes spec.base picks.Fresh path rule.guards ≡ Some u.writes

-- where a value is set: in the variable's record, or in the head at its slot
pub data IsSetAt (v : Var) (rel : ℕ) (path : Path) (rule : Rule) (u : Update) : Type 0 where
  own :
      rule.inc ≡ incs.OwnPair rel path → rule.span ≡ Single → u.place ≡ place_of v → u.at ≡ ats.Scalar
      → IsSetAt v rel path rule u
  slot :
      (pool : ℕ) → rule.inc ≡ incs.SlotPair rel pool path → rule.premise ≡ None → u.place ≡ places.Head
      → u.at ≡ ats.SlotOf v → IsSetAt v rel path rule u

-- a value is to be set: the only rule of the relation gets the number, or the size, with which it is compared
pub record IsSetting (spec : Spec) (goal : Goal) (atom : Atom) (u : Update) : Type 0 where
  pub goal_is : goal ≡ goals.SetValue
  pub v : Var
  pub rel : ℕ
  pub op : Op
  pub bound : Bound
  pub atom_is : atom ≡ atoms.Value v rel op bound
  pub reaches : reaches_bound op ≡ true
  pub rule : Rule
  pub path : Path
  pub alone : givers spec (symbols.Rel rel) ≡ (u.rule, rule) ∷ []
  pub giver : IsGiver spec (symbols.Rel rel) u.rule rule
  pub placed : IsSetAt v rel path rule u
  pub target_is : target_of rule.inc ≡ Some path
  pub write : Write
  pub write_is : value_write spec.base (pick_of bound) path ≡ Some write
  pub writes_are : u.writes ≡ write ∷ []

-- an update that adds or sets, for a literal that isn't negated
pub data IsAdder (spec : Spec) (known : KnownSets) (goal : Goal) (atom : Atom) (u : Update) : Type 0 where
  joins : IsJoining spec known goal atom u → IsAdder spec known goal atom u
  relates : IsRelating spec known goal atom u → IsAdder spec known goal atom u
  supplies_some :
      (measure : Measure) → goal ≡ goals.Supply → atom ≡ atoms.Count measure Ge 1
      → IsSupplying spec known measure u → IsAdder spec known goal atom u
  supplies_one :
      (measure : Measure) → goal ≡ goals.ExactlyOne → atom ≡ atoms.Count measure Eq 1
      → IsSupplying spec known measure u → IsAdder spec known goal atom u
  sets : IsSetting spec goal atom u → IsAdder spec known goal atom u

-- ---- updates that take away

-- the variable whose member, source or target goes
abbrev pub taken_var : Atom → Option Var
taken_var (atoms.Member v set) = Some v
taken_var (atoms.Pair v w rel) = Some v
taken_var (atoms.Count measure op k) = counted_of measure
taken_var (atoms.Value v rel op bound) = None

-- a fact of the atom's symbol is to go: one option of a rule that gives such facts is written
pub record IsRemoving (spec : Spec) (goal : Goal) (atom : Atom) (n : ℕ) (u : Update) : Type 0 where
  pub takes : TakesAway goal n
  pub rule : Rule
  pub giver : IsGiver spec (atom_symbol atom) u.rule rule
  pub place_is : u.place ≡ removal_place (taken_var atom) rule
  pub at_is : u.at ≡ removal_at (taken_var atom) rule
  pub write : Write
  pub writes_are : u.writes ≡ write ∷ []
  pub option : IsIn write (options spec.base rule)

-- ---- all of them

-- the update, by its place in the template, is the first one and adds, or it takes a fact away
pub data IsRawUpdate (spec : Spec) (known : KnownSets) (goal : Goal) (atom : Atom) (negated : Bool) (n : ℕ) (u : Update) : Type 0 where
  adds :
      n ≡ 0 → negated ≡ false → IsAdder spec known goal atom u → IsRawUpdate spec known goal atom negated n u
  removes : IsRemoving spec goal atom n u → IsRawUpdate spec known goal atom negated n u
