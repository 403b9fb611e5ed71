-- Which templates are left out for what else they may change.
use Rattle.std.specs.Prelude.{◌≡◌, ◌≢◌, ◌⊎◌, ℕ, zero, suc, IsTrue, Option, None, Some, IfSome, IsSome, IsSomeAnd}
use Rattle.dsr_ir.specs.declared.constraints.Atom.{Atom}
use Rattle.dsr_ir.specs.declared.constraints.Atom.TheVariants as atoms
use Rattle.dsr_ir.specs.declared.constraints.Bound.{Bound}
use Rattle.dsr_ir.specs.declared.constraints.Bound.TheVariants as bounds
use Rattle.dsr_ir.specs.declared.constraints.Measure.{Measure}
use Rattle.dsr_ir.specs.declared.constraints.Measure.TheVariants.{Whole, Out, Into}
use Rattle.dsr_ir.specs.declared.declarations.Spec.{Spec}
use Rattle.dsr_ir.specs.declared.updates.Goal.{Goal}
use Rattle.dsr_ir.specs.declared.updates.Goal.TheVariants as goals
use Rattle.dsr_ir.specs.declared.updates.Place.{Place}
use Rattle.dsr_ir.specs.declared.updates.Place.TheVariants as places
use Rattle.dsr_ir.specs.declared.updates.Symbol.{Symbol}
use Rattle.dsr_ir.specs.declared.updates.Symbol.TheVariants as symbols
use Rattle.dsr_ir.specs.declared.updates.Template.{Template}
use Rattle.dsr_meaning.specs.Typed.{pool_at}
use Rattle.dsr_update_theory.specs.Avoided.{IsAvoided}
use Rattle.dsr_update_theory.specs.Changes.{Change, fresh_pool, written_pool}
use Rattle.dsr_update_theory.specs.Effects.{InTable}
use Rattle.dsr_update_theory.specs.Givers.{is_functional}
use Rattle.dsr_update_theory.specs.KnownSets.{IsKnown}
use Rattle.dsr_update_theory.specs.Templates.{counted_symbol}
use Rattle.dsr_update_theory.specs.Together.{MayStandTogether}
use Rattle.dsr_update_theory.specs.Touching.{named_by}
use Rattle.dsr_update_theory.specs.declared.effects.Tag.TheVariants.{Fresh}
use Rattle.dsr_update_theory.specs.declared.effects.Tag.{Tag}
use Rattle.dsr_update_theory.specs.declared.effects.Direction.TheVariants.{Gain, Loss}
use Rattle.dsr_graph_theory.specs.Owners.{EachUpdate, Keeps, KeepsPremise, Owner}

-- ---- what an update must be so that it can be made as it is judged

-- a set of which the variable at the place is known to be a member has no fresh record of the pool
abbrev pub IsNoFreshOne : Change → Place → Type 0
IsNoFreshOne c (places.Of v) =
    (set : ℕ) × IsKnown c.spec c.quant v set × IsAvoided c.spec (named_by (fresh_pool c)) set
IsNoFreshOne c _ = ⊥

-- there is a supply of the pool's records, and the record that is written isn't one of them
pub record MaySupply (c : Change) (pool : ℕ) : Type 0 where
  pub supply : IsSomeAnd (pool_at c.spec.base pool) (λ d. IsSome d.avoid)
  pub other : (written_pool c ≢ Some pool) ⊎ IsNoFreshOne c c.update.place

pub record MayBeMade (c : Change) : Type 0 where
  pub writes : MayStandTogether c.spec.base c.update.writes
  pub fresh : IfSome c.update.fresh (MaySupply c)

-- ---- what it must not change besides

-- the symbol of which a literal speaks
abbrev pub atom_symbol : Atom → Symbol
atom_symbol (atoms.Member v set) = symbols.Set set
atom_symbol (atoms.Pair v w rel) = symbols.Rel rel
atom_symbol (atoms.Count measure op k) = counted_symbol measure
atom_symbol (atoms.Value v rel op bound) = symbols.Rel rel

-- the size with which values are compared stays
abbrev pub KeepsBound : Change → Atom → Type 0
KeepsBound c (atoms.Value v rel op (bounds.Size measure)) =
    Keeps c Gain (counted_symbol measure) × Keeps c Loss (counted_symbol measure)
KeepsBound c _ = Unit {0}

-- no more than one is supplied: of a set's members the fresh record alone joins, and of a
-- variable's targets only one can be there
abbrev pub SuppliesOne : Change → Atom → Type 0
SuppliesOne c (atoms.Count (Whole set) op k) =
    (tag : Tag) → InTable c Gain (symbols.Set set) tag → tag ≡ Fresh
SuppliesOne c (atoms.Count (Out v rel) op k) = IsTrue (is_functional c.spec rel)
SuppliesOne c _ = ⊥

-- The update, by its place in a template for the goal, changes nothing that would undo what it is
-- for. That `SetValue` asks for no gain of the premise isn't needed for a repair to end. It stays,
-- since the lists of templates that users see, and their certificates, are those with it.
abbrev pub MayServe : Goal → Atom → ℕ → Change → Type 0
MayServe goals.AddSet atom n c = KeepsPremise c Loss
MayServe goals.AddTuple atom n c = KeepsPremise c Loss
MayServe goals.Supply atom n c = KeepsPremise c Loss
MayServe goals.RemoveSet atom n c = Keeps c Gain (atom_symbol atom)
MayServe goals.RemoveTuple atom n c = Keeps c Gain (atom_symbol atom)
MayServe goals.Trim atom n c = Keeps c Gain (atom_symbol atom)
MayServe goals.SetValue atom n c = KeepsPremise c Gain × KeepsBound c atom
MayServe goals.ExactlyOne atom zero c = KeepsPremise c Loss × SuppliesOne c atom
MayServe goals.ExactlyOne atom (suc n) c = Keeps c Gain (atom_symbol atom)

-- each update of the template can be made as it is judged, and serves the goal
abbrev pub IsKept : Owner → Atom → Template → Type 0
IsKept owner atom template =
    EachUpdate owner template (λ n c. MayBeMade c × MayServe template.goal atom n c)
