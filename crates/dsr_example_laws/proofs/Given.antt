-- The specification and the layout of the examples; the image is that of the examples of applications.
use Rattle.std.specs.Prelude.{ℕ, true, false, List, [], ◌∷◌, None, Some, codes}
use Rattle.dsr_step_laws.proofs.Given.{byte_at, constraint_of, path_to, scalar}
use Rattle.dsr_ir.specs.Exprs.{NumOf}
use Rattle.dsr_ir.specs.declared.constraints.Atom.TheVariants as atoms
use Rattle.dsr_ir.specs.declared.constraints.Bound.TheVariants as bounds
use Rattle.dsr_ir.specs.declared.constraints.Constraint.{Constraint}
use Rattle.dsr_ir.specs.declared.constraints.Measure.TheVariants.{Into}
use Rattle.dsr_ir.specs.declared.constraints.Quant.{Quant}
use Rattle.dsr_ir.specs.declared.constraints.Quant.TheVariants.{Each, Pairs}
use Rattle.dsr_ir.specs.declared.constraints.Var.{Var}
use Rattle.dsr_ir.specs.declared.constraints.Var.TheVariants.{First, Second}
use Rattle.dsr_ir.specs.declared.declarations.Field.{Field}
use Rattle.dsr_ir.specs.declared.declarations.FieldRef.{FieldRef}
use Rattle.dsr_ir.specs.declared.declarations.Kind.TheVariants.{Number, Refers}
use Rattle.dsr_ir.specs.declared.declarations.Order.TheVariants.{Little}
use Rattle.dsr_ir.specs.declared.declarations.Pool.{Pool}
use Rattle.dsr_ir.specs.declared.declarations.SetDecl.{SetDecl}
use Rattle.dsr_ir.specs.declared.declarations.Spec.{Spec}
use Rattle.dsr_ir.specs.declared.declarations.Structure.{Structure}
use Rattle.dsr_ir.specs.declared.declarations.Structures.{Structures}
use Rattle.dsr_ir.specs.declared.declarations.Width.TheVariants.{U8}
use Rattle.dsr_ir.specs.declared.layouts.Layout.{Layout}
use Rattle.dsr_ir.specs.declared.layouts.PoolNumbers.{PoolNumbers}
use Rattle.dsr_ir.specs.declared.rules.Inc.TheVariants.{Target, OwnPair, SlotPair}
use Rattle.dsr_ir.specs.declared.rules.Op.TheVariants.{Eq, Le}
use Rattle.dsr_ir.specs.declared.rules.Path.{Path}
use Rattle.dsr_ir.specs.declared.rules.Rule.{Rule}
use Rattle.dsr_ir.specs.declared.rules.Span.TheVariants.{Single, Array}

-- ---- structure Head { u8 first -> nodes; u8 second -> nodes; u8 marks[3]; }   structure Node { u8 value; }

abbrev pub marks : Field
marks = record { name = codes "marks"; fixed = false; width = U8; len = Some (NumOf 3); kind = Number 0 }

abbrev pub head_structure : Structure
head_structure = record {
  name = codes "Head";
  parent = None;
  fields = scalar (codes "first") (Refers 1) ∷ scalar (codes "second") (Refers 1) ∷ marks ∷ [];
}

abbrev pub node_structure : Structure
node_structure = record { name = codes "Node"; parent = None; fields = scalar (codes "value") (Number 0) ∷ [] }

-- ---- pool nodes : Node[3] at 5 codes 1 step 1 none 0;

abbrev pub nodes : Pool
nodes = record {
  name = codes "nodes";
  structure = 1;
  count = NumOf 3;
  slot = None;
  start = NumOf 5;
  code = NumOf 1;
  step = NumOf 1;
  none = NumOf 0;
  avoid = None;
}

-- ---- set A of nodes; set B of nodes; set C of nodes;
-- relation P : Head -> nodes; relation Q : Head -> nodes; relation V : nodes -> number; relation M : nodes -> number;

abbrev pub set_of_nodes : List ℕ → SetDecl
set_of_nodes name = record { name = name; pool = 1; structure = 1; except = None }

abbrev pub base : Structures
base = record {
  version = 2;
  order = Little;
  head = 0;
  structures = head_structure ∷ node_structure ∷ [];
  pools = nodes ∷ [];
  sets = set_of_nodes (codes "A") ∷ set_of_nodes (codes "B") ∷ set_of_nodes (codes "C") ∷ [];
  rels =
      record { name = codes "P"; source = 0; target = Some 1 }
      ∷ record { name = codes "Q"; source = 0; target = Some 1 }
      ∷ record { name = codes "V"; source = 1; target = None }
      ∷ record { name = codes "M"; source = 1; target = None }
      ∷ [];
}

-- ---- the rules

-- rule head => head.first in A;   and the like
abbrev pub leading : ℕ → ℕ → Rule
leading set field = record { premise = None; span = Single; guards = []; inc = Target set (path_to 0 field) }

-- rule head => <head, head.first> in P;   rule head => <head, head.second> in Q;
abbrev pub pairing : ℕ → ℕ → Rule
pairing rel field = record { premise = None; span = Single; guards = []; inc = OwnPair rel (path_to 0 field) }

-- rule x in C => <x, x.value> in V;
abbrev pub valuing : Rule
valuing = record { premise = Some 2; span = Single; guards = []; inc = OwnPair 2 (path_to 1 0) }

abbrev pub marks_place : FieldRef
marks_place = record { structure = 0; field = 2 }

abbrev pub entry_path : Path
entry_path = record { field = marks_place; indexed = true }

-- rule head, i in head.marks => <nodes[i], head.marks[i]> in M;
abbrev pub marking : Rule
marking = record { premise = None; span = Array marks_place; guards = []; inc = SlotPair 3 1 entry_path }

-- head.first leads to A, head.second to B, and both to C
abbrev pub rules : List Rule
rules = leading 0 0 ∷ leading 1 1 ∷ leading 2 0 ∷ leading 2 1 ∷ pairing 0 0 ∷ pairing 1 1 ∷ valuing ∷ marking ∷ []

-- ---- the constraints

-- a variable's number is this one
abbrev pub numbered : List ℕ → Quant → Var → ℕ → ℕ → Constraint
numbered name quant v rel n = constraint_of name quant (atoms.Value v rel Eq (bounds.Num n)) false

-- forall <h, y> in P : size(Q.y) <= 0
abbrev pub keeps_apart : Constraint
keeps_apart = constraint_of (codes "apart") (Pairs 0) (atoms.Count (Into 1 Second) Le 0) false

-- forall x in A : not x in B
abbrev pub keeps_exclusive : Constraint
keeps_exclusive = constraint_of (codes "exclusive") (Each 0) (atoms.Member First 1) true

-- a constraint uses what those before it say
abbrev pub constraints : List Constraint
constraints =
    -- 0: forall x in C : x.V = 0
    numbered (codes "each") (Each 2) First 2 0
    ∷ keeps_apart
    -- 2: forall <h, y> in P : y.V = 0
    ∷ numbered (codes "left") (Pairs 0) Second 2 0
    -- 3: forall <h, y> in Q : y.V = 0
    ∷ numbered (codes "right") (Pairs 1) Second 2 0
    ∷ keeps_exclusive
    -- 5: forall x in A : x.V = 0
    ∷ numbered (codes "here") (Each 0) First 2 0
    -- 6: forall x in B : x.V = 0
    ∷ numbered (codes "there") (Each 1) First 2 0
    -- 7: forall x in A : x.M = 1
    ∷ numbered (codes "marked") (Each 0) First 3 1
    -- 8: forall x in B : x.M = 0
    ∷ numbered (codes "unmarked") (Each 1) First 3 0
    ∷ []

abbrev pub sharing : Spec
sharing = record { base = base; rules = rules; constraints = constraints }

-- ---- on the image: first leads to slot 0, second to slot 1; the marks are 0, 0 and 2, the values 1, 0 and 0

abbrev pub numbers : PoolNumbers
numbers = record { start = 5; slot = 1; count = 3; code = 1; step = 1; none = 0 }

abbrev pub layout : Layout
layout = record {
  length = 8;
  order = Little;
  pools = numbers ∷ [];
  fields = (byte_at 0 ∷ byte_at 8 ∷ record { bit = 16; width = U8; length = Some 3 } ∷ []) ∷ (byte_at 0 ∷ []) ∷ [];
}
