-- The specification, the image and the layout of the examples.
use Rattle.std.specs.Prelude.{ℕ, Bool, true, false, List, [], ◌∷◌, None, Some, codes}
use Rattle.dsr_ir.specs.Exprs.{NumOf}
use Rattle.dsr_ir.specs.declared.constraints.Atom.{Atom}
use Rattle.dsr_ir.specs.declared.constraints.Atom.TheVariants as atoms
use Rattle.dsr_ir.specs.declared.constraints.Bound.TheVariants as bounds
use Rattle.dsr_ir.specs.declared.constraints.Constraint.{Constraint}
use Rattle.dsr_ir.specs.declared.constraints.Measure.TheVariants.{Whole, Out}
use Rattle.dsr_ir.specs.declared.constraints.Quant.{Quant}
use Rattle.dsr_ir.specs.declared.constraints.Quant.TheVariants.{Once, Each}
use Rattle.dsr_ir.specs.declared.constraints.Var.TheVariants.{First}
use Rattle.dsr_ir.specs.declared.declarations.Field.{Field}
use Rattle.dsr_ir.specs.declared.declarations.Kind.{Kind}
use Rattle.dsr_ir.specs.declared.declarations.Kind.TheVariants.{Number, Refers}
use Rattle.dsr_ir.specs.declared.declarations.Order.TheVariants.{Little}
use Rattle.dsr_ir.specs.declared.declarations.Pool.{Pool}
use Rattle.dsr_ir.specs.declared.declarations.SetDecl.{SetDecl}
use Rattle.dsr_ir.specs.declared.declarations.Spec.{Spec}
use Rattle.dsr_ir.specs.declared.declarations.Structure.{Structure}
use Rattle.dsr_ir.specs.declared.declarations.Structures.{Structures}
use Rattle.dsr_ir.specs.declared.declarations.Width.TheVariants.{U8}
use Rattle.dsr_ir.specs.declared.layouts.FieldPlace.{FieldPlace}
use Rattle.dsr_ir.specs.declared.layouts.Layout.{Layout}
use Rattle.dsr_ir.specs.declared.rules.Inc.TheVariants.{Own, Target, OwnPair}
use Rattle.dsr_ir.specs.declared.rules.Op.TheVariants.{Eq, Le, Ge}
use Rattle.dsr_ir.specs.declared.rules.Path.{Path}
use Rattle.dsr_ir.specs.declared.rules.Rule.{Rule}
use Rattle.dsr_ir.specs.declared.rules.Span.TheVariants.{Single}
use Rattle.dsr_ir.specs.declared.rules.Test.TheVariants.{Cmp}
use Rattle.dsr_ir.specs.declared.tuples.Element.{Element}

-- ---- structure Head { u8 first -> nodes; u8 second -> nodes; }   structure Node { u8 next -> nodes; u8 value; }

abbrev pub scalar : List ℕ → Kind → Field
scalar name kind = record { name = name; fixed = false; width = U8; len = None; kind = kind }

abbrev pub head_structure : Structure
head_structure = record {
  name = codes "Head";
  parent = None;
  fields = scalar (codes "first") (Refers 1) ∷ scalar (codes "second") (Refers 1) ∷ [];
}

abbrev pub node_structure : Structure
node_structure = record {
  name = codes "Node";
  parent = None;
  fields = scalar (codes "next") (Refers 1) ∷ scalar (codes "value") (Number 0) ∷ [];
}

-- ---- pool nodes : Node[3] at 2 codes 1 step 1 none 0;   fresh nodes avoid A;

abbrev pub nodes : Pool
nodes = record {
  name = codes "nodes";
  structure = 1;
  count = NumOf 3;
  slot = None;
  start = NumOf 2;
  code = NumOf 1;
  step = NumOf 1;
  none = NumOf 0;
  avoid = Some (0 ∷ []);
}

-- ---- set A of nodes; set B of nodes; relation N : nodes -> nodes; relation V : nodes -> number;

abbrev pub set_of_nodes : List ℕ → SetDecl
set_of_nodes name = record { name = name; pool = 1; structure = 1; except = None }

abbrev pub base : Structures
base = record {
  version = 1;
  order = Little;
  head = 0;
  structures = head_structure ∷ node_structure ∷ [];
  pools = nodes ∷ [];
  sets = set_of_nodes (codes "A") ∷ set_of_nodes (codes "B") ∷ [];
  rels = record { name = codes "N"; source = 1; target = Some 1 } ∷ record { name = codes "V"; source = 1; target = None } ∷ [];
}

abbrev pub path_to : ℕ → ℕ → Path
path_to structure field = record { field = record { structure = structure; field = field }; indexed = false }

-- ---- the rules

-- rule head => head.first in A;   rule head => head.second in A;
abbrev pub from_head : ℕ → Rule
from_head field = record { premise = None; span = Single; guards = []; inc = Target 0 (path_to 0 field) }

-- rule x in A when x.value = 1 => x in B;
abbrev pub marked : Rule
marked = record { premise = Some 0; span = Single; guards = record { path = path_to 1 1; test = Cmp Eq 1 } ∷ []; inc = Own 1 }

-- rule x in A => <x, x.next> in N;   rule x in A => <x, x.value> in V;
abbrev pub of_node : ℕ → ℕ → Rule
of_node rel field = record { premise = Some 0; span = Single; guards = []; inc = OwnPair rel (path_to 1 field) }

abbrev pub rules : List Rule
rules = from_head 0 ∷ from_head 1 ∷ marked ∷ of_node 0 0 ∷ of_node 1 1 ∷ []

-- ---- the constraints

abbrev pub constraint_of : List ℕ → Quant → Atom → Bool → Constraint
constraint_of name quant atom negated = record {
  name = name;
  quant = quant;
  conjs = record { literals = record { atom = atom; negated = negated; given = false } ∷ [] } ∷ [];
}

-- each of one literal: the number of one is its place here
abbrev pub constraints : List Constraint
constraints =
    -- 0: forall x in A : x in B
    constraint_of (codes "add") (Each 0) (atoms.Member First 1) false
    -- 1: forall x in A : <x, x> in N
    ∷ constraint_of (codes "relate") (Each 0) (atoms.Pair First First 0) false
    -- 2: forall x in A : not <x, x> in N
    ∷ constraint_of (codes "part") (Each 0) (atoms.Pair First First 0) true
    -- 3: forall x in A : x.V = 1
    ∷ constraint_of (codes "set") (Each 0) (atoms.Value First 1 Eq (bounds.Num 1)) false
    -- 4: size(A) <= 1
    ∷ constraint_of (codes "trim") Once (atoms.Count (Whole 0) Le 1) false
    -- 5: forall x in A : size(x.N) >= 1
    ∷ constraint_of (codes "supply") (Each 0) (atoms.Count (Out First 0) Ge 1) false
    -- 6: forall x in A : size(x.N) = 1
    ∷ constraint_of (codes "one") (Each 0) (atoms.Count (Out First 0) Eq 1) false
    -- 7: size(A) = 1
    ∷ constraint_of (codes "single") Once (atoms.Count (Whole 0) Eq 1) false
    -- 8: forall x in A : not x in B
    ∷ constraint_of (codes "remove") (Each 0) (atoms.Member First 1) true
    ∷ []

abbrev pub example : Spec
example = record { base = base; rules = rules; constraints = constraints }

-- ---- the image: first leads to slot 0, second to slot 1; slot 0 has no next and the value 0, slot 1 follows itself and
-- has the value 1, slot 2 is free. So A is slots 0 and 1, B slot 1, N (1, 1), V (0, 0) and (1, 1).

abbrev pub image : List ℕ
image = 1 ∷ 2 ∷ 0 ∷ 0 ∷ 2 ∷ 1 ∷ 0 ∷ 0 ∷ []

abbrev pub byte_at : ℕ → FieldPlace
byte_at bit = record { bit = bit; width = U8; length = None }

abbrev pub layout : Layout
layout = record {
  length = 8;
  order = Little;
  pools = record { start = 2; slot = 2; count = 3; code = 1; step = 1; none = 0 } ∷ [];
  fields = (byte_at 0 ∷ byte_at 8 ∷ []) ∷ (byte_at 0 ∷ byte_at 8 ∷ []) ∷ [];
}

abbrev pub slot : ℕ → Element
slot n = record { pool = 1; slot = n }
