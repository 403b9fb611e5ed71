-- The specification of the examples is typed.
use Rattle.std.proofs.Common.{◌≡◌, ◌≤◌, ◌<◌, ◌^◌, ◌∙◌, inl, inr, ℕ, suc, Bool, true, false, IsTrue, List, [], ◌∷◌, length, codes, All, Option, None, Some, IsSomeAnd, map, option_and_then, refl, sym, ap, subst, arith}
use Rattle.dsr_ir.specs.Rules.{gives as symbol_gives, target_of}
use Rattle.dsr_ir.specs.declared.constraints.Atom.{Atom}
use Rattle.dsr_ir.specs.declared.constraints.Atom.TheVariants as atoms
use Rattle.dsr_ir.specs.declared.constraints.Bound.TheVariants as bounds
use Rattle.dsr_ir.specs.declared.constraints.Measure.TheVariants.{Whole, Out}
use Rattle.dsr_ir.specs.declared.constraints.Quant.{Quant}
use Rattle.dsr_ir.specs.declared.constraints.Quant.TheVariants.{Once, Each}
use Rattle.dsr_ir.specs.declared.constraints.Var.TheVariants.{First}
use Rattle.dsr_ir.specs.declared.declarations.Field.{Field}
use Rattle.dsr_ir.specs.declared.declarations.Kind.{Kind}
use Rattle.dsr_ir.specs.declared.declarations.Kind.TheVariants.{Number, Refers}
use Rattle.dsr_ir.specs.declared.declarations.Structure.{Structure}
use Rattle.dsr_ir.specs.declared.rules.Op.TheVariants.{Eq, Le, Ge}
use Rattle.dsr_ir.specs.declared.rules.Path.{Path}
use Rattle.dsr_ir.specs.declared.rules.Rule.{Rule}
use Rattle.dsr_ir.specs.declared.updates.Symbol.TheVariants.{Rel}
use Rattle.dsr_meaning.specs.Cells.{width_bits}
use Rattle.dsr_meaning.specs.Counting.{AreMany, Enumerates, IsIn}
use Rattle.dsr_meaning.specs.Instances.{declared_field}
use Rattle.dsr_meaning.specs.Typed.{AreDifferent, AreTyped, FitsValues, HasAtom, HasName, HasOwnName, IsOtherStructure, IsPoolNumber, IsTyped, IsPlainSetOf, IsTypedAtom, IsTypedConj, IsTypedConstraint, IsTypedField, IsTypedGuard, IsTypedKind, IsTypedLiteral, IsTypedPath, IsTypedPool, IsTypedQuant, IsTypedRel, IsTypedRule, IsTypedSet, IsTypedStructure, MayBeNegated, premise_structure, symbol_names}
use Rattle.dsr_step_laws.proofs.Given.{base, constraint_of, constraints, example, from_head, head_structure, marked, node_structure, nodes, of_node, path_to, rules, scalar, set_of_nodes}
use Rattle.dsr_step_laws.proofs.Items.{all_such, are_different, differ, each_is}

-- ---- structures

pub refers_named : (name : List ℕ) → HasName (scalar name (Refers 1))
refers_named name gap = absurd cc

pub number_named : (name : List ℕ) → HasName (scalar name (Number 0))
number_named name gap = absurd cc

-- a field of one byte, which isn't fixed
field_typed : (i : ℕ) (s : Structure) (k : ℕ) (name : List ℕ) (kind : Kind) → IsTypedKind base (scalar name kind) kind
    → HasOwnName base i s k (scalar name kind) → IsTypedField base i s k (scalar name kind)
field_typed i s k name kind kind_is own = record {
  width = tt;
  length = tt;
  kind = kind_is;
  own_name = λ _. own;
  fixed = λ h. absurd cc;
}

pool_1 : IsPoolNumber base 1
pool_1 = record { from = omega arith; to = omega arith }

structure_1 : IsOtherStructure base 1
structure_1 = record { declared = omega arith; other = λ e. absurd (omega (arith, e)) }

head_first : HasOwnName base 0 head_structure 0 (scalar (codes "first") (Refers 1))
head_first = record {
  own = each_is (λ j g. HasName g → g.name ≡ codes "first" → j ≡ 0) head_structure.fields
      ((λ _ _. refl), ((λ _ e. absurd (differ (codes "second") (codes "first") refl e)), tt));
  inherited = λ a t g is. absurd is;
}

head_second : HasOwnName base 0 head_structure 1 (scalar (codes "second") (Refers 1))
head_second = record {
  own = each_is (λ j g. HasName g → g.name ≡ codes "second" → j ≡ 1) head_structure.fields
      ((λ _ e. absurd (differ (codes "first") (codes "second") refl e)), ((λ _ _. refl), tt));
  inherited = λ a t g is. absurd is;
}

node_next : HasOwnName base 1 node_structure 0 (scalar (codes "next") (Refers 1))
node_next = record {
  own = each_is (λ j g. HasName g → g.name ≡ codes "next" → j ≡ 0) node_structure.fields
      ((λ _ _. refl), ((λ _ e. absurd (differ (codes "value") (codes "next") refl e)), tt));
  inherited = λ a t g is. absurd is;
}

node_value : HasOwnName base 1 node_structure 1 (scalar (codes "value") (Number 0))
node_value = record {
  own = each_is (λ j g. HasName g → g.name ≡ codes "value" → j ≡ 1) node_structure.fields
      ((λ _ e. absurd (differ (codes "next") (codes "value") refl e)), ((λ _ _. refl), tt));
  inherited = λ a t g is. absurd is;
}

head_typed : IsTypedStructure base 0 head_structure
head_typed = record {
  parent = tt;
  parent_before = tt;
  few_fields = omega arith;
  aligned = ((λ _. refl), ((λ _. refl), tt));
  fields = each_is (IsTypedField base 0 head_structure) head_structure.fields (
    field_typed 0 head_structure 0 (codes "first") (Refers 1) pool_1 head_first,
    (field_typed 0 head_structure 1 (codes "second") (Refers 1) pool_1 head_second, tt),
  );
}

node_typed : IsTypedStructure base 1 node_structure
node_typed = record {
  parent = tt;
  parent_before = tt;
  few_fields = omega arith;
  aligned = ((λ _. refl), ((λ _. refl), tt));
  fields = each_is (IsTypedField base 1 node_structure) node_structure.fields (
    field_typed 1 node_structure 0 (codes "next") (Refers 1) pool_1 node_next,
    (field_typed 1 node_structure 1 (codes "value") (Number 0) (omega arith) node_value, tt),
  );
}

-- ---- pools, sets and relations

pool_typed : IsTypedPool base 1 nodes
pool_typed = record {
  structure = structure_1;
  count = tt;
  slot = tt;
  start = tt;
  code = tt;
  step = tt;
  none = tt;
  avoid = all_such (IsPlainSetOf base 1) (0 ∷ []) ((refl, refl), tt);
}

set_typed : (name : List ℕ) → IsTypedSet base (set_of_nodes name)
set_typed name = record {
  pool = pool_1;
  structure = structure_1;
  view = inl refl;
  except = tt;
  complement_view = λ h. absurd cc;
}

base_typed : AreTyped base
base_typed = record {
  version = (omega arith, omega arith);
  head = refl;
  structures = each_is (IsTypedStructure base) base.structures (head_typed, (node_typed, tt));
  pools = each_is (λ i. IsTypedPool base (suc i)) base.pools (pool_typed, tt);
  sets = all_such (IsTypedSet base) base.sets (set_typed (codes "A"), (set_typed (codes "B"), tt));
  rels = all_such (IsTypedRel base) base.rels
      (record { source = omega arith; target = pool_1 }, (record { source = omega arith; target = tt }, tt));
  structure_names = are_different (map (λ s. s.name) base.structures) ((refl, tt), (tt, tt));
  pool_names = are_different (map (λ d. d.name) base.pools) (tt, tt);
  symbol_names = are_different (symbol_names base) ((refl, (refl, (refl, tt))), ((refl, (refl, tt)), ((refl, tt), (tt, tt))));
  few_structures = omega arith;
  few_pools = omega arith;
  few_symbols = omega arith;
}

-- ---- rules

plain_0 : IsPlainSetOf base 1 0
plain_0 = (refl, refl)

plain_1 : IsPlainSetOf base 1 1
plain_1 = (refl, refl)

-- a path to a field of the head, in a rule without a premise
abbrev head_path : (k : ℕ) (name : List ℕ) → declared_field base (path_to 0 k).field ≡ Some (scalar name (Refers 1))
    → IsTypedPath base (from_head k) (path_to 0 k)
head_path k name declared = record {
  field = scalar name (Refers 1);
  is_field = record { declared = declared; named = refers_named name; of_record = inl refl };
  index = refl;
}

from_head_typed : (k : ℕ) (name : List ℕ) → declared_field base (path_to 0 k).field ≡ Some (scalar name (Refers 1))
    → IsTypedRule base (from_head k)
from_head_typed k name declared = record {
  premise = tt;
  span = tt;
  few_guards = omega arith;
  guards = all_such (IsTypedGuard base (from_head k)) [] tt;
  inc = (1, plain_0, record { typed = head_path k name declared; kind = refl });
}

-- the path to x.value, in a rule that starts from members of A
abbrev value_path : (rule : Rule) → rule.premise ≡ Some 0 → IsTypedPath base rule (path_to 1 1)
value_path rule premise = record {
  field = scalar (codes "value") (Number 0);
  is_field = record {
    declared = refl;
    named = number_named (codes "value");
    of_record = inl (ap (premise_structure base) (sym premise));
  };
  index = refl;
}

abbrev next_path : IsTypedPath base (of_node 0 0) (path_to 1 0)
next_path = record {
  field = scalar (codes "next") (Refers 1);
  is_field = record { declared = refl; named = refers_named (codes "next"); of_record = inl refl };
  index = refl;
}

marked_typed : IsTypedRule base marked
marked_typed = record {
  premise = refl;
  span = tt;
  few_guards = omega arith;
  guards = all_such (IsTypedGuard base marked) marked.guards
      (record { path = value_path marked refl; test = (refl, omega arith) }, tt);
  inc = plain_1;
}

next_typed : IsTypedRule base (of_node 0 0)
next_typed = record {
  premise = refl;
  span = tt;
  few_guards = omega arith;
  guards = all_such (IsTypedGuard base (of_node 0 0)) [] tt;
  inc = record { target = Some 1; relates = (refl, refl); reads = record { typed = next_path; kind = refl } };
}

value_typed : IsTypedRule base (of_node 1 1)
value_typed = record {
  premise = refl;
  span = tt;
  few_guards = omega arith;
  guards = all_such (IsTypedGuard base (of_node 1 1)) [] tt;
  inc = record {
    target = None;
    relates = (refl, refl);
    reads = record { typed = value_path (of_node 1 1) refl; kind = refl };
  };
}

rules_typed : All (IsTypedRule base) rules
rules_typed =
    all_such (IsTypedRule base) rules (
      from_head_typed 0 (codes "first") refl,
      (from_head_typed 1 (codes "second") refl, (marked_typed, (next_typed, (value_typed, tt)))),
    )

-- ---- constraints

-- a constraint of one literal has one atom
one_atom : (name : List ℕ) (quant : Quant) (atom : Atom) (negated : Bool) (a : Atom)
    → HasAtom (constraint_of name quant atom negated) a → atom ≡ a
one_atom name quant atom negated a (conj, literal, in_conjs, in_literals, is) =
    elim in_conjs as (λ _. atom ≡ a) [
      | inl same ↦ elim (subst (λ c. IsIn literal c.literals) same in_literals) as (λ _. atom ≡ a) [
        | inl only ↦ ap (λ l. l.atom) (sym only) ∙ is
        | inr more ↦ absurd more
      ]
      | inr more ↦ absurd more
    ]

few_things : (P : Atom → Type 0) (only : Atom) → ((a : Atom) → P a → only ≡ a) → (things : List Atom) → Enumerates P things
    → length things ≤ 8
few_things P only once [] all = omega arith
few_things P only once (x ∷ []) all = omega arith
few_things P only once (x ∷ y ∷ rest) all =
    let is_x : only ≡ x = once x (all.only x (inl refl)) in
    let is_y : only ≡ y = once y (all.only y (inr (inl refl))) in
    absurd (all.distinct.0 (inl (sym is_x ∙ is_y)))

pub few_atoms : (name : List ℕ) (quant : Quant) (atom : Atom) (negated : Bool) (n : ℕ)
    → AreMany (HasAtom (constraint_of name quant atom negated)) n → n ≤ 8
few_atoms name quant atom negated n many =
    let c = constraint_of name quant atom negated in
    subst (λ k. k ≤ 8) many.counted
    (few_things (HasAtom c) atom (one_atom name quant atom negated) many.things many.enumerated)

-- a constraint of one literal is typed where its atom is
constraint_typed : (name : List ℕ) (quant : Quant) (atom : Atom) (negated : Bool) → IsTypedQuant base quant
    → IsTypedAtom example quant atom → (IsTrue negated → MayBeNegated atom)
    → IsTypedConstraint example (constraint_of name quant atom negated)
constraint_typed name quant atom negated quant_is atom_is may = record {
  quant = quant_is;
  few_conjs = omega arith;
  conjs = all_such (IsTypedConj example quant) (constraint_of name quant atom negated).conjs (
    record {
      few_literals = omega arith;
      literals = all_such (IsTypedLiteral example quant)
          (record { atom = atom; negated = negated; given = false } ∷ [])
          (record { atom = atom_is; negated = may }, tt);
    },
    tt,
  );
  few_atoms = few_atoms name quant atom negated;
}

pub never : {A : Type 0} → IsTrue false → A
never h = absurd cc

-- 1 fits the field that gives the values of V
one_fits : FitsValues example 1 1
one_fits rule path f (inl is) gives target declared = never (sym (ap (λ r. symbol_gives (Rel 1) r.inc) is) ∙ gives)
one_fits rule path f (inr (inl is)) gives target declared = never (sym (ap (λ r. symbol_gives (Rel 1) r.inc) is) ∙ gives)
one_fits rule path f (inr (inr (inl is))) gives target declared = never (sym (ap (λ r. symbol_gives (Rel 1) r.inc) is) ∙ gives)
one_fits rule path f (inr (inr (inr (inl is)))) gives target declared = never (sym (ap (λ r. symbol_gives (Rel 1) r.inc) is) ∙ gives)
one_fits rule path f (inr (inr (inr (inr (inl is))))) gives target declared =
    let read : Option Path → Option Field = option_and_then (λ p. declared_field base p.field) in
    let path_is : target_of rule.inc ≡ Some (path_to 1 1) = ap (λ r. target_of r.inc) is in
    let field_is : Some (scalar (codes "value") (Number 0)) ≡ Some f = ap read (sym path_is ∙ target) ∙ declared in
    subst (λ o. IsSomeAnd o (λ g. 1 < 2 ^ width_bits g.width)) field_is (omega arith)
one_fits rule path f (inr (inr (inr (inr (inr more))))) gives target declared = absurd more

each_a : IsTypedQuant base (Each 0)
each_a = omega arith

member_typed : IsTypedAtom example (Each 0) (atoms.Member First 1)
member_typed = (1, refl, plain_1)

pair_typed : IsTypedAtom example (Each 0) (atoms.Pair First First 0)
pair_typed = (refl, refl, refl)

constraints_typed : All (IsTypedConstraint example) constraints
constraints_typed =
    all_such (IsTypedConstraint example) constraints (
      constraint_typed (codes "add") (Each 0) (atoms.Member First 1) false each_a member_typed never,
      (
        constraint_typed (codes "relate") (Each 0) (atoms.Pair First First 0) false each_a pair_typed never,
        (
          constraint_typed (codes "part") (Each 0) (atoms.Pair First First 0) true each_a pair_typed (λ _. tt),
          (
            constraint_typed (codes "set") (Each 0) (atoms.Value First 1 Eq (bounds.Num 1)) false each_a
                ((refl, refl), one_fits) never,
            (
              constraint_typed (codes "trim") Once (atoms.Count (Whole 0) Le 1) false tt (omega arith, tt) never,
              (
                constraint_typed (codes "supply") (Each 0) (atoms.Count (Out First 0) Ge 1) false each_a (refl, tt) never,
                (
                  constraint_typed (codes "one") (Each 0) (atoms.Count (Out First 0) Eq 1) false each_a (refl, tt) never,
                  (
                    constraint_typed (codes "single") Once (atoms.Count (Whole 0) Eq 1) false tt (omega arith, tt) never,
                    (constraint_typed (codes "remove") (Each 0) (atoms.Member First 1) true each_a member_typed (λ _. tt), tt),
                  ),
                ),
              ),
            ),
          ),
        ),
      ),
    )

-- each name differs from those behind it
constraint_names : AreDifferent (map (λ c. c.name) constraints)
constraint_names =
    are_different (map (λ c. c.name) constraints) (
      (refl, (refl, (refl, (refl, (refl, (refl, (refl, (refl, tt)))))))),
      (
        (refl, (refl, (refl, (refl, (refl, (refl, (refl, tt))))))),
        (
          (refl, (refl, (refl, (refl, (refl, (refl, tt)))))),
          (
            (refl, (refl, (refl, (refl, (refl, tt))))),
            (
              (refl, (refl, (refl, (refl, tt)))),
              (
                (refl, (refl, (refl, tt))),
                (
                  (refl, (refl, tt)),
                  ((refl, tt), (tt, tt)),
                ),
              ),
            ),
          ),
        ),
      ),
    )

-- ---- a whole specification

pub typed : IsTyped example
typed = record {
  base = base_typed;
  few_rules = omega arith;
  rules = rules_typed;
  few_constraints = omega arith;
  constraints = constraints_typed;
  constraint_names = constraint_names;
}
