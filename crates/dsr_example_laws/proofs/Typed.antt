-- The specification of the examples is typed.
use Rattle.std.proofs.Common.{◌≡◌, ◌<◌, ◌^◌, ◌∙◌, ℕ, suc, Bool, true, false, IsTrue, List, [], ◌∷◌, length, codes, All, None, Some, IsSomeAnd, map, slice_get, inl, inr, refl, sym, ap, subst, arith}
use Rattle.dsr_step_laws.proofs.Given.{constraint_of, path_to, scalar}
use Rattle.dsr_step_laws.proofs.Items.{all_such, are_different, differ, each_is}
use Rattle.dsr_example_laws.proofs.Given.{base, constraints, entry_path, head_structure, leading, marking, marks, marks_place, node_structure, nodes, numbered, pairing, rules, set_of_nodes, sharing, valuing}
use Rattle.dsr_ir.specs.Rules.{target_of}
use Rattle.dsr_ir.specs.declared.constraints.Atom.{Atom}
use Rattle.dsr_ir.specs.declared.constraints.Atom.TheVariants as atoms
use Rattle.dsr_ir.specs.declared.constraints.Bound.TheVariants as bounds
use Rattle.dsr_ir.specs.declared.constraints.Measure.TheVariants.{Into}
use Rattle.dsr_ir.specs.declared.constraints.Quant.{Quant}
use Rattle.dsr_ir.specs.declared.constraints.Quant.TheVariants.{Each, Pairs}
use Rattle.dsr_ir.specs.declared.constraints.Var.{Var}
use Rattle.dsr_ir.specs.declared.constraints.Var.TheVariants.{First, Second}
use Rattle.dsr_ir.specs.declared.declarations.Field.{Field}
use Rattle.dsr_ir.specs.declared.declarations.Kind.TheVariants.{Number, Refers}
use Rattle.dsr_ir.specs.declared.rules.Op.TheVariants.{Eq, Le}
use Rattle.dsr_ir.specs.declared.rules.Path.{Path}
use Rattle.dsr_ir.specs.declared.rules.Rule.{Rule}
use Rattle.dsr_meaning.specs.Cells.{width_bits}
use Rattle.dsr_meaning.specs.Instances.{declared_field}
use Rattle.dsr_meaning.specs.Typed.{AreDifferent, AreTyped, FitsValues, HasName, IsFieldOf, IsOtherStructure, IsPlainSetOf, IsPoolNumber, IsTyped, IsTypedAtom, IsTypedConj, IsTypedConstraint, IsTypedField, IsTypedGuard, IsTypedLiteral, IsTypedPath, IsTypedPool, IsTypedQuant, IsTypedRel, IsTypedRule, IsTypedSet, IsTypedStructure, MayBeNegated, Relates, pool_of_var, premise_structure, symbol_names}
use Rattle.dsr_step_laws.proofs.Typed.{few_atoms, never, number_named, refers_named}

-- ---- structures

marks_named : HasName marks
marks_named gap = absurd cc

pool_1 : IsPoolNumber base 1
pool_1 = record { from = omega arith; to = omega arith }

structure_1 : IsOtherStructure base 1
structure_1 = record { declared = omega arith; other = λ e. absurd (omega (arith, e)) }

head_typed : IsTypedStructure base 0 head_structure
head_typed = record {
  parent = tt;
  parent_before = tt;
  few_fields = omega arith;
  aligned = ((λ _. refl), ((λ _. refl), ((λ _. refl), tt)));
  fields = each_is (IsTypedField base 0 head_structure) head_structure.fields (first, (second, (third, tt)));
} where
  first : IsTypedField base 0 head_structure 0 (scalar (codes "first") (Refers 1))
  first = record {
    width = tt;
    length = tt;
    kind = pool_1;
    own_name = λ _. record {
      own = each_is (λ j g. HasName g → g.name ≡ codes "first" → j ≡ 0) head_structure.fields
          ((λ _ _. refl), ((λ _ e. absurd (differ (codes "second") (codes "first") refl e)), ((λ _ e. absurd (differ (codes "marks") (codes "first") refl e)), tt)));
      inherited = λ a t g is. absurd is;
    };
    fixed = λ h. absurd cc;
  }

  second : IsTypedField base 0 head_structure 1 (scalar (codes "second") (Refers 1))
  second = record {
    width = tt;
    length = tt;
    kind = pool_1;
    own_name = λ _. record {
      own = each_is (λ j g. HasName g → g.name ≡ codes "second" → j ≡ 1) head_structure.fields
          ((λ _ e. absurd (differ (codes "first") (codes "second") refl e)), ((λ _ _. refl), ((λ _ e. absurd (differ (codes "marks") (codes "second") refl e)), tt)));
      inherited = λ a t g is. absurd is;
    };
    fixed = λ h. absurd cc;
  }

  third : IsTypedField base 0 head_structure 2 marks
  third = record {
    width = tt;
    length = tt;
    kind = omega arith;
    own_name = λ _. record {
      own = each_is (λ j g. HasName g → g.name ≡ codes "marks" → j ≡ 2) head_structure.fields
          ((λ _ e. absurd (differ (codes "first") (codes "marks") refl e)), ((λ _ e. absurd (differ (codes "second") (codes "marks") refl e)), ((λ _ _. refl), tt)));
      inherited = λ a t g is. absurd is;
    };
    fixed = λ h. absurd cc;
  }

node_typed : IsTypedStructure base 1 node_structure
node_typed = record {
  parent = tt;
  parent_before = tt;
  few_fields = omega arith;
  aligned = ((λ _. refl), tt);
  fields = each_is (IsTypedField base 1 node_structure) node_structure.fields (value, tt);
} where
  value : IsTypedField base 1 node_structure 0 (scalar (codes "value") (Number 0))
  value = record {
    width = tt;
    length = tt;
    kind = omega arith;
    own_name = λ _. record {
      own = each_is (λ j g. HasName g → g.name ≡ codes "value" → j ≡ 0) node_structure.fields ((λ _ _. refl), tt);
      inherited = λ a t g is. absurd is;
    };
    fixed = λ h. absurd cc;
  }

-- ---- pools, sets and relations

pool_typed : IsTypedPool base 1 nodes
pool_typed = record { structure = structure_1; count = tt; slot = tt; start = tt; code = tt; step = tt; none = tt; avoid = tt }

set_typed : (name : List ℕ) → IsTypedSet base (set_of_nodes name)
set_typed name = record { pool = pool_1; structure = structure_1; view = inl refl; except = tt; complement_view = λ h. absurd cc }

base_typed : AreTyped base
base_typed = record {
  version = (omega arith, omega arith);
  head = refl;
  structures = each_is (IsTypedStructure base) base.structures (head_typed, (node_typed, tt));
  pools = each_is (λ i. IsTypedPool base (suc i)) base.pools (pool_typed, tt);
  sets = all_such (IsTypedSet base) base.sets (set_typed (codes "A"), (set_typed (codes "B"), (set_typed (codes "C"), tt)));
  rels = all_such (IsTypedRel base) base.rels (
    record { source = omega arith; target = pool_1 },
    (record { source = omega arith; target = pool_1 }, (record { source = omega arith; target = tt }, (record { source = omega arith; target = tt }, tt))),
  );
  structure_names = are_different (map (λ s. s.name) base.structures) ((refl, tt), (tt, tt));
  pool_names = are_different (map (λ d. d.name) base.pools) (tt, tt);
  symbol_names = are_different (symbol_names base) (
    (refl, (refl, (refl, (refl, (refl, (refl, tt)))))),
    (
      (refl, (refl, (refl, (refl, (refl, tt))))),
      ((refl, (refl, (refl, (refl, tt)))), ((refl, (refl, (refl, tt))), ((refl, (refl, tt)), ((refl, tt), (tt, tt))))),
    ),
  );
  few_structures = omega arith;
  few_pools = omega arith;
  few_symbols = omega arith;
}

-- ---- rules

-- a path to a reference of the head, in a rule without a premise
abbrev head_path : (rule : Rule) (k : ℕ) (name : List ℕ) → rule.premise ≡ None → declared_field base (path_to 0 k).field ≡ Some (scalar name (Refers 1)) → IsTypedPath base rule (path_to 0 k)
head_path rule k name premise declared = record {
  field = scalar name (Refers 1);
  is_field = record { declared = declared; named = refers_named name; of_record = inl (ap (premise_structure base) (sym premise)) };
  index = refl;
}

leading_typed : (set k : ℕ) (name : List ℕ) → IsPlainSetOf base 1 set → declared_field base (path_to 0 k).field ≡ Some (scalar name (Refers 1)) → IsTypedRule base (leading set k)
leading_typed set k name plain declared = record {
  premise = tt;
  span = tt;
  few_guards = omega arith;
  guards = all_such (IsTypedGuard base (leading set k)) [] tt;
  inc = (1, plain, record { typed = head_path (leading set k) k name refl declared; kind = refl });
}

pairing_typed : (rel k : ℕ) (name : List ℕ) → Relates base rel 0 (Some 1) → declared_field base (path_to 0 k).field ≡ Some (scalar name (Refers 1)) → IsTypedRule base (pairing rel k)
pairing_typed rel k name relates declared = record {
  premise = tt;
  span = tt;
  few_guards = omega arith;
  guards = all_such (IsTypedGuard base (pairing rel k)) [] tt;
  inc = record { target = Some 1; relates = relates; reads = record { typed = head_path (pairing rel k) k name refl declared; kind = refl } };
}

abbrev value_path : IsTypedPath base valuing (path_to 1 0)
value_path = record {
  field = scalar (codes "value") (Number 0);
  is_field = record { declared = refl; named = number_named (codes "value"); of_record = inl refl };
  index = refl;
}

valuing_typed : IsTypedRule base valuing
valuing_typed = record {
  premise = refl;
  span = tt;
  few_guards = omega arith;
  guards = all_such (IsTypedGuard base valuing) [] tt;
  inc = record { target = None; relates = (refl, refl); reads = record { typed = value_path; kind = refl } };
}

abbrev marks_field : IsFieldOf base None marks_place marks
marks_field = record { declared = refl; named = marks_named; of_record = inl refl }

abbrev marks_path : IsTypedPath base marking entry_path
marks_path = record { field = marks; is_field = marks_field; index = (refl, refl) }

marking_typed : IsTypedRule base marking
marking_typed = record {
  premise = tt;
  span = (marks, marks_field, refl);
  few_guards = omega arith;
  guards = all_such (IsTypedGuard base marking) [] tt;
  inc = (
    record { declared = pool_1; same_length = refl },
    record { target = None; relates = (refl, refl); reads = record { typed = marks_path; kind = refl } },
    refl,
  );
}

rules_typed : All (IsTypedRule base) rules
rules_typed =
    all_such (IsTypedRule base) rules (
      leading_typed 0 0 (codes "first") (refl, refl) refl,
      (
        leading_typed 1 1 (codes "second") (refl, refl) refl,
        (
          leading_typed 2 0 (codes "first") (refl, refl) refl,
          (
            leading_typed 2 1 (codes "second") (refl, refl) refl,
            (
              pairing_typed 0 0 (codes "first") (refl, refl) refl,
              (pairing_typed 1 1 (codes "second") (refl, refl) refl, (valuing_typed, (marking_typed, tt))),
            ),
          ),
        ),
      ),
    )

-- ---- constraints

-- a constraint of one literal is typed where its atom is
constraint_typed : (name : List ℕ) (quant : Quant) (atom : Atom) (negated : Bool) → IsTypedQuant base quant → IsTypedAtom sharing quant atom → (IsTrue negated → MayBeNegated atom) → IsTypedConstraint sharing (constraint_of name quant atom negated)
constraint_typed name quant atom negated quant_is atom_is may = record {
  quant = quant_is;
  few_conjs = omega arith;
  conjs = all_such (IsTypedConj sharing quant) (constraint_of name quant atom negated).conjs (
    record {
      few_literals = omega arith;
      literals = all_such (IsTypedLiteral sharing quant) (record { atom = atom; negated = negated; given = false } ∷ []) (record { atom = atom_is; negated = may }, tt);
    },
    tt,
  );
  few_atoms = few_atoms name quant atom negated;
}

-- each field that a rule reads has a byte
of_byte : (rule item : Rule) (path : Path) (k : ℕ) (f : Field) → k < 256 → IsSomeAnd (target_of item.inc) (λ p. IsSomeAnd (declared_field base p.field) (λ g. 256 ≡ 2 ^ width_bits g.width)) → rule ≡ item → target_of rule.inc ≡ Some path → declared_field base path.field ≡ Some f → k < 2 ^ width_bits f.width
of_byte rule item path k f small byte same target declared =
    let read : IsSomeAnd (Some path) (λ p. IsSomeAnd (declared_field base p.field) (λ g. 256 ≡ 2 ^ width_bits g.width)) =
    subst (λ o. IsSomeAnd o (λ p. IsSomeAnd (declared_field base p.field) (λ g. 256 ≡ 2 ^ width_bits g.width))) (ap (λ (r : Rule). target_of r.inc) (sym same) ∙ target) byte in
    let wide : 256 ≡ 2 ^ width_bits f.width = subst (λ o. IsSomeAnd o (λ g. 256 ≡ 2 ^ width_bits g.width)) declared read in
    subst (λ n. k < n) wide small

fits : (rel k : ℕ) → k < 256 → FitsValues sharing rel k
fits rel k small rule path f (inl is) gives target declared = of_byte rule (leading 0 0) path k f small refl is target declared
fits rel k small rule path f (inr (inl is)) gives target declared = of_byte rule (leading 1 1) path k f small refl is target declared
fits rel k small rule path f (inr (inr (inl is))) gives target declared = of_byte rule (leading 2 0) path k f small refl is target declared
fits rel k small rule path f (inr (inr (inr (inl is)))) gives target declared = of_byte rule (leading 2 1) path k f small refl is target declared
fits rel k small rule path f (inr (inr (inr (inr (inl is))))) gives target declared = of_byte rule (pairing 0 0) path k f small refl is target declared
fits rel k small rule path f (inr (inr (inr (inr (inr (inl is)))))) gives target declared = of_byte rule (pairing 1 1) path k f small refl is target declared
fits rel k small rule path f (inr (inr (inr (inr (inr (inr (inl is))))))) gives target declared = of_byte rule valuing path k f small refl is target declared
fits rel k small rule path f (inr (inr (inr (inr (inr (inr (inr (inl is)))))))) gives target declared = of_byte rule marking path k f small refl is target declared
fits rel k small rule path f (inr (inr (inr (inr (inr (inr (inr (inr more)))))))) gives target declared = absurd more

-- a variable's number is compared with one that fits
numbered_typed : (name : List ℕ) (quant : Quant) (v : Var) (rel n : ℕ) → n < 256 → IsTypedQuant base quant → IsSomeAnd (slice_get base.rels rel) (λ r. (r.target ≡ None) × (pool_of_var base quant v ≡ Some r.source)) → IsTypedConstraint sharing (numbered name quant v rel n)
numbered_typed name quant v rel n small quant_is var_is = constraint_typed name quant (atoms.Value v rel Eq (bounds.Num n)) false quant_is (var_is, fits rel n small) never

constraints_typed : All (IsTypedConstraint sharing) constraints
constraints_typed =
    all_such (IsTypedConstraint sharing) constraints (
      numbered_typed (codes "each") (Each 2) First 2 0 (omega arith) (omega arith) (refl, refl),
      (
        constraint_typed (codes "apart") (Pairs 0) (atoms.Count (Into 1 Second) Le 0) false refl ((refl, refl), tt) never,
        (
          numbered_typed (codes "left") (Pairs 0) Second 2 0 (omega arith) refl (refl, refl),
          (
            numbered_typed (codes "right") (Pairs 1) Second 2 0 (omega arith) refl (refl, refl),
            (
              constraint_typed (codes "exclusive") (Each 0) (atoms.Member First 1) true (omega arith) (1, refl, (refl, refl)) (λ _. tt),
              (
                numbered_typed (codes "here") (Each 0) First 2 0 (omega arith) (omega arith) (refl, refl),
                (
                  numbered_typed (codes "there") (Each 1) First 2 0 (omega arith) (omega arith) (refl, refl),
                  (
                    numbered_typed (codes "marked") (Each 0) First 3 1 (omega arith) (omega arith) (refl, refl),
                    (numbered_typed (codes "unmarked") (Each 1) First 3 0 (omega arith) (omega arith) (refl, refl), tt),
                  ),
                ),
              ),
            ),
          ),
        ),
      ),
    )

-- each name differs from those behind it
constraint_names : AreDifferent (map (λ c. c.name) constraints)
constraint_names =
    are_different (map (λ c. c.name) constraints) (
      (refl, (refl, (refl, (refl, (refl, (refl, (refl, (refl, tt)))))))),
      (
        (refl, (refl, (refl, (refl, (refl, (refl, (refl, tt))))))),
        (
          (refl, (refl, (refl, (refl, (refl, (refl, tt)))))),
          (
            (refl, (refl, (refl, (refl, (refl, tt))))),
            (
              (refl, (refl, (refl, (refl, tt)))),
              ((refl, (refl, (refl, tt))), ((refl, (refl, tt)), ((refl, tt), (tt, tt)))),
            ),
          ),
        ),
      ),
    )

-- ---- a whole specification

pub typed : IsTyped sharing
typed = record {
  base = base_typed;
  few_rules = omega arith;
  rules = rules_typed;
  few_constraints = omega arith;
  constraints = constraints_typed;
  constraint_names = constraint_names;
}
