-- What isn't there of a declaration without fault, one test after another.
use Rattle.std.proofs.Common.{◌≡◌, ℕ, false, not, ◌&&◌, ◌||◌, List, [], ◌∷◌, is_some, is_none}
use Rattle.dsr_tree.specs.Trees.{NamedFieldTree, StructureTree, PoolTree}
use Rattle.dsr_tree.specs.declared.faults.Condition.TheVariants as conditions
use Rattle.dsr_tree.specs.declared.tree.Fresh.{Fresh}
use Rattle.dsr_tree.specs.declared.tree.PlacedName.{PlacedName}
use Rattle.dsr_tree.specs.declared.tree.Relation.{Relation}
use Rattle.dsr_tree.specs.declared.tree.Set.{Set}
use Rattle.dsr_language_theory.specs.Declarations.{FieldPosition, unknown_name, expr_faults, maybe_expr_faults, is_declared_above, is_bytewise, is_misplaced, width_faults, content_faults, named_field_faults, field_faults, parent_faults, position_of, structure_faults, pool_faults, view_faults, set_faults, source_faults, target_faults, relation_faults, is_supply_mismatch, supply_faults}
use Rattle.dsr_language_theory.specs.Names.{Names, is_at, used_structure, plain_set}
use Rattle.dsr_meaning.specs.Lists.{each_at}
use Rattle.dsr_meaning.proofs.Empty.{both_empty}
use Rattle.dsr_language_theory.proofs.Absent.{when_absent}

-- a name that is no unknown one is known
pub known_name : (number : List ℕ → _) (q : PlacedName) → unknown_name number q ≡ [] → is_none (number q.name) ≡ false
known_name number q e = when_absent (is_none (number q.name)) conditions.UnknownName q.place e

module _ (names : Names) where
  -- a field with a name
  pub record SoundField (at : FieldPosition) (f : NamedFieldTree) : Type 0 where
    pub once : is_declared_above names at f.name.name ≡ false
    pub aligned : ((is_bytewise f.width || is_some f.length) && not at.on_byte) ≡ false
    pub placed : (is_some f.fixed && is_misplaced at f) ≡ false
    pub legal : width_faults f.width ≡ []
    pub len : maybe_expr_faults names.fixed f.length ≡ []
    pub meant : content_faults names.pool f.width f.content ≡ []

  pub sound_field : (at : FieldPosition) (f : NamedFieldTree) → named_field_faults names at f ≡ [] → SoundField at f
  sound_field at f e =
      let a = both_empty _ _ e in
      let b = both_empty _ _ a.1 in
      let c = both_empty _ _ b.1 in
      let d = both_empty _ _ c.1 in
      let w = both_empty _ _ d.1 in
      let l = both_empty _ _ w.1 in
      record {
        once = when_absent _ conditions.NameTwice f.name.place a.0;
        aligned = when_absent _ conditions.Align f.name.place c.0;
        placed = when_absent _ conditions.FixedPlace f.name.place d.0;
        legal = w.0;
        len = l.0;
        meant = l.1;
      }

  -- a structure
  pub record SoundStructure (i : ℕ) (s : StructureTree) : Type 0 where
    pub first : not (is_at i (names.structure s.name.name)) ≡ false
    pub parent : parent_faults names i s.parent ≡ []
    pub fields : each_at (λ j f. field_faults names (position_of names i s j) f) 0 s.fields ≡ []

  pub sound_structure : (i : ℕ) (s : StructureTree) → structure_faults names i s ≡ [] → SoundStructure i s
  sound_structure i s e =
      let a = both_empty _ _ e in
      let b = both_empty _ _ a.1 in
      let c = both_empty _ _ b.1 in
      record { first = when_absent _ conditions.NameTwice s.name.place a.0; parent = c.0; fields = c.1 }

  -- a pool
  pub record SoundPool (i : ℕ) (p : PoolTree) : Type 0 where
    pub first : not (is_at i (names.pool p.name.name)) ≡ false
    pub structure : unknown_name (used_structure names) p.structure ≡ []
    pub count : expr_faults names.fixed p.count ≡ []
    pub slot : maybe_expr_faults names.fixed p.slot ≡ []
    pub start : expr_faults names.fixed p.start ≡ []
    pub code : expr_faults names.fixed p.code ≡ []
    pub step : expr_faults names.fixed p.step ≡ []
    pub none : expr_faults names.fixed p.none ≡ []

  pub sound_pool : (i : ℕ) (p : PoolTree) → pool_faults names i p ≡ [] → SoundPool i p
  sound_pool i p e =
      let a = both_empty _ _ e in
      let b = both_empty _ _ a.1 in
      let structure = both_empty _ _ b.1 in
      let count = both_empty _ _ structure.1 in
      let slot = both_empty _ _ count.1 in
      let start = both_empty _ _ slot.1 in
      let code = both_empty _ _ start.1 in
      let step = both_empty _ _ code.1 in
      record {
        first = when_absent _ conditions.NameTwice p.name.place a.0;
        structure = structure.0;
        count = count.0;
        slot = slot.0;
        start = start.0;
        code = code.0;
        step = step.0;
        none = step.1;
      }

  -- a set
  pub record SoundSet (i : ℕ) (s : Set) : Type 0 where
    pub first : not (is_at i (names.set s.name.name)) ≡ false
    pub pool : unknown_name names.pool s.pool ≡ []
    pub viewed : view_faults names s s.view ≡ []

  pub sound_set : (i : ℕ) (s : Set) → set_faults names i s ≡ [] → SoundSet i s
  sound_set i s e =
      let a = both_empty _ _ e in
      let b = both_empty _ _ a.1 in
      let c = both_empty _ _ b.1 in
      record { first = when_absent _ conditions.NameTwice s.name.place a.0; pool = c.0; viewed = c.1 }

  -- a relation
  pub record SoundRelation (i : ℕ) (r : Relation) : Type 0 where
    pub once : (is_some (names.set r.name.name) || not (is_at i (names.relation r.name.name))) ≡ false
    pub source : source_faults names r.source ≡ []
    pub target : target_faults names r.target ≡ []

  pub sound_relation : (i : ℕ) (r : Relation) → relation_faults names i r ≡ [] → SoundRelation i r
  sound_relation i r e =
      let a = both_empty _ _ e in
      let b = both_empty _ _ a.1 in
      let c = both_empty _ _ b.1 in
      record { once = when_absent _ conditions.NameTwice r.name.place a.0; source = c.0; target = c.1 }

  -- a supply
  pub record SoundSupply (i : ℕ) (f : Fresh) : Type 0 where
    pub pool : unknown_name names.pool f.pool ≡ []
    pub sets : each_at (λ _ q. unknown_name (plain_set names) q) 0 (f.first ∷ f.rest) ≡ []
    pub same_pool : is_supply_mismatch names (names.pool f.pool.name) (f.first ∷ f.rest) ≡ false

  pub sound_supply : (i : ℕ) (f : Fresh) → supply_faults names i f ≡ [] → SoundSupply i f
  sound_supply i f e =
      let a = both_empty _ _ e in
      let b = both_empty _ _ a.1 in
      let sets = each_at (λ _ q. unknown_name (plain_set names) q) 0 (f.first ∷ f.rest) in
      let c = both_empty sets _ b.1 in
      record { pool = b.0; sets = c.0; same_pool = when_absent _ conditions.PoolMismatch f.place c.1 }
