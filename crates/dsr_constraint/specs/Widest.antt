-- How wide a constant may be with which the values of a relation are compared.
use Rattle.std.specs.Prelude.{◌≡◌, ◌<◌, ℕ, min, if◌then◌else◌, length, List, [], ◌∷◌, Option, None, IfSome, slice_index_or, option_and_then}
use Rattle.std.specs.Option.{option_map_or}
use Rattle.dsr_ir.specs.declared.declarations.FieldRef.{FieldRef}
use Rattle.dsr_meaning.specs.Cells.{width_bits}
use Rattle.dsr_meaning.specs.Instances.{declared_field}
use Rattle.dsr_tree.specs.declared.tree.Inclusion.{Inclusion}
use Rattle.dsr_tree.specs.declared.tree.Inclusion.TheVariants as inclusions
use Rattle.dsr_tree.specs.declared.tree.Rule.{Rule}
use Rattle.dsr_language_theory.specs.Names.{is_at}
use Rattle.dsr_language_theory.specs.Known.{Known}
use Rattle.dsr_language_theory.specs.Rules.{Scope, scope_of, path_field}

-- the relation of the pair that an inclusion gives, where that is known
abbrev pub given_relation : Known → Inclusion → Option ℕ
given_relation known (inclusions.Pair place term path relation) = known.relation relation.name
given_relation known (inclusions.Member member set) = None

-- the field that an inclusion reads for a pair, where that is known
abbrev pub read_field : Scope → Inclusion → Option FieldRef
read_field scope (inclusions.Pair place term path relation) = path_field scope path.var path.field
read_field scope (inclusions.Member member set) = None

-- the bits of the field at a place; 64 where none is known
abbrev pub field_width : Known → Option FieldRef → ℕ
field_width known place =
    option_map_or (λ f. width_bits f.width) (option_and_then (declared_field known.base) place) 64

-- the bits of the field that a rule reads for a pair
abbrev pub given_width : Known → Rule → ℕ
given_width known r = field_width known (read_field (scope_of known r) r.inclusion)

-- the least of the widths that rules give to a relation, or 64
abbrev pub least_width : Known → List Rule → ℕ → ℕ
least_width known [] rel = 64
least_width known (r ∷ rs) rel =
    min (if is_at rel (given_relation known r.inclusion) then given_width known r else 64) (least_width known rs rel)

-- for each relation the least of its widths
pub record AreLeast (known : Known) (rs : List Rule) (least : List ℕ) : Type 0 where
  pub is : (rel : ℕ) → slice_index_or least rel 64 ≡ least_width known rs rel

-- the number of a relation is one of the table
pub record CountRelations (known : Known) : Type 0 where
  pub within : (q : List ℕ) → IfSome (known.relation q) (λ rel. rel < length known.base.rels)
