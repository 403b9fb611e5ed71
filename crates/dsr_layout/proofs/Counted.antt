-- What is known of sizes and instances where nothing is refused.
use Rattle.std.proofs.Common.{◌≡◌, ◌<◌, ◌≤◌, ◌^◌, ℕ, suc, true, false, not, ◌&&◌, nat_lt, List, [], ◌∷◌, ◌++◌, Some, inl, inr, sym, ap, ◌∙◌, subst, arith}
use Rattle.std.specs.Option.{option_map_or}
use Rattle.std.proofs.lemmas.Bool.Decides.{nat_tests}
use Rattle.dsr_ir.specs.Layouts.{field_place}
use Rattle.dsr_ir.specs.declared.constraints.Atom.TheVariants.{Value}
use Rattle.dsr_ir.specs.declared.constraints.Bound.TheVariants.{Size}
use Rattle.dsr_ir.specs.declared.constraints.Conj.{Conj}
use Rattle.dsr_ir.specs.declared.constraints.Constraint.{Constraint}
use Rattle.dsr_ir.specs.declared.constraints.Literal.{Literal}
use Rattle.dsr_ir.specs.declared.constraints.Measure.{Measure}
use Rattle.dsr_ir.specs.declared.constraints.Var.{Var}
use Rattle.dsr_ir.specs.declared.declarations.Spec.{Spec}
use Rattle.dsr_ir.specs.declared.layouts.FieldPlace.{FieldPlace}
use Rattle.dsr_ir.specs.declared.layouts.Layout.{Layout}
use Rattle.dsr_ir.specs.declared.rules.Op.{Op}
use Rattle.dsr_ir.specs.declared.rules.Path.{Path}
use Rattle.dsr_ir.specs.declared.rules.Rule.{Rule}
use Rattle.dsr_meaning.proofs.Empty.{both_empty}
use Rattle.dsr_meaning.specs.Cells.{width_bits}
use Rattle.dsr_meaning.specs.Counting.{IsIn}
use Rattle.dsr_meaning.specs.Lists.{any_of, each_at}
use Rattle.dsr_meaning.specs.FixedFields.{fixed_value}
use Rattle.dsr_meaning.specs.Layouts.{layout_of}
use Rattle.dsr_meaning.specs.Places.{size_of}
use Rattle.dsr_meaning.specs.Refusals.{CountTooWide, Instances, refused_when, fits, greatest_size, given_path, gives_narrower, reaches_bound, outgrows, constraint_outgrows, count_refusals, instance_limit, instances, instance_refusals, outside_refusals, overlap_refusals, subtype_refusals, zero_refusals, none_refusals, code_refusals, refusals}
use Rattle.dsr_layout.proofs.Fitting.{all_empty, not_not}
use Rattle.dsr_layout.proofs.Looking.{quiet}
use Rattle.dsr_meaning.proofs.Items.{none_of}

-- where no item gives anything, each item of the list gives nothing at some number
nothing_given : {S T : Type 0} (f : ℕ → S → List T) (n : ℕ) (xs : List S) → each_at f n xs ≡ [] → (x : S) → IsIn x xs → (k : ℕ) × (f k x ≡ [])
nothing_given f n [] e x is = absurd is
nothing_given f n (y ∷ ys) e x (inl same) = (n, ap (f n) same ∙ (both_empty (f n y) (each_at f (suc n) ys) e).0)
nothing_given f n (y ∷ ys) e x (inr later) = nothing_given f (suc n) ys (both_empty (f n y) (each_at f (suc n) ys) e).1 x later

module _ (spec : Spec) (bytes : List ℕ) (none : refusals spec bytes ≡ []) (layout : Layout) (is : layout_of spec.base bytes ≡ Some layout) where
  -- the last two kinds
  last_empty : (count_refusals spec layout ≡ []) × (instance_refusals spec layout ≡ [])
  last_empty =
      let base = spec.base in
      let size = size_of (fixed_value base bytes) base.structures in
      let counts = count_refusals spec layout ++ instance_refusals spec layout in
      let codes = code_refusals base.structures layout ++ counts in
      let nones = none_refusals layout ++ codes in
      let zeros = zero_refusals layout ++ nones in
      let views = subtype_refusals size base.sets base.pools layout ++ zeros in
      let ranges = overlap_refusals size base.head layout ++ views in
      let after_outside = (both_empty (outside_refusals layout) ranges (all_empty spec bytes none layout is)).1 in
      let after_ranges = (both_empty (overlap_refusals size base.head layout) views after_outside).1 in
      let after_views = (both_empty (subtype_refusals size base.sets base.pools layout) zeros after_ranges).1 in
      let after_zeros = (both_empty (zero_refusals layout) nones after_views).1 in
      let after_nones = (both_empty (none_refusals layout) codes after_zeros).1 in
      both_empty (count_refusals spec layout) (instance_refusals spec layout) (both_empty (code_refusals base.structures layout) counts after_nones).1

  pub few_instances : instances spec layout ≤ instance_limit spec.base.version
  few_instances =
      let few = quiet (nat_lt (instance_limit spec.base.version) (instances spec layout)) Instances last_empty.1 in
      grind (arith, nat_tests)

  module _ (c : Constraint) (conj : Conj) (l : Literal) (var : Var) (rel : ℕ) (op : Op) (measure : Measure) (in_spec : IsIn c spec.constraints) (in_constraint : IsIn conj c.conjs) (in_conj : IsIn l conj.literals) (atom : l.atom ≡ Value var rel op (Size measure)) (reaches : reaches_bound op ≡ true) where
    not_outgrown : any_of (gives_narrower layout rel (greatest_size spec layout measure)) spec.rules ≡ false
    not_outgrown =
        let nothing = nothing_given (λ k d. refused_when (constraint_outgrows spec layout d) (CountTooWide k)) 0 spec.constraints last_empty.0 c in_spec in
        let whole = quiet (constraint_outgrows spec layout c) (CountTooWide nothing.0) nothing.1 in
        let one = none_of (λ j. any_of (λ m. outgrows spec layout m.atom) j.literals) c.conjs whole conj in_constraint in
        let literal = none_of (λ m. outgrows spec layout m.atom) conj.literals one l in_conj in
        let known : outgrows spec layout (Value var rel op (Size measure)) ≡ false = subst (λ a. outgrows spec layout a ≡ false) atom literal in
        sym (ap (λ b. b && any_of (gives_narrower layout rel (greatest_size spec layout measure)) spec.rules) reaches) ∙ known

    pub count_fits : (r : Rule) (path : Path) (place : FieldPlace) → IsIn r spec.rules → given_path rel r.inc ≡ Some path → field_place layout path.field ≡ Some place → greatest_size spec layout measure < 2 ^ width_bits place.width
    count_fits r path place in_rules given found =
        let value = greatest_size spec layout measure in
        let told = none_of (gives_narrower layout rel value) spec.rules not_outgrown r in_rules in
        let known : not (fits (width_bits place.width) value) ≡ false =
        sym (ap (λ o. option_map_or (λ p. option_map_or (λ q. not (fits (width_bits q.width) value)) (field_place layout p.field) false) o false) given
        ∙ ap (λ o. option_map_or (λ q. not (fits (width_bits q.width) value)) o false) found)
        ∙ told in
        let fits_it = not_not (fits (width_bits place.width) value) known in
        grind (arith, nat_tests)
