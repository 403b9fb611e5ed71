-- The fact of a symbol whose text is a word is read from the word.
use Rattle.std.proofs.Common.{◌≡◌, ◌<◌, ◌≤◌, ◌+◌, ◌^◌, ◌++◌, ◌∙◌, ◌%◌, ℕ, Bool, true, false, List, [], ◌∷◌, Option, None, Some, IfSome, length, drop, slice_get, inl, inr, refl, sym, ap, subst, arith, append_assoc, append-nil, pow_mono}
use Rattle.std.proofs.Math.Seq.{drop-append-add}
use Rattle.std.specs.Prelude.{MatchBool, codes}
use Rattle.dsr_answers.specs.Texts.{element_text, symbol_name}
use Rattle.dsr_command_why.specs.Facts.{fact_text, target_text}
use Rattle.dsr_command_why.specs.Named.{behind_name, member_ahead, pair_ahead, target_ahead}
use Rattle.dsr_effect_laws.proofs.Bounds.{value_fits}
use Rattle.dsr_ir.specs.declared.declarations.Rel.{Rel}
use Rattle.dsr_ir.specs.declared.declarations.SetDecl.{SetDecl}
use Rattle.dsr_ir.specs.declared.declarations.Spec.{Spec}
use Rattle.dsr_ir.specs.declared.layouts.Cell.{Cell}
use Rattle.dsr_ir.specs.declared.layouts.Layout.{Layout}
use Rattle.dsr_ir.specs.declared.rules.Inc.{Inc}
use Rattle.dsr_ir.specs.declared.rules.Inc.TheVariants.{Own, Target, Slot, OwnPair, SlotPair}
use Rattle.dsr_ir.specs.declared.rules.Path.{Path}
use Rattle.dsr_ir.specs.declared.rules.Rule.{Rule}
use Rattle.dsr_ir.specs.declared.tuples.Element.{Element}
use Rattle.dsr_ir.specs.declared.tuples.Fact.TheVariants.{Member, Pair}
use Rattle.dsr_ir.specs.declared.tuples.Instance.{Instance}
use Rattle.dsr_ir.specs.declared.tuples.Target.{Target as TargetOf}
use Rattle.dsr_ir.specs.declared.tuples.Target.TheVariants.{Elem, Num}
use Rattle.dsr_ir.specs.declared.updates.Symbol.TheVariants as symbols
use Rattle.dsr_layout.proofs.RangeOfFacts.{fact_in_range}
use Rattle.dsr_layout.specs.InRange.{IsMemberInRange, IsPairInRange, IsRecordOf, IsTargetOf}
use Rattle.dsr_lost.proofs.Listing.{count_small}
use Rattle.dsr_meaning.proofs.Firing.{found_fits, some_same}
use Rattle.dsr_meaning.specs.Cells.{IsByteWidth, IsFieldCell, value_at}
use Rattle.dsr_meaning.specs.Instances.{HasTarget, Includes, IsInstance, premise_pool, record_count}
use Rattle.dsr_meaning.specs.Legal.{IsLegalLayout}
use Rattle.dsr_meaning.specs.Models.{Chain, IsDerived, IsFact}
use Rattle.dsr_meaning.specs.Models.Chain.{begin, follow}
use Rattle.dsr_meaning.specs.Typed.{IsPoolNumber, IsTypedInc, IsTypedPath, IsTypedRel, IsTypedSet}
use Rattle.dsr_report_read.proofs.LinesBack.{element_back}
use Rattle.dsr_report_read.proofs.ReadBack.{number_back, regroup}
use Rattle.dsr_report_read.specs.Forms.{IsRecord}
use Rattle.dsr_report_read.specs.Lenient.{behind_element, element_ahead}
use Rattle.dsr_resolve.proofs.RuleReads.{path_read, rule_typed}
use Rattle.dsr_resolve.specs.Readings.{cell_at, reading_of}
use Rattle.dsr_step_theory.specs.Images.{IsImageOf}

-- ---- numbers fit 64 bits

narrow_cell : (cell : Cell) → IsFieldCell cell → cell.width ≤ 64
narrow_cell cell form = by_form cell.bytewise cell.width cell.bit form where
  by_form : (b : Bool) (width bit : ℕ) → MatchBool b (IsByteWidth width × (bit % 8 ≡ 0)) ((1 ≤ width) × (width ≤ 32)) → width ≤ 64
  by_form true width bit h = elim h.0 [
    | inl e ↦ omega (arith, e)
    | inr (inl e) ↦ omega (arith, e)
    | inr (inr (inl e)) ↦ omega (arith, e)
    | inr (inr (inr e)) ↦ omega (arith, e)
  ]
  by_form false width bit h = let low = h.1 in omega (arith, low)

module _ (spec : Spec) (layout : Layout) (bytes : List ℕ) (image : IsImageOf spec layout bytes) (legal : IsLegalLayout layout) where
  read_small : (i : Instance) (rule : Rule) (path : Path) (n : ℕ) → IsInstance spec layout i rule → IsTypedPath spec.base rule path → value_at layout bytes i.elem i.index path ≡ Some n → n < 2 ^ 64
  read_small i rule path n instance typed at =
      let its = path_read spec bytes layout image.layout_is image.typed legal i rule instance path typed in
      let cell = cell_at (reading_of layout (premise_pool spec rule) path) i.elem.slot i.index in
      let fits = value_fits bytes image.bytes cell its.there.cell.form in
      let wide : 2 ^ (reading_of layout (premise_pool spec rule) path).width ≤ 2 ^ 64 = pow_mono (narrow_cell cell its.there.cell.form) in
      let same = some_same _ n _ at its.read in
      omega (arith, fits, wide, same)

  target_small : (i : Instance) (rule : Rule) (path : Path) (n : ℕ) → IsInstance spec layout i rule → IsTypedPath spec.base rule path → (t : TargetOf) → HasTarget spec layout bytes i path t → Num n ≡ t → n < 2 ^ 64
  target_small i rule path n instance typed (Elem y) has same = absurd cc
  target_small i rule path n instance typed (Num m) has same = let equal : m ≡ n = cc in read_small i rule path n instance typed (has.read ∙ ap Some equal)

  included_small : (i : Instance) (rule : Rule) (inc : Inc) (rel : ℕ) (e : Element) (n : ℕ) → IsInstance spec layout i rule → IsTypedInc spec.base rule inc → Includes spec layout bytes i inc (Pair rel e (Num n)) → n < 2 ^ 64
  included_small i rule (Own set) rel e n instance typed is = absurd (let both : Pair rel e (Num n) ≡ Member set i.elem = is in cc)
  included_small i rule (Target set path) rel e n instance typed is = absurd (let both : Pair rel e (Num n) ≡ Member set is.0 = is.2 in cc)
  included_small i rule (Slot set pool) rel e n instance typed is = absurd (let both : Pair rel e (Num n) ≡ Member set (record { pool = pool; slot = i.index }) = is in cc)
  included_small i rule (OwnPair r path) rel e n instance typed is = target_small i rule path n instance typed.reads.typed is.0 is.1 (let both : Pair rel e (Num n) ≡ Pair r i.elem is.0 = is.2 in cc)
  included_small i rule (SlotPair r pool path) rel e n instance typed is = target_small i rule path n instance typed.1.reads.typed is.0 is.1 (let both : Pair rel e (Num n) ≡ Pair r (record { pool = pool; slot = i.index }) is.0 = is.2 in cc)

  number_small : (rel : ℕ) (e : Element) (n : ℕ) → IsDerived spec layout bytes (Pair rel e (Num n)) → n < 2 ^ 64
  number_small rel e n derived = ends derived.0 derived.1 where
    ends : (is : List Instance) → Chain spec layout bytes is (Pair rel e (Num n)) → n < 2 ^ 64
    ends _ (begin i rule head gives) = included_small i rule rule.inc rel e n gives.is_instance (rule_typed spec bytes layout image.layout_is image.typed legal i rule gives.is_instance).inc gives.included
    ends _ (follow i rule set before premise gives) = included_small i rule rule.inc rel e n gives.is_instance (rule_typed spec bytes layout image.layout_is image.typed legal i rule gives.is_instance).inc gives.included

  -- ---- records of facts

  -- a record of a declared pool, or the head
  record_read : (pool : ℕ) (e : Element) → pool ≤ length spec.base.pools → IsRecordOf layout pool e → IsRecord spec e
  record_read pool e declared at = record {
    declared = let same = at.pool_is in omega (arith, same, declared);
    small = let low = at.slot_below in let few = count_small layout pool legal in omega (arith, low, few);
    head = λ zero. let none : pool ≡ 0 = sym at.pool_is ∙ zero in let low : e.slot < 1 = subst (λ p. e.slot < record_count layout p) none at.slot_below in omega (arith, low);
  }

  target_record : (pool : Option ℕ) (y : Element) → IfSome pool (IsPoolNumber spec.base) → IsTargetOf layout pool (Elem y) → IsRecord spec y
  target_record None y declared at = absurd at
  target_record (Some pool) y declared at = record_read pool y declared.to at

  -- ---- members

  name_off : (name rest : List ℕ) (n : ℕ) → drop (length name + n) (name ++ rest) ≡ drop n rest
  name_off name rest n = drop-append-add name rest n

  pub member_read :
      (number : ℕ) (set : SetDecl) (e : Element) (word : List ℕ) → slice_get spec.base.sets number ≡ Some set
      → IsFact spec layout bytes (Member number e) → fact_text spec (Member number e) ≡ word → member_ahead spec number set word ≡ e
  member_read number set e word at fact text =
      let range : IsMemberInRange spec layout number e = fact_in_range spec bytes layout image.layout_is.numbers image.typed (Member number e) fact in
      let decls : range.decl ≡ set = some_same _ range.decl set range.declared at in
      let here : IsRecordOf layout set.pool e = subst (λ (d : SetDecl). IsRecordOf layout d.pool e) decls range.member in
      let typed : IsTypedSet spec.base set = found_fits (IsTypedSet spec.base) spec.base.sets number set image.typed.base.sets at in
      let its = record_read set.pool e typed.pool.to here in
      let name = symbol_name spec (symbols.Set number) in
      let rest : drop (length name + 1) word ≡ element_text spec e ++ [] =
      ap (drop (length name + 1)) (sym text ∙ append_assoc name (codes ":") (element_text spec e)) ∙ (name_off name (codes ":" ++ element_text spec e) 1 ∙ sym (append-nil (element_text spec e))) in
      let read = element_back spec e [] its in
      ap (element_ahead spec set.pool) rest ∙ (ap (λ p. element_ahead spec p (element_text spec e ++ [])) (sym here.pool_is) ∙ read.value)

  -- ---- pairs

  target_read : (pool : Option ℕ) (target : TargetOf) → IfSome pool (IsPoolNumber spec.base) → IsTargetOf layout pool target → ((n : ℕ) → target ≡ Num n → n < 2 ^ 64) → target_ahead spec pool (target_text spec target ++ codes ">") ≡ target
  target_read None (Elem y) declared at small = absurd at
  target_read None (Num n) declared at small = ap Num (number_back n (codes ">") (small n refl) refl).value
  target_read (Some pool) (Num n) declared at small = absurd at
  target_read (Some pool) (Elem y) declared at small =
      ap Elem (ap (λ p. element_ahead spec p (element_text spec y ++ codes ">")) (sym at.pool_is) ∙ (element_back spec y (codes ">") (target_record (Some pool) y declared at)).value)

  pub pair_read :
      (number : ℕ) (rel : Rel) (e : Element) (target : TargetOf) (word : List ℕ) → slice_get spec.base.rels number ≡ Some rel
      → IsFact spec layout bytes (Pair number e target) → fact_text spec (Pair number e target) ≡ word → pair_ahead spec number rel word ≡ Pair number e target
  pair_read number rel e target word at fact text =
      let range : IsPairInRange spec layout number e target = fact_in_range spec bytes layout image.layout_is.numbers image.typed (Pair number e target) fact in
      let decls : range.decl ≡ rel = some_same _ range.decl rel range.declared at in
      let here : IsRecordOf layout rel.source e = subst (λ (d : Rel). IsRecordOf layout d.source e) decls range.source in
      let there : IsTargetOf layout rel.target target = subst (λ (d : Rel). IsTargetOf layout d.target target) decls range.target_is in
      let typed : IsTypedRel spec.base rel = found_fits (IsTypedRel spec.base) spec.base.rels number rel image.typed.base.rels at in
      let its = record_read rel.source e typed.source here in
      let name = symbol_name spec (symbols.Rel number) in
      let last = target_text spec target ++ codes ">" in
      let front : behind_name spec number word ≡ element_text spec e ++ (codes "," ++ last) =
      ap (drop (length name + 2)) (sym text ∙ regroup name (codes ":<" ∷ element_text spec e ∷ codes "," ∷ target_text spec target ∷ codes ">" ∷ [])) ∙ name_off name (codes ":<" ++ (element_text spec e ++ (codes "," ++ last))) 2 in
      let read = element_back spec e (codes "," ++ last) its in
      let one : element_ahead spec rel.source (behind_name spec number word) ≡ e =
      ap (element_ahead spec rel.source) front ∙ (ap (λ p. element_ahead spec p (element_text spec e ++ (codes "," ++ last))) (sym here.pool_is) ∙ read.value) in
      let two : drop 1 (behind_element spec rel.source (behind_name spec number word)) ≡ last =
      ap (λ t. drop 1 (behind_element spec rel.source t)) front ∙ (ap (λ p. drop 1 (behind_element spec p (element_text spec e ++ (codes "," ++ last)))) (sym here.pool_is) ∙ ap (drop 1) read.behind) in
      let small : (n : ℕ) → target ≡ Num n → n < 2 ^ 64 = λ n is. number_small number e n (subst (λ t. IsDerived spec layout bytes (Pair number e t)) is fact) in
      let three : target_ahead spec rel.target last ≡ target = target_read rel.target target typed.target there small in
      λ k. Pair number (one k) ((ap (target_ahead spec rel.target) two ∙ three) k)
