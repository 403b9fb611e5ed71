-- What is put, written and set leaves one list of bytes, and one entry tells a step.
use Rattle.std.proofs.Common.{◌≡◌, ◌+◌, ℕ, zero, suc, List, [], ◌∷◌, ◌++◌, All, Option, None, Some, MatchOption, option_map, slice_get, inl, refl, sym, subst, ◌∙◌, arith, ◌*◌}
use Rattle.std.proofs.lemmas.List.Elements.{All-head, All-tail}
use Rattle.std.proofs.lemmas.Option.{same_Some}
use Rattle.dsr_resolve.proofs.PlacesOfFields.{mapped_before}
use Rattle.dsr_ir.specs.Layouts.{field_place}
use Rattle.dsr_ir.specs.declared.declarations.FieldRef.{FieldRef}
use Rattle.dsr_ir.specs.declared.declarations.Spec.{Spec}
use Rattle.dsr_ir.specs.declared.layouts.Cell.{Cell}
use Rattle.dsr_ir.specs.declared.layouts.Layout.{Layout}
use Rattle.dsr_ir.specs.declared.tuples.Element.{Element}
use Rattle.dsr_ir.specs.declared.updates.Update.{Update}
use Rattle.dsr_ir.specs.declared.updates.Write.{Write}
use Rattle.dsr_layout.proofs.HeldCells.{cell_form}
use Rattle.dsr_meaning.specs.Cells.{IsFieldCell, cell_of, cell_value, is_bytewise, placed_cell, record_start, width_bits}
use Rattle.dsr_meaning.specs.Legal.{IsLegalLayout}
use Rattle.dsr_repair_theory.specs.Entries.{AreSet, IsEntryOf, changes, set_by}
use Rattle.dsr_repair_theory.specs.Entries.AreSet.{done as set_none, made as set_one, skipped as left_out}
use Rattle.dsr_repair_theory.specs.declared.entries.CellSet.{CellSet}
use Rattle.dsr_repair_theory.specs.declared.entries.Entry.{Entry}
use Rattle.dsr_step_theory.specs.Puts.{ArePut, IsPut}
use Rattle.dsr_step_theory.specs.Puts.ArePut.{done, put}
use Rattle.dsr_step_theory.specs.Resets.{reset_puts}
use Rattle.dsr_step_theory.specs.Steps.{AreWritten, IsStepped, IsWanted, written_cell, written_index}
use Rattle.dsr_step_theory.specs.Steps.AreWritten.{done as written_none, made, skipped}
use Rattle.dsr_step_theory.specs.declared.steps.Step.{Step}
use Rattle.dsr_repair_laws.proofs.EachPut.{AreEach, Put, reset_each}
use Rattle.dsr_repair_laws.proofs.PutOnce.{put_once}

-- ---- what a reset puts goes into cells of fields

-- each value is put into such a cell
abbrev pub AreFormed : List Put → Type 0
AreFormed = AreEach (λ (p : Put). IsFieldCell p.0)

pub all_formed : (puts : List (Cell × ℕ)) → All (λ p. IsFieldCell p.0) puts → AreFormed puts
all_formed [] all = tt
all_formed (p ∷ puts) all = (All-head (λ p. IsFieldCell p.0) p puts all, all_formed puts (All-tail (λ p. IsFieldCell p.0) p puts all))

-- each cell of a legal layout is one
pub is_formed : (layout : Layout) (e : Element) (field : FieldRef) (index : ℕ) (cell : Cell) → IsLegalLayout layout → cell_of layout e field index ≡ Some cell → IsFieldCell cell
is_formed layout e field index cell legal is =
    let from = mapped_before (placed_cell layout.order (record_start layout e) index) (field_place layout field) cell is in
    subst IsFieldCell from.1.1
    (cell_form layout field from.0 (record_start layout e) index (width_bits from.0.width) (is_bytewise from.0.width) layout.order legal from.1.0 refl refl)

reset_formed : (spec : Spec) (layout : Layout) (e : Element) → IsLegalLayout layout → AreFormed (reset_puts spec.base layout e)
reset_formed spec layout e legal =
    reset_each (λ (p : Put). IsFieldCell p.0) spec layout e
    (λ cell value is. is_formed layout e is.place is.index cell legal is.cell_is)
    (λ n is byte from before. (inl refl, omega arith))

-- ---- values in a row

pub puts_once : (puts : List (Cell × ℕ)) (old a b : List ℕ) → AreFormed puts → ArePut puts old a → ArePut puts old b → a ≡ b
puts_once [] old a b formed done done = refl
puts_once (p ∷ puts) old a b formed (put {middle = m} cell value one rest) (put {middle = n} cell' value' two more) =
    let same : m ≡ n = put_once cell value old m n formed.0 one two in
    puts_once puts n a b formed.1 (subst (λ x. ArePut puts x a) same rest) more

module _ (spec : Spec) (layout : Layout) (step : Step) (legal : IsLegalLayout layout) where
  -- what is wanted is so of one cell and number
  alike :
      (write : Write) (c d : Cell) (n k : ℕ) (old : List ℕ) → Some c ≡ Some d → Some n ≡ Some k
      → IsWanted spec layout write n (cell_value old c) → IsWanted spec layout write k (cell_value old d)
  alike write c d n k old cells numbers wanted =
      subst (λ x. IsWanted spec layout write k (cell_value old x)) (same_Some c d cells)
      (subst (λ x. IsWanted spec layout write x (cell_value old c)) (same_Some n k numbers) wanted)

  -- one write makes one list
  write_once :
      (write : Write) (c d : Cell) (n k : ℕ) (old a b : List ℕ) → written_cell layout step write ≡ Some c → Some c ≡ Some d
      → Some n ≡ Some k → IsPut c n old a → IsPut d k old b → a ≡ b
  write_once write c d n k old a b at cells numbers one two =
      put_once c n old a b (is_formed layout step.elem write.path.field (written_index step write) c legal at) one
      (subst (λ x. IsPut x n old b) (sym (same_Some c d cells)) (subst (λ x. IsPut d x old b) (sym (same_Some n k numbers)) two))

  writes_once : (writes : List Write) (old a b : List ℕ) → AreWritten spec layout step writes old a → AreWritten spec layout step writes old b → a ≡ b
  writes_once [] old a b written_none written_none = refl
  writes_once (w ∷ writes) old a b (skipped write c n at picked wanted rest) (skipped v d k at' picked' wanted' more) =
      writes_once writes old a b rest more
  writes_once (w ∷ writes) old a b (skipped write c n at picked wanted rest) (made v d k at' picked' unwanted one more) =
      absurd (unwanted (alike write c d n k old (sym at ∙ at') (sym picked ∙ picked') wanted))
  writes_once (w ∷ writes) old a b (made write c n at picked unwanted one rest) (skipped v d k at' picked' wanted more) =
      absurd (unwanted (alike write d c k n old (sym at' ∙ at) (sym picked' ∙ picked) wanted))
  writes_once (w ∷ writes) old a b (made {middle = m} write c n at picked unwanted one rest) (made {middle = l} v d k at' picked' unwanted' two more) =
      let middle = write_once write c d n k old m l at (sym at ∙ at') (sym picked ∙ picked') one two in
      writes_once writes l a b (subst (λ x. AreWritten spec layout step writes x a) middle rest) more

  sets_once :
      (writes : List Write) (old a b : List ℕ) (sets others : List CellSet) → AreSet spec layout step writes old a sets
      → AreSet spec layout step writes old b others → (a ≡ b) × (sets ≡ others)
  sets_once [] old a b sets others set_none set_none = (refl, refl)
  sets_once (w ∷ writes) old a b sets others (left_out write c n at picked wanted rest) (left_out v d k at' picked' wanted' more) =
      sets_once writes old a b sets others rest more
  sets_once (w ∷ writes) old a b sets others (left_out write c n at picked wanted rest) (set_one v d k at' picked' unwanted one more) =
      absurd (unwanted (alike write c d n k old (sym at ∙ at') (sym picked ∙ picked') wanted))
  sets_once (w ∷ writes) old a b sets others (set_one write c n at picked unwanted one rest) (left_out v d k at' picked' wanted more) =
      absurd (unwanted (alike write d c k n old (sym at' ∙ at) (sym picked' ∙ picked) wanted))
  sets_once (w ∷ writes) old a b _ _ (set_one {middle = m} {sets = sets} write c n at picked unwanted one rest) (set_one {middle = l} {sets = others} v d k at' picked' unwanted' two more) =
      let middle = write_once write c d n k old m l at (sym at ∙ at') (sym picked ∙ picked') one two in
      let later = sets_once writes l a b sets others (subst (λ x. AreSet spec layout step writes x a sets) middle rest) more in
      let cell = same_Some c d (sym at ∙ at') in
      let number = same_Some n k (sym picked ∙ picked') in
      (later.0, λ i. set_by step write (cell i) (number i) old ∷ later.1 i)

  reset_once :
      (fresh : Option Element) (old a b : List ℕ) → MatchOption fresh (a ≡ old) (λ e. ArePut (reset_puts spec.base layout e) old a)
      → MatchOption fresh (b ≡ old) (λ e. ArePut (reset_puts spec.base layout e) old b) → a ≡ b
  reset_once None old a b one two = one ∙ sym two
  reset_once (Some e) old a b one two = puts_once (reset_puts spec.base layout e) old a b (reset_formed spec layout e legal) one two

  -- what the step leaves, and what is told of it
  pub entry_once :
      (update : Update) (old a b : List ℕ) (entry other : Entry) → IsEntryOf spec layout step update old a entry
      → IsEntryOf spec layout step update old b other → (entry ≡ other) × (a ≡ b)
  entry_once update old a b entry other one two =
      let between = reset_once step.fresh old one.between two.between one.reset two.reset in
      let sets = sets_once update.writes two.between a b entry.sets other.sets (subst (λ x. AreSet spec layout step update.writes x a entry.sets) between one.sets) two.sets in
      let bytes : entry.bytes ≡ other.bytes = one.bytes ∙ ((λ i. changes old (sets.0 i)) ∙ sym two.bytes) in (
        λ i. record {
          constraint = (one.constraint ∙ sym two.constraint) i;
          binding = (one.binding ∙ sym two.binding) i;
          conj = (one.conj ∙ sym two.conj) i;
          literal = (one.literal ∙ sym two.literal) i;
          rule = (one.rule ∙ sym two.rule) i;
          reset = (one.fresh ∙ sym two.fresh) i;
          sets = sets.1 i;
          bytes = bytes i;
        },
        sets.0,
      )

  -- what the step leaves
  pub step_once : (update : Update) (old a b : List ℕ) → IsStepped spec layout step update old a → IsStepped spec layout step update old b → a ≡ b
  step_once update old a b one two =
      let between = reset_once step.fresh old one.between two.between one.reset two.reset in
      writes_once update.writes two.between a b (subst (λ x. AreWritten spec layout step update.writes x a) between one.written) two.written
