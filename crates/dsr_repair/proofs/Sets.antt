-- Writes that are made one after the other, with what they set.
use Rattle.std.proofs.Common.{◌≡◌, ◌<◌, ◌≤◌, ◌+◌, ℕ, List, [], ◌∷◌, ◌++◌, Some, MatchOption, length, take, get_or, refl, sym, subst, arith}
use Rattle.std.proofs.lemmas.List.{take_more}
use Rattle.dsr_ir.specs.declared.declarations.Spec.{Spec}
use Rattle.dsr_ir.specs.declared.layouts.Layout.{Layout}
use Rattle.dsr_ir.specs.declared.updates.Update.{Update}
use Rattle.dsr_ir.specs.declared.updates.Write.{Write}
use Rattle.dsr_ir.specs.declared.layouts.Cell.{Cell}
use Rattle.dsr_meaning.specs.Cells.{cell_value}
use Rattle.dsr_repair_theory.specs.Entries.{AreSet, IsEntryOf, changes}
use Rattle.dsr_repair_theory.specs.Entries.AreSet.{done, made, skipped}
use Rattle.dsr_repair_theory.specs.declared.entries.ByteChange.{ByteChange}
use Rattle.dsr_repair_theory.specs.declared.entries.CellSet.{CellSet}
use Rattle.dsr_step_theory.specs.Puts.{ArePut, IsPut}
use Rattle.dsr_step_theory.specs.Resets.{reset_puts}
use Rattle.dsr_step_theory.specs.Steps.{IsWanted, written_cell, written_index, written_number}
use Rattle.dsr_step_theory.specs.declared.steps.Step.{Step}

module _ (spec : Spec) (layout : Layout) (step : Step) where
  -- writes in two parts
  pub sets_joined :
      {first rest : List Write} {old middle new : List ℕ} {sets more : List CellSet}
      → AreSet spec layout step first old middle sets → AreSet spec layout step rest middle new more
      → AreSet spec layout step (first ++ rest) old new (sets ++ more)
  sets_joined done last = last
  sets_joined (skipped write cell number at picked wanted rest) last =
      skipped write cell number at picked wanted (sets_joined rest last)
  sets_joined (made write cell number at picked unwanted put rest) last =
      made write cell number at picked unwanted put (sets_joined rest last)

  -- one write more
  pub sets_next :
      (writes : List Write) (n : ℕ) (d : Write) {old middle new : List ℕ} {sets more : List CellSet}
      → n < length writes
      → AreSet spec layout step (take n writes) old middle sets
      → AreSet spec layout step (get_or writes n d ∷ []) middle new more
      → AreSet spec layout step (take (n + 1) writes) old new (sets ++ more)
  sets_next writes n d {old} {middle} {new} {sets} {more} below first last =
      subst (λ ws. AreSet spec layout step ws old new (sets ++ more))
      (sym (take_more writes n d below)) (sets_joined first last)

  -- no write sets more than one value
  pub sets_few :
      {writes : List Write} {old new : List ℕ} {sets : List CellSet}
      → AreSet spec layout step writes old new sets → length sets ≤ length writes
  sets_few done = omega arith
  sets_few (skipped write cell number at picked wanted rest) = omega (arith, sets_few rest)
  sets_few (made write cell number at picked unwanted put rest) = omega (arith, sets_few rest)

-- one write that isn't made
pub set_skipped :
    (spec : Spec) (layout : Layout) (step : Step) (write : Write) (cell : Cell) (number value : ℕ) (old : List ℕ)
    → written_cell layout step write ≡ Some cell → written_number spec layout step write ≡ Some number
    → value ≡ cell_value old cell → IsWanted spec layout write number value
    → AreSet spec layout step (write ∷ []) old old []
set_skipped spec layout step write cell number value old cell_is number_is read wanted =
    skipped write cell number cell_is number_is (subst (IsWanted spec layout write number) read wanted) done

-- one that is
pub set_made :
    (spec : Spec) (layout : Layout) (step : Step) (write : Write) (cell : Cell) (number value index : ℕ) (old new : List ℕ)
    → written_cell layout step write ≡ Some cell → written_number spec layout step write ≡ Some number
    → value ≡ cell_value old cell → index ≡ written_index step write
    → (IsWanted spec layout write number value → ⊥) → IsPut cell number old new
    → AreSet spec layout step (write ∷ []) old new
    (record { elem = step.elem; path = write.path; index = index; old = value; new = number } ∷ [])
set_made spec layout step write cell number value index old new cell_is number_is read index_is unwanted put =
    subst (λ k. AreSet spec layout step (write ∷ []) old new (record { elem = step.elem; path = write.path; index = k; old = value; new = number } ∷ [])) (sym index_is)
    (subst (λ v. AreSet spec layout step (write ∷ []) old new (record { elem = step.elem; path = write.path; index = written_index step write; old = v; new = number } ∷ [])) (sym read)
    (made write cell number cell_is number_is (λ wanted. unwanted (subst (IsWanted spec layout write number) (sym read) wanted)) put done))

-- what is told of the step that was made
pub entry_made :
    (spec : Spec) (layout : Layout) (step : Step) (update : Update) (bytes claimed between new : List ℕ)
    (writes : List Write) (sets told : List CellSet) (differing : List ByteChange)
    → claimed ≡ bytes → writes ≡ update.writes
    → MatchOption step.fresh (between ≡ claimed) (λ e. ArePut (reset_puts spec.base layout e) claimed between)
    → AreSet spec layout step writes between new sets → told ≡ sets
    → (MatchOption step.fresh (between ≡ bytes) (λ e. ArePut (reset_puts spec.base layout e) bytes between)
    → AreSet spec layout step update.writes between new sets → differing ≡ changes bytes new)
    → IsEntryOf spec layout step update bytes new (record {
      constraint = step.constraint;
      binding = step.binding;
      conj = step.conj;
      literal = step.literal;
      rule = step.rule;
      reset = step.fresh;
      sets = told;
      bytes = differing;
    })
entry_made spec layout step update bytes claimed between new writes sets told differing claimed_is writes_are reset set told_is differ =
    let fresh = subst (λ old. MatchOption step.fresh (between ≡ old) (λ e. ArePut (reset_puts spec.base layout e) old between)) claimed_is reset in
    let made = subst (λ ws. AreSet spec layout step ws between new sets) writes_are set in
    record {
      constraint = refl;
      binding = refl;
      conj = refl;
      literal = refl;
      rule = refl;
      fresh = refl;
      between = between;
      reset = fresh;
      sets = subst (λ ss. AreSet spec layout step update.writes between new ss) (sym told_is) made;
      bytes = differ fresh made;
    }
