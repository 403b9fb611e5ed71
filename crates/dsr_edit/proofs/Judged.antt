-- Writes that are judged one after the other.
use Rattle.std.proofs.Common.{◌≡◌, ◌<◌, ◌≤◌, ◌+◌, ◌∙◌, ℕ, zero, suc, List, [], ◌∷◌, ◌++◌, length, take, Some, slice_get, refl, sym, subst, arith}
use Rattle.std.proofs.lemmas.Option.{same_Some}
use Rattle.dsr_edit.proofs.Taking.{take_whole}
use Rattle.dsr_edit.specs.Edits.{IsFirstUnwritable, MayWrite, MayWriteSome}
use Rattle.dsr_edit.specs.Updates.{AreReady, IsReady, writes_of}
use Rattle.dsr_edit.specs.declared.groups.CellWrite.{CellWrite}
use Rattle.dsr_edit.specs.declared.updates.CellPut.{CellPut}
use Rattle.dsr_ir.specs.declared.declarations.Spec.{Spec}
use Rattle.dsr_ir.specs.declared.layouts.Cell.{Cell}
use Rattle.dsr_ir.specs.declared.layouts.Layout.{Layout}

none_taken : {A : Type 0} (xs : List A) → take 0 xs ≡ []
none_taken [] = refl
none_taken (x ∷ xs) = refl

put_next : (group : List CellWrite) (place : ℕ) (puts : List CellPut) (put : CellPut) → slice_get group place ≡ Some put.write → writes_of puts ≡ take place group → writes_of (puts ++ put ∷ []) ≡ take (suc place) group
put_next [] place puts put is so_far = absurd cc
put_next (w ∷ group) zero [] put is so_far =
    let same : put.write ≡ w = sym (same_Some w put.write is) in
    let none = none_taken group in
    cc
put_next (w ∷ group) zero (p ∷ puts) put is so_far = absurd cc
put_next (w ∷ group) (suc place) [] put is so_far = absurd cc
put_next (w ∷ group) (suc place) (p ∷ puts) put is so_far =
    let rest : writes_of puts ≡ take place group = cc in
    let first : p.write ≡ w = cc in
    let more = put_next group place puts put is rest in
    cc

module _ (spec : Spec) (layout : Layout) where
  ready_next : (puts : List CellPut) (put : CellPut) → AreReady spec layout puts → IsReady spec layout put → AreReady spec layout (puts ++ put ∷ [])
  ready_next [] put are is = (is, tt)
  ready_next (p ∷ puts) put are is = (are.0, ready_next puts put are.1 is)

  -- what is put so far: the writes of a group before the place, each of which can be made
  pub record ArePutTo (group : List CellWrite) (place : ℕ) (puts : List CellPut) : Type 0 where
    pub writes : writes_of puts ≡ take place group
    pub ready : AreReady spec layout puts

  pub puts_begin : (group : List CellWrite) → ArePutTo group 0 []
  puts_begin group = record { writes = sym (none_taken group); ready = tt }

  pub puts_more : (group : List CellWrite) (place : ℕ) (puts : List CellPut) (put : CellPut) → slice_get group place ≡ Some put.write → IsReady spec layout put → ArePutTo group place puts → ArePutTo group (place + 1) (puts ++ put ∷ [])
  puts_more group place puts put is ready are =
      let next : suc place ≡ place + 1 = omega arith in
      record {
        writes = subst (λ n. writes_of (puts ++ put ∷ []) ≡ take n group) next (put_next group place puts put is are.writes);
        ready = ready_next puts put are.ready ready;
      }

  pub puts_end : (group : List CellWrite) (place : ℕ) (puts : List CellPut) → length group ≤ place → ArePutTo group place puts → writes_of puts ≡ group
  puts_end group place puts all are = are.writes ∙ take_whole group place all

  judged : (group : List CellWrite) (place k : ℕ) (puts : List CellPut) (write : CellWrite) → writes_of puts ≡ take place group → AreReady spec layout puts → k < place → slice_get group k ≡ Some write → MayWriteSome spec layout write
  judged [] place k puts write so_far are below is = absurd cc
  judged (w ∷ group) zero k puts write so_far are below is = absurd (omega (arith, below))
  judged (w ∷ group) (suc place) k [] write so_far are below is = absurd cc
  judged (w ∷ group) (suc place) zero (p ∷ puts) write so_far are below is =
      let first : p.write ≡ w = cc in
      subst (MayWriteSome spec layout) (first ∙ same_Some w write is) (p.cell, are.0.may)
  judged (w ∷ group) (suc place) (suc k) (p ∷ puts) write so_far are below is =
      let rest : writes_of puts ≡ take place group = cc in
      judged group place k puts write rest are.1 (omega (arith, below)) is

  pub first_unwritable : (group : List CellWrite) (place : ℕ) (puts : List CellPut) (write : CellWrite) → slice_get group place ≡ Some write → ((cell : Cell) → MayWrite spec layout write cell → ⊥) → ArePutTo group place puts → IsFirstUnwritable spec layout group place
  first_unwritable group place puts write is none are = record {
    write = write;
    write_is = is;
    unwritable = λ some. none some.0 some.1;
    before = λ k other below there. judged group place k puts other are.writes are.ready below there;
  }
