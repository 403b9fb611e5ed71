-- Values that are looked for one after the other.
use Rattle.std.proofs.Common.{◌≡◌, ◌<◌, ◌+◌, inl, inr, ℕ, true, false, List, arith}
use Rattle.std.specs.Prelude.{Option, None, Some, is_some}
use Rattle.dsr_ir.specs.declared.declarations.SetDecl.{SetDecl}
use Rattle.dsr_ir.specs.declared.declarations.Structures.{Structures}
use Rattle.dsr_meaning.specs.Counting.{IsIn}
use Rattle.dsr_meaning.specs.Typed.{Descends}
use Rattle.dsr_report_read.specs.Reads.{Reads}
use Rattle.dsr_meaning.proofs.Numbers.{below_next}

-- none with a lower number has this text
abbrev pub NoneBefore : {T : Type 0} → (T → Type 0) → (T → ℕ) → (T → List ℕ) → List ℕ → ℕ → Type 0
NoneBefore Such key shown text k = (x : _) → Such x → key x < k → text ≡ shown x → ⊥

module _ {T : Type 0} (Such : T → Type 0) (key : T → ℕ) (shown : T → List ℕ) (text : List ℕ) where
  pub none_yet : NoneBefore Such key shown text 0
  none_yet x such low is = absurd (omega (arith, low))

  -- nor has the next one
  pub none_next : (k : ℕ) → NoneBefore Such key shown text k → ((x : T) → Such x → key x ≡ k → text ≡ shown x → ⊥) → NoneBefore Such key shown text (k + 1)
  none_next k before here x such low is =
      elim (below_next (key x) k low) as (λ _. ⊥) [ inl less ↦ before x such less is | inr same ↦ here x such same is ]

  pub none_left : (n : ℕ) → NoneBefore Such key shown text n → ((x : T) → Such x → key x < n) → (x : T) → Such x → text ≡ shown x → ⊥
  none_left n before low x such is = before x such (low x such) is

-- none of these sets gives the pool a structure that is this one or descends from it
abbrev pub NoneViewed : Structures → ℕ → ℕ → List SetDecl → Type 0
NoneViewed base pool structure sets =
    (set : SetDecl) → IsIn set sets → set.pool ≡ pool → Descends base.structures set.structure structure → ⊥

-- what was read for one number
module _ {T : Type 0} (Such Part : T → Type 0) (key : T → ℕ) (shown : T → List ℕ) (text : List ℕ) where
  pub not_here : (k : ℕ) (o : Option T) → Reads Part shown text o → is_some o ≡ false → NoneBefore Such key shown text k → ((x : T) → Such x → key x ≡ k → Part x) → NoneBefore Such key shown text (k + 1)
  not_here k None none e before part = none_next Such key shown text k before (λ x such same is. none x (part x such same) is)
  not_here k (Some y) its e before part = absurd cc

  pub found_here : (o : Option T) → Reads Part shown text o → is_some o ≡ true → ((x : T) → Part x → Such x) → Reads Such shown text o
  found_here None none e such = absurd cc
  found_here (Some y) its e such = (such y its.0, its.1)
