-- What a result tells where it is Ok.
use Rattle.std.proofs.Common.{Result, Ok, Err, IfOk}

-- a statement on every item is one on this item
pub at_item : {A X E : Type 0} (P : A → X → Type 0) (item : A) (r : Result X E) → IfOk r (λ x. (a : A) → P a x) → IfOk r (P item)
at_item P item (Ok x) each = each item
at_item P item (Err e) each = tt
