-- Whether a text begins so.
use Rattle.std.proofs.Common.{◌≡◌, ◌++◌, ℕ, Bool, true, false, List, Option, None, Some, MatchOption, refl, sym, subst}
use Rattle.std.specs.Borrow.{Bor}
use Rattle.std.specs.Prelude.{Decides, is_some}
use Rattle.dsr_report_read.specs.Reads.{Begins}

pub begins_by : (text front : List ℕ) (o : Option (Bor (List ℕ))) → MatchOption o ((rest : List ℕ) → text ≡ front ++ rest → ⊥) (λ rest. text ≡ front ++ rest.now)
    → (b : Bool) → b ≡ is_some o → Decides b (Begins text front)
begins_by text front None none b is = subst (λ b. Decides b (Begins text front)) (sym is) (λ t. absurd cc, λ begins. absurd (none begins.rest begins.is))
begins_by text front (Some rest) its b is = subst (λ b. Decides b (Begins text front)) (sym is) (λ t. record { rest = rest.now; is = its }, λ _. refl)

-- a test that failed
pub refused : {P : Type 0} → Decides false P → P → ⊥
refused d p = let e : false ≡ true = d.1 p in absurd cc
