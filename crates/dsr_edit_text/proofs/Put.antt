-- A line is printed piece by piece.
use Rattle.std.proofs.Common.{◌≡◌, ◌++◌, ◌∙◌, ℕ, List, [], ◌∷◌, Result, Ok, Err, sym, ap}
use Rattle.std.specs.Prelude.{OnOk, codes, decimal}
use Rattle.dsr_edit_text.specs.Scripts.{SetText, index_text, set_text}
use Rattle.dsr_report_read.proofs.ReadBack.{put_left, regroup}

pieces_put : (old first : List ℕ) (pieces : List (List ℕ)) → put_left old (first ∷ pieces) ≡ old ++ put_left first pieces
pieces_put old first pieces = regroup old (first ∷ pieces) ∙ ap (λ t. old ++ t) (sym (regroup first pieces))

pub set_put :
    {A E : Type 0} (r : Result A E) (set : SetText) (old word pool slot dot field index space value new : List ℕ)
    → word ≡ old ++ codes "set " → pool ≡ word ++ set.pool → slot ≡ pool ++ index_text set.slot → dot ≡ slot ++ codes "."
    → field ≡ dot ++ set.field → index ≡ field ++ index_text set.index → space ≡ index ++ codes " " → value ≡ space ++ decimal set.value
    → OnOk r (new ≡ value ++ codes "\n") → OnOk r (new ≡ old ++ set_text set)
set_put (Err _) set old word pool slot dot field index space value new a b c d e f g h put = tt
set_put (Ok _) set old word pool slot dot field index space value new a b c d e f g h put =
    let pooled = b ∙ ap (λ t. t ++ set.pool) a in
    let slotted = c ∙ ap (λ t. t ++ index_text set.slot) pooled in
    let named = e ∙ ap (λ t. t ++ set.field) (d ∙ ap (λ t. t ++ codes ".") slotted) in
    let indexed = f ∙ ap (λ t. t ++ index_text set.index) named in
    let valued = h ∙ ap (λ t. t ++ decimal set.value) (g ∙ ap (λ t. t ++ codes " ") indexed) in
    put ∙ (ap (λ t. t ++ codes "\n") valued
    ∙ pieces_put old (codes "set ") (set.pool ∷ index_text set.slot ∷ codes "." ∷ set.field ∷ index_text set.index ∷ codes " " ∷ decimal set.value ∷ codes "\n" ∷ []))
