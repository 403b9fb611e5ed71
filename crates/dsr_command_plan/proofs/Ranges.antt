-- Lists that are made of one piece for each number of a range.
use Rattle.std.proofs.Common.{◌≡◌, ◌+◌, ◌++◌, ◌∙◌, ℕ, zero, suc, List, sym, ap, arith}
use Rattle.std.specs.List.{flat_map, range_with_len}
use Rattle.std.proofs.lemmas.List.{append_assoc, append-nil}

pieces_more : {A : Type 0} (f : ℕ → List A) (a n : ℕ) → flat_map f (range_with_len a (suc n)) ≡ flat_map f (range_with_len a n) ++ f (a + n)
pieces_more f a zero =
    let here : a + 0 ≡ a = omega arith in
    append-nil (f a) ∙ ap f (sym here)
pieces_more f a (suc n) =
    let there : (a + 1) + n ≡ a + suc n = omega arith in
    ap (λ ys. f a ++ ys) (pieces_more f (a + 1) n) ∙ (sym (append_assoc (f a) (flat_map f (range_with_len (a + 1) n)) (f ((a + 1) + n))) ∙ ap (λ k. (f a ++ flat_map f (range_with_len (a + 1) n)) ++ f k) there)

-- one piece more at the end of a text
pub piece_put : {A : Type 0} (f : ℕ → List A) (n : ℕ) (first before after : List A) → before ≡ first ++ flat_map f (range_with_len 0 n) → after ≡ before ++ f n → after ≡ first ++ flat_map f (range_with_len 0 (n + 1))
piece_put f n first before after was now =
    let one : n + 1 ≡ suc n = omega arith in
    let zero_n : 0 + n ≡ n = omega arith in
    now ∙ (ap (λ b. b ++ f n) was ∙ (append_assoc first (flat_map f (range_with_len 0 n)) (f n) ∙ ap (λ ys. first ++ ys) (sym (ap (λ k. flat_map f (range_with_len 0 k)) one ∙ (pieces_more f 0 n ∙ ap (λ k. flat_map f (range_with_len 0 n) ++ f k) zero_n)))))
