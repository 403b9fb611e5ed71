-- Lines, one after the other.
use Rattle.std.proofs.Common.{◌≡◌, ◌<◌, ◌+◌, ◌++◌, ℕ, suc, List, [], ◌∷◌, length, take, get_or, sym, ap, ◌∙◌, arith, append_assoc, append-nil}
use Rattle.std.proofs.lemmas.Grind.{flat_map-append}
use Rattle.std.proofs.lemmas.List.{take_more}
use Rattle.dsr_compensate.proofs.Each.{take_length}
use Rattle.dsr_meaning.specs.Lists.{each_at}
use Rattle.dsr_cert.specs.Certificates.{ended, ended_lines}

module _ {S T : Type 0} (f : ℕ → S → List T) where
  pub each_more : (n : ℕ) (xs : List S) (x : S) → each_at f n (xs ++ x ∷ []) ≡ each_at f n xs ++ f (n + length xs) x
  each_more n [] x =
      let at : n ≡ n + 0 = omega arith in
      append-nil (f n x) ∙ ap (λ k. f k x) at
  each_more n (y ∷ ys) x =
      let at : suc n + length ys ≡ n + length (y ∷ ys) = omega arith in
      ap (λ zs. f n y ++ zs) (each_more (suc n) ys x ∙ ap (λ k. each_at f (suc n) ys ++ f k x) at) ∙ sym (append_assoc (f n y) (each_at f (suc n) ys) (f (n + length (y ∷ ys)) x))

  pub each_next : (xs : List S) (i : ℕ) (x : S) → i < length xs → x ≡ get_or xs i x → each_at f 0 (take (i + 1) xs) ≡ each_at f 0 (take i xs) ++ f i x
  each_next xs i x less is =
      let e : take (i + 1) xs ≡ take i xs ++ x ∷ [] = take_more xs i x less ∙ ap (λ y. take i xs ++ y ∷ []) (sym is) in
      let many : 0 + length (take i xs) ≡ i = let long = take_length i xs (omega (arith, less)) in omega (arith, long) in
      ap (each_at f 0) e ∙ (each_more 0 (take i xs) x ∙ ap (λ k. each_at f 0 (take i xs) ++ f k x) many)

-- a text that had the lines of what came before has those of one more
pub text_more : {S : Type 0} (f : ℕ → S → List (List ℕ)) (xs : List S) (i : ℕ) (x : S) → i < length xs → x ≡ get_or xs i x
    → (start text more : List ℕ) → text ≡ start ++ ended_lines (each_at f 0 (take i xs)) → more ≡ text ++ ended_lines (f i x)
    → more ≡ start ++ ended_lines (each_at f 0 (take (i + 1) xs))
text_more f xs i x less is start text more before now =
    now ∙ (ap (λ t. t ++ ended_lines (f i x)) before ∙ (append_assoc start (ended_lines (each_at f 0 (take i xs))) (ended_lines (f i x))
    ∙ ap (λ t. start ++ t) (sym (flat_map-append ended (each_at f 0 (take i xs)) (f i x)) ∙ ap ended_lines (sym (each_next f xs i x less is)))))

-- a text to which three pieces were put, each behind what was there
pub put_thrice : (start one two three : List ℕ) (a b b' c : List ℕ) → one ≡ start ++ a → two ≡ one ++ b → b ≡ b' → three ≡ two ++ c → three ≡ start ++ (a ++ (b' ++ c))
put_thrice start one two three a b b' c first second same third =
    third ∙ (ap (λ t. t ++ c) (second ∙ (ap (λ t. t ++ b) first ∙ ap (λ x. (start ++ a) ++ x) same)) ∙ (append_assoc (start ++ a) b' c ∙ append_assoc start a (b' ++ c)))
