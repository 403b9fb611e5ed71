-- Laws of joining, over plain lists.
use Rattle.std.proofs.Common.{◌≡◌, List, [], ◌∷◌, ◌++◌, map, refl, ap, sym, ◌∙◌}
use Rattle.std.proofs.lemmas.List.{append_assoc, append-nil, map-append}
use Rattle.dsr_ir.specs.declared.constraints.Literal.{Literal}
use Rattle.dsr_language_theory.specs.NormalForms.{joined}

prefixed_twice : (x y : List Literal) (zs : List (List Literal)) → map (λ d. x ++ d) (map (λ d. y ++ d) zs) ≡ map (λ d. (x ++ y) ++ d) zs
prefixed_twice x y [] = refl
prefixed_twice x y (z ∷ zs) = λ i. sym (append_assoc x y z) i ∷ prefixed_twice x y zs i

pub joined_append : (l m r : List (List Literal)) → joined (l ++ m) r ≡ joined l r ++ joined m r
joined_append [] m r = refl
joined_append (x ∷ l) m r = ap (λ t. map (λ d. x ++ d) r ++ t) (joined_append l m r) ∙ sym (append_assoc (map (λ d. x ++ d) r) (joined l r) (joined m r))

joined_prefixed : (x : List Literal) (b c : List (List Literal)) → joined (map (λ d. x ++ d) b) c ≡ map (λ d. x ++ d) (joined b c)
joined_prefixed x [] c = refl
joined_prefixed x (y ∷ b) c =
    (λ i. sym (prefixed_twice x y c) i ++ joined_prefixed x b c i)
    ∙ sym (map-append (λ d. x ++ d) (map (λ d. y ++ d) c) (joined b c))

pub joined_assoc : (a b c : List (List Literal)) → joined (joined a b) c ≡ joined a (joined b c)
joined_assoc [] b c = refl
joined_assoc (x ∷ a) b c =
    joined_append (map (λ d. x ++ d) b) (joined a b) c
    ∙ (λ i. joined_prefixed x b c i ++ joined_assoc a b c i)

prefixed_nothing : (zs : List (List Literal)) → map (λ d. [] ++ d) zs ≡ zs
prefixed_nothing [] = refl
prefixed_nothing (z ∷ zs) = ap (λ t. z ∷ t) (prefixed_nothing zs)

pub joined_one : (zs : List (List Literal)) → joined ([] ∷ []) zs ≡ zs
joined_one zs = append-nil (map (λ d. [] ++ d) zs) ∙ prefixed_nothing zs

pub joined_by_one : (l : List (List Literal)) → joined l ([] ∷ []) ≡ l
joined_by_one [] = refl
joined_by_one (x ∷ l) = λ i. append-nil x i ∷ joined_by_one l i

pub joined_nothing : (l : List (List Literal)) → joined l [] ≡ []
joined_nothing [] = refl
joined_nothing (x ∷ l) = joined_nothing l
