-- What an expression says, apart from where its parts lie in memory.
use Rattle.std.specs.Prelude.{◌≡◌, refl, ℕ, zero, suc, ◌++◌, List, [], ◌∷◌, Bool, true, false, ◌&&◌, nat_eq}
use Rattle.std.proofs.Common.{◌∙◌, ap, sym}
use Rattle.std.specs.Bool.{Decides}
use Rattle.std.specs.Cmp.{IsEquivalence, decided, unsigned_Decides, first_so, second_so}
use mathlib.Core.Bool.{true≢false}
use Rattle.std.specs.Coded.{Coded, code_by, coded×, coded_ℕ, coded_list}
use Rattle.dsr_ir.specs.declared.expressions.ExprNode.{ExprNode, Num, Fixed, Sum', Less', Times', Over'}

-- an expression
pub data ExprShape : Type 0 where
  NumOf : (value : ℕ) → ExprShape
  FixedOf : (field : ℕ) → ExprShape
  SumOf : (left right : ExprShape) → ExprShape
  LessOf : (left right : ExprShape) → ExprShape
  TimesOf : (left right : ExprShape) → ExprShape
  OverOf : (left right : ExprShape) → ExprShape

-- what an expression's node says
abbrev pub expr_shape : ExprNode → ExprShape
expr_shape (Num value) = NumOf value
expr_shape (Fixed field) = FixedOf field
expr_shape (Sum' p left q right) = SumOf (expr_shape left) (expr_shape right)
expr_shape (Less' p left q right) = LessOf (expr_shape left) (expr_shape right)
expr_shape (Times' p left q right) = TimesOf (expr_shape left) (expr_shape right)
expr_shape (Over' p left q right) = OverOf (expr_shape left) (expr_shape right)

-- ---- the postfix form, by which an expression is stored: two sides stand before their operation

-- 0 and a number, 1 and a field, or an operation from 2 on
abbrev pub postfix : ExprShape → List (ℕ × ℕ)
postfix (NumOf n) = (0, n) ∷ []
postfix (FixedOf k) = (1, k) ∷ []
postfix (SumOf a b) = postfix a ++ (postfix b ++ (2, 0) ∷ [])
postfix (LessOf a b) = postfix a ++ (postfix b ++ (3, 0) ∷ [])
postfix (TimesOf a b) = postfix a ++ (postfix b ++ (4, 0) ∷ [])
postfix (OverOf a b) = postfix a ++ (postfix b ++ (5, 0) ∷ [])

-- the operation on the two last expressions, the last one being its right side
abbrev pub combined : (ExprShape → ExprShape → ExprShape) → List ExprShape → List ExprShape
combined operation (b ∷ a ∷ rest) = operation a b ∷ rest
combined operation other = other

abbrev pub taken : ℕ → ℕ → List ExprShape → List ExprShape
taken zero n stack = NumOf n ∷ stack
taken (suc zero) n stack = FixedOf n ∷ stack
taken (suc (suc zero)) n stack = combined SumOf stack
taken (suc (suc (suc zero))) n stack = combined LessOf stack
taken (suc (suc (suc (suc zero)))) n stack = combined TimesOf stack
taken (suc (suc (suc (suc (suc k))))) n stack = combined OverOf stack

abbrev pub run : List (ℕ × ℕ) → List ExprShape → List ExprShape
run [] stack = stack
run (part ∷ rest) stack = run rest (taken part.0 part.1 stack)

abbrev pub first : List ExprShape → ExprShape
first [] = NumOf 0
first (s ∷ rest) = s

abbrev pub read_back : List (ℕ × ℕ) → ExprShape
read_back parts = first (run parts [])

run_append :
    (xs ys : List (ℕ × ℕ)) (stack : List ExprShape) → run (xs ++ ys) stack ≡ run ys (run xs stack)
run_append [] ys stack = refl
run_append (x ∷ xs) ys stack = run_append xs ys (taken x.0 x.1 stack)

read_both :
    (a b : ExprShape) (last : List (ℕ × ℕ)) (stack : List ExprShape)
    → run (postfix a) stack ≡ a ∷ stack
    → run (postfix b) (a ∷ stack) ≡ b ∷ a ∷ stack
    → run (postfix a ++ (postfix b ++ last)) stack ≡ run last (b ∷ a ∷ stack)
read_both a b last stack left right =
    run_append (postfix a) (postfix b ++ last) stack
    ∙ (ap (run (postfix b ++ last)) left
    ∙ (run_append (postfix b) last (a ∷ stack)
    ∙ ap (run last) right))

read : (s : ExprShape) (stack : List ExprShape) → run (postfix s) stack ≡ s ∷ stack
read (NumOf n) stack = refl
read (FixedOf k) stack = refl
read (SumOf a b) stack = read_both a b ((2, 0) ∷ []) stack (read a stack) (read b (a ∷ stack))
read (LessOf a b) stack = read_both a b ((3, 0) ∷ []) stack (read a stack) (read b (a ∷ stack))
read (TimesOf a b) stack = read_both a b ((4, 0) ∷ []) stack (read a stack) (read b (a ∷ stack))
read (OverOf a b) stack = read_both a b ((5, 0) ∷ []) stack (read a stack) (read b (a ∷ stack))

pub back : (s : ExprShape) → read_back (postfix s) ≡ s
back s = ap first (read s [])

abbrev pub shape_code : Coded ExprShape
shape_code = code_by (List (ℕ × ℕ)) (coded_list (coded× coded_ℕ coded_ℕ)) postfix read_back back

-- ---- equality

-- whether two expressions say the same
abbrev pub is_same : ExprShape → ExprShape → Bool
is_same (NumOf m) (NumOf n) = nat_eq m n
is_same (FixedOf m) (FixedOf n) = nat_eq m n
is_same (SumOf a b) (SumOf c d) = is_same a c && is_same b d
is_same (LessOf a b) (LessOf c d) = is_same a c && is_same b d
is_same (TimesOf a b) (TimesOf c d) = is_same a c && is_same b d
is_same (OverOf a b) (OverOf c d) = is_same a c && is_same b d
is_same _ _ = false

both :
    (F : ExprShape → ExprShape → ExprShape) (p q : Bool) (a b c d : ExprShape) → (p ≡ true → a ≡ c)
    → (q ≡ true → b ≡ d) → (p && q) ≡ true → F a b ≡ F c d
both F p q a b c d f g e =
    let left = f (first_so p q e) in
    let right = g (second_so p q e) in
    λ i. F (left i) (right i)

same_so : (s t : ExprShape) → is_same s t ≡ true → s ≡ t
same_so (NumOf m) (NumOf n) e = ap NumOf ((unsigned_Decides m n).0 e)
same_so (FixedOf m) (FixedOf n) e = ap FixedOf ((unsigned_Decides m n).0 e)
same_so (SumOf a b) (SumOf c d) e =
    both SumOf (is_same a c) (is_same b d) a b c d (same_so a c) (same_so b d) e
same_so (LessOf a b) (LessOf c d) e =
    both LessOf (is_same a c) (is_same b d) a b c d (same_so a c) (same_so b d) e
same_so (TimesOf a b) (TimesOf c d) e =
    both TimesOf (is_same a c) (is_same b d) a b c d (same_so a c) (same_so b d) e
same_so (OverOf a b) (OverOf c d) e =
    both OverOf (is_same a c) (is_same b d) a b c d (same_so a c) (same_so b d) e
same_so s t e = absurd (true≢false (sym e))

itself : (s : ExprShape) → is_same s s ≡ true
itself (NumOf m) = (unsigned_Decides m m).1 refl
itself (FixedOf m) = (unsigned_Decides m m).1 refl
itself (SumOf a b) = λ i. itself a i && itself b i
itself (LessOf a b) = λ i. itself a i && itself b i
itself (TimesOf a b) = λ i. itself a i && itself b i
itself (OverOf a b) = λ i. itself a i && itself b i

pub is_same_decides : (s t : ExprShape) → Decides (is_same s t) (s ≡ t)
is_same_decides s t = (same_so s t, λ e. ap (is_same s) (sym e) ∙ itself s)

pub is_same_equiv : IsEquivalence is_same
is_same_equiv = decided is_same is_same_decides
