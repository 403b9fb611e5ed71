-- What the texts of a grammar are, and where one goes over a limit.
use Rattle.std.specs.Prelude.{◌≡◌, ◌⊎◌, ℕ, suc, List, [], ◌∷◌, ◌++◌, Bool, false, nat_le}
use Rattle.dsr_tree.specs.declared.tokens.Keyword.{Keyword}
use Rattle.dsr_tree.specs.declared.tokens.Sign.{Sign}
use Rattle.dsr_tree.specs.declared.tokens.Token.{Token}
use Rattle.dsr_tree.specs.declared.tokens.Token.TheVariants as token

-- a kind of token
pub data Class : Type 0 where
  a_word : (k : Keyword) → Class
  a_mark : (s : Sign) → Class
  a_name : Class
  a_number : Class
  -- the number of a version
  a_version : Class

-- the token is of the kind
abbrev pub IsOf : Class → Token → Type 0
IsOf (a_word k) (token.Keyword j) = j ≡ k
IsOf (a_mark s) (token.Sign r) = r ≡ s
IsOf a_name (token.Name n) = Unit {0}
IsOf a_number (token.Number n) = Unit {0}
IsOf a_version (token.Number n) = (n ≡ 1) ⊎ (n ≡ 2)
IsOf _ _ = ⊥

-- how a token bears on the limits
pub data Charge : Type 0 where
  -- not at all
  free : Charge
  -- the count begins behind it
  starts : Charge
  -- it is counted, and so many may be
  counted : (limit : ℕ) → Charge
  -- it opens one construct more, where so many are open and so many may be
  opening : (depth limit : ℕ) → Charge

-- how many are counted behind the token
abbrev pub count_after : Charge → ℕ → ℕ
count_after free n = n
count_after starts n = 0
count_after (counted limit) n = suc n
count_after (opening depth limit) n = n

-- whether the token goes over its limit, where so many are counted before it
abbrev pub is_over : Charge → ℕ → Bool
is_over free n = false
is_over starts n = false
is_over (counted limit) n = nat_le limit n
is_over (opening depth limit) n = nat_le limit depth

-- a part of the grammar that holds itself, inside so many open constructs
pub data Part : Type 0 where
  an_expression : (depth : ℕ) → Part
  a_formula : (depth : ℕ) → Part
  a_unit : (depth : ℕ) → Part

-- the right side of a production: a token, nothing, one after
-- the other, one or the other, any number of times, a part
pub data Syntax : Type 0 where
  One : (charge : Charge) (class : Class) → Syntax
  Empty : Syntax
  Then : (first rest : Syntax) → Syntax
  Either : (left right : Syntax) → Syntax
  Many : (item : Syntax) → Syntax
  The : (part : Part) → Syntax

-- a token, and whether it goes over a limit
pub record Marked : Type 0 where
  pub token : Token
  pub over : Bool

-- the texts of a right side, where `rule` has the production of
-- each part, between what is counted before it and behind it
pub data Derives (rule : Part → Syntax) : Syntax → ℕ → ℕ → List Marked → Type 0 where
  one :
      (charge : Charge) (class : Class) (n : ℕ) (t : Token) → IsOf class t
      → Derives rule (One charge class) n (count_after charge n) (record { token = t; over = is_over charge n } ∷ [])
  empty : (n : ℕ) → Derives rule Empty n n []
  both :
      {a b : Syntax} {n k m : ℕ} {x y : List Marked} → Derives rule a n k x → Derives rule b k m y
      → Derives rule (Then a b) n m (x ++ y)
  left :
      {a b : Syntax} {n m : ℕ} {x : List Marked} → Derives rule a n m x
      → Derives rule (Either a b) n m x
  right :
      {a b : Syntax} {n m : ℕ} {x : List Marked} → Derives rule b n m x
      → Derives rule (Either a b) n m x
  no_more : {a : Syntax} (n : ℕ) → Derives rule (Many a) n n []
  more :
      {a : Syntax} {n k m : ℕ} {x y : List Marked} → Derives rule a n k x
      → Derives rule (Many a) k m y → Derives rule (Many a) n m (x ++ y)
  part :
      {p : Part} {n m : ℕ} {x : List Marked} → Derives rule (rule p) n m x
      → Derives rule (The p) n m x
