use Rattle.std.proofs.Common.{◌≡◌, ◌++◌, ◌∷◌, [], ◌<◌, ◌↔◌, ℕ, List, Option, Some, None, IsSome, length, drop, refl, sym, ◌∙◌, append-nil, arith}
use Rattle.std.specs.Option.{option_to_list}
use Rattle.dsr_words.proofs.given.behind_name.Goals as goal

-- Of a list that its first item was taken from, if it had one, the rest is left.
rest : {X : Type 0} (first : Option X) (all left : List X) (count : ℕ) → count ≡ length all
    → all ≡ option_to_list first ++ left → (IsSome first ↔ (0 < count)) → left ≡ drop 1 all
rest (Some x) all left count counted parts taken = rw parts refl
rest None [] left count counted parts taken = sym parts
rest None (x ∷ xs) left count counted parts taken = let clash = taken.1 (omega arith) in absurd cc

-- A list that no item could be taken from has none.
ended : {X : Type 0} (first : Option X) (all : List X) (count : ℕ) → first ≡ None → count ≡ length all
    → (IsSome first ↔ (0 < count)) → all ≡ []
ended (Some x) all count is counted taken = absurd cc
ended None [] count is counted taken = refl
ended None (x ∷ xs) count is counted taken = let clash = taken.1 (omega arith) in absurd cc

pub loop-word-init : goal.loop-word-init
loop-word-init c =
    let left = rest _ _ _ _ c.args.given.rest.ok.0 c.next-name.ensures.items c.next-name.ensures.variant in
    rw c.new-words.ensures.items left

pub returns : goal.returns
returns c =
    let none = ended _ _ _ c.in_default.is c.loop-word.given.rest.ok.0 c.next.ensures.variant in
    sym (append-nil c.loop-word.words.items) ∙ rw none at c.loop-word.invariant
