-- The literals of lists of conjunctions, and one conjunction more.
use Rattle.std.proofs.Common.{◌≡◌, ◌<◌, ◌+◌, ℕ, List, [], ◌∷◌, ◌++◌, map, take, length, get_or, refl, ap, sym, ◌∙◌}
use Rattle.std.proofs.lemmas.List.{append-nil, map-append, take_more}
use Rattle.dsr_ir.specs.declared.constraints.Conj.{Conj}
use Rattle.dsr_ir.specs.declared.constraints.Literal.{Literal}
use Rattle.dsr_language_theory.specs.NormalForms.{joined, conj_of}
use Rattle.dsr_normal.specs.Literals.{literals_of}
use Rattle.dsr_normal.proofs.Joining.{joined_append}

-- conjunctions are made of their literals alone
pub restored : (conjs : List Conj) → conjs ≡ map conj_of (literals_of conjs)
restored [] = refl
restored (conj ∷ conjs) = ap (λ t. conj ∷ t) (restored conjs)

pub literals_append : (left right : List Conj) → literals_of (left ++ right) ≡ literals_of left ++ literals_of right
literals_append left right = map-append (λ (conj : Conj). conj.literals) left right

literals_taken : (conjs : List Conj) (i : ℕ) (conj : Conj) → i < length conjs → conj ≡ get_or conjs i conj → literals_of (take (i + 1) conjs) ≡ literals_of (take i conjs) ++ (conj.literals ∷ [])
literals_taken conjs i conj lt is =
    ap literals_of (take_more conjs i conj lt)
    ∙ literals_append (take i conjs) (get_or conjs i conj ∷ [])
    ∙ ap (λ (c : Conj). literals_of (take i conjs) ++ (c.literals ∷ [])) (sym is)

-- a loop over the list on the right takes one conjunction more
pub prefixed_step : (x : List Literal) (right : List Conj) (i : ℕ) (d : Conj) → i < length right → d ≡ get_or right i d → map (λ e. x ++ e) (literals_of (take (i + 1) right)) ≡ map (λ e. x ++ e) (literals_of (take i right)) ++ ((x ++ d.literals) ∷ [])
prefixed_step x right i d lt is =
    ap (map (λ e. x ++ e)) (literals_taken right i d lt is)
    ∙ map-append (λ e. x ++ e) (literals_of (take i right)) (d.literals ∷ [])

-- a loop over the list on the left takes one conjunction more
pub joined_step : (left : List Conj) (right : List (List Literal)) (i : ℕ) (d : Conj) → i < length left → d ≡ get_or left i d → joined (literals_of (take (i + 1) left)) right ≡ joined (literals_of (take i left)) right ++ map (λ e. d.literals ++ e) right
joined_step left right i d lt is =
    ap (λ t. joined t right) (literals_taken left i d lt is)
    ∙ joined_append (literals_of (take i left)) (d.literals ∷ []) right
    ∙ ap (λ t. joined (literals_of (take i left)) right ++ t) (append-nil (map (λ e. d.literals ++ e) right))
