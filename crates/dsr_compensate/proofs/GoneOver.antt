-- A list of templates that is gone over: what is taken of those so far, and of one more.
use Rattle.std.proofs.Common.{◌≡◌, ◌+◌, ◌++◌, ℕ, List, [], ◌∷◌, map, take, refl, sym, ap, subst, ◌∙◌}
use Rattle.std.specs.List.{flat_map}
use Rattle.std.proofs.lemmas.List.{append_assoc}
use Rattle.dsr_compensate.proofs.Pairs.{append_none}
use Rattle.dsr_compensate.specs.Taking.{pairs_of}
use Rattle.dsr_compensate.specs.declared.passes.Compensable.{Compensable}
use Rattle.dsr_ir.specs.declared.updates.Template.{Template}
use Rattle.dsr_ir.specs.declared.updates.Write.{Write}
use Rattle.dsr_graph_theory.specs.Candidates.{AreCompensations}
use Rattle.dsr_graph_theory.specs.Lists.{AreCompensable, done, more}
use Rattle.dsr_graph_theory.specs.Owners.{Owner}

map_more : {X Y : Type 0} (f : X → Y) (xs : List X) (x : X) → map f (xs ++ x ∷ []) ≡ map f xs ++ f x ∷ []
map_more f [] x = refl
map_more f (y ∷ xs) x = ap (λ ys. f y ∷ ys) (map_more f xs x)

pub pass_on : {X Y : Type 0} (f : X → Y) (xs : List X) (i : ℕ) (x : X) (A B C : List Y → Type 0) → take (i + 1) xs ≡ take i xs ++ x ∷ [] → ((all : List Y) → A all → B (all ++ map f (take i xs))) → ((all : List Y) → B all → C (all ++ f x ∷ [])) → (all : List Y) → A all → C (all ++ map f (take (i + 1) xs))
pass_on f xs i x A B C next before one all a =
    let far : map f (take (i + 1) xs) ≡ map f (take i xs) ++ f x ∷ [] = ap (map f) next ∙ map_more f (take i xs) x in
    subst C (sym (ap (λ ys. all ++ ys) far ∙ sym (append_assoc all (map f (take i xs)) (f x ∷ [])))) (one (all ++ map f (take i xs)) (before all a))

flat_more : {X Y : Type 0} (f : X → List Y) (xs : List X) (x : X) → flat_map f (xs ++ x ∷ []) ≡ flat_map f xs ++ f x
flat_more f [] x = append_none (f x)
flat_more f (y ∷ xs) x = ap (λ ys. f y ++ ys) (flat_more f xs x) ∙ sym (append_assoc (f y) (flat_map f xs) (f x))

pub pass_flat : {X Y : Type 0} (f : X → List Y) (xs : List X) (i : ℕ) (x : X) (A B C : List Y → Type 0) → take (i + 1) xs ≡ take i xs ++ x ∷ [] → ((all : List Y) → A all → B (all ++ flat_map f (take i xs))) → ((all : List Y) → B all → C (all ++ f x)) → (all : List Y) → A all → C (all ++ flat_map f (take (i + 1) xs))
pass_flat f xs i x A B C next before one all a =
    let far : flat_map f (take (i + 1) xs) ≡ flat_map f (take i xs) ++ f x = ap (flat_map f) next ∙ flat_more f (take i xs) x in
    subst C (sym (ap (λ ys. all ++ ys) far ∙ sym (append_assoc all (flat_map f (take i xs)) (f x)))) (one (all ++ flat_map f (take i xs)) (before all a))

-- with one template more
pub compensable_more : (owner : Owner) (ts : List Template) (ps : List (Template × List Write)) (t : Template) (writes : List Write) → AreCompensable owner ts ps → AreCompensations owner t writes → AreCompensable owner (ts ++ t ∷ []) (ps ++ (t, writes) ∷ [])
compensable_more owner ts ps t writes before its = go before where
  go : {ts : List Template} {ps : List (Template × List Write)} → AreCompensable owner ts ps → AreCompensable owner (ts ++ t ∷ []) (ps ++ (t, writes) ∷ [])
  go done = more t writes its done
  go (more s others theirs rest) = more s others theirs (go rest)

pub pairs_more_of : (all : List Compensable) (c : Compensable) → pairs_of (all ++ c ∷ []) ≡ pairs_of all ++ (c.template, c.writes) ∷ []
pairs_more_of all c = map_more (λ x. (x.template, x.writes)) all c
