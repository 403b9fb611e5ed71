-- What is taken of all that is tried.
use Rattle.std.proofs.Common.{◌≡◌, ◌-◌, ◌++◌, List, [], ◌∷◌, length, map, refl, sym, ap, subst, ◌∙◌}
use Rattle.std.specs.List.{flat_map}
use Rattle.std.proofs.lemmas.List.{append_assoc}
use Rattle.dsr_compensate.proofs.Pairs.{append_none, map_twice}
use Rattle.dsr_compensate.specs.Taking.{AreTakenOf, ones_of, pairs_of, twos_of}
use Rattle.dsr_compensate.specs.declared.passes.Compensable.{Compensable}
use Rattle.dsr_ir.specs.declared.constraints.Atom.{Atom}
use Rattle.dsr_ir.specs.declared.updates.Template.{Template}
use Rattle.dsr_graph_theory.specs.Lists.{AreTaken, all_of, no_more, with_one, with_two}
use Rattle.dsr_graph_theory.specs.Owners.{Owner}

flat_twice : {X Y Z : Type 0} (f : Y → List Z) (g : X → Y) (xs : List X) → flat_map f (map g xs) ≡ flat_map (λ x. f (g x)) xs
flat_twice f g [] = refl
flat_twice f g (x ∷ xs) = ap (λ zs. f (g x) ++ zs) (flat_twice f g xs)

-- nothing is taken of nothing
pub none_taken : (owner : Owner) (atom : Atom) (listed : List Template) → listed ≡ [] → AreTakenOf owner atom [] listed
none_taken owner atom listed empty = subst (AreTakenOf owner atom []) (sym empty) (λ rest more d. d)

whole_is : (cs : List Compensable) → (([] ++ map (λ c. c.template) cs) ++ flat_map ones_of cs) ++ flat_map twos_of cs ≡ all_of (pairs_of cs)
whole_is cs =
    append_assoc (map (λ c. c.template) cs) (flat_map ones_of cs) (flat_map twos_of cs)
    ∙ sym (
    ap (λ ts. ts ++ (flat_map with_one (pairs_of cs) ++ flat_map with_two (pairs_of cs))) (map_twice (λ p. p.0) (λ c. (c.template, c.writes)) cs)
    ∙ ap (λ ts. map (λ c. c.template) cs ++ (ts ++ flat_map with_two (pairs_of cs))) (flat_twice with_one (λ c. (c.template, c.writes)) cs)
    ∙ ap (λ ts. map (λ c. c.template) cs ++ (flat_map ones_of cs ++ ts)) (flat_twice with_two (λ c. (c.template, c.writes)) cs))

pub taken_whole : (owner : Owner) (atom : Atom) (cs : List Compensable) (listed : List Template) → AreTakenOf owner atom ((([] ++ map (λ c. c.template) cs) ++ flat_map ones_of cs) ++ flat_map twos_of cs) listed → AreTaken owner atom 64 [] (all_of (pairs_of cs)) listed
taken_whole owner atom cs listed taken =
    subst (λ xs. AreTaken owner atom 64 [] xs listed) (append_none _ ∙ whole_is cs)
    (subst (AreTaken owner atom 64 [] (((([] ++ map (λ c. c.template) cs) ++ flat_map ones_of cs) ++ flat_map twos_of cs) ++ [])) (append_none listed) (taken [] [] no_more))
