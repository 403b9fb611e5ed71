-- The bytes of one node more.
use Rattle.std.proofs.Common.{◌≡◌, ◌<◌, ◌+◌, ◌++◌, ◌∷◌, ◌∙◌, ℕ, List, [], length, take, get_or, suc, ap, sym, arith}
use Rattle.std.proofs.lemmas.List.{append-nil, append_assoc, take_more, length-take}
use Rattle.std.specs.Int.{to_le_bytes, w32}
use Rattle.dsr_gen.specs.Images.{node_bytes, nodes_bytes}

nodes_more : (value : ℕ) (links : List ℕ) (link : ℕ) → nodes_bytes value (links ++ link ∷ []) ≡ nodes_bytes value links ++ node_bytes (value + length links) link
nodes_more value [] link =
    let e : value ≡ value + 0 = omega arith in
    append-nil (node_bytes value link) ∙ ap (λ v. node_bytes v link) e
nodes_more value (first ∷ links) link =
    let e : suc value + length links ≡ value + suc (length links) = omega arith in
    ap (λ bytes. node_bytes value first ++ bytes) (nodes_more (suc value) links link
    ∙ ap (λ v. nodes_bytes (suc value) links ++ node_bytes v link) e)

nodes_next : (links : List ℕ) (i : ℕ) (d : ℕ) → i < length links → nodes_bytes 0 (take (i + 1) links) ≡ nodes_bytes 0 (take i links) ++ node_bytes i (get_or links i d)
nodes_next links i d below =
    let taken : 0 + length (take i links) ≡ i = grind (arith, length-take) in
    ap (λ xs. nodes_bytes 0 xs) (take_more links i d below)
    ∙ nodes_more 0 (take i links) (get_or links i d)
    ∙ ap (λ v. nodes_bytes 0 (take i links) ++ node_bytes v (get_or links i d)) taken

-- bytes that grew by a value and then by a link have one node more
pub node_pushed : (links : List ℕ) (i : ℕ) → i < length links → (old now half next value link : List ℕ) → now ≡ old ++ nodes_bytes 0 (take i links) → half ≡ now ++ value → value ≡ to_le_bytes w32 i → next ≡ half ++ link → link ≡ to_le_bytes w32 (get_or links i 0) → next ≡ old ++ nodes_bytes 0 (take (i + 1) links)
node_pushed links i below old now half next value link begun pushed value_is ended link_is =
    let bytes = nodes_bytes 0 (take i links) in
    let parts : value ++ link ≡ node_bytes i (get_or links i 0) =
    ap (λ v. v ++ link) value_is ∙ ap (λ l. to_le_bytes w32 i ++ l) link_is in
    ended ∙ ap (λ t. t ++ link) (pushed ∙ ap (λ t. t ++ value) begun)
    ∙ append_assoc (old ++ bytes) value link ∙ append_assoc old bytes (value ++ link)
    ∙ ap (λ t. old ++ t) (ap (λ t. bytes ++ t) parts ∙ sym (nodes_next links i 0 below))
