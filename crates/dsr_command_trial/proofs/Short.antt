-- How long the image of a trial is.
use Rattle.std.proofs.Common.{◌≡◌, ◌≤◌, ◌<◌, ◌+◌, ◌*◌, ◌∷◌, ℕ, List, [], length, suc, refl, arith}
use Rattle.std.proofs.lemmas.List.{length-append}
use Rattle.dsr_gen.proofs.Links.{trial_count}
use Rattle.dsr_gen.specs.Images.{head_bytes, node_bytes, nodes_bytes, trial_bytes, trial_links}

nodes_long : (value : ℕ) (links : List ℕ) → length (nodes_bytes value links) ≡ 8 * length links
nodes_long value [] = refl
nodes_long value (link ∷ links) =
    let e = length-append (node_bytes value link) (nodes_bytes (suc value) links) in
    let its : length (node_bytes value link) ≡ 8 = refl in
    let rest = nodes_long (suc value) links in
    omega (arith, e, its, rest)

-- eight bytes for the head, and eight for each node
trial_long : (number : ℕ) → length (trial_bytes number) ≡ 8 + 8 * number
trial_long number =
    let e = length-append (head_bytes number) (nodes_bytes 0 (trial_links number)) in
    let head : length (head_bytes number) ≡ 8 = refl in
    let nodes = nodes_long 0 (trial_links number) in
    let count = trial_count number in
    omega (arith, e, head, nodes, count)

pub trial_short : (number : ℕ) → number < 65536 → length (trial_bytes number) ≤ 67108864
trial_short number small =
    let e = trial_long number in
    omega (arith, e, small)
