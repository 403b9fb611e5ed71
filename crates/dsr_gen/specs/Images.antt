-- The image of a trial: a list in which each node leads to the next one, but for links that were
-- led astray. A link is the code of a node, which is its slot and one more, or 0 for no node.
use Rattle.std.specs.Prelude.{ℕ, List, [], ◌∷◌, ◌++◌, ◌+◌, ◌-◌, ◌*◌, ◌/◌, ◌%◌, ◌==◌, zero, suc}
use Rattle.std.specs.Prelude.{if◌then◌else◌, slice_set}
use Rattle.std.specs.Int.{to_le_bytes, w16, w32}
use Rattle.std.specs.List.{range_with_len}

-- as first made, the node at slot i leads to that of code i + 2, and the last one to none
abbrev pub straight_links : ℕ → List ℕ
straight_links number =
    if number == 0 then [] else range_with_len 2 (number - 1) ++ 0 ∷ []

abbrev pub next_seed : ℕ → ℕ
next_seed seed = (5 * seed + 3) % 65536

-- the seed of a round, from the number of nodes on
unfoldable pub seed_at : ℕ → ℕ → ℕ
seed_at number zero = number
seed_at number (suc round) = next_seed (seed_at number round)

-- the link that a seed picks leads where the seed says: to none, to a node, or beyond the last
abbrev pub relinked : ℕ → ℕ → List ℕ → List ℕ
relinked number seed links = slice_set links (seed % number) (seed / 8 % (number + 2))

-- the links after so many rounds, each of which leads one astray
unfoldable pub links_after : ℕ → ℕ → List ℕ
links_after number zero = straight_links number
links_after number (suc round) =
    relinked number (seed_at number (suc round)) (links_after number round)

abbrev pub trial_links : ℕ → List ℕ
trial_links number = if number == 0 then [] else links_after number 8

-- how many slots there are, how many nodes are in the list, and the link to the first
abbrev pub head_bytes : ℕ → List ℕ
head_bytes number =
    to_le_bytes w16 number ++ to_le_bytes w16 number
    ++ to_le_bytes w32 (if number == 0 then 0 else 1)

abbrev pub node_bytes : ℕ → ℕ → List ℕ
node_bytes value link = to_le_bytes w32 value ++ to_le_bytes w32 link

-- nodes with these links, whose values rise from this one on
abbrev pub nodes_bytes : ℕ → List ℕ → List ℕ
nodes_bytes value [] = []
nodes_bytes value (link ∷ links) = node_bytes value link ++ nodes_bytes (suc value) links

abbrev pub trial_bytes : ℕ → List ℕ
trial_bytes number = head_bytes number ++ nodes_bytes 0 (trial_links number)
