-- The specification of a trial.
use Rattle.std.specs.Prelude.{ℕ, List, ◌++◌, codes}

-- of a linked list: which nodes are in it, which of them have bad links, and what each leads to
abbrev pub trial_text : List ℕ
trial_text =
    codes "version 1; order little;\n"
    ++ codes "structure Head { fixed u16 n; u16 count; u32 first -> nodes; }\n"
    ++ codes "structure Node { u32 value; u32 next -> nodes; }\n"
    ++ codes "pool nodes : Node[n] at 8 codes 1 step 1 none 0;\n"
    ++ codes "set Nodes of nodes; set Bad of nodes;\n"
    ++ codes "relation First : head -> nodes; relation Next : nodes -> nodes;\n"
    ++ codes "relation Count : head -> number;\n"
    ++ codes "rule head => head.first in Nodes;\n"
    ++ codes "rule x in Nodes => x.next in Nodes;\n"
    ++ codes "rule x in Nodes when illegal(x.next) => x in Bad;\n"
    ++ codes "rule head => <head, head.first> in First;\n"
    ++ codes "rule x in Nodes => <x, x.next> in Next;\n"
    ++ codes "rule head => <head, head.count> in Count;\n"
    ++ codes "constraint tidy : forall x in Bad : not x in Bad;\n"
    ++ codes "constraint single : forall <x, y> in Next : size(Next.y) <= 1;\n"
    ++ codes "constraint start : forall <h, y> in First : size(Next.y) <= 0;\n"
    ++ codes "constraint total : head.Count = size(Nodes);\n"
