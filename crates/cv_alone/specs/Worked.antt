-- A small file with two queries and a proof block, and the same with each of its queries alone.
use Rattle.std.specs.Prelude.{ℕ, List, ◌++◌, codes}

abbrev pub small : List ℕ
small =
    codes "type T. query secret a. (* of b *)\n"
    ++ codes "query secret b. fun f(T): T.\n"
    ++ codes "proof { success 1 secret (* query *) {} ; }\n"
    ++ codes "process 0\n"

abbrev pub first_alone : List ℕ
first_alone =
    codes "type T. query secret a. (* of b *)\n"
    ++ codes "                fun f(T): T.\n"
    ++ codes "                         (* query *)       \n"
    ++ codes "process 0\n"

abbrev pub second_alone : List ℕ
second_alone =
    codes "type T.                 (* of b *)\n"
    ++ codes "query secret b. fun f(T): T.\n"
    ++ codes "                         (* query *)       \n"
    ++ codes "process 0\n"

abbrev pub none_alone : List ℕ
none_alone =
    codes "                                  \n"
    ++ codes "                            \n"
    ++ codes "                                           \n"
    ++ codes "         \n"
