-- A small file whose game comes back, and one whose game has too deep a text. This profile's own.
use Rattle.std.specs.Prelude.{ℕ, zero, suc, true, false, List, [], ◌∷◌, ◌++◌, None, codes}
use Rattle.cv_pool.specs.declared.names.names.NameId.{NameId}
use Rattle.cv_syntax_trees.specs.declared.class.Class.TheVariants.{Channel, Event, Param, TypeName}
use Rattle.cv_syntax.specs.declared.decls.Decl.{Decl}
use Rattle.cv_syntax.specs.declared.decls.Decl.TheVariants.{Name}
use Rattle.cv_syntax_trees.specs.declared.head.Head.TheVariants as head
use Rattle.cv_syntax.specs.Declarations.{declarations}
use Rattle.cv_syntax_trees.specs.Tree.{Tree, Empty, Node, binders, chain, lone, names}
use Rattle.cv_parse_notation.specs.declared.sign.Mark.TheVariants as mark
use Rattle.cv_parse_notation.specs.declared.sign.Sign.{Sign}
use Rattle.cv_parse_notation.specs.declared.sign.Sign.TheVariants.{Number, Mark}
use Rattle.cv_parse.specs.Parsed.{Parsed}

-- a replication, a search with plain reads, and an event
abbrev pub small_file : List ℕ
small_file =
    codes "param n. type T. channel c. event e.\n"
    ++ codes "process !i <= n in(c, (x: T));\n"
    ++ codes "find u <= n suchthat defined(x[u]) && x[u] = x\n"
    ++ codes "then event e; out(c, x) else yield\n"

abbrev pub small_names : List (List ℕ)
small_names = codes "bool" ∷ codes "n" ∷ codes "T" ∷ codes "c" ∷ codes "e" ∷ codes "i" ∷ codes "x" ∷ codes "u" ∷ []

abbrev pub id : ℕ → NameId
id x = record { 0 = x }

abbrev pub small_declared : List Decl
small_declared =
    Name (id 0) (TypeName true false) None None ∷ Name (id 1) Param None None ∷ Name (id 2) (TypeName false false) None None
    ∷ Name (id 3) Channel None None ∷ Name (id 4) Event None None ∷ []

-- a variable at one index
abbrev pub at : ℕ → Tree → Tree
at x index = Node (head.Read x) (chain (index ∷ [])) Empty

-- x[i], and x[u[i]]

abbrev pub own_x : Tree
own_x = at 6 (lone (head.Leaf 5))

abbrev pub found_x : Tree
found_x = at 6 (at 7 (lone (head.Leaf 5)))

abbrev pub small_game : Tree
small_game =
    Node (head.Repl 5 1) Empty
    (Node (head.In 3) (Node head.Cons (names (5 ∷ [])) (binders ((6, 2) ∷ [])))
    (Node (head.Find 1) (chain (
    Node head.Branch (binders ((7, 1) ∷ [])) (Node head.Cons (chain (found_x ∷ [])) (Node head.Cons (Node head.Eq found_x own_x)
    (Node (head.Event 4) Empty
    (Node (head.Out 3) (Node head.Cons (names (5 ∷ [])) (chain (own_x ∷ [])))
    (lone head.Stop)))))
    ∷ [])) (lone head.Yield)))

abbrev pub small_content : Parsed
small_content = record { declarations = declarations [] small_declared; script = None; game = small_game }

-- 0 | 0 | .. , with so many symbols, as a file and as a game

abbrev further : ℕ → List Sign
further zero = []
further (suc n) = Mark mark.Bar ∷ Number 0 ∷ further n

abbrev pub abreast : ℕ → List Sign
abreast n = Mark mark.Process ∷ Number 0 ∷ further n

abbrev pub stops : ℕ → Tree
stops zero = lone head.Stop
stops (suc n) = Node head.Par (lone head.Stop) (stops n)
