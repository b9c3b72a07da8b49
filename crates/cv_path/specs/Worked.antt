-- A game whose copies are counted: `!1 <= 11 find 2 <= 12 suchthat true then yield else yield`.
use Rattle.std.specs.Prelude.{[], ◌∷◌}
use Rattle.cv_syntax_trees.specs.declared.head.Head.TheVariants.{Repl, Find, Branch, Cons, Yes, Yield}
use Rattle.cv_syntax_trees.specs.Tree.{Tree, Empty, Node, binders, chain, lone}

abbrev pub searching : Tree
searching =
    Node (Repl 1 11) Empty (Node (Find 1) (chain (Node Branch (binders ((2, 12) ∷ [])) (Node Cons Empty (Node Cons (lone Yes) (lone Yield))) ∷ [])) (lone Yield))
