-- A small game, and what its directory says of its variables.
use Rattle.std.specs.Prelude.{ℕ, Bool, ◌==◌, List, [], ◌∷◌, option_map, Option, Some, None}
use Rattle.cv_syntax_trees.specs.declared.head.Head.TheVariants.{Cons, If, In, Let, New, Repl, Leaf, Yes, Yield}
use Rattle.cv_syntax_trees.specs.Tree.{Tree, Empty, Node, binders, chain, lone}
use Rattle.cv_directory.specs.Definitions.{Definition, entries_of}

-- the type 1 is large, the type 2 is not
abbrev is_one : ℕ → Bool
is_one T = T == 1

-- !8 <= 3 in(.., (5: 2)); if true then new 6: 1; yield else new 6: 1; let 7: 2 = 5 in new 7: 1; yield
abbrev pub game : Tree
game =
    Node (Repl 8 3) Empty
    (Node (In 4) (Node Cons Empty (binders ((5, 2) ∷ [])))
    (Node If (lone Yes) (chain (
    Node (New 6 1) Empty (lone Yield)
    ∷ Node (New 6 1) Empty (Node (Let 7 2) (lone (Leaf 5)) (Node (New 7 1) Empty (lone Yield)))
    ∷ []))))

-- of a variable: the replications above its first definition and the place of it, how many there are, and the place of the
-- first that is no `new` of a large type
abbrev pub answers : ℕ → Option (List (ℕ × ℕ) × ℕ) × ℕ × Option ℕ
answers x =
    let e = entries_of is_one game in
    (option_map (λ (d : Definition). (d.replications, d.place)) (e.first x), e.count x, e.other x)

abbrev pub asked : List (ℕ × (Option (List (ℕ × ℕ) × ℕ) × ℕ × Option ℕ))
asked =
    (5, (Some ((8, 3) ∷ [], 1), 1, Some 1))
    ∷ (6, (Some ((8, 3) ∷ [], 4), 2, None))
    ∷ (7, (Some ((8, 3) ∷ [], 7), 2, Some 7))
    ∷ (8, (None, 0, None))
    ∷ []
