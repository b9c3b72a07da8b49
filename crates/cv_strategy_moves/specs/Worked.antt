-- Reads of a key, what is advised, and truths, in small cases. Names are those of the protocol for authentication: 40 is the key; 50 is a
-- variable that a `let` gives.
use Rattle.std.specs.Prelude.{ℕ, Bool, true, false, List, [], ◌∷◌}
use Rattle.cv_syntax_trees.specs.Builders.{leaf}
use Rattle.cv_syntax_trees.specs.declared.head.Head.TheVariants.{And, Eq, If, Let, Not, Or}
use Rattle.cv_syntax_trees.specs.Tree.{Tree, Empty, Node, chain}
use Rattle.cv_match_laws.specs.Worked.{accepts, game_with, is_tag_right, new_key, parties, sends, tag_of_message}
use Rattle.cv_scene.specs.lines.Truths.{no, yes}

-- the key is read at these places, in instances; where it is sent, too
abbrev pub within : List (ℕ × Bool)
within = (13, true) ∷ (21, true) ∷ []

abbrev pub sent : List (ℕ × Bool)
sent = (3, false) ∷ (14, true) ∷ (22, true) ∷ []

abbrev pub with_key_by : (chosen : Tree → Tree) → Tree
with_key_by chosen = game_with chosen [] (parties (sends tag_of_message) (accepts is_tag_right))

-- let 50: 2 = 40 in
abbrev pub assigned : Tree
assigned = with_key_by (λ p. new_key (Node (Let 50 2) (leaf 40) p))

-- if true then new 40: 2 else new 40: 2
abbrev pub twice : Tree
twice = with_key_by (λ p. Node If yes (chain (new_key p ∷ new_key p ∷ [])))

abbrev pub denied : Tree → Tree
denied m = Node Not m Empty

abbrev pub truths : List (Tree × Tree)
truths =
    (Node Eq (leaf 9) yes, leaf 9)
    ∷ (Node Eq (leaf 9) (leaf 9), yes)
    ∷ (Node And yes (leaf 9), leaf 9)
    ∷ (Node And (leaf 9) yes, leaf 9)
    ∷ (Node And (leaf 9) no, no)
    ∷ (Node Or (leaf 9) yes, yes)
    ∷ (Node Or no (leaf 9), leaf 9)
    ∷ (denied yes, no)
    ∷ (denied no, yes)
    ∷ (denied (denied (leaf 9)), leaf 9)
    ∷ []
