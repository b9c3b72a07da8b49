-- The small protocol with tags, as a step by authentication of a file with queries: 80 to 84 are the names that are drawn for its
-- next game, 1 is the label, and the answers of its calls are above. This profile's own.
use Rattle.std.specs.Prelude.{ℕ, ◌+◌, false, nat_lt, List, [], ◌∷◌, ◌++◌}
use Rattle.cv_syntax_trees.specs.declared.head.Head.TheVariants.{And, Eq, Let, New, No, Secret, Yes}
use Rattle.cv_syntax_trees.specs.Builders.{branch, correspondence, find, leaf, occurs, read}
use Rattle.cv_syntax_trees.specs.Declarations.{Declaration, Query}
use Rattle.cv_syntax_trees.specs.Tree.{Tree, Empty, Node, lone}
use Rattle.cv_meaning.specs.contexts.Sides.{Context}
use Rattle.cv_scene.specs.Reductions.{Reduction}
use Rattle.cv_match_laws.specs.Worked.{accepts, apply, authentication, call, choose_key, game, game_with, parties, sends}
use Rattle.cv_context_left_side.specs.refusals.Worked as without_queries

-- event 30(m) ==> event 31(m): what is accepted was sent; and the messages that are sent are secret
abbrev pub accepted_query : Tree
accepted_query = correspondence ((75, 1) ∷ []) (occurs false 30 (leaf 75 ∷ [])) (occurs false 31 (leaf 75 ∷ []) ∷ [])

abbrev pub declarations : List Declaration
declarations = without_queries.declarations ++ (Query accepted_query ∷ Query (lone (Secret 41)) ∷ [])

abbrev pub answer : ℕ → ℕ
answer k = 90 + k

abbrev pub accepting : Reduction
accepting = record { scene = record { declarations = declarations; known = λ x. nat_lt x 80; game = game [] }; equivalence = authentication; key = 40; answer = answer }

-- its context

abbrev pub context : Context
context = record {
  game =
      game_with choose_key []
      (parties
      (call 90 0 (read 41 (leaf 44 ∷ []) ∷ []) (sends (read 90 (leaf 44 ∷ []))))
      (call 91 1 (read 42 (leaf 45 ∷ []) ∷ read 43 (leaf 45 ∷ []) ∷ []) (accepts (read 91 (leaf 45 ∷ [])))));
  equivalence = authentication;
  functions = 0 ∷ 1 ∷ [];
}

-- its next game

abbrev pub drawn_names : List ℕ
drawn_names = 80 ∷ 81 ∷ 82 ∷ 83 ∷ 84 ∷ []

abbrev pub drawn_labels : List ℕ
drawn_labels = 1 ∷ []

-- let 81: 1 = 41[44] in out(22[44], (12(81[44], 80)))
abbrev pub tags : Tree
tags = Node (Let 81 1) (read 41 (leaf 44 ∷ [])) (sends (apply 12 (read 81 (leaf 44 ∷ []) ∷ leaf 80 ∷ [])))

-- 81[84[45]], a message for which a tag was made
abbrev pub tagged : Tree
tagged = read 81 (read 84 (leaf 45 ∷ []) ∷ [])

-- find 84<=4 suchthat defined(81[84[45]]) && 82[45] = 81[84[45]] && 13(81[84[45]], 80, 83[45]) then .. else ..
abbrev pub was_tagged : Tree
was_tagged =
    find 1
    (branch ((84, 4) ∷ []) (tagged ∷ [])
    (Node And (Node Eq (read 82 (leaf 45 ∷ [])) tagged) (apply 13 (tagged ∷ leaf 80 ∷ read 83 (leaf 45 ∷ []) ∷ [])))
    (accepts (lone Yes)) ∷ [])
    (accepts (lone No))

-- let 82: 1 = 42[45] in let 83: 3 = 43[45] in find ..
abbrev pub checks : Tree
checks = Node (Let 82 1) (read 42 (leaf 45 ∷ [])) (Node (Let 83 3) (read 43 (leaf 45 ∷ [])) was_tagged)

abbrev pub next : Tree
next = game_with (λ p. Node (New 80 2) Empty p) [] (parties tags checks)
