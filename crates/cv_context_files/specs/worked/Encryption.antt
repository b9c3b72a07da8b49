-- A small protocol that sends encrypted secrets, at sizes of two and one session. Names are numbers: 0 to 4 are types, 5 is a
-- parameter, 6 a constant, 10 and 11 functions, 20 to 22 channels, 40 to 43 variables, 44 an index, 60 to 66 names of the
-- equivalence, 80 the answer of the call. This profile's own.
use Rattle.std.specs.Prelude.{ℕ, true, false, nat_lt, ◌%◌, ◌==◌, if◌then◌else◌, List, [], ◌∷◌, Option, Some, None}
use Rattle.std.specs.List.{sum}
use Rattle.cv_syntax_trees.specs.declared.class.Class.TheVariants as class
use Rattle.cv_syntax_trees.specs.declared.head.Head.TheVariants.{Apply, Bound, Equivalence, New, Oracle, Repl, Stop}
use Rattle.cv_syntax_trees.specs.Builders.{input, leaf, output, read}
use Rattle.cv_syntax_trees.specs.Declarations.{Declaration, Named}
use Rattle.cv_syntax_trees.specs.Tree.{Tree, Empty, Node, binders, chain, lone, names}
use Rattle.cv_meaning.specs.Interpretation.{Interpretation}
use Rattle.cv_meaning.specs.Runs.{Answer, Calls, Guesses, Move, Replied, Tests, Told}
use Rattle.cv_meaning.specs.Serving.{Sent}
use Rattle.cv_scene.specs.Scenes.{Scene}
use Rattle.cv_scene.specs.Reductions.{Reduction}

-- 0 is bool, 1 plain, 2 key, 3 coins, 4 cipher; 6: plain; 10(plain, key, coins): cipher and 11 of the same types
abbrev pub declarations : List Declaration
declarations =
    Named 0 (class.TypeName true false) Empty None
    ∷ Named 1 (class.TypeName true false) Empty None
    ∷ Named 2 (class.TypeName true false) Empty None
    ∷ Named 3 (class.TypeName true false) Empty None
    ∷ Named 4 (class.TypeName false false) Empty None
    ∷ Named 5 class.Param Empty None
    ∷ Named 6 (class.Fun false) Empty (Some 1)
    ∷ Named 10 (class.Fun false) (names (1 ∷ 2 ∷ 3 ∷ [])) (Some 4)
    ∷ Named 11 (class.Fun false) (names (1 ∷ 2 ∷ 3 ∷ [])) (Some 4)
    ∷ []

abbrev pub apply : ℕ → List Tree → Tree
apply f ms = Node (Apply f) (chain ms) Empty

-- !61<=62 new 63: 2; (64: !65<=66 new 67: 3; (68: 1) -> 10(68, 63, 67)), and on the right 64: !65<=66 (68: 1) -> new 67: 3; 11(6, 63, 67)
abbrev pub encryption : Tree
encryption =
    Node (Equivalence 60)
    (Node (Bound 61 62) (binders ((63, 2) ∷ [])) (chain (Node (Oracle 64) (Node (Bound 65 66) (binders ((67, 3) ∷ [])) (binders ((68, 1) ∷ []))) (apply 10 (leaf 68 ∷ leaf 63 ∷ leaf 67 ∷ [])) ∷ [])))
    (Node (Bound 61 62) (binders ((63, 2) ∷ []))
    (chain (Node (Oracle 64) (Node (Bound 65 66) Empty (binders ((68, 1) ∷ []))) (Node (New 67 3) Empty (apply 11 (leaf 6 ∷ leaf 63 ∷ leaf 67 ∷ []))) ∷ [])))

abbrev pub secret : ℕ
secret = 41

-- in(20, ()); new 40: 2; out(20, ()); !44<=5 in(21, ()); new 41: 1; new 42: 3; out(22, (10(41, 40, 42)))
abbrev pub game : Tree
game =
    input 20 [] [] (Node (New 40 2) Empty (output 20 [] [] (Node (Repl 44 5) Empty
    (input 21 (44 ∷ []) [] (Node (New 41 1) Empty (Node (New 42 3) Empty
    (output 22 (44 ∷ []) (apply 10 (read 41 (leaf 44 ∷ []) ∷ leaf 40 ∷ read 42 (leaf 44 ∷ []) ∷ []) ∷ []) (lone Stop))))))))

abbrev pub scene : Scene
scene = record { declarations = declarations; known = λ x. nat_lt x 80; game = game }

abbrev pub encrypted : Reduction
encrypted = record { scene = scene; equivalence = encryption; key = 40; answer = λ k. 80 }

-- a cipher text is the sum of what it is made of modulo two
abbrev pub encryptions : Interpretation
encryptions = record { type_size = λ T. 2; parameter_value = λ n. 1; table = λ f vs. sum vs % 2; choices = 2 }

-- the guess is 1 where the test told the cipher text
abbrev pub compares : List Answer → Option Move
compares [] = Some (Calls 20 [] [])
compares (a ∷ []) = Some (Calls 21 (0 ∷ []) [])
compares (a ∷ Replied (Sent c u (v ∷ [])) ∷ []) = Some (Tests (0 ∷ []))
compares (a ∷ Replied (Sent c u (v ∷ [])) ∷ Told w ∷ []) = Some (Guesses (if v == w then 1 else 0))
compares _ = None
