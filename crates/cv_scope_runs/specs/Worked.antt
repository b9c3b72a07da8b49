-- Worked games.
-- Names are numbers: 1 and 20 are replication indices, 2 is a parameter, 3 and 8 are channels of inputs, 6 is one of
-- outputs, 4 is a variable and 5 its type, 9 is a variable of a query, 11 and 12 are events, 20 is a constant where it is
-- declared, and 30 is a function.
use Rattle.std.specs.Prelude.{ℕ, false, List, [], ◌∷◌, Option, Some}
use Rattle.cv_syntax_trees.specs.declared.head.Head.TheVariants.{Yield, Let, Yes, Apply}
use Rattle.cv_syntax_trees.specs.Tree.{Tree, Empty, Node, lone, chain}
use Rattle.cv_meaning.specs.Interpretation.{Setting, setting_of}
use Rattle.cv_meaning.specs.Runs.{Adversary, Answer, Move, Calls}
use Rattle.cv_syntax_trees.specs.Builders.{leaf, read, input, output, event, correspondence, occurs}
use Rattle.cv_meaning_laws.specs.Worked.{adversary}
use Rattle.cv_scope_rules.specs.Worked.{call, constants, key, repl, restriction, sends, starts}

-- event 12(9) ==> event 11(9)
abbrev pub begun_query : Tree
begun_query = correspondence ((9, 5) ∷ []) (occurs false 12 (leaf 9 ∷ [])) (occurs false 11 (leaf 9 ∷ []) ∷ [])

-- !1<=2 in(3[1], ()); new 4:5; event 11(4[1]); out(6[1], ()); in(8[1], ()); event 12(4[1]); yield
abbrev pub sessions : Tree
sessions = repl 1 (input 3 (1 ∷ []) [] (restriction 4 (event 11 (read 4 (leaf 1 ∷ []) ∷ []) (output 6 (1 ∷ []) [] (input 8 (1 ∷ []) [] (event 12 (read 4 (leaf 1 ∷ []) ∷ []) (lone Yield)))))))

-- 30(x)
abbrev pub applied : ℕ → Tree
applied x = Node (Apply 30) (chain (leaf x ∷ [])) Empty

-- in(3, (4:5)); event 11(30(4), 20); event 12(4); yield
abbrev pub told : Tree
told = input 3 [] ((4, 5) ∷ []) (event 11 (applied 4 ∷ leaf 20 ∷ []) (event 12 (leaf 4 ∷ []) (lone Yield)))

-- in(3, ()); key 4; 10 <- call of site 1 under 4 with no arguments; out(6, (10))
abbrev pub keyed : Tree
keyed = starts (key 4 (call 10 1 (leaf 4 ∷ []) (sends 10)))

-- in(3, (4:5)); event 11(4); let 4:5 = true in event 12(4); yield
abbrev pub assigned_again : Tree
assigned_again = input 3 [] ((4, 5) ∷ []) (event 11 (leaf 4 ∷ []) (Node (Let 4 5) (lone Yes) (event 12 (leaf 4 ∷ []) (lone Yield))))

-- in(3, ()); event 11(20); out(6, ()); !20<=2 in(8[20], ()); event 12(20); yield
abbrev pub constant_captured : Tree
constant_captured = input 3 [] [] (event 11 (leaf 20 ∷ []) (output 6 [] [] (repl 20 (input 8 (20 ∷ []) [] (event 12 (leaf 20 ∷ []) (lone Yield))))))

-- all types and parameters of two values, and each constant 0
abbrev pub two_values : Setting
two_values = setting_of constants (record { type_size = λ T. 2; parameter_value = λ n. 2; table = λ f vs. 0; choices = 1 })

-- calls 3 with the message, and then 8 at 1
abbrev pub call_after : List ℕ → List Answer → Option Move
call_after message [] = Some (Calls 3 [] message)
call_after message (a ∷ more) = Some (Calls 8 (1 ∷ []) [])

abbrev pub caller : ℕ → List ℕ → Adversary
caller moves message = adversary moves (call_after message)
