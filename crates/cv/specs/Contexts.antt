-- The contexts of the cryptographic steps of a course, each with the number of its step. A context is a function of the game before the
-- step, of the equivalence and of the key that the step names; its answers stand above all names that a table may have, and nothing of
-- it is a choice. Blanchet and Pointcheval, CRYPTO 2006.
use Rattle.std.specs.Prelude.{ℕ, suc, List, [], ◌∷◌, Option, Some, None, option_map}
use Rattle.cv_syntax.specs.declared.work.File.{File}
use Rattle.cv_syntax_trees.specs.Declarations.{Declaration}
use Rattle.cv_syntax.specs.Declarations.{declarations}
use Rattle.cv_syntax_trees.specs.declared.head.Head.TheVariants as head
use Rattle.cv_syntax_trees.specs.Tree.{Tree, Node}
use Rattle.cv_syntax.specs.PoolTrees.{tree_at}
use Rattle.cv_meaning.specs.contexts.Sides.{Context}
use Rattle.cv_scene.specs.Reductions.{context_of_game}
use Rattle.cv_match_laws.specs.answers.Answers.{file_scene}
use Rattle.cv_steps_laws.specs.crypto.Conditions.{equivalence_of}
use Rattle.cv_steps_laws.specs.crypto.Steps.{reduction_of}
use Rattle.cv_follow.specs.Courses.{Course}
use Rattle.cv_kernel.specs.Proofs.{Transition}
use Rattle.cv_report.specs.declared.report.Report.{Report}
use Rattle.cv.specs.Values.{Contexts}

-- the equivalence and the key that a cryptographic step names; another step names none
abbrev pub reduced_by : (step : Tree) → Option (ℕ × ℕ)
reduced_by (Node head.CryptoStep (Node (head.Name e) a b) (Node (head.Name x) c d)) = Some (e, x)
reduced_by t = None

-- the context of a step in a game of a file, where the step is a cryptographic one

abbrev pub context_for : List Declaration → (own : ℕ) → (game : Tree) → Option (ℕ × ℕ) → Option Context
context_for ds own game None = None
context_for ds own game (Some n) =
    option_map (λ t. context_of_game (reduction_of (file_scene ds own game) t n.1)) (equivalence_of (file_scene ds own game) n.0)

abbrev pub context_by : List Declaration → (own : ℕ) → (game step : Tree) → Option Context
context_by ds own game step = context_for ds own game (reduced_by step)

abbrev pub with_context : (step : ℕ) → Option Context → Contexts → Contexts
with_context step None cs = cs
with_context step (Some c) cs = (step, c) ∷ cs

-- the contexts of steps from a game on, numbered from a number on
abbrev pub contexts_along : List Declaration → (own : ℕ) → (step : ℕ) → (game : Tree) → List Transition → Contexts
contexts_along ds own step game [] = []
contexts_along ds own step game (t ∷ ts) = with_context step (context_by ds own game t.step) (contexts_along ds own (suc step) t.next ts)

-- the game that steps lead to
abbrev pub game_along : (game : Tree) → List Transition → Tree
game_along game [] = game
game_along game (t ∷ ts) = game_along t.next ts

-- those of a course of a report's file; its steps are numbered from 1
abbrev pub contexts_of : Report → File → Course → Contexts
contexts_of r f c = contexts_along (declarations r.work.pool.trees r.work.decls.list) r.work.decls.own 1 (tree_at r.work.pool.trees (Some f.game.root)) c.proof
