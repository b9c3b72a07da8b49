-- A cryptographic step of the code as the inlined calls of the definitions. This profile's own.
use Rattle.std.specs.Prelude.{◌≡◌, ℕ, [], List, Some, length}
use Rattle.cv_pool.specs.KindTree.{KindTree}
use Rattle.cv_pool.specs.declared.node.NodeId.{NodeId}
use Rattle.cv_syntax_trees.specs.Tree.{Tree}
use Rattle.cv_syntax.specs.PoolTrees.{tree_at}
use Rattle.cv_meaning.specs.contexts.Groups.{Group}
use Rattle.cv_inline.specs.NextGame.{InlinedCalls, Results, next_in}
use Rattle.cv_inline.specs.declared.terms.calling.Calling.{Calling}
use Rattle.cv_inline.specs.declared.terms.drawn.Drawing.{Drawing}
use Rattle.cv_inline.specs.terms.Drawings.{drawn_in}
use Rattle.cv_inline_measure.specs.Settings.{AreLiveSites}
use Rattle.cv_inline_walk.specs.pieces.Calls.{inlined_calls}
use Rattle.cv_inline_sites.specs.results.Outcomes.{results_in}
use Rattle.cv_inline_sites.specs.declared.results.outcome.Outcome.{Outcome}
use Rattle.cv_inline_walk.specs.Forms.{behind_call}
use Rattle.cv_inline_walk.specs.declared.step.Call.{Call}
use Rattle.cv_inline_walk.specs.declared.step.Step.{Step}

-- for the group of the right side
abbrev pub calls_of : Step → Group → InlinedCalls
calls_of s g = inlined_calls s.pool.now.trees (drawn_in s.drawn.now) s.key g s.callings.now

abbrev pub HasRightKey : Step → Group → Type 0
HasRightKey s g = g.key ≡ s.right_key

abbrev pub results_of : Step → List Outcome → Results
results_of s os = results_in s.pool.now.trees (drawn_in s.drawn.now) s.callings.now os

-- the statement goes on behind a call, with one more result
abbrev pub goes_on : Step → Group → List Outcome → Call → Tree → Tree
goes_on s g os c = behind_call (calls_of s g) (results_of s os) c.answer (tree_at s.pool.now.trees c.rest)

abbrev pub IsLiveStep : Step → Type 0
IsLiveStep s = AreLiveSites s.pool.now.trees s.callings.now

abbrev pub live_in : Step → ℕ
live_in s = length s.pool.now.trees

-- the next game of a context of the pool
abbrev pub next_tree : List KindTree → Drawing → (key : ℕ) → List Calling → Group → NodeId → Tree
next_tree trees drawn x callings g context = next_in (inlined_calls trees (drawn_in drawn) x g callings) [] (tree_at trees (Some context))
