-- What the code answers of a cryptographic step. This profile's own.
use Rattle.std.specs.Prelude.{◌≡◌, ℕ, ◌+◌, ◌<◌, ◌≤◌, ◌⊎◌, List, None, Result, Ok, Err, Some}
use Rattle.cv_pool.specs.KindTree.{KindTree}
use Rattle.cv_syntax.specs.declared.work.BuildError.TheVariants as build
use Rattle.cv_syntax_trees.specs.Tree.{Tree, depth, size}
use Rattle.cv_syntax.specs.PoolTrees.{tree_at}
use Rattle.cv_bound.specs.declared.cost.Cost.TheVariants as bound
use Rattle.cv_group_rules.specs.Symbols.{symbols_of}
use Rattle.cv_group_rules.specs.Faults.{IsAccepted}
use Rattle.cv_match_laws.specs.functions.Forms.{HasLeftForm}
use Rattle.cv_meaning.specs.contexts.Inlined.{Drawn}
use Rattle.cv_scene.specs.Reductions.{Reduction, context_of_game}
use Rattle.cv_scene.specs.Scenes.{Scene}
use Rattle.cv_syntax.specs.limits.Limits.{most_depth, most_nodes, nodes_of}
use Rattle.cv_match_laws.specs.answers.Drawn.{draws, finds}
use Rattle.cv_inline.specs.NextGame.{next_of}
use Rattle.cv_inline_draws.specs.names.Fresh.{IsDrawnFor}
use Rattle.cv_steps_laws.specs.crypto.reductions.Tables.{labels}
use Rattle.cv_inline_draws.specs.taken_names.Taken.{taken_names}
use Rattle.cv_steps_laws.specs.crypto.Conditions.{equivalence_of, failure_of}
use Rattle.cv_steps_laws.specs.crypto.Steps.{IsNextGame, IsOutcome, reduction_of}
use Rattle.cv_steps_laws.specs.crypto.Steps as outcome
use Rattle.cv_kernel_crypto.specs.declared.games.testing.Next.{Next}
use Rattle.cv_kernel_crypto.specs.declared.fault.CryptoFault.{CryptoFault}
use Rattle.cv_kernel_crypto.specs.declared.fault.CryptoFault.TheVariants as crypto

-- the equivalences of the file are accepted, and their left sides are in the grammar of files
abbrev pub HasEquivalences : Scene → Type 0
HasEquivalences s = (e : ℕ) (t : Tree) → equivalence_of s e ≡ Some t → HasLeftForm t × IsAccepted (symbols_of s.declarations) t

-- the context of a step
pub record IsContext (s : Scene) (e x : ℕ) (context : Tree) : Type 0 where
  pub equivalence : Tree
  pub named : equivalence_of s e ≡ Some equivalence
  pub tree : context ≡ (context_of_game (reduction_of s equivalence x)).game

-- a game that the step may lead to, within the limits
pub record IsDrawn (s : Scene) (e x : ℕ) (next : Tree) : Type 0 where
  pub equivalence : Tree
  pub named : equivalence_of s e ≡ Some equivalence
  pub drawn : IsNextGame (reduction_of s equivalence x) next
  pub small : size next ≤ most_nodes
  pub shallow : depth next ≤ most_depth

-- The game is the next game of a step with the names that are drawn for it: they have the drawn texts, the table got those of them that
-- it lacked and nothing else, and labels are the least ones that no find of the game has.
pub record IsDrawnWith (before after : List (List ℕ)) (own : ℕ) (r : Reduction) (next : Tree) : Type 0 where
  pub drawn : Drawn
  pub table : IsDrawnFor before after (taken_names own r.scene.game) (draws r) (finds r) (labels r) drawn
  pub game : next ≡ next_of (context_of_game r) r.key drawn

abbrev pub DrawsNext : (before after : List (List ℕ)) → (own : ℕ) → Scene → (e x : ℕ) → Tree → Type 0
DrawsNext before after own s e x next = (t : Tree) → equivalence_of s e ≡ Some t → IsDrawnWith before after own (reduction_of s t x) next

-- The pool with so many nodes has no room for the context, or none for the next game behind it; its conditions hold.
pub record HasNoRoom (limit live : ℕ) (s : Scene) (e x asked : ℕ) : Type 0 where
  pub failure : failure_of s e x ≡ None
  pub context : Tree
  pub made : IsContext s e x context
  pub full : ((asked ≡ nodes_of context) × (limit < live + asked))
      ⊎ ((next : Tree) × IsDrawn s e x next × (asked ≡ nodes_of next) × (limit < live + nodes_of context + asked))

-- The step is accepted, and this is its next game, with the advantage of its context as cost. The pool had room for both.
pub record IsApplied (limit live : ℕ) (s : Scene) (e x step : ℕ) (trees : List KindTree) (next : Next) : Type 0 where
  pub accepted : IsOutcome s e x (outcome.Accepted (tree_at trees (Some next.game.root)))
  pub cost : next.cost ≡ bound.Advantage step (record { 0 = e })
  pub context : Tree
  pub made : IsContext s e x context
  pub room : live + nodes_of context + nodes_of (tree_at trees (Some next.game.root)) ≤ limit

-- Each answer is what may be said of the step; memory may run out anywhere.

abbrev pub IsFaultOf : (limit live : ℕ) → Scene → (e x : ℕ) → CryptoFault → Type 0
IsFaultOf limit live s e x (crypto.Refused f) = IsOutcome s e x (outcome.Refused f.condition f.place)
IsFaultOf limit live s e x (crypto.Build (build.Nodes count)) = IsOutcome s e x (outcome.TooLarge count)
IsFaultOf limit live s e x (crypto.Build (build.Depth depth)) = IsOutcome s e x (outcome.TooDeep depth)
IsFaultOf limit live s e x (crypto.Build (build.Full asked)) = HasNoRoom limit live s e x asked
IsFaultOf limit live s e x (crypto.Build build.OutOfMemory) = Unit {0}

abbrev pub IsAnswer : (limit live : ℕ) → Scene → (e x step : ℕ) → List KindTree → Result Next CryptoFault → Type 0
IsAnswer limit live s e x step trees (Ok next) = IsApplied limit live s e x step trees next
IsAnswer limit live s e x step trees (Err fault) = IsFaultOf limit live s e x fault

-- the nodes that a step adds are those of its context and of its next game
abbrev pub IsFew : (live : ℕ) → Scene → (e x : ℕ) → (after : ℕ) → (next : Tree) → Type 0
IsFew live s e x after next = (context : Tree) → IsContext s e x context → after ≤ live + nodes_of context + nodes_of next
