-- What the stages of a cryptographic step have found and made. This profile's own.
use Rattle.std.specs.Prelude.{◌≡◌, ℕ, ◌+◌, ◌<◌, ◌≤◌, ◌^◌, List, length, map, None, Some, Result, Ok, Err}
use Rattle.std.specs.List.{All}
use Rattle.cv_pool.specs.KindTree.{KindTree}
use Rattle.cv_pool.specs.declared.node.NodeId.{NodeId}
use Rattle.cv_syntax_trees.specs.Tree.{Tree, size}
use Rattle.cv_syntax.specs.PoolTrees.{tree_at}
use Rattle.cv_meaning.specs.contexts.Groups.{Right, side_group}
use Rattle.cv_match_terms.specs.declared.patterns.site.Site.{Site}
use Rattle.cv_context.specs.Roles.{AreSitesOf, IsLiveCall}
use Rattle.cv_scene.specs.Scenes.{Scene}
use Rattle.cv_scene.specs.Reductions.{Reduction, context_of_game}
use Rattle.cv_inline_draws.specs.taken_names.Taken.{taken_names}
use Rattle.cv_inline_draws.specs.callings.RightFunctions.{HasRightFunctions}
use Rattle.cv_inline_sites.specs.listing.Callings.{callings_in}
use Rattle.cv_steps_laws.specs.crypto.reductions.Tables.{GivesNextGame, HasNamesBelow}
use Rattle.cv_inline.specs.terms.Drawings.{drawn_in}
use Rattle.cv_match_laws.specs.answers.Drawn.{callings}
use Rattle.cv_syntax.specs.limits.Limits.{nodes_of}
use Rattle.cv_steps_laws.specs.crypto.Conditions.{equivalence_of, failure_of}
use Rattle.cv_steps_laws.specs.crypto.Steps.{first_answer}
use Rattle.cv_kernel_crypto.specs.declared.fault.CryptoFault.{CryptoFault}
use Rattle.cv_kernel_crypto.specs.declared.inlining.Inlining.{Inlining}
use Rattle.cv_kernel_crypto.specs.declared.instances.Instances.{Instances}
use Rattle.cv_kernel_crypto.specs.Applied.{IsContext, IsDrawn, IsFaultOf}

-- the step's conditions hold, and this is its equivalence
pub record IsMet (trees : List KindTree) (s : Scene) (e x : ℕ) (i : Instances) : Type 0 where
  pub named : equivalence_of s e ≡ Some (tree_at trees (Some i.tree))
  pub met : failure_of s e x ≡ None

-- an equivalence of the pool, and its sites in a game, where a variable stands for the key
pub record AreInstances (trees : List KindTree) (s : Scene) (game : NodeId) (x : ℕ) (i : Instances) : Type 0 where
  pub live : i.tree.0 < length trees
  pub short : size (tree_at trees (Some i.tree)) < 2 ^ 32
  pub right : HasRightFunctions (tree_at trees (Some i.tree))
  pub sites : AreSitesOf trees s (tree_at trees (Some i.tree)) x i.sites.items (Some game)
  pub calls : All (IsLiveCall (length trees)) i.sites.items
  pub few : length i.sites.items < first_answer

-- the names of file and game, which are numbers of names of the table; the answers' names are above the table's
pub record AreTakenNames (names : List (List ℕ)) (own : ℕ) (game : Tree) (taken : List ℕ) : Type 0 where
  pub all : taken ≡ taken_names own game
  pub below : All (λ x. x < length names) taken
  pub named : HasNamesBelow (length names) game
  pub owned : own ≤ length names
  pub few : length names ≤ first_answer
  pub counted : length taken ≤ 2 ^ 64

-- a reduction's game, equivalence and context stand in the pool, and its sites' functions have these positions
pub record HasContext (trees : List KindTree) (r : Reduction) (game_at context_at : NodeId) (i : Instances) : Type 0 where
  pub game : tree_at trees (Some game_at) ≡ r.scene.game
  pub equivalence : tree_at trees (Some i.tree) ≡ r.equivalence
  pub context : tree_at trees (Some context_at) ≡ (context_of_game r).game
  pub functions : map (λ (s : Site). s.function) i.sites.items ≡ (context_of_game r).functions

-- what the reduction's next game is made from
pub record IsInlining (trees : List KindTree) (r : Reduction) (i : Inlining) : Type 0 where
  pub callings : callings_in trees i.callings.items ≡ callings r
  pub drawn : GivesNextGame r (drawn_in i.drawing)
  pub key : (side_group Right r.equivalence).key ≡ i.right_key

-- the context of a step and its next game are made, and take no more nodes than there is room for
pub record IsBuiltAt (limit live : ℕ) (s : Scene) (e x : ℕ) (trees : List KindTree) (root : NodeId) : Type 0 where
  pub context : Tree
  pub made : IsContext s e x context
  pub drawn : IsDrawn s e x (tree_at trees (Some root))
  pub room : live + nodes_of context + nodes_of (tree_at trees (Some root)) ≤ limit
  pub few : length trees ≤ live + nodes_of context + nodes_of (tree_at trees (Some root))

abbrev pub IsBuilt : (limit live : ℕ) → Scene → (e x : ℕ) → List KindTree → Result NodeId CryptoFault → Type 0
IsBuilt limit live s e x trees (Ok root) = IsBuiltAt limit live s e x trees root
IsBuilt limit live s e x trees (Err fault) = IsFaultOf limit live s e x fault
