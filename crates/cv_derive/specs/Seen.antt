-- A place of a game as the code has it, perhaps with a second one, with the lines of a derivation there.
use Rattle.std.specs.Prelude.{◌≡◌, ℕ, ◌+◌, ◌<◌, ◌^◌, All, IfSome, List, length, Option, Some, None}
use Rattle.cv_pool.specs.KindTree.{KindTree}
use Rattle.cv_pool.specs.Nodes.{ChildBelow}
use Rattle.cv_syntax_trees.specs.declared.head.Head.TheVariants.{Not}
use Rattle.cv_syntax.specs.Declarations.{declarations}
use Rattle.cv_syntax_trees.specs.Tree.{Tree, Empty, Node, size}
use Rattle.cv_syntax.specs.PoolTrees.{tree_at}
use Rattle.cv_directory.specs.Definitions.{entries_of, large_in}
use Rattle.cv_syntax_trees.specs.sites.Sites.{sites_of}
use Rattle.cv_directory.specs.Tables.{entries_in}
use Rattle.cv_directory.specs.Live.{IsLive}
use Rattle.cv_scope_rules.specs.typing.Signature.{OfGame}
use Rattle.cv_typing.specs.Tables.{above_of, arrays_of, directory_in}
use Rattle.cv_scope_rules.specs.Phrases.{IsWellFormed}
use Rattle.cv_scene.specs.Sights as spec
use Rattle.cv_scene.specs.Scenes.{Scene}
use Rattle.cv_scene.specs.Terms.{above_under, replications_at}
use Rattle.cv_scene_view.specs.Kept.{scene_of}
use Rattle.cv_scene.specs.lines.Inferences.{Visible}
use Rattle.cv_scene.specs.lines.Lines.{count, lines_of}
use Rattle.cv_derive_lines.specs.declared.citing.citing.Citing.{Citing}
use Rattle.cv_derive_lines.specs.citing.Bookmarks.{visible_to}
use Rattle.cv_derive_lines.specs.citing.Citing.{cited_from}
use Rattle.cv_derive_reasons.specs.sizes.Sizes.{AreSizes}
use Rattle.cv_derive_lines.specs.terms.Typed.{IsSightOf}
use Rattle.cv_derive.specs.Seconds.{IsSecond, pair_of}
use Rattle.cv_derive.specs.declared.sight.Assumed.{Assumed}
use Rattle.cv_derive.specs.declared.sight.Assumed.TheVariants as assumed
use Rattle.cv_derive.specs.declared.sight.Second.{Second}
use Rattle.cv_derive.specs.declared.sight.Sight.{Sight}

abbrev pub trees_of : Sight → List KindTree
trees_of s = s.work.now.pool.trees

abbrev pub game_of : Sight → Tree
game_of s = tree_at (trees_of s) (Some s.game.root)

abbrev pub scene_seen : Sight → Scene
scene_seen s = scene_of s.work.now.pool s.work.now.decls s.game.root

-- what a derivation may cite at the place, or at both
abbrev pub sight_with : List KindTree → Scene → (place : ℕ) → Option Second → spec.Sight
sight_with trees s p None = spec.sight_at s p
sight_with trees s p (Some o) = pair_of trees s p o

-- a second place adds indices, and what is said of it
abbrev pub sight_of : Sight → spec.Sight
sight_of s =
    let all = sight_with (trees_of s) (scene_seen s) s.place s.second in
    record (spec.sight_at (scene_seen s) s.place) { replications = all.replications; pair = all.pair }

-- the lines that the line of a number may cite
abbrev pub visible_of : Sight → ℕ → Visible
visible_of s n = cited_from (lines_of (tree_at (trees_of s) s.lines)) 1 n

abbrev pub visible_by : Sight → Citing → Visible
visible_by s c = visible_to (trees_of s) c

-- what is assumed
abbrev pub assumed_of : List KindTree → Assumed → Tree
assumed_of trees assumed.Nothing = Empty
assumed_of trees (assumed.Holds c) = tree_at trees c
assumed_of trees (assumed.Fails c) = Node Not (tree_at trees c) Empty

abbrev pub IsAssumedBelow : ℕ → Assumed → Type 0
IsAssumedBelow n assumed.Nothing = Unit {0}
IsAssumedBelow n (assumed.Holds c) = ChildBelow n c
IsAssumedBelow n (assumed.Fails c) = ChildBelow n c

-- so the tests of terms see it
abbrev pub IsSeenBy : Sight → spec.Sight → Type 0
IsSeenBy s t = IsSightOf (trees_of s) s.work.now.decls.list s.arrays.now s.above.now t

-- what there is to read is what stands at the place of the game, which is well-formed
pub record Sees (s : Sight) : Type 0 where
  pub live : s.game.root.0 < length (trees_of s)
  pub fits : size (game_of s) < 2 ^ 32
  pub lines : ChildBelow (length (trees_of s)) s.lines
  pub few : 1 + count (lines_of (tree_at (trees_of s) s.lines)) < 2 ^ 32
  pub declared : All (IsLive (length (trees_of s))) s.work.now.decls.list
  pub formed : IsWellFormed (declarations (trees_of s) s.work.now.decls.list) (game_of s)
  pub arrays : arrays_of s.arrays.now ≡ OfGame (sites_of (game_of s))
  pub entries : IfSome (directory_in s.arrays.now) (λ d. entries_in (trees_of s) d ≡ entries_of (large_in s.work.now.decls.list) (game_of s))
  pub above : above_of s.above.now ≡ above_under (sight_of s).replications
  pub replications : s.replications.now ≡ replications_at (scene_seen s) s.place
  pub second : IfSome s.second (IsSecond (trees_of s) (scene_seen s))
  pub sizes : AreSizes (trees_of s) s.sizes.now
