-- A second place of a game as the code has it.
use Rattle.std.specs.Prelude.{◌≡◌, ℕ, List, length, map}
use Rattle.cv_pool.specs.KindTree.{KindTree}
use Rattle.cv_pool.specs.Nodes.{ChildBelow}
use Rattle.cv_syntax_trees.specs.Tree.{chain}
use Rattle.cv_syntax.specs.PoolTrees.{tree_at}
use Rattle.cv_scope_rules.specs.Context.{items}
use Rattle.cv_scene.specs.Late.{index_term}
use Rattle.cv_scene.specs.Pairs.{pair_at, second_indices}
use Rattle.cv_scene.specs.Scenes.{Scene}
use Rattle.cv_scene.specs.Sights as spec
use Rattle.cv_scene.specs.Terms.{replications_at}
use Rattle.cv_derive.specs.declared.sight.Second.{Second}

-- what a derivation may cite at a place and at the second one
abbrev pub pair_of : List KindTree → Scene → (place : ℕ) → Second → spec.Sight
pair_of trees s p o = pair_at s p o.place o.raise (items (tree_at trees o.given)) o.distinct.now

-- the lists are those that the fields tell of
pub record IsSecond (trees : List KindTree) (s : Scene) (o : Second) : Type 0 where
  pub replications : o.replications.now ≡ replications_at s o.place
  pub raised : tree_at trees o.raised ≡ chain (map index_term (second_indices o.raise (replications_at s o.place)))
  pub raised_live : ChildBelow (length trees) o.raised
  pub given_live : ChildBelow (length trees) o.given
