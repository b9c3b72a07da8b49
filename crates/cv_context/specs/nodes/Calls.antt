-- What the code has of a call in a context. This profile's own.
use Rattle.std.specs.Prelude.{ℕ, List, map}
use Rattle.std.specs.List.{All}
use Rattle.cv_pool.specs.KindTree.{KindTree}
use Rattle.cv_pool.specs.Nodes.{ChildBelow}
use Rattle.cv_syntax_trees.specs.declared.head.Head.TheVariants.{Cons}
use Rattle.cv_syntax_trees.specs.Tree.{Tree, Node, chain}
use Rattle.cv_syntax.specs.PoolTrees.{tree_at}
use Rattle.cv_context.specs.declared.nodes.calls.Call.{Call}

-- the nodes of what it reads stand in a pool with so many
pub record IsLive (n : ℕ) (c : Call) : Type 0 where
  pub key : ChildBelow n c.key
  pub arguments : All (ChildBelow n) c.arguments.items

-- what it reads: the key and the arguments
abbrev pub terms_of : List KindTree → Call → Tree
terms_of trees c = Node Cons (tree_at trees c.key) (chain (map (tree_at trees) c.arguments.items))
