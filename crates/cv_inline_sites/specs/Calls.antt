-- A call by its first argument. This profile's own.
use Rattle.std.specs.Prelude.{ℕ, List, Option, Some, None}
use Rattle.cv_pool.specs.KindTree.{KindTree}
use Rattle.cv_syntax_trees.specs.declared.head.Head.TheVariants.{Binder}
use Rattle.cv_syntax_trees.specs.Tree.{Tree, Node}
use Rattle.cv_syntax.specs.PoolTrees.{tree_at}
use Rattle.cv_inline_sites.specs.declared.calls.Argument as code

-- the first argument of a call, with its name and its type, and what stands behind
pub record Argument : Type 0 where
  pub name : ℕ
  pub of : ℕ
  pub term : Tree
  pub binders : Tree
  pub terms : Tree

abbrev pub first_argument : (binders terms : Tree) → Option Argument
first_argument (Node (Binder x T) a more) (Node h m rest) = Some (record { name = x; of = T; term = m; binders = more; terms = rest })
first_argument _ _ = None

abbrev pub argument_in : List KindTree → code.Argument → Argument
argument_in trees a = record { name = a.name; of = a.of; term = tree_at trees a.term; binders = tree_at trees a.binders; terms = tree_at trees a.terms }
