use Rattle.std.proofs.Common.{◌≡◌, ◌≤◌, ◌+◌, ◌^◌, drop, length}
use Rattle.cv_pool.specs.Nodes.{ChildBelow}
use Rattle.cv_syntax.specs.Declarations.{declarations}
use Rattle.cv_syntax_trees.specs.Tree.{Tree}
use Rattle.cv_syntax.specs.PoolTrees.{tree_at}
use Rattle.cv_syntax.specs.Walks.{above}
use Rattle.cv_scope_rules.specs.typing.Parts.{body_parts, first_in, in_function}
use Rattle.cv_scope_rules.specs.typing.Refusals.{parts_size}
use Rattle.cv_typing.specs.Tables.{arrays_of}
use Rattle.cv_typing.proofs.parts.check_bodies.Given as goal

abbrev pub invariant-list : goal.invariant-list
invariant-list l = record {
  live : ChildBelow (length l.pool.trees) l.at;
  same : first_in (declarations l.pool.trees l.decls.list) l.place (body_parts (arrays_of l.fn.arrays) (tree_at l.pool.trees l.key) (drop l.n l.sorts) (tree_at l.pool.trees l.at)) ≡ first_in (declarations l.pool.trees l.decls.list) l.fn.from (body_parts (arrays_of l.fn.arrays) (tree_at l.pool.trees l.key) l.sorts (tree_at l.pool.trees l.fn.functions));
  sum : l.place + parts_size (body_parts (arrays_of l.fn.arrays) (tree_at l.pool.trees l.key) (drop l.n l.sorts) (tree_at l.pool.trees l.at)) ≡ l.fn.from + parts_size (body_parts (arrays_of l.fn.arrays) (tree_at l.pool.trees l.key) l.sorts (tree_at l.pool.trees l.fn.functions));
  arrays : (f : Tree) → in_function (arrays_of l.arrays) f ≡ in_function (arrays_of l.fn.arrays) f;
  bound : l.n + above l.at ≤ 2 ^ 32;
}

abbrev pub decreases-list : goal.decreases-list
decreases-list l = above l.at
