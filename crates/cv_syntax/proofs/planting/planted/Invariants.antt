use Rattle.std.proofs.Common.{◌≡◌, ◌+◌, ◌≤◌, drop, length, map, [], reverse}
use Rattle.std.specs.Prelude.{All}
use Rattle.cv_pool.specs.Nodes.{ChildBelow}
use Rattle.cv_syntax.specs.Planting.{overs}
use Rattle.cv_pool.specs.PoolView.{Grows}
use Rattle.cv_syntax.specs.Postorder.{made}
use Rattle.cv_syntax.specs.PoolTrees.{tree_at}
use Rattle.cv_syntax.proofs.planting.planted.Given as goal

abbrev pub invariant-loop-make : goal.invariant-loop-make
invariant-loop-make l = record {
  trees : made (reverse (map (tree_at l.pool.trees) l.stack.items)) (drop l.make-index l.makes) ≡ made [] l.makes;
  live : All (ChildBelow (length l.pool.trees)) l.stack.items;
  grows : Grows l.fn.pool l.pool;
  spare : overs (drop l.make-index l.makes) ≤ l.pool.spare;
  few : length l.pool.trees + overs (drop l.make-index l.makes) ≤ length l.fn.pool.trees + overs l.makes;
}
