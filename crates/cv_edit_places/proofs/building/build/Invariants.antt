use Rattle.std.proofs.Common.{◌≡◌, ◌+◌, ◌≤◌, [], length, map, reverse, take}
use Rattle.std.specs.Prelude.{All}
use Rattle.cv_pool.specs.Nodes.{ChildBelow}
use Rattle.cv_pool.specs.PoolView.{Grows}
use Rattle.cv_syntax.specs.PoolTrees.{tree_at}
use Rattle.cv_edit_places.specs.Parts.{overs, stacked}
use Rattle.cv_edit_places.proofs.building.build.Given as goal

abbrev pub invariant-loop-part : goal.invariant-loop-part
invariant-loop-part l = record {
  trees : reverse (map (tree_at l.pool.trees) l.stack.items) ≡ stacked l.fn.pool.trees [] (take l.part-index l.parts.items.items);
  live : All (ChildBelow (length l.pool.trees)) l.stack.items;
  grows : Grows l.fn.pool l.pool;
  spare : l.fn.pool.spare ≤ l.pool.spare + overs (take l.part-index l.parts.items.items);
  few : length l.pool.trees ≤ length l.fn.pool.trees + overs (take l.part-index l.parts.items.items);
}
