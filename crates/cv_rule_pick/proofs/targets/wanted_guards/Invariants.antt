use Rattle.std.proofs.Common.{◌≡◌, ◌++◌, All, length, map}
use Rattle.cv_pool.specs.Nodes.{ChildBelow}
use Rattle.cv_syntax_trees.specs.Tree.{Tree}
use Rattle.cv_syntax.specs.PoolTrees.{tree_at}
use Rattle.cv_syntax.specs.Walks.{above}
use Rattle.cv_scope_rules.specs.Context.{items}
use Rattle.cv_scene.specs.lines.Lines.{lines_of, statements}
use Rattle.cv_rule_pick.specs.Picking.{guards}
use Rattle.cv_rule_pick.specs.Wanted.{IsLiveWanted, put, wanted_of}
use Rattle.cv_rule_pick.specs.declared.targets.Given.{Given}
use Rattle.cv_rule_pick.proofs.targets.wanted_guards.Given as goal

abbrev pub invariant-cells : goal.invariant-cells
invariant-cells l = record {
  live : ChildBelow (length l.pool.trees) l.at;
  alive : All (IsLiveWanted (length l.pool.trees)) l.wanted.items;
  said : (given : Given) (c : Tree) → map (wanted_of l.pool.trees given) l.wanted.items ++ statements (lines_of (guards (map (put l.pool.trees given) (items (tree_at l.pool.trees l.at))) c))
      ≡ statements (lines_of (guards (map (put l.pool.trees given) (items (tree_at l.pool.trees l.fn.cells))) c));
}

abbrev pub decreases-cells : goal.decreases-cells
decreases-cells l = above l.at
