use Rattle.std.proofs.Common.{◌≡◌, ◌++◌, All, length, map}
use Rattle.cv_pool.specs.Nodes.{ChildBelow}
use Rattle.cv_syntax.specs.PoolTrees.{tree_at}
use Rattle.cv_syntax.specs.Walks.{above}
use Rattle.cv_scope_rules.specs.Context.{cells_of}
use Rattle.cv_scene.specs.lines.Lines.{lines_of, statements}
use Rattle.cv_rule_pick.specs.Picking.{equations}
use Rattle.cv_rule_pick.specs.Wanted.{IsLiveWanted, wanted_of}
use Rattle.cv_rule_pick.specs.declared.targets.Given.{Given}
use Rattle.cv_rule_pick.proofs.targets.wanted_equations.Given as goal

abbrev pub invariant-binders : goal.invariant-binders
invariant-binders l = record {
  live : ChildBelow (length l.pool.trees) l.at;
  left : ChildBelow (length l.pool.trees) l.left;
  alive : All (IsLiveWanted (length l.pool.trees)) l.wanted.items;
  said : (given : Given) → map (wanted_of l.pool.trees given) l.wanted.items ++ statements (lines_of (equations (cells_of given.replications.now (tree_at l.pool.trees l.at)) (tree_at l.pool.trees l.left)))
      ≡ statements (lines_of (equations (cells_of given.replications.now (tree_at l.pool.trees l.fn.binders)) (tree_at l.pool.trees l.fn.terms)));
}

abbrev pub decreases-binders : goal.decreases-binders
decreases-binders l = above l.at
