use Rattle.std.proofs.Common.{◌++◌, ap, ◌∙◌}
use Rattle.cv_syntax.specs.PoolTrees.{tree_at}
use Rattle.cv_grounds.specs.Lists.{binder_names}
use Rattle.cv_grounds.proofs.Listing.{name_passed, name_pushed, names_done, no_child}
use Rattle.cv_grounds.proofs.nodes.binders.Goals as goal

pub returns-in_default-open : goal.returns-in_default-open
returns-in_default-open c = names_done _ _ _ (ap (tree_at c.args.pool.now.trees) c.in-Some.is ∙ c.in_default-open.ensures.none) c.cells.invariant

pub cells-preserved-in_ok-push : goal.cells-preserved-in_ok-push
cells-preserved-in_ok-push c =
    ap (λ xs. xs ++ binder_names (tree_at c.args.pool.now.trees c.in-Some-open.cell.second)) c.in_ok-push.ensures.items
    ∙ name_pushed c.args.pool.now.trees c.cells.at c.in-Some.n c.in-Some-open.cell c.in-Some.is c.in-Some-open.ensures.tree c.cells.names.items c.in-Binder.x c.in-Binder.field-1 _ c.in-Binder.is c.cells.invariant

pub cells-preserved : goal.cells-preserved
cells-preserved c = name_passed c.args.pool.now.trees c.cells.at c.in-Some.n c.in-Some-open.cell c.in-Some.is c.in-Some-open.ensures.tree c.cells.names.items _ c.in_default-head.not-Binder c.cells.invariant

pub returns : goal.returns
returns c = names_done _ _ _ (ap (tree_at c.args.pool.now.trees) c.in_default.is ∙ no_child c.args.pool.now.trees) c.cells.invariant
