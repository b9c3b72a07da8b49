use Rattle.std.proofs.Common.{sym, ◌∙◌}
use Rattle.std.proofs.lemmas.Bool.{false≢true}
use Rattle.cv_syntax.specs.PoolTrees.{tree_at}
use Rattle.cv_syntax.proofs.Trees.{empty_at, node_at}
use Rattle.cv_group.proofs.bodies.Branches.{cell_missing, cell_there, level_more, no_branch, other_branch}
use Rattle.cv_group.proofs.bodies.bodies.enter_branch.Goals as goal

pub returns-in_default : goal.returns-in_default
returns-in_default c = record {
  pass = no_branch _ _ _ _ (empty_at c.args.pool.now.trees c.args.indices c.in_default.is);
  more = λ yes. absurd (false≢true yes);
}

pub returns-in_default-head : goal.returns-in_default-head
returns-in_default-head c = record {
  pass = other_branch _ _ _ _ _ _ _ (node_at c.args.pool.now.trees c.args.indices c.in-Some.k c.read_node.result c.in-Some.is c.read_node.ensures.tree) c.in_default-head.not-Binder;
  more = λ yes. absurd (false≢true yes);
}

pub returns-then-has_cell_at : goal.returns-then-has_cell_at
returns-then-has_cell_at c =
    let trees = c.args.pool.now.trees in
    let cells = tree_at trees c.args.cells in
    let e = node_at trees c.args.indices c.in-Some.k c.read_node.result c.in-Some.is c.read_node.ensures.tree in
    record {
      pass = cell_there _ cells _ _ _ c.in-Binder.index c.in-Binder.bound e c.in-Binder.is _ _ _ _ _ _ c.if-has_cell_at.ensures c.in_ok-found.ensures c.in_ok-push.ensures.items c.as_slice.ensures.value c.are_cells.ensures;
      more = λ _. level_more _ cells _ _ _ c.in-Binder.index c.in-Binder.bound e c.in-Binder.is _ _ _ c.in_ok-found.ensures c.in_ok-push.ensures.items;
    }

pub returns-else-has_cell_at : goal.returns-else-has_cell_at
returns-else-has_cell_at c =
    let trees = c.args.pool.now.trees in
    let cells = tree_at trees c.args.cells in
    let e = node_at trees c.args.indices c.in-Some.k c.read_node.result c.in-Some.is c.read_node.ensures.tree in
    record {
      pass = cell_missing _ cells _ _ _ c.in-Binder.index c.in-Binder.bound e c.in-Binder.is _ _ _ c.has_cell_at.ensures c.if-has_cell_at.false;
      more = λ yes. absurd (false≢true (sym c.if-has_cell_at.false ∙ yes));
    }
