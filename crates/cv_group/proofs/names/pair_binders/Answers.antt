use Rattle.std.proofs.Common.{length, ap, ◌∙◌}
use Rattle.cv_syntax_trees.specs.Tree.{bound_names}
use Rattle.cv_syntax.specs.PoolTrees.{tree_at}
use Rattle.cv_syntax.proofs.Trees.{child_live, node_at}
use Rattle.cv_syntax.proofs.ChildReads.{bound_names_Binder, bound_names_None, bound_names_other}
use Rattle.cv_syntax.specs.NameSets.{is_one_of}
use Rattle.cv_group.proofs.bodies.Sets as set
use Rattle.std.specs.Prelude.{◌==◌}
use Rattle.cv_group.proofs.names.pair_binders.Goals as goal

pub returns-in_default-head : goal.returns-in_default-head
returns-in_default-head c =
    let trees = c.args.pool.now.trees in
    let node = c.read_node-cell.result in
    λ n x. set.pair_nothing (c.args.bound == n) _ _ (ap (λ xs. is_one_of xs x) (bound_names_other (tree_at trees c.binders.at) node.head (tree_at trees node.first) (tree_at trees node.second) (node_at trees c.binders.at c.in-Some.k node c.in-Some.is c.read_node-cell.ensures.tree) c.in_default-head.not-Binder)) ∙ c.binders.invariant.same n x

pub binders-preserved : goal.binders-preserved
binders-preserved c =
    let trees = c.args.pool.now.trees in
    let node = c.read_node-cell.result in
    record {
      live = child_live (length trees) c.binders.at c.in-Some.k node.second c.in-Some.is c.binders.invariant.live c.read_node-cell.ensures.second;
      same = λ n x. set.pair_more (c.args.bound == n) _ _ (is_one_of (bound_names (tree_at trees c.binders.at)) x) (c.in-Binder.x == x) _ (c.in_ok-pair_name.ensures n x) (ap (λ xs. is_one_of xs x) (bound_names_Binder (tree_at trees c.binders.at) node.head (tree_at trees node.first) (tree_at trees node.second) c.in-Binder.x c.in-Binder.field-1 (node_at trees c.binders.at c.in-Some.k node c.in-Some.is c.read_node-cell.ensures.tree) c.in-Binder.is)) ∙ c.binders.invariant.same n x;
    }

pub returns : goal.returns
returns c = λ n x. set.pair_nothing (c.args.bound == n) _ _ (ap (λ xs. is_one_of xs x) (bound_names_None c.args.pool.now.trees c.binders.at c.in_default.is)) ∙ c.binders.invariant.same n x
