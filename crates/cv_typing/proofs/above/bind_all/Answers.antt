use Rattle.std.proofs.Common.{length, ap, sym, ◌∙◌}
use Rattle.cv_syntax.specs.PoolTrees.{tree_at}
use Rattle.cv_syntax_trees.specs.sites.Sites.{binder_sort}
use Rattle.cv_typing.specs.Tables.{above_of}
use Rattle.cv_scope_rules.specs.typing.Wants.{all_bound, bound}
use Rattle.cv_typing.proofs.Removals.{bound_end, bound_skip, bound_step}
use Rattle.cv_syntax.proofs.Trees.{child_live, empty_at, node_at}
use Rattle.cv_typing.proofs.above.bind_all.Goals as goal

pub list-preserved-in_ok-bind : goal.list-preserved-in_ok-bind
list-preserved-in_ok-bind c =
    let trees = c.args.pool.now.trees in
    let node = c.read_node-node.result in
    record {
      live = child_live (length trees) c.list.at c.in-Some.k node.second c.in-Some.is c.list.invariant.live c.read_node-node.ensures.second;
      names =
          ap (λ f. all_bound c.args.precedence f (binder_sort c.args.are_indices) (tree_at trees node.second)) (c.in_ok-bind.ensures.names ∙ ap (bound c.args.precedence (above_of c.list.above) c.in-Binder.x) c.sort_of_binder.ensures)
          ∙ (sym (bound_step c.args.precedence (above_of c.list.above) (binder_sort c.args.are_indices) (tree_at trees c.list.at) node.head (tree_at trees node.first) (tree_at trees node.second) c.in-Binder.x c.in-Binder.t (node_at trees c.list.at c.in-Some.k node c.in-Some.is c.read_node-node.ensures.tree) c.in-Binder.is)
          ∙ c.list.invariant.names);
      back = c.in_ok-bind.ensures.back ∙ c.list.invariant.back;
    }

pub list-preserved : goal.list-preserved
list-preserved c =
    let trees = c.args.pool.now.trees in
    let node = c.read_node-node.result in
    record {
      live = child_live (length trees) c.list.at c.in-Some.k node.second c.in-Some.is c.list.invariant.live c.read_node-node.ensures.second;
      names = sym (bound_skip c.args.precedence (above_of c.list.above) (binder_sort c.args.are_indices) (tree_at trees c.list.at) node.head (tree_at trees node.first) (tree_at trees node.second) (node_at trees c.list.at c.in-Some.k node c.in-Some.is c.read_node-node.ensures.tree) c.in_default-head.not-Binder) ∙ c.list.invariant.names;
      back = c.list.invariant.back;
    }

pub returns-clause-names : goal.returns-clause-names
returns-clause-names c = sym (bound_end c.args.precedence (above_of c.list.above) (binder_sort c.args.are_indices) (tree_at c.args.pool.now.trees c.list.at) (empty_at c.args.pool.now.trees c.list.at c.in_default.is)) ∙ c.list.invariant.names
