use Rattle.std.proofs.Common.{◌||◌, length, ap, sym, ◌∙◌}
use Rattle.cv_syntax_trees.specs.Tree.{bound_names}
use Rattle.cv_syntax.specs.PoolTrees.{tree_at}
use Rattle.cv_syntax.proofs.Trees.{child_live, node_at}
use Rattle.cv_syntax.specs.NameSets.{is_in, is_one_of}
use Rattle.cv_syntax.proofs.ChildReads.{bound_names_None, bound_names_other, bound_names_Binder, no_more, one_more}
use Rattle.cv_syntax.proofs.children.variables_of.Goals as goal

pub returns-in_default-head : goal.returns-in_default-head
returns-in_default-head c =
    let trees = c.args.pool.now.trees in
    let node = c.read_node-cell.result in
    no_more c.binders.names (bound_names (tree_at trees c.args.binders)) (bound_names (tree_at trees c.binders.at)) (bound_names_other (tree_at trees c.binders.at) node.head (tree_at trees node.first) (tree_at trees node.second) (node_at trees c.binders.at c.in-Some.n node c.in-Some.is c.read_node-cell.ensures.tree) c.in_default-head.not-Binder) c.binders.invariant.same

pub binders-preserved : goal.binders-preserved
binders-preserved c =
    let trees = c.args.pool.now.trees in
    let node = c.read_node-cell.result in
    record {
      live = child_live (length trees) c.binders.at c.in-Some.n node.second c.in-Some.is c.binders.invariant.live c.read_node-cell.ensures.second;
      same = λ y. one_more c.binders.names c.insert.new.self c.in-Binder.x (bound_names (tree_at trees node.second)) c.in_ok-insert.ensures.updates y ∙ (ap (λ xs. is_in c.binders.names y || is_one_of xs y) (sym (bound_names_Binder (tree_at trees c.binders.at) node.head (tree_at trees node.first) (tree_at trees node.second) c.in-Binder.x c.in-Binder.field-1 (node_at trees c.binders.at c.in-Some.n node c.in-Some.is c.read_node-cell.ensures.tree) c.in-Binder.is)) ∙ c.binders.invariant.same y);
    }

pub returns : goal.returns
returns c = no_more c.binders.names (bound_names (tree_at c.args.pool.now.trees c.args.binders)) (bound_names (tree_at c.args.pool.now.trees c.binders.at)) (bound_names_None c.args.pool.now.trees c.binders.at c.in_default.is) c.binders.invariant.same
