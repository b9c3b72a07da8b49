use Rattle.std.proofs.Common.{length, ap, sym, ◌∙◌}
use Rattle.cv_syntax_trees.specs.Tree.{bound_names}
use Rattle.cv_syntax.specs.PoolTrees.{tree_at}
use Rattle.cv_syntax.proofs.Trees.{child_live, node_at}
use Rattle.cv_syntax.proofs.ChildReads.{bound_names_Binder, bound_names_None, bound_names_other}
use Rattle.cv_syntax.specs.NameSets.{is_in}
use Rattle.cv_group.proofs.shapes.Steps as side
use Rattle.cv_group.proofs.shapes.Taking as taking
use Rattle.cv_group.specs.shapes.Shapes.{are_taken, without_all}
use Rattle.cv_group.proofs.reads.take_names.Goals as goal

pub returns-in_default-head-clause-taken : goal.returns-in_default-head-clause-taken
returns-in_default-head-clause-taken c =
    let trees = c.args.pool.now.trees in
    let node = c.read_node-cell.result in
    sym (ap (are_taken (is_in c.binders.names)) (bound_names_other (tree_at trees c.binders.at) node.head (tree_at trees node.first) (tree_at trees node.second) (node_at trees c.binders.at c.in-Some.k node c.in-Some.is c.read_node-cell.ensures.tree) c.in_default-head.not-Binder)) ∙ c.binders.invariant.same

pub returns-in_default-head-clause-left : goal.returns-in_default-head-clause-left
returns-in_default-head-clause-left c =
    let trees = c.args.pool.now.trees in
    let node = c.read_node-cell.result in
    λ h. sym (ap (without_all (is_in c.binders.names)) (bound_names_other (tree_at trees c.binders.at) node.head (tree_at trees node.first) (tree_at trees node.second) (node_at trees c.binders.at c.in-Some.k node c.in-Some.is c.read_node-cell.ensures.tree) c.in_default-head.not-Binder)) ∙ c.binders.invariant.left

pub returns-then-not-remove-clause-taken : goal.returns-then-not-remove-clause-taken
returns-then-not-remove-clause-taken c =
    let trees = c.args.pool.now.trees in
    let node = c.read_node-cell.result in
    side.and_false _ _ _ _ (ap (are_taken (is_in c.binders.names)) (bound_names_Binder (tree_at trees c.binders.at) node.head (tree_at trees node.first) (tree_at trees node.second) c.in-Binder.x c.in-Binder.field-1 (node_at trees c.binders.at c.in-Some.k node c.in-Some.is c.read_node-cell.ensures.tree) c.in-Binder.is)) c.binders.invariant.same (sym c.remove.ensures.test ∙ c.if-not-remove.true)

pub binders-preserved : goal.binders-preserved
binders-preserved c =
    let trees = c.args.pool.now.trees in
    let node = c.read_node-cell.result in
    record {
      live = child_live (length trees) c.binders.at c.in-Some.k node.second c.in-Some.is c.binders.invariant.live c.read_node-cell.ensures.second;
      same = ap (λ free. are_taken free (bound_names (tree_at trees node.second))) (taking.removed c.in-Binder.x c.binders.names c.remove.new.self c.remove.ensures.updates) ∙ side.and_true _ _ _ _ (ap (are_taken (is_in c.binders.names)) (bound_names_Binder (tree_at trees c.binders.at) node.head (tree_at trees node.first) (tree_at trees node.second) c.in-Binder.x c.in-Binder.field-1 (node_at trees c.binders.at c.in-Some.k node c.in-Some.is c.read_node-cell.ensures.tree) c.in-Binder.is)) c.binders.invariant.same (sym c.remove.ensures.test ∙ c.if-not-remove.false);
      left = ap (λ free. without_all free (bound_names (tree_at trees node.second))) (taking.removed c.in-Binder.x c.binders.names c.remove.new.self c.remove.ensures.updates) ∙ (sym (ap (without_all (is_in c.binders.names)) (bound_names_Binder (tree_at trees c.binders.at) node.head (tree_at trees node.first) (tree_at trees node.second) c.in-Binder.x c.in-Binder.field-1 (node_at trees c.binders.at c.in-Some.k node c.in-Some.is c.read_node-cell.ensures.tree) c.in-Binder.is)) ∙ c.binders.invariant.left);
    }

pub returns-clause-taken : goal.returns-clause-taken
returns-clause-taken c = sym (ap (are_taken (is_in c.binders.names)) (bound_names_None c.args.pool.now.trees c.binders.at c.in_default.is)) ∙ c.binders.invariant.same

pub returns-clause-left : goal.returns-clause-left
returns-clause-left c = λ h. sym (ap (without_all (is_in c.binders.names)) (bound_names_None c.args.pool.now.trees c.binders.at c.in_default.is)) ∙ c.binders.invariant.left
