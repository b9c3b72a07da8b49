use Rattle.std.proofs.Common.{length, sym, ◌∙◌}
use Rattle.cv_syntax.specs.Declarations.{declarations}
use Rattle.cv_syntax.specs.PoolTrees.{tree_at}
use Rattle.cv_syntax.proofs.Trees.{child_live, empty_at, node_at}
use Rattle.cv_steps_laws.specs.crypto.Sorts.{are_declared}
use Rattle.cv_kernel_crypto.specs.Roles.{binds_one, is_of}
use Rattle.cv_kernel_crypto.proofs.Declared.{binders_end, binders_node, one_fails, one_passes}
use Rattle.cv_kernel_crypto.proofs.sorts.are_declared.Goals as goal

pub returns-then-not-is_binder_of : goal.returns-then-not-is_binder_of
returns-then-not-is_binder_of c =
    let trees = c.args.pool.now.trees in
    let is = is_of (declarations trees c.args.decls.now.list) c.args.role in
    let node = c.read_node-node.result in
    let e = binders_node is (tree_at trees c.binders.at) node.head (tree_at trees node.first) (tree_at trees node.second) (node_at trees c.binders.at c.in-Some.n node c.in-Some.is c.read_node-node.ensures.tree) in
    sym (one_fails (are_declared is (tree_at trees c.binders.at)) (binds_one is node.head) (are_declared is (tree_at trees node.second)) c.is_binder_of.result e (c.is_binder_of.ensures trees) c.if-not-is_binder_of.true) ∙ c.binders.invariant.same

pub binders-preserved : goal.binders-preserved
binders-preserved c =
    let trees = c.args.pool.now.trees in
    let is = is_of (declarations trees c.args.decls.now.list) c.args.role in
    let node = c.read_node-node.result in
    let e = binders_node is (tree_at trees c.binders.at) node.head (tree_at trees node.first) (tree_at trees node.second) (node_at trees c.binders.at c.in-Some.n node c.in-Some.is c.read_node-node.ensures.tree) in
    record {
      live = child_live (length trees) c.binders.at c.in-Some.n node.second c.in-Some.is c.binders.invariant.live c.read_node-node.ensures.second;
      same = sym (one_passes (are_declared is (tree_at trees c.binders.at)) (binds_one is node.head) (are_declared is (tree_at trees node.second)) c.is_binder_of.result e (c.is_binder_of.ensures trees) c.if-not-is_binder_of.false) ∙ c.binders.invariant.same;
    }

pub returns : goal.returns
returns c = sym (binders_end (is_of (declarations c.args.pool.now.trees c.args.decls.now.list) c.args.role) (tree_at c.args.pool.now.trees c.binders.at) (empty_at c.args.pool.now.trees c.binders.at c.in_default.is)) ∙ c.binders.invariant.same
