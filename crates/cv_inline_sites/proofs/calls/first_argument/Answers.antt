use Rattle.std.proofs.Common.{ap, arith, sym}
use Rattle.cv_syntax.specs.PoolTrees.{tree_at}
use Rattle.cv_syntax.proofs.Trees.{empty_at, node_at}
use Rattle.cv_syntax.proofs.Walking.{size_node}
use Rattle.cv_inline_sites.specs.Calls.{first_argument}
use Rattle.cv_inline_sites.proofs.Arguments.{no_terms}
use Rattle.cv_inline_sites.proofs.calls.first_argument.Goals as goal

pub returns-in_err-binders-clause-argument : goal.returns-in_err-binders-clause-argument
returns-in_err-binders-clause-argument c =
    let trees = c.args.pool.now.trees in
    rw c.from_residual.ensures (sym (ap (λ t. first_argument t (tree_at trees c.args.terms)) (empty_at trees c.args.binders c.in_err-binders.was)))

pub returns-in_err-terms-clause-argument : goal.returns-in_err-terms-clause-argument
returns-in_err-terms-clause-argument c =
    let trees = c.args.pool.now.trees in
    let node = c.read_node-binder.result in
    rw c.from_residual-in_err-terms.ensures
    (no_terms (tree_at trees c.args.binders) (tree_at trees c.args.terms) (tree_at trees node.first) (tree_at trees node.second) node.head c.in-Binder.name c.in-Binder.of (node_at trees c.args.binders c.in_ok-binders.field-0 node c.in_ok-binders.was c.read_node-binder.ensures.tree) c.in-Binder.is (empty_at trees c.args.terms c.in_err-terms.was))

pub returns-clause-small : goal.returns-clause-small
returns-clause-small c =
    let trees = c.args.pool.now.trees in
    let node = c.read_node-item.result in
    let e = node_at trees c.args.terms c.in_ok-terms.field-0 node c.in_ok-terms.was c.read_node-item.ensures.tree in
    omega (arith, size_node (tree_at trees c.args.terms) node.head (tree_at trees node.first) (tree_at trees node.second) e)
