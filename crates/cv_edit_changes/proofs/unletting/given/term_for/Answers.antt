use Rattle.std.proofs.Common.{arith, ap, sym, ◌∙◌, length}
use Rattle.cv_syntax.specs.PoolTrees.{tree_at}
use Rattle.cv_syntax.proofs.Trees.{child_live, empty_at}
use Rattle.cv_syntax.proofs.Walking.{above_child, above_some}
use Rattle.cv_directory.specs.Tables.{entries_in}
use Rattle.cv_edit_changes.proofs.unletting.Names.{given_end, given_here, given_later, given_past}
use Rattle.cv_edit_changes.proofs.unletting.given.term_for.Goals as goal

pub returns-in_default-replication-clause-tree : goal.returns-in_default-replication-clause-tree
returns-in_default-replication-clause-tree c =
    let trees = c.args.pool.now.trees in
    let definition = (entries_in trees c.args.directory.now).first c.args.x in
    given_past definition c.terms.k c.args.name (tree_at trees c.terms.at) (sym (c.replication.ensures trees) ∙ c.in_default-replication.is) ∙ c.terms.invariant.rest

pub returns-then-replication-name-clause-tree : goal.returns-then-replication-name-clause-tree
returns-then-replication-name-clause-tree c =
    let trees = c.args.pool.now.trees in
    let node = c.read_node-node.result in
    let definition = (entries_in trees c.args.directory.now).first c.args.x in
    let e = ap (tree_at trees) c.in-Some.is ∙ c.read_node-node.ensures.tree in
    given_here definition c.terms.k c.args.name c.in-Some-replication.replication (sym (c.replication.ensures trees) ∙ c.in-Some-replication.is) (tree_at trees c.terms.at) node.head (tree_at trees node.first) (tree_at trees node.second) e c.if-replication-name.true ∙ c.terms.invariant.rest

pub terms-preserved : goal.terms-preserved
terms-preserved c =
    let trees = c.args.pool.now.trees in
    let node = c.read_node-node.result in
    let definition = (entries_in trees c.args.directory.now).first c.args.x in
    let e = ap (tree_at trees) c.in-Some.is ∙ c.read_node-node.ensures.tree in
    record {
      live = child_live (length trees) c.terms.at c.in-Some.n node.second c.in-Some.is c.terms.invariant.live c.read_node-node.ensures.second;
      few = omega (arith, c.terms.invariant.few, above_some c.terms.at c.in-Some.n c.in-Some.is, above_child c.in-Some.n.0 node.second c.read_node-node.ensures.second);
      rest = given_later definition c.terms.k c.args.name c.in-Some-replication.replication (sym (c.replication.ensures trees) ∙ c.in-Some-replication.is) (tree_at trees c.terms.at) node.head (tree_at trees node.first) (tree_at trees node.second) e c.if-replication-name.false ∙ c.terms.invariant.rest;
    }

pub returns-clause-tree : goal.returns-clause-tree
returns-clause-tree c =
    let trees = c.args.pool.now.trees in
    let definition = (entries_in trees c.args.directory.now).first c.args.x in
    given_end definition c.terms.k c.args.name (tree_at trees c.terms.at) (empty_at trees c.terms.at c.in_default.is) ∙ c.terms.invariant.rest
