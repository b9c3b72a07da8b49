use Rattle.std.proofs.Common.{arith, length, refl}
use Rattle.cv_syntax.specs.PoolTrees.{tree_at}
use Rattle.cv_syntax.proofs.Trees.{child_live, empty_at, node_at}
use Rattle.cv_query_parts.specs.declared.pairs.routes.Index.TheVariants.{Term}
use Rattle.cv_query_parts.specs.pairs.Routes.{IsIndexBelow, index_tree}
use Rattle.cv_query_parts.proofs.pairs.Meeting.{all_terms, no_term, one_more, term_more}
use Rattle.cv_query_parts.proofs.pairs.routes.first_terms.Goals as goal

pub terms-preserved : goal.terms-preserved
terms-preserved c =
    let trees = c.args.pool.now.trees in
    let node = c.read_node-node.result in
    record {
      live = child_live (length trees) c.terms.at c.in-Some.n node.second c.in-Some.is c.terms.invariant.live c.read_node-node.ensures.second;
      found = one_more (IsIndexBelow (length trees)) c.terms.found.items c.push.new.self.items (Term node.first) c.terms.invariant.found (child_live (length trees) c.terms.at c.in-Some.n node.first c.in-Some.is c.terms.invariant.live c.read_node-node.ensures.first) c.in_ok-push.ensures.items;
      same = term_more (index_tree trees) c.args.count c.terms._k (tree_at trees c.terms.at) c.terms.found.items _ c.terms.invariant.same node.head (tree_at trees node.first) (tree_at trees node.second) (Term node.first) c.push.new.self.items c.terms-test.true (node_at trees c.terms.at c.in-Some.n node c.in-Some.is c.read_node-node.ensures.tree) refl c.in_ok-push.ensures.items;
    }

pub returns-in_default-clause-trees : goal.returns-in_default-clause-trees
returns-in_default-clause-trees c =
    let trees = c.args.pool.now.trees in
    no_term (index_tree trees) c.args.count c.terms._k (tree_at trees c.terms.at) c.terms.found.items _ c.terms.invariant.same (empty_at trees c.terms.at c.in_default.is)

pub returns-clause-trees : goal.returns-clause-trees
returns-clause-trees c =
    let trees = c.args.pool.now.trees in
    all_terms (index_tree trees) c.args.count c.terms._k (tree_at trees c.terms.at) c.terms.found.items _ c.terms.invariant.same (omega arith)
