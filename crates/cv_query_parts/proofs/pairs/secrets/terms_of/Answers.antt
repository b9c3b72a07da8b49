use Rattle.std.proofs.Common.{length, refl}
use Rattle.cv_syntax.specs.PoolTrees.{tree_at}
use Rattle.cv_syntax.proofs.Trees.{child_live, empty_at, node_at}
use Rattle.cv_query_parts.specs.declared.pairs.routes.Index.TheVariants.{Term}
use Rattle.cv_query_parts.specs.pairs.Routes.{IsIndexBelow, index_tree}
use Rattle.cv_query_parts.proofs.pairs.Copying.{term_found, terms_found}
use Rattle.cv_query_parts.proofs.pairs.Meeting.{one_more}
use Rattle.cv_query_parts.proofs.pairs.secrets.terms_of.Goals as goal

pub terms-preserved : goal.terms-preserved
terms-preserved c =
    let trees = c.args.pool.now.trees in
    let node = c.read_node-node.result in
    record {
      live = child_live (length trees) c.terms.at c.in-Some.n node.second c.in-Some.is c.terms.invariant.live c.read_node-node.ensures.second;
      found = one_more (IsIndexBelow (length trees)) c.terms.found.items c.push.new.self.items (Term node.first) c.terms.invariant.found (child_live (length trees) c.terms.at c.in-Some.n node.first c.in-Some.is c.terms.invariant.live c.read_node-node.ensures.first) c.in_ok-push.ensures.items;
      same = term_found (index_tree trees) (tree_at trees c.terms.at) c.terms.found.items _ c.terms.invariant.same node.head (tree_at trees node.first) (tree_at trees node.second) (Term node.first) c.push.new.self.items (node_at trees c.terms.at c.in-Some.n node c.in-Some.is c.read_node-node.ensures.tree) refl c.in_ok-push.ensures.items;
    }

pub returns-clause-trees : goal.returns-clause-trees
returns-clause-trees c =
    let trees = c.args.pool.now.trees in
    terms_found (index_tree trees) (tree_at trees c.terms.at) c.terms.found.items _ c.terms.invariant.same (empty_at trees c.terms.at c.in_default.is)
