use Rattle.std.proofs.Common.{length}
use Rattle.std.specs.List.{list_any}
use Rattle.cv_syntax.specs.PoolTrees.{tree_at}
use Rattle.cv_syntax.proofs.Trees.{child_live, empty_at, node_at}
use Rattle.cv_meaning.specs.contexts.Groups.{functions_of}
use Rattle.cv_match_terms.specs.heads.Beginnings.{begins, may_begin}
use Rattle.cv_match_terms.proofs.heads.Beginnings.{begun_end, begun_more}
use Rattle.cv_match_terms.proofs.heads.heads.Heads.of.Goals as goal

pub functions-preserved : goal.functions-preserved
functions-preserved c =
    let trees = c.args.pool.now.trees in
    let node = c.read_node-node.result in
    record {
      live = child_live (length trees) c.functions.at c.in-Some.n node.second c.in-Some.is c.functions.invariant.live c.read_node-node.ensures.second;
      same = λ k. begun_more k (tree_at trees c.functions.at) (may_begin c.functions.heads k) (list_any (begins k) (functions_of (tree_at trees c.args.functions))) (c.functions.invariant.same k) node.head (tree_at trees node.first) (tree_at trees node.second) (node_at trees c.functions.at c.in-Some.n node c.in-Some.is c.read_node-node.ensures.tree) (may_begin c.note.new.self k) (c.in_ok-note.ensures k);
    }

pub returns : goal.returns
returns c = λ k.
    let trees = c.args.pool.now.trees in
    begun_end k (tree_at trees c.functions.at) (may_begin c.functions.heads k) (list_any (begins k) (functions_of (tree_at trees c.args.functions))) (c.functions.invariant.same k) (empty_at trees c.functions.at c.in_default.is)
