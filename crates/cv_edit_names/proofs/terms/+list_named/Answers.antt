use Rattle.std.proofs.Common.{arith, ap, sym, ◌∙◌, ◌++◌, ◌∷◌, [], Some, length}
use Rattle.cv_syntax.specs.PoolTrees.{tree_at}
use Rattle.cv_syntax.proofs.Trees.{child_live, empty_at}
use Rattle.cv_syntax.proofs.Walking.{above_child, above_some}
use Rattle.cv_syntax.proofs.listing.Lists.{listed_end, listed_on, on_ok}
use Rattle.cv_edit_names.specs.Cells.{with_names}
use Rattle.cv_edit_names.specs.Kept.{around_in}
use Rattle.cv_edit_names.specs.Splitting.{names_known}
use Rattle.cv_edit_names.proofs.Renamed.{named_node, named_nothing}
use Rattle.cv_edit_names.proofs.terms.+list_named.Goals as goal

pub chain-preserved : goal.chain-preserved
chain-preserved u c =
    let trees = c.args.pool.now.trees in
    let node = c.read_node-node.result in
    let t = tree_at trees c.chain.at in
    let a = tree_at trees node.first in
    let b = tree_at trees node.second in
    let e = ap (tree_at trees) c.in-Some.is ∙ c.read_node-node.ensures.tree in
    record {
      below = omega (arith, c.chain.invariant.below, above_some c.chain.at c.in-Some.k c.in-Some.is, above_child c.in-Some.k.0 node.second c.read_node-node.ensures.second);
      live = child_live (length trees) c.chain.at c.in-Some.k node.second c.in-Some.is c.chain.invariant.live c.read_node-node.ensures.second;
      listed = listed_on c.chain.makes.items c.list_named.new.makes.items _ c.chain.heads.items (with_names (names_known (around_in trees c.args.x c.args.around.now)) t) c.push.new.self.items _ (with_names (names_known (around_in trees c.args.x c.args.around.now)) a) (with_names (names_known (around_in trees c.args.x c.args.around.now)) b) (ap (with_names (names_known (around_in trees c.args.x c.args.around.now))) (ap (tree_at trees) c.in-Some.is) ∙ named_node (names_known (around_in trees c.args.x c.args.around.now)) (tree_at trees (Some c.in-Some.k)) node.head a b c.read_node-node.ensures.tree) c.chain.invariant.listed c.in_ok-list_named.ensures (c.in_ok-push.ensures.items ∙ ap (λ h. c.chain.heads.items ++ h ∷ []) c.read_head.ensures);
    }

pub returns : goal.returns
returns u c =
    let trees = c.args.pool.now.trees in
    let t = tree_at trees c.chain.at in
    on_ok c.close.result
    (λ f. listed_end c.chain.makes.items c.push-2.new.self.items _ c.chain.heads.items (with_names (names_known (around_in trees c.args.x c.args.around.now)) t) c.close.new.makes.items (named_nothing (names_known (around_in trees c.args.x c.args.around.now)) t (empty_at trees c.chain.at c.in_default.is)) c.chain.invariant.listed c.in_ok-push-2.ensures.items f)
    c.close.ensures
