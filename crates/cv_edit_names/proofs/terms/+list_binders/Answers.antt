use Rattle.std.proofs.Common.{arith, ap, sym, ◌∙◌, ◌++◌, ◌∷◌, [], length}
use Rattle.cv_syntax.specs.PoolTrees.{tree_at}
use Rattle.cv_syntax.proofs.Trees.{child_live, empty_at}
use Rattle.cv_syntax.proofs.Walking.{above_child, above_some}
use Rattle.cv_syntax.proofs.listing.Lists.{listed_end, listed_on, on_ok}
use Rattle.cv_edit_names.specs.Kept.{naming_in}
use Rattle.cv_edit_names.specs.Naming.{name_at}
use Rattle.cv_edit_names.specs.Splitting.{with_name}
use Rattle.cv_edit_names.proofs.Renamed.{renamed_node, renamed_nothing}
use Rattle.cv_edit_names.proofs.terms.+list_binders.Goals as goal

pub chain-preserved : goal.chain-preserved
chain-preserved u c =
    let trees = c.args.pool.now.trees in
    let node = c.read_node-node.result in
    let t = tree_at trees c.chain.at in
    let a = tree_at trees node.first in
    let b = tree_at trees node.second in
    let e = ap (tree_at trees) c.in-Some.is ∙ c.read_node-node.ensures.tree in
    record {
      below = omega (arith, c.chain.invariant.below, above_some c.chain.at c.in-Some.k c.in-Some.is, above_child c.in-Some.k.0 node.second c.read_node-node.ensures.second);
      live = child_live (length trees) c.chain.at c.in-Some.k node.second c.in-Some.is c.chain.invariant.live c.read_node-node.ensures.second;
      listed = listed_on c.chain.makes.items c.list_binders.new.makes.items _ c.chain.heads.items (with_name (naming_in c.args.naming.now) c.args.place t) c.push.new.self.items _ (with_name (naming_in c.args.naming.now) c.args.place a) (with_name (naming_in c.args.naming.now) c.args.place b) (renamed_node c.args.naming.now.variable (name_at (naming_in c.args.naming.now) c.args.place) t node.head a b e) c.chain.invariant.listed c.in_ok-list_binders.ensures (c.in_ok-push.ensures.items ∙ ap (λ h. c.chain.heads.items ++ h ∷ []) c.named_head.ensures);
    }

pub returns : goal.returns
returns u c =
    let trees = c.args.pool.now.trees in
    let t = tree_at trees c.chain.at in
    on_ok c.close.result
    (λ f. listed_end c.chain.makes.items c.push-2.new.self.items _ c.chain.heads.items (with_name (naming_in c.args.naming.now) c.args.place t) c.close.new.makes.items (renamed_nothing c.args.naming.now.variable (name_at (naming_in c.args.naming.now) c.args.place) t (empty_at trees c.chain.at c.in_default.is)) c.chain.invariant.listed c.in_ok-push-2.ensures.items f)
    c.close.ensures
