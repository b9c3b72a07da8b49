use Rattle.std.proofs.Common.{arith, ap, sym, ◌∙◌, length}
use Rattle.cv_syntax.specs.PoolTrees.{tree_at}
use Rattle.cv_syntax.proofs.Trees.{child_live, empty_at}
use Rattle.cv_syntax.proofs.Walking.{above_child, above_some}
use Rattle.cv_syntax.proofs.listing.Lists.{listed_end, listed_last, listed_on, listed_same, on_ok}
use Rattle.cv_scene.specs.lines.Given.{with_given}
use Rattle.cv_edit_changes.specs.unletting.Putting.{put_in}
use Rattle.cv_edit_changes.specs.unletting.Assigned.{names_above}
use Rattle.cv_edit_changes.proofs.unletting.PutTrees.{put_Empty, put_gone, put_read, put_stays}
use Rattle.cv_edit_changes.proofs.unletting.putting.+list_put.Goals as goal

pub returns-then-is_read : goal.returns-then-is_read
returns-then-is_read u c =
    let trees = c.args.pool.now.trees in
    let node = c.read_node-node.result in
    let is = names_above trees c.args.directory.now c.args.x in
    let t = tree_at trees c.chain.at in
    let a = tree_at trees node.first in
    let b = tree_at trees node.second in
    let e = ap (tree_at trees) c.in-Some.is ∙ c.read_node-node.ensures.tree in
    let m = tree_at trees c.args.term in
    let g = put_read c.args.x is m t node.head a b e (sym c.is_read.ensures ∙ c.if-is_read.true) in
    on_ok c.close.result
    (λ f. listed_last c.chain.makes.items c.list_under.new.makes.items _ c.chain.heads.items (with_given is a m) c.close.new.makes.items (listed_same c.chain.makes.items c.chain.makes.items _ c.chain.heads.items (put_in c.args.x is m t) (with_given is a m) g c.chain.invariant.listed) c.in_ok-list_under.ensures f)
    c.close.ensures

pub chain-preserved-in_ok-push : goal.chain-preserved-in_ok-push
chain-preserved-in_ok-push u c =
    let trees = c.args.pool.now.trees in
    let node = c.read_node-node.result in
    let is = names_above trees c.args.directory.now c.args.x in
    let t = tree_at trees c.chain.at in
    let a = tree_at trees node.first in
    let b = tree_at trees node.second in
    let e = ap (tree_at trees) c.in-Some.is ∙ c.read_node-node.ensures.tree in
    let m = tree_at trees c.args.term in
    let s = put_stays c.args.x is m t node.head a b e (sym c.is_read.ensures ∙ c.if-is_read.false) (sym c.is_definition.ensures ∙ c.if-not-is_definition.true) in
    record {
      below = omega (arith, c.chain.invariant.below, above_some c.chain.at c.in-Some.k c.in-Some.is, above_child c.in-Some.k.0 node.second c.read_node-node.ensures.second);
      live = child_live (length trees) c.chain.at c.in-Some.k node.second c.in-Some.is c.chain.invariant.live c.read_node-node.ensures.second;
      listed = listed_on c.chain.makes.items c.list_put.new.makes.items _ c.chain.heads.items (put_in c.args.x is m t) c.push.new.self.items node.head (put_in c.args.x is m a) (put_in c.args.x is m b) s c.chain.invariant.listed c.in_ok-list_put.ensures c.in_ok-push.ensures.items;
    }

pub chain-preserved : goal.chain-preserved
chain-preserved u c =
    let trees = c.args.pool.now.trees in
    let node = c.read_node-node.result in
    let is = names_above trees c.args.directory.now c.args.x in
    let t = tree_at trees c.chain.at in
    let a = tree_at trees node.first in
    let b = tree_at trees node.second in
    let e = ap (tree_at trees) c.in-Some.is ∙ c.read_node-node.ensures.tree in
    let m = tree_at trees c.args.term in
    let s = put_gone c.args.x is m t node.head a b e (sym c.is_read.ensures ∙ c.if-is_read.false) (sym c.is_definition.ensures ∙ c.if-not-is_definition.false) in
    record {
      below = omega (arith, c.chain.invariant.below, above_some c.chain.at c.in-Some.k c.in-Some.is, above_child c.in-Some.k.0 node.second c.read_node-node.ensures.second);
      live = child_live (length trees) c.chain.at c.in-Some.k node.second c.in-Some.is c.chain.invariant.live c.read_node-node.ensures.second;
      listed = listed_same c.chain.makes.items c.chain.makes.items _ c.chain.heads.items (put_in c.args.x is m t) (put_in c.args.x is m b) s c.chain.invariant.listed;
    }

pub returns : goal.returns
returns u c =
    let trees = c.args.pool.now.trees in
    let is = names_above trees c.args.directory.now c.args.x in
    let t = put_in c.args.x is (tree_at trees c.args.term) (tree_at trees c.chain.at) in
    on_ok c.close-2.result
    (λ f. listed_end c.chain.makes.items c.push-2.new.self.items _ c.chain.heads.items t c.close-2.new.makes.items (put_Empty c.args.x is (tree_at trees c.args.term) (tree_at trees c.chain.at) (empty_at trees c.chain.at c.in_default.is)) c.chain.invariant.listed c.in_ok-push-2.ensures.items f)
    c.close-2.ensures
