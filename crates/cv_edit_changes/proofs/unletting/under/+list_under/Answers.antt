use Rattle.std.proofs.Common.{arith, ap, sym, ◌∙◌, length}
use Rattle.cv_syntax.specs.PoolTrees.{tree_at}
use Rattle.cv_syntax.proofs.Trees.{child_live, empty_at}
use Rattle.cv_syntax.proofs.Walking.{above_child, above_some}
use Rattle.cv_syntax.proofs.listing.Lists.{listed_end, listed_last, listed_on, listed_same, on_ok}
use Rattle.cv_scene.specs.lines.Given.{with_given}
use Rattle.cv_edit_changes.specs.unletting.Assigned.{names_above}
use Rattle.cv_edit_changes.proofs.unletting.Substituted.{under_Empty, under_given, under_stays}
use Rattle.cv_edit_changes.proofs.unletting.under.+list_under.Goals as goal

pub returns-in-Some-given_for : goal.returns-in-Some-given_for
returns-in-Some-given_for u c =
    let trees = c.args.pool.now.trees in
    let node = c.read_node-node.result in
    let is = names_above trees c.args.directory.now c.args.x in
    let t = tree_at trees c.chain.at in
    let a = tree_at trees node.first in
    let b = tree_at trees node.second in
    let e = ap (tree_at trees) c.in-Some.is ∙ c.read_node-node.ensures.tree in
    let ts = tree_at trees c.args.terms in
    let g = under_given is ts t node.head a b e _ (sym c.in-Some-given_for.ensures.tree) in
    on_ok c.close.result
    (λ f. listed_last c.chain.makes.items c.copy.new.makes.items _ c.chain.heads.items (tree_at trees c.in-Some-given_for.put.term) c.close.new.makes.items (listed_same c.chain.makes.items c.chain.makes.items _ c.chain.heads.items (with_given is ts t) (tree_at trees c.in-Some-given_for.put.term) g c.chain.invariant.listed) c.in_ok-copy.ensures f)
    c.close.ensures

pub chain-preserved : goal.chain-preserved
chain-preserved u c =
    let trees = c.args.pool.now.trees in
    let node = c.read_node-node.result in
    let is = names_above trees c.args.directory.now c.args.x in
    let t = tree_at trees c.chain.at in
    let a = tree_at trees node.first in
    let b = tree_at trees node.second in
    let e = ap (tree_at trees) c.in-Some.is ∙ c.read_node-node.ensures.tree in
    let ts = tree_at trees c.args.terms in
    let s = under_stays is ts t node.head a b e (sym c.in_default-given_for.ensures.tree) in
    record {
      below = omega (arith, c.chain.invariant.below, above_some c.chain.at c.in-Some.k c.in-Some.is, above_child c.in-Some.k.0 node.second c.read_node-node.ensures.second);
      live = child_live (length trees) c.chain.at c.in-Some.k node.second c.in-Some.is c.chain.invariant.live c.read_node-node.ensures.second;
      listed = listed_on c.chain.makes.items c.list_under.new.makes.items _ c.chain.heads.items (with_given is ts t) c.push.new.self.items node.head (with_given is ts a) (with_given is ts b) s c.chain.invariant.listed c.in_ok-list_under.ensures c.in_ok-push.ensures.items;
    }

pub returns : goal.returns
returns u c =
    let trees = c.args.pool.now.trees in
    let is = names_above trees c.args.directory.now c.args.x in
    let t = with_given is (tree_at trees c.args.terms) (tree_at trees c.chain.at) in
    on_ok c.close-2.result
    (λ f. listed_end c.chain.makes.items c.push-2.new.self.items _ c.chain.heads.items t c.close-2.new.makes.items (under_Empty is (tree_at trees c.args.terms) (tree_at trees c.chain.at) (empty_at trees c.chain.at c.in_default.is)) c.chain.invariant.listed c.in_ok-push-2.ensures.items f)
    c.close-2.ensures
