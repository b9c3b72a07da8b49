use Rattle.std.proofs.Common.{◌≡◌, ◌+◌, arith, ap, sym, length, ◌∙◌}
use Rattle.cv_syntax.specs.PoolTrees.{tree_at}
use Rattle.cv_syntax.proofs.Trees.{child_live, empty_at}
use Rattle.cv_syntax.proofs.Walking.{above_child, above_some}
use Rattle.cv_syntax.specs.listing.Needs.{most_asked}
use Rattle.cv_edit_changes.specs.renaming.Needs.{need_renaming}
use Rattle.cv_edit_changes.proofs.renaming.Counted.{counted_below, counted_here, passed_by, pending_all, pending_none}
use Rattle.cv_edit_changes.proofs.renaming.counting.+count_renaming.Goals as goal
use Rattle.cv_edit_changes.proofs.renaming.counting.+count_renaming.Goals.{then-below-gt0-via-then-below-gt0, then-below-gt0-via-else-below-gt0+then-head_names}

pub chain-init : goal.chain-init
chain-init t c = record {
  below = omega arith;
  fits = omega arith;
  live = c.requires.live;
  total = omega (arith, pending_all c.args.x (tree_at c.args.pool.now.trees c.args.start));
}

pub chain-preserved-then-below-gt0 : goal.chain-preserved-then-below-gt0
chain-preserved-then-below-gt0 t c =
    let trees = c.args.pool.now.trees in
    let x = c.args.x in
    let node = c.read_node-node.result in
    let a = tree_at trees node.first in
    let b = tree_at trees node.second in
    let e = ap (tree_at trees) c.in-Some.is ∙ c.read_node-node.ensures.tree in
    let below = c.count_renaming-below.result in
    let now = c.saturating_add-passed.result in
    let more = c.saturating_add-total.result in
    let need = need_renaming x (tree_at trees c.args.start) in
    let one : now ≡ most_asked (c.chain.passed + 1) = c.saturating_add-passed.ensures in
    let all : more ≡ most_asked (most_asked (c.chain.total + now) + below) = c.saturating_add-total.ensures ∙ ap (λ n. most_asked (n + below)) c.saturating_add.ensures in
    record {
      below = omega (arith, c.chain.invariant.below, above_some c.chain.at c.in-Some.k c.in-Some.is, above_child c.in-Some.k.0 node.second c.read_node-node.ensures.second);
      fits = omega (arith, all);
      live = child_live (length trees) c.chain.at c.in-Some.k node.second c.in-Some.is c.chain.invariant.live c.read_node-node.ensures.second;
      total =
          elim c.then-below-gt0.branch [
            | then-below-gt0-via-then-below-gt0 w ↦ counted_below x (tree_at trees c.chain.at) node.head a b e c.chain.total c.chain.passed below need c.count_renaming-below.ensures c.chain.invariant.total (omega (arith, w.if-below-gt0.true)) more now one all
            | then-below-gt0-via-else-below-gt0+then-head_names w ↦ counted_here x (tree_at trees c.chain.at) node.head a b e c.chain.total c.chain.passed below need c.count_renaming-below.ensures c.chain.invariant.total (sym w.head_names.ensures ∙ w.if-head_names.true) more now one all
          ];
    }

pub chain-preserved : goal.chain-preserved
chain-preserved t c =
    let trees = c.args.pool.now.trees in
    let x = c.args.x in
    let node = c.read_node-node.result in
    let e = ap (tree_at trees) c.in-Some.is ∙ c.read_node-node.ensures.tree in
    let below = c.count_renaming-below.result in
    record {
      below = omega (arith, c.chain.invariant.below, above_some c.chain.at c.in-Some.k c.in-Some.is, above_child c.in-Some.k.0 node.second c.read_node-node.ensures.second);
      fits = c.chain.invariant.fits;
      live = child_live (length trees) c.chain.at c.in-Some.k node.second c.in-Some.is c.chain.invariant.live c.read_node-node.ensures.second;
      total = passed_by x (tree_at trees c.chain.at) node.head (tree_at trees node.first) (tree_at trees node.second) e c.chain.total c.chain.passed below (need_renaming x (tree_at trees c.args.start)) c.count_renaming-below.ensures c.chain.invariant.total (omega (arith, c.if-below-gt0.false)) (sym c.head_names.ensures ∙ c.if-head_names.false) c.saturating_add-passed.result c.saturating_add-passed.ensures;
    }

pub returns : goal.returns
returns t c = omega (arith, c.chain.invariant.total, c.chain.invariant.fits, pending_none c.args.x c.chain.passed (tree_at c.args.pool.now.trees c.chain.at) (empty_at c.args.pool.now.trees c.chain.at c.in_default.is))
