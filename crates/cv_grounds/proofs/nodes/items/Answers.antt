use Rattle.std.proofs.Common.{◌<◌, ◌++◌, length, ap, subst, ◌∙◌, arith}
use Rattle.cv_pool.specs.Nodes.{ChildBelow}
use Rattle.cv_syntax.specs.PoolTrees.{tree_at}
use Rattle.cv_grounds.specs.Lists.{full_items, trees_at}
use Rattle.cv_grounds.proofs.Listing.{all_pushed, item_passed, item_pushed, items_done, no_child}
use Rattle.cv_grounds.proofs.nodes.items.Goals as goal

pub returns-in_default-open-clause-trees : goal.returns-in_default-open-clause-trees
returns-in_default-open-clause-trees c = items_done _ _ _ (ap (tree_at c.args.pool.now.trees) c.in-Some.is ∙ c.in_default-open.ensures.none) c.cells.invariant.told

pub cells-preserved-in_ok-push : goal.cells-preserved-in_ok-push
cells-preserved-in_ok-push c =
    let trees = c.args.pool.now.trees in
    let below : c.in-Some-first.item.0 < c.in-Some.n.0 = subst (ChildBelow c.in-Some.n.0) c.in-Some-first.is c.in-Some-open.ensures.first in
    let there : c.in-Some.n.0 < length trees = c.in-Some-open.ensures.live in
    record {
      told =
          ap (λ ns. trees_at trees ns ++ full_items (tree_at trees c.in-Some-open.cell.second)) c.in_ok-push.ensures.items
          ∙ item_pushed trees c.cells.at c.in-Some.n c.in-Some-open.cell c.in-Some.is c.in-Some-open.ensures.tree c.cells.items.items c.in-Some-first.item _ c.in-Some-first.is c.in-Some-open.ensures.no_first c.cells.invariant.told;
      live = all_pushed (length trees) c.cells.items.items c.push.new.self.items c.in-Some-first.item c.cells.invariant.live (omega arith) c.in_ok-push.ensures.items;
    }

pub cells-preserved : goal.cells-preserved
cells-preserved c = record {
  told = item_passed c.args.pool.now.trees c.cells.at c.in-Some.n c.in-Some-open.cell c.in-Some.is c.in-Some-open.ensures.tree c.cells.items.items _ c.in_default-first.is c.cells.invariant.told;
  live = c.cells.invariant.live;
}

pub returns-clause-trees : goal.returns-clause-trees
returns-clause-trees c = items_done _ _ _ (ap (tree_at c.args.pool.now.trees) c.in_default.is ∙ no_child c.args.pool.now.trees) c.cells.invariant.told
