use Rattle.std.proofs.Common.{◌≡◌, ◌≤◌, ◌+◌, ◌-◌, ◌<◌, ◌∷◌, [], true, Some, rules, refl, sym, ap, ◌∙◌, arith, length, length-append}
use Rattle.cv_syntax.specs.PoolTrees.{tree_at}
use Rattle.cv_syntax.specs.Walks.{above}
use Rattle.cv_syntax.proofs.Trees.{child_live, empty_at}
use Rattle.cv_syntax.proofs.Walking.{above_child, above_some, below_some}
use Rattle.cv_path.proofs.Going.{turn_of, way_goes, way_live}
use Rattle.cv_path.specs.Ways.{led}
use Rattle.cv_scene.specs.Pruning.{without_branch}
use Rattle.cv_edit_changes.specs.pruning.Lefts.{items}
use Rattle.cv_edit_changes.proofs.pruning.Branches.{items_none, items_step, turned_without}
use Rattle.cv_edit_changes.proofs.pruning.making.add_branches.Goals as goal

pub items-preserved : goal.items-preserved
items-preserved c =
    let trees = c.args.pool.now.trees in
    let cell = c.read_node-cell.result in
    let t = tree_at trees (Some c.in-Some.n) in
    let b = tree_at trees cell.first in
    let m = tree_at trees cell.second in
    let e = c.read_node-cell.ensures.tree in
    let at = ap (tree_at trees) c.in-Some.is in
    let turn = turn_of c.in-Some.n true in
    let more : 2 ≤ c.items.left = omega (arith, c.items.invariant.number, c.if-left-eq1.false) in
    let one = length-append c.items.way.items (turn ∷ []) in
    record {
      live = child_live (length trees) c.items.at c.in-Some.n cell.second c.in-Some.is c.items.invariant.live c.read_node-cell.ensures.second;
      number = omega (arith, more);
      enough = omega (arith, c.items.invariant.enough, ap items at, items_step t cell.head b m e);
      leads = way_goes trees c.items.way.items c.push.new.way.items turn true (without_branch m (c.items.left - 1)) (without_branch t c.items.left) _ c.in_ok-push.ensures.ok refl (turned_without t cell.head b m c.items.left e more) (ap (λ u. led trees c.items.way.items (without_branch u c.items.left)) (sym at) ∙ c.items.invariant.leads);
      long = omega (arith, c.items.invariant.long, more, ap length c.in_ok-push.ensures.ok, one);
      few = omega (arith, c.items.invariant.few, ap length c.in_ok-push.ensures.ok, one, above_some c.items.at c.in-Some.n c.in-Some.is, above_child c.in-Some.n.0 cell.second c.read_node-cell.ensures.second);
      nodes = way_live (length trees) c.items.way.items c.push.new.way.items turn c.in_ok-push.ensures.ok (below_some (length trees) c.items.at c.in-Some.n c.in-Some.is c.items.invariant.live) c.items.invariant.nodes;
    }

pub returns-clause-leads : goal.returns-clause-leads
returns-clause-leads c = absurd (omega (arith, c.items.invariant.number, c.items.invariant.enough, items_none (tree_at c.args.pool.now.trees c.items.at) (empty_at c.args.pool.now.trees c.items.at c.in_default.is)))

pub returns-clause-long : goal.returns-clause-long
returns-clause-long c = absurd (omega (arith, c.items.invariant.number, c.items.invariant.enough, items_none (tree_at c.args.pool.now.trees c.items.at) (empty_at c.args.pool.now.trees c.items.at c.in_default.is)))

pub returns-clause-few : goal.returns-clause-few
returns-clause-few c = absurd (omega (arith, c.items.invariant.number, c.items.invariant.enough, items_none (tree_at c.args.pool.now.trees c.items.at) (empty_at c.args.pool.now.trees c.items.at c.in_default.is)))
