use Rattle.std.proofs.Common.{arith, sym, subst, Some}
use Rattle.cv_syntax.specs.PoolTrees.{tree_at}
use Rattle.cv_syntax.proofs.Walking.{size_node}
use Rattle.cv_derive_reasons.specs.late.Ways.{IsWayBelow, Leads}
use Rattle.cv_derive_reasons.proofs.late.Coming.{late_here, leads_behind, leads_within, way_below}
use Rattle.cv_derive_reasons.proofs.late.step.Goals as goal

pub place_in-requires-clause-fits : goal.place_in-requires-clause-fits
place_in-requires-clause-fits c =
    let trees = c.args.pool.now.trees in
    let node = c.read_node-node.result in
    omega (arith, size_node (tree_at trees (Some c.args.n)) node.head (tree_at trees node.first) (tree_at trees node.second) c.read_node-node.ensures.tree)

pub way_behind-requires-clause-fits : goal.way_behind-requires-clause-fits
way_behind-requires-clause-fits c =
    let trees = c.args.pool.now.trees in
    let node = c.read_node-node.result in
    omega (arith, size_node (tree_at trees (Some c.args.n)) node.head (tree_at trees node.first) (tree_at trees node.second) c.read_node-node.ensures.tree)

pub returns-in-Here-clause-leads : goal.returns-in-Here-clause-leads
returns-in-Here-clause-leads c =
    let trees = c.args.pool.now.trees in
    let node = c.read_node-node.result in
    late_here c.args.x (tree_at trees (Some c.args.n)) node.head (tree_at trees node.first) (tree_at trees node.second) c.args.place c.read_node-node.ensures.tree c.in-Here.ensures

pub returns-in-Within-clause-leads : goal.returns-in-Within-clause-leads
returns-in-Within-clause-leads c =
    let trees = c.args.pool.now.trees in
    let node = c.read_node-node.result in
    subst (Leads trees c.args.x (tree_at trees (Some c.args.n)) c.args.place) (sym c.way_within.ensures) (leads_within trees c.args.x (tree_at trees (Some c.args.n)) node.head node.first node.second c.args.place c.in-Within.rest c.read_node-node.ensures.tree c.in-Within.ensures)

pub returns-in-Within-clause-below : goal.returns-in-Within-clause-below
returns-in-Within-clause-below c = subst (IsWayBelow c.args.n.0) (sym c.way_within.ensures) (way_below c.args.n.0 _ c.read_node-node.result.first c.in-Within.rest c.read_node-node.ensures.first)

pub returns-in-Behind-clause-leads : goal.returns-in-Behind-clause-leads
returns-in-Behind-clause-leads c =
    let trees = c.args.pool.now.trees in
    let node = c.read_node-node.result in
    subst (Leads trees c.args.x (tree_at trees (Some c.args.n)) c.args.place) (sym c.way_behind.ensures) (leads_behind trees c.args.x (tree_at trees (Some c.args.n)) node.head node.first node.second c.args.place c.in-Behind.rest c.read_node-node.ensures.tree c.in-Behind.ensures)

pub returns-in-Behind-clause-below : goal.returns-in-Behind-clause-below
returns-in-Behind-clause-below c = subst (IsWayBelow c.args.n.0) (sym c.way_behind.ensures) (way_below c.args.n.0 _ c.read_node-node.result.second c.in-Behind.rest c.read_node-node.ensures.second)
