use Rattle.std.proofs.Common.{arith, ap, ◌∙◌, Some}
use Rattle.cv_syntax.specs.PoolTrees.{tree_at}
use Rattle.cv_syntax.proofs.Walking.{size_node}
use Rattle.cv_derive_facts.proofs.Standings.{above_grows, standing_here}
use Rattle.cv_derive.proofs.Descending.{first_reaches, second_reaches}
use Rattle.cv_derive.proofs.defined.down.Goals as goal

pub place_in-requires-clause-fits : goal.place_in-requires-clause-fits
place_in-requires-clause-fits c =
    let trees = c.args.pool.now.trees in
    let node = c.read_node-node.result in
    omega (arith, size_node (tree_at trees (Some c.args.n)) node.head (tree_at trees node.first) (tree_at trees node.second) c.read_node-node.ensures.tree)

pub above_behind-requires : goal.above_behind-requires
above_behind-requires c =
    let trees = c.args.pool.now.trees in
    let node = c.read_node-node.result in
    omega (arith, size_node (tree_at trees (Some c.args.n)) node.head (tree_at trees node.first) (tree_at trees node.second) c.read_node-node.ensures.tree)

pub returns-in-Here-clause-descends : goal.returns-in-Here-clause-descends
returns-in-Here-clause-descends c =
    let trees = c.args.pool.now.trees in
    let node = c.read_node-node.result in
    λ Γ. standing_here c.args.walk.position Γ (tree_at trees c.args.walk.at) node.head (tree_at trees node.first) (tree_at trees node.second) c.args.walk.left 0 (ap (tree_at trees) c.requires.at ∙ c.read_node-node.ensures.tree) c.in-Here.ensures

pub returns-in-Within-clause-descends : goal.returns-in-Within-clause-descends
returns-in-Within-clause-descends c =
    let trees = c.args.pool.now.trees in
    let node = c.read_node-node.result in
    let walk = c.args.walk in
    λ Γ i. first_reaches trees c.args.replications.now c.args.names.now (tree_at trees c.args.terms) (tree_at trees c.args.cell) walk.position c.first.result Γ (tree_at trees walk.at) node.head node.first node.second walk.own walk.at walk.above walk.left c.in-Within.rest walk.found (ap (tree_at trees) c.requires.at ∙ c.read_node-node.ensures.tree) c.in-Within.ensures c.first.ensures i.own i.number

pub returns-in-Within-clause-fits : goal.returns-in-Within-clause-fits
returns-in-Within-clause-fits c =
    let trees = c.args.pool.now.trees in
    let node = c.read_node-node.result in
    omega (arith, size_node (tree_at trees (Some c.args.n)) node.head (tree_at trees node.first) (tree_at trees node.second) c.read_node-node.ensures.tree)

pub returns-in-Behind-clause-descends : goal.returns-in-Behind-clause-descends
returns-in-Behind-clause-descends c =
    let trees = c.args.pool.now.trees in
    let node = c.read_node-node.result in
    let walk = c.args.walk in
    λ Γ i. second_reaches trees c.args.replications.now c.args.names.now (tree_at trees c.args.terms) (tree_at trees c.args.cell) walk.position c.second.result Γ (tree_at trees walk.at) node.head node.first node.second walk.own c.own_behind.result walk.at walk.above c.above_behind.result walk.left c.in-Behind.rest c.front-current.result.now walk.found c.is_found.result (ap (tree_at trees) c.requires.at ∙ c.read_node-node.ensures.tree) c.in-Behind.ensures c.second.ensures c.own_behind.ensures c.above_behind.ensures i.own i.number c.front-current.ensures c.is_found.ensures

pub returns-in-Behind-clause-fits : goal.returns-in-Behind-clause-fits
returns-in-Behind-clause-fits c =
    let trees = c.args.pool.now.trees in
    let node = c.read_node-node.result in
    omega (arith, above_grows node.head c.args.walk.above, c.above_behind.ensures, size_node (tree_at trees (Some c.args.n)) node.head (tree_at trees node.first) (tree_at trees node.second) c.read_node-node.ensures.tree)
