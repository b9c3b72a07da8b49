use Rattle.std.proofs.Common.{arith, ap, ◌∙◌, Some}
use Rattle.cv_syntax.specs.PoolTrees.{tree_at}
use Rattle.cv_syntax.proofs.Walking.{size_node}
use Rattle.cv_derive_facts.proofs.Standings.{above_grows, facts_here, first_leads, first_live, second_leads, second_live, tested_live}
use Rattle.cv_derive_facts.proofs.facts.step.Goals as goal

pub place_in-requires-clause-fits : goal.place_in-requires-clause-fits
place_in-requires-clause-fits c =
    let trees = c.args.pool.now.trees in
    let node = c.read_node-node.result in
    omega (arith, size_node (tree_at trees (Some c.args.n)) node.head (tree_at trees node.first) (tree_at trees node.second) c.read_node-node.ensures.tree)

pub above_behind-requires : goal.above_behind-requires
above_behind-requires c =
    let trees = c.args.pool.now.trees in
    let node = c.read_node-node.result in
    omega (arith, size_node (tree_at trees (Some c.args.n)) node.head (tree_at trees node.first) (tree_at trees node.second) c.read_node-node.ensures.tree)

pub returns-in-Here-clause-goes : goal.returns-in-Here-clause-goes
returns-in-Here-clause-goes c =
    let trees = c.args.pool.now.trees in
    let node = c.read_node-node.result in
    λ Γ. facts_here c.args.walk.position Γ (tree_at trees c.args.walk.at) node.head (tree_at trees node.first) (tree_at trees node.second) c.args.walk.left 0 (ap (tree_at trees) c.requires.at ∙ c.read_node-node.ensures.tree) c.in-Here.ensures

pub returns-in-Within-clause-goes : goal.returns-in-Within-clause-goes
returns-in-Within-clause-goes c =
    let trees = c.args.pool.now.trees in
    let node = c.read_node-node.result in
    let walk = c.args.walk in
    λ Γ i. first_leads trees walk.position c.first.result Γ (tree_at trees walk.at) node.head node.first node.second walk.left c.in-Within.rest walk.tested walk.above c.given_first.result (ap (tree_at trees) c.requires.at ∙ c.read_node-node.ensures.tree) c.in-Within.ensures c.first.ensures c.given_first.ensures i

pub returns-in-Within-clause-fits : goal.returns-in-Within-clause-fits
returns-in-Within-clause-fits c =
    let trees = c.args.pool.now.trees in
    let node = c.read_node-node.result in
    omega (arith, size_node (tree_at trees (Some c.args.n)) node.head (tree_at trees node.first) (tree_at trees node.second) c.read_node-node.ensures.tree)

pub returns-in-Within-clause-live : goal.returns-in-Within-clause-live
returns-in-Within-clause-live c = first_live _ c.args.walk.position c.read_node-node.result.head c.args.walk.tested c.given_first.result c.given_first.ensures c.requires.tested

pub returns-in-Behind-clause-goes : goal.returns-in-Behind-clause-goes
returns-in-Behind-clause-goes c =
    let trees = c.args.pool.now.trees in
    let node = c.read_node-node.result in
    let walk = c.args.walk in
    λ Γ i. second_leads trees walk.position c.second.result Γ (tree_at trees walk.at) c.args.n node.head node.first node.second walk.left c.in-Behind.rest walk.tested c.tested_behind.result walk.above c.above_behind.result c.given_second.result (ap (tree_at trees) c.requires.at) c.read_node-node.ensures.tree c.read_node-node.ensures.no_first c.in-Behind.ensures c.second.ensures c.given_second.ensures c.tested_behind.ensures c.above_behind.ensures i

pub returns-in-Behind-clause-fits : goal.returns-in-Behind-clause-fits
returns-in-Behind-clause-fits c =
    let trees = c.args.pool.now.trees in
    let node = c.read_node-node.result in
    omega (arith, above_grows node.head c.args.walk.above, c.above_behind.ensures, size_node (tree_at trees (Some c.args.n)) node.head (tree_at trees node.first) (tree_at trees node.second) c.read_node-node.ensures.tree)

pub returns-in-Behind-clause-tested : goal.returns-in-Behind-clause-tested
returns-in-Behind-clause-tested c = tested_live _ c.args.n.0 c.read_node-node.result.head c.read_node-node.result.first c.args.walk.tested c.tested_behind.result c.tested_behind.ensures c.read_node-node.ensures.first c.requires.live c.requires.tested

pub returns-in-Behind-clause-live : goal.returns-in-Behind-clause-live
returns-in-Behind-clause-live c = second_live _ c.args.walk.position c.args.walk.above c.args.n c.read_node-node.result.head c.read_node-node.result.first c.given_second.result c.given_second.ensures c.read_node-node.ensures.first c.requires.live
