use Rattle.std.proofs.Common.{refl}
use Rattle.cv_syntax.specs.PoolTrees.{tree_at}
use Rattle.cv_syntax.proofs.Trees.{empty_at, node_at}
use Rattle.cv_query_parts.proofs.pairs.Walking.{is_met, lacks}
use Rattle.cv_query_parts.proofs.pairs.walk.take.Goals as goal

pub returns-in_default-clause-leads : goal.returns-in_default-clause-leads
returns-in_default-clause-leads c =
    let trees = c.args.pool.now.trees in
    lacks trees c.args.walk.now c.args.needed (empty_at trees c.args.walk.now.left c.in_default.is)

pub returns-clause-leads : goal.returns-clause-leads
returns-clause-leads c =
    let trees = c.args.pool.now.trees in
    let part = c.read_node-part.result in
    is_met trees c.args.walk.now c.args.needed part.head (tree_at trees part.first) (tree_at trees part.second) (node_at trees c.args.walk.now.left c.in-Some.n part c.in-Some.is c.read_node-part.ensures.tree) c.pair_of.result c.pair_of.ensures.pair c.in-Some-pair_of.found c.in-Some-pair_of.is c.is_needed.result c.is_needed.ensures c.if-not-is_needed.false
    (record { met = c.push.new.self; left = part.second }) _ refl c.in_ok-push.ensures.items refl
