use Rattle.cv_syntax.specs.PoolTrees.{tree_at}
use Rattle.cv_query_certificates.specs.Pairs.{needed_pairs}
use Rattle.cv_query_parts.specs.Views.{asked_of}
use Rattle.cv_query_parts.specs.declared.pairs.walk.Walk.{Walk}
use Rattle.cv_query_parts.proofs.pairs.Walking.{all_gone, all_stopped}
use Rattle.cv_query_parts.proofs.pairs.walk.walk_pairs.Goals as goal

pub returns-in-Some-clause-wrong : goal.returns-in-Some-clause-wrong
returns-in-Some-clause-wrong c =
    let trees = c.args.pool.now.trees in
    let start : Walk = record { met = c.new.result; left = c.args.left } in
    λ s k ds. all_stopped trees start c.walk_needed.new.walk (λ r j. needed_pairs r j (asked_of trees c.args.asked.now) (tree_at trees c.args.parts)) c.new.ensures.items s k ds c.in_ok-stopped.stopped c.in-Some.place c.in-Some.is c.in_ok-stopped.ensures.leads

pub returns-in-None-clause-wrong : goal.returns-in-None-clause-wrong
returns-in-None-clause-wrong c =
    let trees = c.args.pool.now.trees in
    let start : Walk = record { met = c.new.result; left = c.args.left } in
    λ s k ds. all_gone trees start c.walk_needed.new.walk (λ r j. needed_pairs r j (asked_of trees c.args.asked.now) (tree_at trees c.args.parts)) c.new.ensures.items s k ds c.in_ok-stopped.stopped c.first_surplus.result c.in-None.is c.first_surplus.ensures c.in_ok-stopped.ensures.leads
