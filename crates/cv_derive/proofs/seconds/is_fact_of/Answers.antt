use Rattle.std.proofs.Common.{◌∙◌}
use Rattle.cv_syntax.specs.PoolTrees.{tree_at}
use Rattle.cv_scene.specs.lines.Inferences.{number_of}
use Rattle.cv_derive.specs.Seen.{scene_seen, trees_of}
use Rattle.cv_derive.proofs.Copies.{second_fact, second_replications}
use Rattle.cv_derive.proofs.seconds.is_fact_of.Goals as goal

pub is_fact_under-requires-clause-replications : goal.is_fact_under-requires-clause-replications
is_fact_under-requires-clause-replications c =
    let s = c.args.s.now in
    second_replications (trees_of s) (scene_seen s) s.place s.second c.requires.sees.second c.in-Some.other c.in-Some.is

pub returns : goal.returns
returns c =
    let s = c.args.s.now in
    let trees = trees_of s in
    c.is_fact_under.ensures
    ∙ second_fact trees (scene_seen s) s.place s.second c.requires.sees.second c.in-Some.other c.in-Some.is c.number-k.result (number_of (tree_at trees c.args.k)) (tree_at trees c.args.term) c.number-k.ensures
