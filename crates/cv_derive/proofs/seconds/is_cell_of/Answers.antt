use Rattle.cv_derive.specs.Seen.{scene_seen, trees_of}
use Rattle.cv_derive.proofs.Copies.{second_replications}
use Rattle.cv_derive.proofs.seconds.is_cell_of.Goals as goal

pub is_defined_under-requires-clause-replications : goal.is_defined_under-requires-clause-replications
is_defined_under-requires-clause-replications c =
    let s = c.args.s.now in
    second_replications (trees_of s) (scene_seen s) s.place s.second c.requires.sees.second c.in-Some.other c.in-Some.is
