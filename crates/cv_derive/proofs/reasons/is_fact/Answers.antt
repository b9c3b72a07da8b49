use Rattle.std.proofs.Common.{sym, ap₂, ◌∙◌, None}
use Rattle.cv_syntax.specs.PoolTrees.{tree_at}
use Rattle.cv_scene.specs.Reasons.{is_tree}
use Rattle.cv_scene.specs.Sights.{from_one}
use Rattle.cv_derive.specs.Seen.{game_of, sight_of, trees_of}
use Rattle.cv_derive.proofs.Plain.{none_under}
use Rattle.cv_derive.proofs.Replications.{known_replications}
use Rattle.cv_derive.proofs.reasons.is_fact.Goals as goal

pub is_fact_under-requires-clause-replications : goal.is_fact_under-requires-clause-replications
is_fact_under-requires-clause-replications c = sym (c.requires.sees.replications ∙ known_replications (game_of c.args.s.now) c.args.s.now.place)

pub returns : goal.returns
returns c =
    let trees = trees_of c.args.s.now in
    c.is_fact_under.ensures
    ∙ ap₂ (λ ts k. is_tree (from_one ts k) (tree_at trees c.args.term)) (none_under c.front-none.result.now c.args.s.now.replications.now (tree_at trees None) (sight_of c.args.s.now).facts c.front-none.ensures) c.number-k.ensures
