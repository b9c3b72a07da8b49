use Rattle.std.proofs.Common.{sym, ap, ◌∙◌, None}
use Rattle.std.specs.List.{list_any}
use Rattle.cv_syntax_trees.specs.Tree.{same_tree}
use Rattle.cv_syntax.specs.PoolTrees.{tree_at}
use Rattle.cv_derive.specs.Seen.{game_of, sight_of, trees_of}
use Rattle.cv_derive.proofs.Plain.{none_under}
use Rattle.cv_derive.proofs.Replications.{known_replications}
use Rattle.cv_derive.proofs.reasons.is_here.Goals as goal

pub is_defined_under-requires-clause-replications : goal.is_defined_under-requires-clause-replications
is_defined_under-requires-clause-replications c = sym (c.requires.sees.replications ∙ known_replications (game_of c.args.s.now) c.args.s.now.place)

pub returns : goal.returns
returns c =
    let trees = trees_of c.args.s.now in
    c.is_defined_under.ensures
    ∙ ap (λ cs. list_any (same_tree (tree_at trees c.args.cell)) cs) (none_under c.front-none.result.now c.args.s.now.replications.now (tree_at trees None) (sight_of c.args.s.now).cells c.front-none.ensures)
