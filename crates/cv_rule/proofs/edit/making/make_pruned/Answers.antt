use Rattle.std.proofs.Common.{refl, sym, Some}
use Rattle.cv_syntax.specs.PoolTrees.{tree_at}
use Rattle.cv_edit_changes.specs.pruning.Bodies.{part_of}
use Rattle.cv_rule.proofs.edit.Pruned.{prune_fault, prune_placed, prune_room, pruned_next}
use Rattle.cv_rule.proofs.edit.making.make_pruned.Goals as goal

pub returns-in-Ok-clause-tree : goal.returns-in-Ok-clause-tree
returns-in-Ok-clause-tree c =
    let pool = c.args.pool.now in
    sym (pruned_next (tree_at pool.trees (Some c.args.game)) c.args.place (part_of c.args.body) _ c.in-Ok.ensures.tree)

pub returns-in-Ok-clause-room : goal.returns-in-Ok-clause-room
returns-in-Ok-clause-room c =
    let pool = c.args.pool.now in
    prune_room pool (tree_at pool.trees (Some c.args.game)) c.args.place (part_of c.args.body) c.in-Ok.ensures.accepted

pub no_game-requires : goal.no_game-requires
no_game-requires c =
    let pool = c.args.pool.now in
    prune_placed pool (tree_at pool.trees (Some c.args.game)) c.args.place (part_of c.args.body) c.in-Err.fault c.requires.there (c.in-Err.ensures.refused c.in-Err.fault refl)

pub returns-in-Err-clause-fault : goal.returns-in-Err-clause-fault
returns-in-Err-clause-fault c =
    let pool = c.args.pool.now in
    prune_fault pool (tree_at pool.trees (Some c.args.game)) c.args.place (part_of c.args.body) c.in-Err.fault c.no_game.result (c.in-Err.ensures.refused c.in-Err.fault refl) c.no_game.ensures
