use Rattle.std.proofs.Common.{refl, Some}
use Rattle.cv_syntax.specs.PoolTrees.{tree_at}
use Rattle.cv_edit_changes.specs.unletting.Games.{unlet}
use Rattle.cv_rule.proofs.edit.Unlet.{made, unlet_fault, unlet_placed, unlet_room}
use Rattle.cv_rule.proofs.edit.making.make_unlet.Goals as goal

pub returns-in-Ok-clause-tree : goal.returns-in-Ok-clause-tree
returns-in-Ok-clause-tree c =
    let game = tree_at c.args.pool.now.trees (Some c.args.game) in
    made game (unlet c.args.x game) _ c.in-Ok.ensures.tree

pub returns-in-Ok-clause-room : goal.returns-in-Ok-clause-room
returns-in-Ok-clause-room c =
    let pool = c.args.pool.now in
    unlet_room pool c.args.x (tree_at pool.trees (Some c.args.game)) c.in-Ok.ensures.accepted

pub no_game-requires : goal.no_game-requires
no_game-requires c =
    let pool = c.args.pool.now in
    unlet_placed pool c.args.x (tree_at pool.trees (Some c.args.game)) c.in-Err.fault c.requires.there (c.in-Err.ensures.refused c.in-Err.fault refl)

pub returns-in-Err-clause-fault : goal.returns-in-Err-clause-fault
returns-in-Err-clause-fault c =
    let pool = c.args.pool.now in
    unlet_fault pool c.args.x (tree_at pool.trees (Some c.args.game)) c.in-Err.fault c.no_game.result (c.in-Err.ensures.refused c.in-Err.fault refl) c.no_game.ensures
