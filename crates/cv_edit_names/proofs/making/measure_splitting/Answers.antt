use Rattle.std.proofs.Common.{Some, ap, sym, ◌∙◌, arith, length}
use Rattle.cv_syntax.specs.PoolTrees.{tree_at}
use Rattle.cv_syntax.specs.limits.Limits.{told}
use Rattle.cv_syntax.proofs.Walking.{depth_le_size}
use Rattle.cv_edit_names.proofs.Sized.{depth_game, size_game}
use Rattle.cv_edit_names.proofs.making.measure_splitting.Goals as goal

pub returns-clause-nodes : goal.returns-clause-nodes
returns-clause-nodes c = c.in_ok-nodes.ensures (length c.args.names.now) c.count_of.ensures ∙ ap told (sym (size_game c.args.x c.args.names.now (tree_at c.args.pool.now.trees (Some c.args.game))))

pub returns-clause-depth : goal.returns-clause-depth
returns-clause-depth c =
    let game = tree_at c.args.pool.now.trees (Some c.args.game) in
    omega (arith, c.depth.ensures, depth_game c.args.x c.args.names.now game c.requires.some, depth_le_size game, c.requires.fits)
