use Rattle.std.proofs.Common.{Some}
use Rattle.cv_syntax.specs.Declarations.{declarations}
use Rattle.cv_syntax.specs.PoolTrees.{tree_at}
use Rattle.cv_accept.proofs.Places.{has_place}
use Rattle.cv_accept.proofs.scoping.check_game.Goals as goal

pub behind-requires : goal.behind-requires
behind-requires c = has_place (declarations c.args.work.now.pool.trees c.args.work.now.decls.list) (tree_at c.args.work.now.pool.trees (Some c.args.game.root)) c.args.nodes _ c.requires.fits c.in-Err.ensures.found
