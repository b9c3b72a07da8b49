use Rattle.std.proofs.Common.{Some}
use Rattle.cv_syntax.specs.PoolTrees.{tree_at}
use Rattle.cv_edit_places.proofs.MadeGames.{none_found}
use Rattle.cv_edit_places.proofs.measuring.measure.Goals as goal

pub unreachable-requires : goal.unreachable-requires
unreachable-requires c = none_found _ (tree_at c.args.pool.now.trees (Some c.args.root)) c.args.place c.at.result c.at.ensures.tree c.in_default.is c.requires.there
