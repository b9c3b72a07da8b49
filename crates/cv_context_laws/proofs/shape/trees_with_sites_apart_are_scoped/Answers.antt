use Rattle.cv_context_laws.proofs.shape.Scoped.{game_scoped, tree_scoped}
use Rattle.cv_context_laws.proofs.shape.trees_with_sites_apart_are_scoped.Goals as goal

pub returns-clause-tree : goal.returns-clause-tree
returns-clause-tree c = tree_scoped

pub returns-clause-game : goal.returns-clause-game
returns-clause-game c = game_scoped
