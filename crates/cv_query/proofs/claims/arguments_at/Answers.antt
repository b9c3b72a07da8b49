use Rattle.std.proofs.Common.{◌∙◌}
use Rattle.cv_syntax.proofs.Trees.{tree_at_None}
use Rattle.cv_query_parts.specs.Views.{game_of, trees_of}
use Rattle.cv_query.proofs.Naming.{far_away}
use Rattle.cv_query.proofs.claims.arguments_at.Goals as goal

pub returns-then-place-gt4294967295-clause-tree : goal.returns-then-place-gt4294967295-clause-tree
returns-then-place-gt4294967295-clause-tree c = tree_at_None (trees_of c.args.view.now) ∙ far_away (game_of c.args.view.now) c.args.place c.requires.game.fits c.if-place-gt4294967295.true
