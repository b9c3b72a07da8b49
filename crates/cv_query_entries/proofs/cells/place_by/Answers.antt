use Rattle.std.proofs.Common.{sym, ◌∙◌}
use Rattle.cv_syntax.specs.Declarations.{declarations}
use Rattle.cv_syntax.specs.PoolTrees.{tree_at}
use Rattle.cv_directory.specs.Definitions.{large_in}
use Rattle.cv_directory.specs.Tables.{entries_in}
use Rattle.cv_query_parts.specs.Views.{game_of, trees_of}
use Rattle.cv_query_entries.proofs.Sites.{no_place, told_place}
use Rattle.cv_query_entries.proofs.cells.place_by.Goals as goal

pub returns-in_default : goal.returns-in_default
returns-in_default c =
    let v = c.args.view.now in
    no_place (game_of v) (tree_at (trees_of v) c.args.cell) (sym c.in_default.is ∙ c.variable.ensures)

pub returns : goal.returns
returns c =
    let v = c.args.view.now in
    told_place (declarations (trees_of v) v.work.now.decls.list) (large_in v.work.now.decls.list) (game_of v) (entries_in (trees_of v) c.args.directory.now) c.requires.ready.game.formed c.requires.entries (tree_at (trees_of v) c.args.cell) c.in-Some.x (sym c.in-Some.is ∙ c.variable.ensures) c.only_definition.result (c.only_definition.ensures (trees_of v))
