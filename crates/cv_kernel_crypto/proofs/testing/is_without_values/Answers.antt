use Rattle.std.proofs.Common.{◌≡◌, Some, ◌∙◌}
use Rattle.cv_syntax.specs.PoolTrees.{tree_at}
use Rattle.cv_directory.specs.Tables.{seen}
use Rattle.cv_query_form.specs.Tests.{has_values}
use Rattle.cv_scene.specs.Scenes.{names}
use Rattle.cv_kernel_crypto.proofs.Kept.{game_values, unvalued, valued_not}
use Rattle.cv_kernel_crypto.proofs.testing.is_without_values.Goals as goal

pub returns-then-not-has_values : goal.returns-then-not-has_values
returns-then-not-has_values c =
    let game = tree_at c.args.pool.now.trees (Some c.args.game) in
    let told = game_values (seen c.args.sites.now) game c.args.x c.has_values.result c.requires.sites c.has_values.ensures in
    c.names.ensures ∙ unvalued (has_values game c.args.x) (names c.args.x game) c.has_values.result told c.if-not-has_values.true

pub returns-else-not-has_values : goal.returns-else-not-has_values
returns-else-not-has_values c =
    let game = tree_at c.args.pool.now.trees (Some c.args.game) in
    let told = game_values (seen c.args.sites.now) game c.args.x c.has_values.result c.requires.sites c.has_values.ensures in
    valued_not (has_values game c.args.x) (names c.args.x game) c.has_values.result told c.if-not-has_values.false
