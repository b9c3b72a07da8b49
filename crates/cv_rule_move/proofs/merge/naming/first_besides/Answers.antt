use Rattle.std.proofs.Common.{Some, None}
use Rattle.cv_syntax_trees.specs.Tree.{Node}
use Rattle.cv_syntax.specs.NameSets.{is_in}
use Rattle.cv_syntax.specs.PoolTrees.{tree_at}
use Rattle.cv_scene_view.specs.Kept.{scene_of}
use Rattle.cv_rule_move.specs.merge.Looks.{is_skipped}
use Rattle.cv_rule_move.proofs.merge.Planned.{in_game, in_query}
use Rattle.cv_rule_move.proofs.merge.naming.first_besides.Goals as goal

pub returns-then-is_one_queried : goal.returns-then-is_one_queried
returns-then-is_one_queried c =
    let trees = c.args.work.now.pool.trees in
    let k = c.args.construct in
    let s = scene_of c.args.work.now.pool c.args.work.now.decls c.args.game in
    in_query s (Node k.head (tree_at trees k.first) (tree_at trees k.second)) (is_in c.in_ok-names.names) (is_skipped c.args.skip) c.in_ok-names.ensures c.is_one_queried.result c.is_one_queried.ensures c.if-is_one_queried.true

pub returns-in-Ok : goal.returns-in-Ok
returns-in-Ok c =
    let trees = c.args.work.now.pool.trees in
    let k = c.args.construct in
    let s = scene_of c.args.work.now.pool c.args.work.now.decls c.args.game in
    in_game s (Node k.head (tree_at trees k.first) (tree_at trees k.second)) (is_in c.in_ok-names.names) (is_skipped c.args.skip) c.in_ok-names.ensures c.is_one_queried.result None c.is_one_queried.ensures c.if-is_one_queried.false c.in-Ok.ensures.none

pub returns : goal.returns
returns c =
    let trees = c.args.work.now.pool.trees in
    let k = c.args.construct in
    let s = scene_of c.args.work.now.pool c.args.work.now.decls c.args.game in
    in_game s (Node k.head (tree_at trees k.first) (tree_at trees k.second)) (is_in c.in_ok-names.names) (is_skipped c.args.skip) c.in_ok-names.ensures c.is_one_queried.result (Some c.in-Err.found) c.is_one_queried.ensures c.if-is_one_queried.false c.in-Err.ensures.found
