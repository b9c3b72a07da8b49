use Rattle.std.proofs.Common.{Some}
use Rattle.cv_syntax_trees.specs.Tree.{depth, size}
use Rattle.cv_syntax.specs.PoolTrees.{tree_at}
use Rattle.cv_edit_changes.specs.unletting.Assigned.{names_above}
use Rattle.cv_edit_changes.specs.unletting.Games.{unlet}
use Rattle.cv_edit_changes.specs.unletting.Putting.{put_in}
use Rattle.cv_edit_changes.proofs.unletting.Unletting.{counted, put_fits, unlet_made}
use Rattle.cv_edit_changes.proofs.unletting.making.measure_unletting.Goals as goal

pub size_put-requires-clause-fits : goal.size_put-requires-clause-fits
size_put-requires-clause-fits c =
    let trees = c.args.pool.now.trees in
    put_fits c.args.x (names_above trees c.args.directory.now c.args.x) (tree_at trees c.in_ok-assigned.assigned.term) (tree_at trees (Some c.args.game)) c.in_ok-assigned.ensures.small c.requires.small

pub returns-clause-nodes : goal.returns-clause-nodes
returns-clause-nodes c =
    let trees = c.args.pool.now.trees in
    let game = tree_at trees (Some c.args.game) in
    let d = c.args.directory.now in
    counted size (unlet c.args.x game) (put_in c.args.x (names_above trees d c.args.x) (tree_at trees c.in_ok-assigned.assigned.term) game) c.size_put.result (unlet_made trees d c.args.x game c.in_ok-assigned.assigned c.in_ok-assigned.ensures.assigned c.requires.read.phrase) c.size_put.ensures

pub returns-clause-depth : goal.returns-clause-depth
returns-clause-depth c =
    let trees = c.args.pool.now.trees in
    let game = tree_at trees (Some c.args.game) in
    let d = c.args.directory.now in
    counted depth (unlet c.args.x game) (put_in c.args.x (names_above trees d c.args.x) (tree_at trees c.in_ok-assigned.assigned.term) game) c.depth_put.result (unlet_made trees d c.args.x game c.in_ok-assigned.assigned c.in_ok-assigned.ensures.assigned c.requires.read.phrase) c.depth_put.ensures
