use Rattle.std.proofs.Common.{ap, ◌∙◌}
use Rattle.cv_syntax.specs.PoolTrees.{tree_at}
use Rattle.cv_scene.specs.Instances.{standing_for}
use Rattle.cv_settling.proofs.Matched.{standing_at, standing_end, standing_first, standing_rest}
use Rattle.cv_settling.proofs.matching.+standing.Goals as goal

pub returns-in_default : goal.returns-in_default
returns-in_default t c = standing_end c.args.x (tree_at c.args.pool.now.trees c.args.pattern) (tree_at c.args.pool.now.trees c.args.term) c.in_default.ensures.none

pub returns-in-Some-standing_here : goal.returns-in-Some-standing_here
returns-in-Some-standing_here t c =
    let trees = c.args.pool.now.trees in
    let node = c.in-Some.node in
    standing_at c.args.x (tree_at trees c.args.pattern) (tree_at trees c.args.term) node.head (tree_at trees node.first) (tree_at trees node.second) c.in-Some.ensures.node (tree_at trees c.in-Some-standing_here.there.tree) (c.in-Some-standing_here.ensures trees)

pub returns-in-Some-standing : goal.returns-in-Some-standing
returns-in-Some-standing t c =
    let trees = c.args.pool.now.trees in
    let node = c.in-Some.node in
    standing_first c.args.x (tree_at trees c.args.pattern) (tree_at trees c.args.term) node.head (tree_at trees node.first) (tree_at trees node.second) c.in-Some.ensures.node (c.in_default-standing_here.ensures trees) (tree_at trees c.in-Some-standing.there.tree)
    (c.in-Some-standing.ensures ∙ ap (standing_for c.args.x (tree_at trees node.first)) c.first_part.ensures)

pub returns : goal.returns
returns t c =
    let trees = c.args.pool.now.trees in
    let node = c.in-Some.node in
    c.standing-2.ensures
    ∙ (ap (standing_for c.args.x (tree_at trees node.second)) c.second_part.ensures
    ∙ standing_rest c.args.x (tree_at trees c.args.pattern) (tree_at trees c.args.term) node.head (tree_at trees node.first) (tree_at trees node.second) c.in-Some.ensures.node (c.in_default-standing_here.ensures trees)
    (c.in_default-standing.ensures ∙ ap (standing_for c.args.x (tree_at trees node.first)) c.first_part.ensures))
