use Rattle.std.proofs.Common.{ap, ◌∙◌}
use Rattle.cv_syntax.specs.PoolTrees.{tree_at}
use Rattle.cv_scene.specs.lines.Inferences.{cited_cell, number_of}
use Rattle.cv_derive.specs.Seen.{scene_seen, trees_of, visible_by}
use Rattle.cv_derive.proofs.Copies.{distinct_there}
use Rattle.cv_derive.proofs.seconds.is_distinct_of.Goals as goal
use Rattle.cv_syntax_trees.specs.Tree.{first, second}

pub returns : goal.returns
returns c =
    let s = c.args.s.now in
    let trees = trees_of s in
    let v = visible_by s c.args.citing.now in
    distinct_there trees (scene_seen s) s.place s.second c.requires.sees.second c.in-Some.other c.in-Some.is v (tree_at trees c.args.line) (tree_at trees c.args.cells) (tree_at trees c.args.term) c.are_told_apart.result (tree_at trees c.cited_term-says.result) (tree_at trees c.cited_cell-left.result) (tree_at trees c.cited_cell-right.result) c.number-k.result c.cited_term-says.ensures.term (c.cited_cell-left.ensures.cell ∙ ap (cited_cell v) c.first_of-first.ensures.tree) (c.cited_cell-right.ensures.cell ∙ ap (cited_cell v) (c.first_of-second.ensures.tree ∙ ap first c.second_of-behind.ensures.tree)) (c.number-k.ensures ∙ ap number_of (c.second_of-last.ensures.tree ∙ ap second c.second_of-behind.ensures.tree)) (λ y e. c.are_told_apart.ensures y e)
