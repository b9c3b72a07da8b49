use Rattle.std.proofs.Common.{[], Some, ap, ◌∙◌}
use Rattle.cv_syntax.specs.PoolTrees.{tree_at}
use Rattle.cv_inline.specs.NextGame.{next_in}
use Rattle.cv_inline_laws.proofs.extents.Measures.{nodes_are_size, path_is_depth}
use Rattle.cv_syntax.specs.limits.Limits.{told}
use Rattle.cv_inline_measure.specs.Settings.{inlined_calls}
use Rattle.cv_inline_measure.proofs.next.measure.Goals as goal

pub returns-clause-nodes : goal.returns-clause-nodes
returns-clause-nodes c = λ x g e.
    c.in_ok-nodes.ensures x g e ∙ ap told (nodes_are_size (next_in (inlined_calls c.args.pool.now.trees c.args.drawn.now x g c.args.callings.now) [] (tree_at c.args.pool.now.trees (Some c.args.context))))

pub returns-clause-depth : goal.returns-clause-depth
returns-clause-depth c = λ x g e.
    c.in_ok-depth.ensures x g e ∙ ap told (path_is_depth (next_in (inlined_calls c.args.pool.now.trees c.args.drawn.now x g c.args.callings.now) [] (tree_at c.args.pool.now.trees (Some c.args.context))))
