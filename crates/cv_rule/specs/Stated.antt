-- Steps as the code names them. This profile's own.
use Rattle.std.specs.Prelude.{◌+◌, ◌<◌, ◌^◌, List, length, Option, Some}
use Rattle.cv_pool.specs.declared.node.NodeId.{NodeId}
use Rattle.cv_pool.specs.KindTree.{KindTree}
use Rattle.cv_pool.specs.Nodes.{ChildBelow}
use Rattle.cv_scene.specs.lines.Lines.{count, lines_of}
use Rattle.cv_edit_changes.specs.pruning.Bodies.{part_of}
use Rattle.cv_syntax_trees.specs.Tree.{size}
use Rattle.cv_syntax.specs.PoolTrees.{tree_at}
use Rattle.cv_steps.specs.Elementary.{let_step, new_step, prune_step, rename_step, rewrite_step, split_step, unlet_step, unnew_step}
use Rattle.cv_steps.specs.Steps.{Step}
use Rattle.cv_rule.specs.declared.rules.Rule.{Rule}
use Rattle.cv_rule.specs.declared.rules.Rule.TheVariants as code

abbrev pub step_of : List KindTree → Rule → Step
step_of trees (code.Split p m) = split_step p (tree_at trees (Some m))
step_of trees (code.Let p x T m) = let_step p x T (tree_at trees (Some m))
step_of trees (code.New p x T) = new_step p x T
step_of trees (code.Unnew x) = unnew_step x
step_of trees (code.Rename x y) = rename_step x y
step_of trees (code.Unlet x) = unlet_step x
step_of trees (code.Rewrite p m by) = rewrite_step p (tree_at trees (Some m)) (tree_at trees by)
step_of trees (code.Prune p body by) = prune_step p (part_of body) (tree_at trees by)

-- the term of a step is live, and not too large
abbrev pub IsLiveTerm : List KindTree → NodeId → Type 0
IsLiveTerm trees m = (m.0 < length trees) × (size (tree_at trees (Some m)) < 2 ^ 32)

-- the lines of a derivation are live, and can be counted
abbrev pub IsLiveDerivation : List KindTree → Option NodeId → Type 0
IsLiveDerivation trees by = ChildBelow (length trees) by × (1 + count (lines_of (tree_at trees by)) < 2 ^ 32)

abbrev pub IsLiveRule : List KindTree → Rule → Type 0
IsLiveRule trees (code.Split p m) = IsLiveTerm trees m
IsLiveRule trees (code.Let p x T m) = IsLiveTerm trees m
IsLiveRule trees (code.Rewrite p m by) = IsLiveTerm trees m × IsLiveDerivation trees by
IsLiveRule trees (code.Prune p body by) = IsLiveDerivation trees by
IsLiveRule trees rule = Unit {0}
