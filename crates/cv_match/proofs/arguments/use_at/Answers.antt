use Rattle.std.proofs.Common.{Some, ap, ◌∙◌}
use Rattle.cv_syntax.specs.PoolTrees.{tree_at}
use Rattle.cv_meaning.specs.contexts.Groups.{function_of}
use Rattle.cv_scene.specs.Refusals.{first_in_arguments}
use Rattle.cv_match.proofs.arguments.use_at.Goals as goal

pub returns : goal.returns
returns c =
    let trees = c.args.pool.now.trees in
    let s = c.args.site.now in
    c.argument_use.ensures ∙ ap (λ b. first_in_arguments c.args.x (function_of (tree_at trees s.pattern)).arguments b s.place (tree_at trees (Some s.term))) c.body_of-body.ensures.tree
