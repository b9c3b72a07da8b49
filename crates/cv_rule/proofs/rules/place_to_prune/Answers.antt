use Rattle.std.proofs.Common.{arith, ◌∙◌, ◌+◌, ◌<◌, ◌^◌, Some, sym, ap, subst}
use Rattle.std.specs.Prelude.{option_map}
use Rattle.cv_syntax_trees.specs.Tree.{size}
use Rattle.cv_syntax.specs.PoolTrees.{tree_at}
use Rattle.cv_syntax.proofs.Trees.{tree_at_None}
use Rattle.cv_edit_changes.specs.pruning.Bodies.{part_of}
use Rattle.cv_scene.specs.Pruning.{pruned}
use Rattle.cv_rule.proofs.Parts.{within_limit}
use Rattle.cv_rule.proofs.rules.place_to_prune.Goals as goal

pub returns-in-None : goal.returns-in-None
returns-in-None c =
    let trees = c.args.work.now.pool.trees in
    ap (λ t. option_map (λ b. b.body) (pruned c.args.place t (part_of c.args.body))) (sym (tree_at_None trees) ∙ c.in-None.ensures.part)

pub body_to_prune-requires-clause-fits : goal.body_to_prune-requires-clause-fits
body_to_prune-requires-clause-fits c =
    let trees = c.args.work.now.pool.trees in
    subst (λ t. c.args.place + size t < 2 ^ 32) (sym c.in-Some.ensures.part) (within_limit (tree_at trees (Some c.args.game)) c.args.place (2 ^ 32) c.requires.fits (omega (arith, c.ranges.place)))
