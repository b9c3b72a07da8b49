use Rattle.std.proofs.Common.{ap, ◌∙◌, sym}
use Rattle.cv_syntax_trees.specs.Tree.{Node}
use Rattle.cv_syntax.specs.PoolTrees.{tree_at}
use Rattle.cv_rule_move.specs.merge.Looks.{first_in}
use Rattle.cv_rule_move.specs.merge.Merging.{bodies}
use Rattle.cv_rule_move.proofs.merge.bodies.first_body.Goals as goal

pub returns-in-Find-clause-body : goal.returns-in-Find-clause-body
returns-in-Find-clause-body c =
    let trees = c.args.pool.now.trees in
    let construct = c.args.construct in
    c.first_of_find.ensures.body c.in-Find.field-0 ∙ sym (ap (λ h. first_in (bodies c.args.place (Node h (tree_at trees construct.first) (tree_at trees construct.second)))) c.in-Find.is)
