use Rattle.std.proofs.Common.{map, ap, ◌∙◌}
use Rattle.cv_syntax_trees.specs.Tree.{second}
use Rattle.cv_syntax.specs.PoolTrees.{tree_at}
use Rattle.cv_directory.specs.Tables.{seen}
use Rattle.cv_scene.specs.Contexts.{matching_of}
use Rattle.cv_context.specs.products.ShapesInCode.{calls_in}
use Rattle.cv_context.proofs.products.Shapes.{keys_of, same_shape, same_sites}
use Rattle.cv_context.proofs.products.shape.shape_of.Goals as goal

pub returns : goal.returns
returns c = λ s m.
    let trees = c.args.pool.now.trees in
    let e = tree_at trees c.args.equivalence in
    same_shape s e c.args.key c.in_ok-keys_of.field-0.items (map calls_in c.in_ok-calls.calls.items)
    (keys_of trees (seen c.args.directory.now) s e c.args.key c.args.sites.now m c.in_ok-keys_of.field-0.items c.in_ok-keys_of.ensures.only)
    (c.in_ok-calls.ensures (matching_of s e c.args.key) ∙ same_sites trees (seen c.args.directory.now) s e c.args.key c.args.sites.now m (second (tree_at trees c.first_of.result)) (ap second c.first_of.ensures.tree))
