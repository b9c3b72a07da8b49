use Rattle.std.proofs.Common.{◌≡◌, ap, arith, sym, ◌∙◌}
use Rattle.cv_syntax_trees.specs.Tree.{depth, size}
use Rattle.cv_syntax.specs.PoolTrees.{tree_at}
use Rattle.cv_syntax.proofs.Walking.{depth_le_size}
use Rattle.cv_inline_laws.specs.extents.Extents.{extent}
use Rattle.cv_inline_laws.proofs.extents.Measures.{nodes_are_size, path_is_depth}
use Rattle.cv_inline_measure.specs.declared.measuring.Measure.{Measure}
use Rattle.cv_inline_measure.specs.Counts.{measure_in}
use Rattle.cv_syntax.specs.limits.Limits.{told}
use Rattle.cv_inline_measure.proofs.trees.extent_below.Goals as goal

pub returns-in-Nodes : goal.returns-in-Nodes
returns-in-Nodes c =
    let t = tree_at c.args.pool.now.trees c.args.child in
    let e : size t ≡ told (size t) = omega (arith, c.requires.fits) in
    c.size_below.ensures ∙ (e ∙ (ap told (sym (nodes_are_size t)) ∙ ap (λ (m : Measure). told (extent (measure_in m) t)) (sym c.in-Nodes.is)))

pub returns-in-Path : goal.returns-in-Path
returns-in-Path c =
    let t = tree_at c.args.pool.now.trees c.args.child in
    let e : depth t ≡ told (depth t) = omega (arith, c.requires.fits, depth_le_size t) in
    c.depth_below.ensures ∙ (e ∙ (ap told (sym (path_is_depth t)) ∙ ap (λ (m : Measure). told (extent (measure_in m) t)) (sym c.in-Path.is)))
