use Rattle.std.proofs.Common.{Some, arith}
use Rattle.cv_syntax.specs.PoolTrees.{tree_at}
use Rattle.cv_path.proofs.extents.Extents.{size_part, size_replaced}
use Rattle.cv_path.proofs.extents.measuring.extent_with.Goals as goal

pub overflow_sub-result : goal.overflow_sub-result
overflow_sub-result c =
    let t = tree_at c.args.pool.now.trees (Some c.args.root) in
    let part = tree_at c.args.pool.now.trees (Some c.args.part) in
    omega (arith, c.size.ensures, c.size-2.ensures, size_part t c.args.place part c.requires.part)

pub returns-clause-nodes : goal.returns-clause-nodes
returns-clause-nodes c =
    λ u e.
    let t = tree_at c.args.pool.now.trees (Some c.args.root) in
    let part = tree_at c.args.pool.now.trees (Some c.args.part) in
    omega (arith, e, c.size.ensures, c.size-2.ensures, size_part t c.args.place part c.requires.part, size_replaced t c.args.place u part c.requires.part)

pub size-requires-2-clause-fits : goal.size-requires-2-clause-fits
size-requires-2-clause-fits c =
    let t = tree_at c.args.pool.now.trees (Some c.args.root) in
    let part = tree_at c.args.pool.now.trees (Some c.args.part) in
    omega (arith, c.requires.fits, size_part t c.args.place part c.requires.part)
