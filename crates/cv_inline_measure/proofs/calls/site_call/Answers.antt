use Rattle.std.proofs.Common.{Some, ap, arith}
use Rattle.cv_syntax_trees.specs.Tree.{size}
use Rattle.cv_syntax.specs.PoolTrees.{tree_at}
use Rattle.cv_inline_measure.proofs.Arguments.{second_small}
use Rattle.cv_inline_measure.proofs.calls.site_call.Goals as goal

pub call-requires-clause-root : goal.call-requires-clause-root
call-requires-clause-root c =
    let e = ap size c.second_of.ensures.tree in
    record {
      live = c.second_of.ensures.live;
      fits = omega (arith, e, second_small (tree_at c.args.setting.now.pool.now.trees (Some c.args.calling.now.function)), c.requires.calling.nodes);
    }
