use Rattle.std.proofs.Common.{refl}
use Rattle.cv_syntax.specs.PoolTrees.{tree_at}
use Rattle.cv_typing.specs.Tables.{above_of}
use Rattle.cv_typing.proofs.Removals.{names_other}
use Rattle.cv_typing.proofs.above.bind_node.Goals as goal

pub returns-in_default : goal.returns-in_default
returns-in_default c = record {
  names = names_other (above_of c.args.above.now) c.args.head (tree_at c.args.pool.now.trees c.args.first) c.in_default.not-Repl c.in_default.not-New c.in_default.not-Let c.in_default.not-Branch;
  back = refl;
}
