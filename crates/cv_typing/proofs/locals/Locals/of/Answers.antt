use Rattle.std.proofs.Common.{◌∙◌}
use Rattle.cv_syntax.specs.PoolTrees.{tree_at}
use Rattle.cv_typing.proofs.Binding.{from_no_locals}
use Rattle.cv_typing.proofs.locals.Locals.of.Goals as goal

pub returns : goal.returns
returns c = c.in_ok-note_functions.ensures ∙ from_no_locals c.new.result.items (tree_at c.args.pool.now.trees c.args.functions) c.new.ensures.items
