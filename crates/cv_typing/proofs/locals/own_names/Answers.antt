use Rattle.cv_syntax.specs.PoolTrees.{tree_at}
use Rattle.cv_typing.specs.Tables.{above_of}
use Rattle.cv_typing.proofs.Binding.{own_all}
use Rattle.cv_typing.proofs.Files.{nothing_bound}
use Rattle.cv_typing.proofs.locals.own_names.Goals as goal

pub returns : goal.returns
returns c =
    own_all (above_of c.bind_taken.new.above) (above_of c.note_body.new.sorts) (above_of c.new-sorts.result) (tree_at c.args.pool.now.trees c.args.function) _ _ c.in_ok-note_body.ensures c.in_ok-bind_taken.ensures (nothing_bound c.new-sorts.result c.new-sorts.ensures.empty) c.first_of.ensures.tree c.second_of.ensures.tree
