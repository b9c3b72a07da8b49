use Rattle.std.proofs.Common.{Some}
use Rattle.cv_syntax.specs.PoolTrees.{tree_at}
use Rattle.cv_settling.proofs.Compared.{not_typed, typed_there}
use Rattle.cv_settling.proofs.matching.typed_term.Goals as goal

pub returns-then-is_of_type : goal.returns-then-is_of_type
returns-then-is_of_type c =
    let trees = c.args.table.now.pool.now.trees in
    λ s i. typed_there s trees c.args.t c.args.x (tree_at trees c.args.left) (tree_at trees (Some c.args.term)) c.is_of_type.result c.in_ok-there.there.tree c.in_ok-there.ensures (c.is_of_type.ensures s i) c.if-is_of_type.true

pub returns-else-is_of_type : goal.returns-else-is_of_type
returns-else-is_of_type c =
    let trees = c.args.table.now.pool.now.trees in
    λ s i. not_typed s trees c.args.t c.args.x (tree_at trees c.args.left) (tree_at trees (Some c.args.term)) c.is_of_type.result c.in_ok-there.there.tree c.in_ok-there.ensures (c.is_of_type.ensures s i) c.if-is_of_type.false
