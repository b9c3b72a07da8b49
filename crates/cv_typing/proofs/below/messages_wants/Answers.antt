use Rattle.std.proofs.Common.{ap, sym}
use Rattle.cv_syntax.specs.PoolTrees.{tree_at}
use Rattle.cv_scope_rules.specs.typing.Wants as wants
use Rattle.cv_scope_rules.proofs.typing.Counts.{names_end, names_other, names_step}
use Rattle.cv_syntax.proofs.Trees.{empty_at, node_at}
use Rattle.cv_typing.proofs.below.messages_wants.Goals as goal

pub returns-in_default-clause-wants : goal.returns-in_default-clause-wants
returns-in_default-clause-wants c = λ arrays. sym (ap (λ l. wants.list_wants (wants.Messages l)) (names_end (tree_at c.args.pool.now.trees c.args.types) (empty_at c.args.pool.now.trees c.args.types c.in_default.is)))

pub returns-in-Name-clause-wants : goal.returns-in-Name-clause-wants
returns-in-Name-clause-wants c = λ arrays. let trees = c.args.pool.now.trees in let node = c.read_node-cell.result in sym (ap (λ l. wants.list_wants (wants.Messages l)) (names_step (tree_at trees c.args.types) node.head (tree_at trees node.first) (tree_at trees node.second) c.in-Name.t (node_at trees c.args.types c.in-Some.k node c.in-Some.is c.read_node-cell.ensures.tree) c.in-Name.is))

pub returns-in_default-head : goal.returns-in_default-head
returns-in_default-head c = record {
  wants = λ arrays. let trees = c.args.pool.now.trees in let node = c.read_node-cell.result in sym (ap (λ l. wants.list_wants (wants.Messages l)) (names_other (tree_at trees c.args.types) node.head (tree_at trees node.first) (tree_at trees node.second) (node_at trees c.args.types c.in-Some.k node c.in-Some.is c.read_node-cell.ensures.tree) c.in_default-head.not-Name));
  live = (tt, tt);
}
