use Rattle.std.proofs.Common.{length}
use Rattle.cv_syntax.specs.PoolTrees.{tree_at}
use Rattle.cv_typing.proofs.Files.{arguments_live}
use Rattle.cv_derive_lines.proofs.terms.Sighted.{cell_at, no_cell, unknown_cell}
use Rattle.cv_derive_lines.proofs.terms.typing.is_cell.Goals as goal

pub returns-then-not-is_phrase : goal.returns-then-not-is_phrase
returns-then-not-is_phrase c = λ s e. no_cell c.args.work.now.pool.trees c.args.work.now.decls.list c.args.arrays.now c.args.above.now s e (tree_at c.args.work.now.pool.trees c.args.cell) c.is_phrase.result c.is_phrase.ensures c.if-not-is_phrase.true

pub returns-then-not-is_known_cell : goal.returns-then-not-is_known_cell
returns-then-not-is_known_cell c = λ s e. unknown_cell c.args.work.now.pool.trees c.args.work.now.decls.list c.args.arrays.now c.args.above.now s e (tree_at c.args.work.now.pool.trees c.args.cell) c.is_phrase.result c.is_known_cell.result c.is_phrase.ensures c.if-not-is_phrase.false c.is_known_cell.ensures c.if-not-is_known_cell.true

pub is_typed_tree-requires-clause-arguments : goal.is_typed_tree-requires-clause-arguments
is_typed_tree-requires-clause-arguments c = arguments_live (length c.args.work.now.pool.trees) c.args.work.now.decls.list c.requires.declared

pub returns : goal.returns
returns c = λ s e. cell_at c.args.work.now.pool.trees c.args.work.now.decls.list c.args.arrays.now c.args.above.now s e (tree_at c.args.work.now.pool.trees c.args.cell) c.is_phrase.result c.is_known_cell.result c.is_typed_tree.result c.is_phrase.ensures c.if-not-is_phrase.false c.is_known_cell.ensures c.if-not-is_known_cell.false c.is_typed_tree.ensures
