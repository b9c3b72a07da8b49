use Rattle.std.proofs.Common.{ap, ◌∙◌}
use Rattle.cv_syntax.specs.PoolTrees.{tree_at}
use Rattle.cv_scene.specs.Terms.{is_sort}
use Rattle.cv_derive_lines.proofs.terms.Sighted.{no_term_of, term_of}
use Rattle.cv_derive_lines.proofs.terms.typing.is_term_of.Goals as goal

pub returns-then-not-is_term : goal.returns-then-not-is_term
returns-then-not-is_term c = λ s e. no_term_of c.args.work.now.pool.trees c.args.work.now.decls.list c.args.arrays.now c.args.above.now s e (tree_at c.args.work.now.pool.trees c.args.term) c.args.sort c.is_term.result (c.is_term.ensures s e) c.if-not-is_term.true

pub returns : goal.returns
returns c = λ s e. term_of c.args.work.now.pool.trees c.args.work.now.decls.list c.args.arrays.now c.args.above.now s e (tree_at c.args.work.now.pool.trees c.args.term) c.args.sort c.is_term.result c.is_sort.result (c.is_term.ensures s e) c.if-not-is_term.false (c.is_sort.ensures ∙ ap (λ o. is_sort o c.args.sort) c.sort_of_term-found.ensures)
