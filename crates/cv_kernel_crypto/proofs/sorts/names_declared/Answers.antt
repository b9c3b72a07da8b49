use Rattle.std.proofs.Common.{ap, sym, ◌∙◌}
use Rattle.cv_syntax.specs.Declarations.{declarations}
use Rattle.cv_syntax.specs.PoolTrees.{tree_at}
use Rattle.cv_steps_laws.specs.crypto.Sorts.{names_declared}
use Rattle.cv_kernel_crypto.proofs.sorts.names_declared.Goals as goal

pub returns-in-Repl : goal.returns-in-Repl
returns-in-Repl c = let trees = c.args.pool.now.trees in c.is_declared.ensures trees ∙ ap (λ h. names_declared (declarations trees c.args.decls.now.list) h (tree_at trees c.args.node.first)) (sym c.in-Repl.is)

pub returns-in-New : goal.returns-in-New
returns-in-New c = let trees = c.args.pool.now.trees in c.is_declared-in-New.ensures trees ∙ ap (λ h. names_declared (declarations trees c.args.decls.now.list) h (tree_at trees c.args.node.first)) (sym c.in-New.is)

pub returns-in-Let : goal.returns-in-Let
returns-in-Let c = let trees = c.args.pool.now.trees in c.is_declared-in-Let.ensures trees ∙ ap (λ h. names_declared (declarations trees c.args.decls.now.list) h (tree_at trees c.args.node.first)) (sym c.in-Let.is)
