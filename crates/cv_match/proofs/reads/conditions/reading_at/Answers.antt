use Rattle.std.proofs.Common.{sym, ◌∙◌}
use Rattle.cv_syntax.specs.PoolTrees.{tree_at}
use Rattle.cv_scope_rules.specs.declared.position.Position.TheVariants.{Anywhere}
use Rattle.cv_match.proofs.reads.Within.{within_true}
use Rattle.cv_match.proofs.reads.conditions.reading_at.Goals as goal

pub returns-in-Ok : goal.returns-in-Ok
returns-in-Ok c = sym (sym (within_true c.args.x Anywhere c.args.from (tree_at c.args.pool.now.trees c.args.term)) ∙ c.in-Ok.ensures.none)

pub returns-in-Err : goal.returns-in-Err
returns-in-Err c = sym (sym (within_true c.args.x Anywhere c.args.from (tree_at c.args.pool.now.trees c.args.term)) ∙ c.in-Err.ensures.found)
