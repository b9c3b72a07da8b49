use Rattle.std.proofs.Common.{Some, sym, ◌∙◌}
use Rattle.cv_syntax.specs.Declarations.{declarations}
use Rattle.cv_syntax.specs.PoolTrees.{tree_at}
use Rattle.cv_meaning.specs.Queries.{queries_in}
use Rattle.cv_query_form.proofs.First.{asked_where_none, finds_first_law}
use Rattle.cv_query_form.proofs.checking.check.Goals as goal

pub returns-in-Some-clause-fault : goal.returns-in-Some-clause-fault
returns-in-Some-clause-fault c =
    let trees = c.args.work.now.pool.trees in
    finds_first_law (tree_at trees (Some c.args.game.root)) (queries_in (declarations trees c.args.work.now.decls.list)) c.in-Some.number (sym c.in_ok-number.ensures ∙ c.in-Some.is)

pub returns-in-None-clause-asked : goal.returns-in-None-clause-asked
returns-in-None-clause-asked c =
    let trees = c.args.work.now.pool.trees in
    asked_where_none (tree_at trees (Some c.args.game.root)) (queries_in (declarations trees c.args.work.now.decls.list)) (sym c.in_ok-number.ensures ∙ c.in-None.is)
