use Rattle.std.proofs.Common.{Some}
use Rattle.cv_syntax.specs.Declarations.{declarations}
use Rattle.cv_syntax.specs.PoolTrees.{tree_at}
use Rattle.cv_meaning.specs.Queries.{queries_in}
use Rattle.cv_steps_laws.specs.crypto.Sorts.{has_declared_sorts}
use Rattle.cv_scene.specs.Terms.{is_game}
use Rattle.cv_steps_laws.specs.crypto.Secrets.{some_asks_without_values}
use Rattle.cv_kernel_crypto.proofs.Kept.{kept_fault}
use Rattle.cv_kernel_crypto.proofs.testing.tested.Goals as goal

pub returns-in-Err-clause-fault : goal.returns-in-Err-clause-fault
returns-in-Err-clause-fault c =
    let trees = c.args.work.now.pool.trees in
    let ds = declarations trees c.args.work.now.decls.list in
    let game = tree_at trees (Some c.args.root) in
    kept_fault (is_game ds game) (has_declared_sorts ds game) (some_asks_without_values game (queries_in ds)) c.in-Err.fault c.in-Err.ensures.fault
