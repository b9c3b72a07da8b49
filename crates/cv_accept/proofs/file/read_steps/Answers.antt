use Rattle.std.proofs.Common.{◌≡◌, length, subst, Some, Ok}
use Rattle.cv_script.specs.reader.Scripts as scripts
use Rattle.cv_script.specs.reader.Scripts.{script_read, trees_of}
use Rattle.cv_accept.proofs.Blocks.{block_on, block_refused, block_taken}
use Rattle.cv_accept.proofs.file.read_steps.Goals as goal

pub returns-in_err-steps-clause-reads : goal.returns-in_err-steps-clause-reads
returns-in_err-steps-clause-reads c =
    let pool = c.args.work.now.pool in
    let names = c.args.work.now.names in
    let ts = c.args.tokens.now in
    let trees = c.script.new.work.pool.trees in
    let e = c.in_err-steps.field-0.0 in
    block_on pool.limit (length pool.trees) ts names (Some c.args.range) trees _ _ c.from_residual.ensures.1
    (block_refused pool.limit (length pool.trees) trees names ts c.args.range.0 c.args.range.1 e
    (subst (λ k. scripts.Refuses e (script_read pool.limit (length pool.trees) names ts k c.args.range.1)) c.min-from.ensures c.in_err-steps.ensures.reads))

pub returns-clause-reads : goal.returns-clause-reads
returns-clause-reads c =
    let pool = c.args.work.now.pool in
    let names = c.args.work.now.names in
    let ts = c.args.tokens.now in
    let trees = c.script.new.work.pool.trees in
    block_taken pool.limit (length pool.trees) trees names ts c.args.range.0 c.args.range.1 c.in_ok-steps.steps
    (subst (λ k. script_read pool.limit (length pool.trees) names ts k c.args.range.1 ≡ Ok (trees_of trees c.in_ok-steps.steps.items)) c.min-from.ensures c.in_ok-steps.ensures.reads)
