use Rattle.cv_match.specs.instances.Matchings.{matching_by}
use Rattle.cv_match.proofs.Refusing.{keyless, unused, used, used_within}
use Rattle.cv_match.proofs.matching.check_key.Goals as goal

pub returns-then-not-has_key-clause-fault : goal.returns-then-not-has_key-clause-fault
returns-then-not-has_key-clause-fault c =
    keyless (matching_by c.args.work.now.pool c.args.work.now.decls c.args.search.now) c.has_key.result c.has_key.ensures c.if-not-has_key.true

pub returns-in-Err-clause-fault : goal.returns-in-Err-clause-fault
returns-in-Err-clause-fault c =
    used (matching_by c.args.work.now.pool c.args.work.now.decls c.args.search.now) c.has_key.result c.has_key.ensures c.if-not-has_key.false c.in-Err.place c.in-Err.ensures.found

pub returns-in-Err-condition_use-clause-fault : goal.returns-in-Err-condition_use-clause-fault
returns-in-Err-condition_use-clause-fault c =
    used_within (matching_by c.args.work.now.pool c.args.work.now.decls c.args.search.now) c.has_key.result c.has_key.ensures c.if-not-has_key.false c.in-Err-condition_use.place c.in_default.ensures.none c.in-Err-condition_use.ensures.found

pub returns-clause-none : goal.returns-clause-none
returns-clause-none c =
    unused (matching_by c.args.work.now.pool c.args.work.now.decls c.args.search.now) c.has_key.result c.has_key.ensures c.if-not-has_key.false c.in_default.ensures.none c.in_default-condition_use.ensures.none
